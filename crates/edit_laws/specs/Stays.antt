-- What an edit within a function leaves as it was.
use Rattle.std.specs.Prelude.{◌≡◌, ◌≤◌, ⊤, ℕ, Bool, true, false, ◌||◌, Option, Some, None, find}
use Rattle.std.specs.List.{AllByRecursion}
use Rattle.insn_ir.specs.declared.entry.Entry.{Entry}
use Rattle.insn_ir.specs.Entries.{is_nop_entry}
use Rattle.asm_unit.specs.Functions.{is_align_kind}
use Rattle.asm_unit.specs.Held.{AreUnique, serial_is, entry_of}
use Rattle.asm_unit.specs.Unit.{Unit}
use Rattle.unit_edits.specs.declared.edit.Edit.{Edit}
use Rattle.unit_edits.specs.Bodies.{body_of}

-- no two entries have a serial in common, and each serial was given
pub record IsSound (u : Unit) : Type 0 where
  pub once : AreUnique u.held
  pub given : AllByRecursion (λ h. h.entry.serial ≤ u.last) u.held

-- the function at a place has the same entries, from its label to its `.size`, and each is held as before, with its span
pub record FunctionStays (u v : Unit) (k : ℕ) : Type 0 where
  pub body : (body_of v k).body ≡ (body_of u k).body
  pub held : AllByRecursion (λ p. find (serial_is p.entry.serial) v.held ≡ find (serial_is p.entry.serial) u.held) (body_of u k).body

-- a `nop` or an alignment
abbrev pub is_padding : Option Entry → Bool
is_padding None = false
is_padding (Some e) = is_nop_entry e.kind || is_align_kind e.kind

-- a `nop` or an alignment goes or comes
abbrev pub IsOfPadding : Unit → Edit → Type 0
IsOfPadding u (Edit.Remove serial) = is_padding (entry_of u.held serial) ≡ true
IsOfPadding u (Edit.Put serial i) = ⊥
IsOfPadding u (Edit.Merge first second i) = ⊥
IsOfPadding u (Edit.InsertNop before serial) = ⊤
IsOfPadding u (Edit.InsertAlign before serial power) = ⊤
