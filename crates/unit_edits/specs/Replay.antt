-- Edits of a unit, and their replay.
use Rattle.std.specs.Prelude.{ℕ, suc, Bool, ◌&&◌, List, [], ◌∷◌, Option, Some, None, is_some, nat_eq, if◌then◌else◌}
use Rattle.std.specs.Option.{option_and_then}
use Rattle.insn_ir.specs.declared.entry.EntryKind.{EntryKind}
use Rattle.asm_unit.specs.Held.{entry_of, new_held, held_without, held_put, held_inserted}
use Rattle.asm_unit.specs.Unit.{Unit, nop_kind, align_kind}
use Rattle.unit_edits.specs.declared.edit.Edit.{Edit}
use Rattle.unit_edits.specs.declared.journal.Part.{Part}

abbrev pub is_there : ℕ → Unit → Bool
is_there serial u = is_some (entry_of u.held serial)

-- the entry of a serial goes
abbrev pub removed : ℕ → Unit → Option Unit
removed serial u = if is_there serial u then Some (record u { held = held_without serial u.held }) else None

-- it becomes one of another kind, which is printed anew
abbrev pub put : ℕ → EntryKind → Unit → Option Unit
put serial k u = if is_there serial u then Some (record u { held = held_put serial k u.held }) else None

-- a new entry comes directly before that of a serial; its own serial is the next one
abbrev pub inserted : (before serial : ℕ) → EntryKind → Unit → Option Unit
inserted before serial k u =
    if is_there before u && nat_eq serial (suc u.last) then Some (record u { held = held_inserted before (new_held serial k) u.held; last = serial }) else None

-- a unit after an edit: each entry that it names has to be there, and a new serial has to be the next one
abbrev pub edited : Edit → Unit → Option Unit
edited (Edit.Remove serial) u = removed serial u
edited (Edit.Put serial i) u = put serial (EntryKind.Insn i.value) u
edited (Edit.Merge first second i) u = option_and_then (put second (EntryKind.Insn i.value)) (removed first u)
edited (Edit.InsertNop before serial) u = inserted before serial nop_kind u
edited (Edit.InsertAlign before serial power) u = inserted before serial (align_kind power) u

-- after edits in order
abbrev pub replay : List Edit → Unit → Option Unit
replay [] u = Some u
replay (e ∷ es) u = option_and_then (replay es) (edited e u)

-- after the parts of a journal in order
abbrev pub replay_parts : List Part → Unit → Option Unit
replay_parts [] u = Some u
replay_parts (p ∷ ps) u = option_and_then (replay_parts ps) (replay p.edits u)
