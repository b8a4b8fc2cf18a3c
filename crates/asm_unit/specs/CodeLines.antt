-- The lines that entries make in codes, and other kinds of entries in the place of theirs.
use Rattle.std.specs.Prelude.{◌≡◌, ℕ, true, not, List, map, find, length, Some, option_map, if◌then◌else◌}
use Rattle.std.specs.List.{take_while}
use Rattle.insn_ir.specs.declared.insn.Insn.{Insn}
use Rattle.insn_ir.specs.declared.entry.EntryKind.{EntryKind}
use Rattle.insn_ir.specs.declared.entry.Entry.{Entry}
use Rattle.insn_ir.specs.Entries.{lines_of}
use Rattle.jump_tables.specs.Sections.{Placed, placed}
use Rattle.asm_unit.specs.Functions.{Part, code_part}
use Rattle.asm_unit.specs.Tables.{is_among}
use Rattle.asm_unit.specs.Edits.{has_serial}
use Rattle.asm_unit.specs.Grown.{IsOnce}

-- how many lines stand before the entry of a serial: the index of its line, where it makes one
abbrev pub lines_before : ℕ → List Placed → ℕ
lines_before serial ps = length (lines_of (map (λ p. p.entry.kind) (take_while (λ p. not (has_serial serial p.entry)) ps)))

-- an entry, of another kind where it has this serial
abbrev pub put_entry : ℕ → EntryKind → Entry → Entry
put_entry serial k e = if has_serial serial e then record { serial = e.serial; kind = k } else e

-- the entry of a serial, which no other has, is this instruction and stands in the code of this function
pub record IsInsnOf (es : List Entry) (serial : ℕ) (i : Insn) (f : Part) : Type 0 where
  pub once : IsOnce serial (placed es)
  pub insn : option_map (λ e. e.kind) (find (has_serial serial) es) ≡ Some (EntryKind.Insn i)
  pub among : is_among serial (code_part f) ≡ true
