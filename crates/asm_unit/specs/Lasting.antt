-- The entries that no edit takes out, changes or adds: all but instructions and alignments.
use Rattle.std.specs.Prelude.{◌≡◌, ℕ, true, List, find}
use Rattle.insn_ir.specs.declared.entry.Entry.{Entry}
use Rattle.jump_tables.specs.Sections.{placed}
use Rattle.asm_unit.specs.Edits.{without, has_serial}
use Rattle.asm_unit.specs.Grown.{IsOnce}
use Rattle.asm_unit.specs.Unit.{is_removable, is_removable_entry}

abbrev pub lasting : List Entry → List Entry
lasting es = without (λ e. is_removable e.kind) es

-- the entry of a serial, which no other has, is an instruction or an alignment
pub record IsRemovableOnce (es : List Entry) (serial : ℕ) : Type 0 where
  pub once : IsOnce serial (placed es)
  pub removable : is_removable_entry (find (has_serial serial) es) ≡ true
