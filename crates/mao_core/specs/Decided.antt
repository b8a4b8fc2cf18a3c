-- What is decided of a text when it is read, and the unit that it makes.
use Rattle.std.specs.Prelude.{◌≡◌, ℕ, List, map, length, Option, Some}
use Rattle.att_lexer.specs.Pieces.{pieces, spans_of, first_freeze}
use Rattle.jump_tables.specs.Sections.{placed}
use Rattle.asm_unit.specs.declared.cause.FreezeCause.{FreezeCause}
use Rattle.asm_unit.specs.Held as Held
use Rattle.asm_unit.specs.Freeze.{file_cause}
use Rattle.asm_unit.specs.Decisions.{Decision, decisions}
use Rattle.asm_unit.specs.Unit.{Unit, freeze_serial}
use Rattle.mao_core.specs.Entries.{entries_of}

-- what is decided of the functions of a text
abbrev pub decided : List ℕ → List Decision
decided text = decisions (freeze_serial (first_freeze 1 (pieces text))) (entries_of text)

-- why a text as a whole is kept as it is
abbrev pub file_frozen : List ℕ → Option FreezeCause
file_frozen text = file_cause (freeze_serial (first_freeze 1 (pieces text))) (placed (entries_of text))

-- the unit of a text: its entries, each with the span of its piece, and what is decided of them
pub record IsUnitOf (text : List ℕ) (u : Unit) : Type 0 where
  pub entries : Held.entries_of u.held ≡ entries_of text
  pub spans : map (λ h. h.span) u.held ≡ map Some (spans_of 0 (pieces text))
  pub decided : u.decided ≡ decided text
  pub file : u.file ≡ file_frozen text
  pub last : u.last ≡ length u.held
