-- A function of a unit, and where its entries stand in its code.
use Rattle.std.specs.Prelude.{ℕ}
use Rattle.insn_ir.specs.declared.insn.Insn.{Insn}
use Rattle.insn_ir.specs.Code.{Code}
use Rattle.blocks_cfg.specs.Stretch.{stretch_of}
use Rattle.asm_unit.specs.CodeLines.{lines_before, IsInsnOf}
use Rattle.asm_unit.specs.Functions.{code_part}
use Rattle.asm_unit.specs.Held.{entries_of}
use Rattle.asm_unit.specs.Unit.{Unit}
use Rattle.unit_edits.specs.Bodies.{body_of, code_of}
use Rattle.pass_rules.specs.Stretches.{items_of}

-- the line of its code that the entry of a serial makes
abbrev pub line_of : Unit → ℕ → ℕ → ℕ
line_of u f serial = lines_before serial (code_part (body_of u f))

-- the numbers of the stretches of its places
abbrev pub stretch_in : Unit → ℕ → ℕ → ℕ
stretch_in u f p = stretch_of (code_of u f).tables (items_of (body_of u f)) p

-- the entry of a serial is this instruction, and stands in its code
abbrev pub IsInsnAt : Unit → ℕ → ℕ → Insn → Type 0
IsInsnAt u f serial i = IsInsnOf (entries_of u.held) serial i (body_of u f)

-- the entry of a serial is an instruction in its code, and P says of the code, of its line and of the instruction what is asked
pub record OfLine (u : Unit) (f serial : ℕ) (P : Code → ℕ → Insn → Type 0) : Type 0 where
  pub insn : Insn
  pub there : IsInsnAt u f serial insn
  pub holds : P (code_of u f) (line_of u f serial) insn
