-- The codes of a unit, and where an entry stands in them.
use Rattle.std.specs.Prelude.{◌≡◌, ℕ, true, List, Some, slice_get}
use Rattle.insn_ir.specs.Code.{Code}
use Rattle.asm_unit.specs.Decisions.{codes}
use Rattle.asm_unit.specs.Functions.{Part, code_part}
use Rattle.asm_unit.specs.Held.{entries_of}
use Rattle.asm_unit.specs.Tables.{is_among}
use Rattle.asm_unit.specs.Unit.{Unit, functions_of}

-- the codes that the entries make, function by function
abbrev pub codes_of : Unit → List Code
codes_of u = codes u.decided (entries_of u.held)

-- the entry of a serial stands in the code of the function at a place
pub record StandsIn (u : Unit) (serial place : ℕ) (f : Part) (c : Code) : Type 0 where
  pub function : slice_get (functions_of u) place ≡ Some f
  pub code : slice_get (codes_of u) place ≡ Some c
  pub among : is_among serial (code_part f) ≡ true
