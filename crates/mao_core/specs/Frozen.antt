-- What is frozen stays as it is.
use Rattle.std.specs.Prelude.{ℕ, ◌≡◌, false, slice_get, Some, Option}
use Rattle.asm_unit.specs.Decisions.{Decision, is_clear}
use Rattle.asm_unit.specs.Unit.{Unit}
use Rattle.edit_laws.specs.Stays.{FunctionStays}

-- a function that isn't clear keeps each entry from its label to its `.size`, and none comes between them
abbrev pub FrozenStay : Unit → Unit → Type 0
FrozenStay u v = (k : ℕ) (d : Decision) → slice_get u.decided k ≡ Some d → is_clear d ≡ false → FunctionStays u v k
