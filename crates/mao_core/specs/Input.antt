-- What is read of a source.
use Rattle.std.specs.Prelude.{ℕ, ◌≤◌, ◌≡◌, ⊤, List, ◌++◌, length}
use Rattle.std.specs.declared.option.Option.{Option}
use Rattle.std.specs.Io.KnownBytes.{Consumes, IsAtEnd}
use Rattle.mao_outside.specs.Causes.{Rose}
use Rattle.mao_core.specs.declared.reading.InputFault.{InputFault}
use Rattle.mao_core.specs.declared.reading.InputFault.TheVariants.{Fault, TooBig, NoMemory}

-- why a source was not read to its end: a fault of its own, more than 33,554,432 bytes (reading stops at the next
-- one), or want of memory
abbrev pub StopsReading : InputFault → Option (List ℕ) → Option (List ℕ) → ℕ → ℕ → Type 0
StopsReading Fault old new before now = Rose before now
StopsReading TooBig old new before now = (bytes : List ℕ) × Consumes old new bytes × (length bytes ≡ 33554433)
StopsReading NoMemory old new before now = ⊤

-- these are all the bytes that a source had left
pub record IsWhole (old new : Option (List ℕ)) (bytes : List ℕ) : Type 0 where
  pub whole : Consumes old new bytes
  pub to_the_end : IsAtEnd new
  pub within : length bytes ≤ 33554432

-- one read: n bytes more, and none only at the end
pub record ReadsOn (left_old left_new : Option (List ℕ)) (old new : List ℕ) (n : ℕ) : Type 0 where
  pub bytes : List ℕ
  pub count : length bytes ≡ n
  pub read : Consumes left_old left_new bytes
  pub appended : new ≡ old ++ bytes
  pub none : n ≡ 0 → IsAtEnd left_new

-- what was read of a source, and it is no more than 33,554,433 bytes
abbrev pub IsReadInPart : Option (List ℕ) → Option (List ℕ) → Type 0
IsReadInPart left_old left_new = (bytes : List ℕ) × Consumes left_old left_new bytes × (length bytes ≤ 33554433)
