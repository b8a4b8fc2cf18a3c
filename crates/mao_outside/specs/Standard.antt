-- What contracts see of the source and the sink over a stream of std.
use Rattle.std.specs.Prelude.{ℕ, ◌≤◌, List, Result, MatchResult, length, take}
use Rattle.std.specs.declared.option.Option.{Option}
use Rattle.std.specs.Io.KnownBytes.{Appends}

-- the stream, and the count of faults
pub record Counted (S : Type 0) : Type 0 where
  pub stream : S
  pub faults : ℕ

-- What a writer holds after a write: the bytes that were taken are appended, or, where the write failed, a front of the
-- piece, since the writer may have taken it before its flush failed.
abbrev pub AppendsTaken : {E : Type 0} → Option (List ℕ) → Option (List ℕ) → Result ℕ E → List ℕ → Type 0
AppendsTaken old new result piece =
    MatchResult result
    (λ n. Appends old new (take n piece))
    (λ _. (n : ℕ) × (n ≤ length piece) × Appends old new (take n piece))
