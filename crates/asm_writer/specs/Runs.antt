-- Kept pieces that wait to be put together.
use Rattle.std.specs.Prelude.{ℕ, ◌-◌, ◌≤◌, ◌≡◌, List, ◌++◌, take, drop, length, Option}
use Rattle.std.specs.Io.KnownBytes.{Appends}
use Rattle.asm_writer.specs.declared.unit.Run.{Run}

-- a part of the text
abbrev pub IsRun : List ℕ → Run → Type 0
IsRun text run = (run.from ≤ run.to) × (run.to ≤ length text)

abbrev pub run_text : List ℕ → Run → List ℕ
run_text text run = take (run.to - run.from) (drop run.from text)

-- all is put but what waits
abbrev pub Passes : Option (List ℕ) → Option (List ℕ) → List ℕ → List ℕ → Type 0
Passes old new all waits = (put : List ℕ) × Appends old new put × (put ++ waits ≡ all)

-- what is gathered, and the run behind it
abbrev pub waits : List ℕ → List ℕ → Run → List ℕ
waits gathered text run = gathered ++ run_text text run
