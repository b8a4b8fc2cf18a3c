-- Equal behaviour of the functions of two texts.
use Rattle.std.specs.Prelude.{ℕ, ◌≡◌, List}
use Rattle.jump_tables.specs.Sections.{placed}
use Rattle.asm_unit.specs.Decisions.{codes}
use Rattle.asm_unit.specs.Edits.{SameEach}
use Rattle.asm_unit.specs.Freeze.{function_names}
use Rattle.mao_core.specs.Entries.{entries_of}
use Rattle.mao_core.specs.Decided.{decided}

-- the names of the functions of a text, in order
abbrev pub names_in : List ℕ → List (List ℕ)
names_in text = function_names (placed (entries_of text))

-- the other text has the same functions, and each of them, with what was decided of the first text, behaves as there
pub record BehavesAs (text other : List ℕ) : Type 0 where
  pub names : names_in other ≡ names_in text
  pub same : SameEach (codes (decided text) (entries_of text)) (codes (decided text) (entries_of other))
