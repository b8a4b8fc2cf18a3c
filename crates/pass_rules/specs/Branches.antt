-- The heads and the back branches of the loops of a function.
use Rattle.std.specs.Prelude.{ℕ, Bool, ◌||◌, List, [], ◌∷◌, map, filter, is_some}
use Rattle.blocks_cfg.specs.Loops.{IsLoop}
use Rattle.jump_tables.specs.Sections.{Placed}
use Rattle.jump_tables.specs.Tables.{label_name}
use Rattle.asm_unit.specs.Functions.{code_part}
use Rattle.asm_unit.specs.Unit.{Unit, is_insn}
use Rattle.unit_edits.specs.Bodies.{body_of, code_of}
use Rattle.pass_rules.specs.Sites.{line_of}

-- the members of a list of which P holds, in order
pub data ArePicked (P : ℕ → Type 0) : List ℕ → List ℕ → Type 0 where
  none : ArePicked P [] []
  picked : (x : ℕ) (xs ys : List ℕ) → P x → ArePicked P xs ys → ArePicked P (x ∷ xs) (x ∷ ys)
  left : (x : ℕ) (xs ys : List ℕ) → (P x → ⊥) → ArePicked P xs ys → ArePicked P (x ∷ xs) ys

-- a label or an instruction
abbrev pub makes_line : Placed → Bool
makes_line p = is_some (label_name p.entry.kind) || is_insn p.entry.kind

-- the serials of the entries that make the lines of the code, in order
abbrev pub line_serials : Unit → ℕ → List ℕ
line_serials u f = map (λ p. p.entry.serial) (filter makes_line (code_part (body_of u f)))

-- the label with which a loop begins
abbrev pub IsHead : Unit → ℕ → ℕ → Type 0
IsHead u f serial = (b : ℕ) × IsLoop (code_of u f) (line_of u f serial) b

-- the jump with which one ends
abbrev pub IsBackBranch : Unit → ℕ → ℕ → Type 0
IsBackBranch u f serial = (a : ℕ) × IsLoop (code_of u f) a (line_of u f serial)

-- all heads, or all back branches, each once and in the order of the code
abbrev pub AreHeads : Unit → ℕ → List ℕ → Type 0
AreHeads u f heads = ArePicked (IsHead u f) (line_serials u f) heads

abbrev pub AreBackBranches : Unit → ℕ → List ℕ → Type 0
AreBackBranches u f branches = ArePicked (IsBackBranch u f) (line_serials u f) branches
