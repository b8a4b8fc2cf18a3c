-- What LOOP16 and BRALIGN set out to reach, and whether a unit, as it stands at the end, reaches it.
use Rattle.std.specs.Prelude.{◌≡◌, ◌≤◌, ◌%◌, ⊤, ℕ, suc, Bool, true, false, List, [], ◌∷◌, ◌++◌, if◌then◌else◌}
use Rattle.std.specs.Bool.{Decides}
use Rattle.std.specs.List.{list_any}
use Rattle.asm_unit.specs.Decisions.{Decision, is_clear}
use Rattle.asm_unit.specs.Functions.{base_power}
use Rattle.asm_unit.specs.Unit.{Unit}
use Rattle.pass_script.specs.declared.kinds.PassKind.{PassKind}
use Rattle.pass_script.specs.declared.script.Step.{Step}
use Rattle.pass_script.specs.Catalogue.{same_kind}
use Rattle.unit_edits.specs.Bodies.{body_of}
use Rattle.pass_rules.specs.Aligning.{AreApart}
use Rattle.pass_rules.specs.Branches.{AreHeads, AreBackBranches}
use Rattle.pass_rules.specs.Layouts.{HasOffset, has_layout}

-- of the pass of this kind, in the function at f: a head, which is both its serials, or two successive back branches
pub record Goal : Type 0 where
  pub f : ℕ
  pub kind : PassKind
  pub first : ℕ
  pub second : ℕ
  pub met : Bool

-- ---- when one is met

-- a head is sure to stand at a multiple of 16
pub record StandsAligned (u : Unit) (f head : ℕ) : Type 0 where
  pub laid_out : has_layout u f ≡ true
  pub base : 4 ≤ base_power (body_of u f)
  pub offset : ℕ
  pub there : HasOffset (body_of u f) head offset
  pub aligned : offset % 16 ≡ 0

-- two back branches are sure not to share 32 bytes
pub record StandApart (u : Unit) (f one two : ℕ) : Type 0 where
  pub laid_out : has_layout u f ≡ true
  pub base : 5 ≤ base_power (body_of u f)
  pub apart : AreApart f one two u

abbrev pub IsMet : Unit → (f : ℕ) → PassKind → (first second : ℕ) → Type 0
IsMet u f PassKind.Loop16 first second = StandsAligned u f first
IsMet u f PassKind.BrAlign first second = StandApart u f first second
IsMet u f _ first second = ⊥

-- ---- which there are

-- a goal that isn't judged yet
pub record Aim : Type 0 where
  pub kind : PassKind
  pub first : ℕ
  pub second : ℕ

abbrev pub head_aims : List ℕ → List Aim
head_aims [] = []
head_aims (head ∷ heads) = record { kind = PassKind.Loop16; first = head; second = head } ∷ head_aims heads

abbrev pub branch_aims : List ℕ → List Aim
branch_aims [] = []
branch_aims (branch ∷ []) = []
branch_aims (one ∷ two ∷ branches) = record { kind = PassKind.BrAlign; first = one; second = two } ∷ branch_aims (two ∷ branches)

abbrev pub has_step : PassKind → List Step → Bool
has_step k steps = list_any (λ s. same_kind s.kind k) steps

-- those of a function with these heads and back branches, by the passes of the script
abbrev pub aims_of : List Step → (heads branches : List ℕ) → List Aim
aims_of steps heads branches =
    (if has_step PassKind.Loop16 steps then head_aims heads else []) ++ (if has_step PassKind.BrAlign steps then branch_aims branches else [])

abbrev pub goal_of : (f : ℕ) → Aim → (met : Bool) → Goal
goal_of f a met = record { f = f; kind = a.kind; first = a.first; second = a.second; met = met }

-- each aim with whether it is met, in order
abbrev pub AreJudged : Unit → ℕ → List Aim → List Goal → Type 0
AreJudged u f [] [] = ⊤
AreJudged u f (a ∷ aims) (g ∷ gs) = (g ≡ goal_of f a g.met) × Decides g.met (IsMet u f a.kind a.first a.second) × AreJudged u f aims gs
AreJudged u f _ _ = ⊥

-- the goals of a clear function
pub record AreGoalsOf (steps : List Step) (u : Unit) (f : ℕ) (gs : List Goal) : Type 0 where
  pub heads : List ℕ
  pub branches : List ℕ
  pub are_heads : AreHeads u f heads
  pub are_branches : AreBackBranches u f branches
  pub judged : AreJudged u f (aims_of steps heads branches) gs

-- a function that isn't clear has none
abbrev pub AreGoalsIf : (clear : Bool) → List Step → Unit → ℕ → List Goal → Type 0
AreGoalsIf true steps u f gs = AreGoalsOf steps u f gs
AreGoalsIf false steps u f gs = gs ≡ []

-- those of the functions from the one at f on, which were decided like this
abbrev pub AreGoalsFrom : List Step → Unit → (f : ℕ) → List Decision → List Goal → Type 0
AreGoalsFrom steps u f [] gs = gs ≡ []
AreGoalsFrom steps u f (d ∷ ds) gs =
    (here : List Goal) × (later : List Goal) × (gs ≡ here ++ later) × AreGoalsIf (is_clear d) steps u f here × AreGoalsFrom steps u (suc f) ds later

-- the goals of a script on a unit, function by function
abbrev pub AreGoals : List Step → Unit → List Goal → Type 0
AreGoals steps u gs = AreGoalsFrom steps u 0 u.decided gs
