-- What a script asks for, and what was done of it.
use Rattle.std.specs.Prelude.{◌≡◌, ℕ, suc, List, [], ◌∷◌, ◌++◌, if◌then◌else◌}
use Rattle.asm_unit.specs.Decisions.{Decision, is_clear}
use Rattle.asm_unit.specs.Unit.{Unit}
use Rattle.pass_script.specs.declared.script.Step.{Step}
use Rattle.unit_edits.specs.declared.journal.Part.{Part}
use Rattle.pass_base.specs.Runs.{Completes}

-- the places of the functions that are clear, in order: the first decision is that of the function at this place
abbrev pub clear_from : ℕ → List Decision → List ℕ
clear_from n [] = []
clear_from n (d ∷ ds) = if is_clear d then n ∷ clear_from (suc n) ds else clear_from (suc n) ds

abbrev pub clear_places : List Decision → List ℕ
clear_places ds = clear_from 0 ds

-- a step, by its number from 1, on the function at a place
pub record Task : Type 0 where
  pub number : ℕ
  pub step : Step
  pub f : ℕ

abbrev pub task : ℕ → Step → ℕ → Task
task n s f = record { number = n; step = s; f = f }

-- a step on each of some functions
abbrev pub step_tasks : ℕ → Step → List ℕ → List Task
step_tasks n s [] = []
step_tasks n s (f ∷ fs) = task n s f ∷ step_tasks n s fs

-- steps, numbered from a number on, each on each of some functions
abbrev pub script_tasks : ℕ → List Step → List ℕ → List Task
script_tasks n [] fs = []
script_tasks n (s ∷ ss) fs = step_tasks n s fs ++ script_tasks (suc n) ss fs

-- each task has its part, in order, and each part meets the rule of its step's pass
abbrev pub AreDone : List Task → List Part → Unit → Unit → Type 0
AreDone [] [] u w = u ≡ w
AreDone [] (p ∷ ps) u w = ⊥
AreDone (t ∷ ts) [] u w = ⊥
AreDone (t ∷ ts) (p ∷ ps) u w =
    (p.step ≡ t.number) × (p.f ≡ t.f) × ((v : Unit) × Completes t.step.kind t.step.opts t.f u p.edits v × AreDone ts ps v w)
