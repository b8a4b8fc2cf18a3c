use Rattle.std.proofs.Common.{◌≡◌, take}
use Rattle.pass_base.specs.Books.{seen}
use Rattle.pass_driver.specs.Plan.{script_tasks, clear_places}
use Rattle.pass_driver.specs.walks.Reached.{Reaches}
use Rattle.pass_driver.proofs.run_steps.Given as goal

abbrev pub invariant-loop-step : goal.invariant-loop-step
invariant-loop-step g l =
    (l.number ≡ l.step-index)
    × Reaches (script_tasks 1 (take l.step-index l.steps) (clear_places l.initial.unit.decided)) l.initial.journal l.journal l.initial.unit l.unit
    (seen l.fn.book.boxes.items (λ x. (goal.Pass-dyn g (x.vtable, x.value)).its_kind x.value) (λ x. (goal.Pass-dyn g (x.vtable, x.value)).its_opts x.value) (λ x. (goal.Pass-dyn g (x.vtable, x.value)).its_count x.value))
    (seen l.book.boxes.items (λ x. (goal.Pass-dyn g (x.vtable, x.value)).its_kind x.value) (λ x. (goal.Pass-dyn g (x.vtable, x.value)).its_opts x.value) (λ x. (goal.Pass-dyn g (x.vtable, x.value)).its_count x.value))
