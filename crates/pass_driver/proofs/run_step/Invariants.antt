use Rattle.std.proofs.Common.{◌≤◌, ◌-◌, ◌≡◌, length}
use Rattle.pass_base.specs.Books.{seen}
use Rattle.pass_driver.specs.walks.Reached.{Reaches, HasOpts}
use Rattle.pass_driver.proofs.Steps.{tasks_before}
use Rattle.pass_driver.proofs.run_step.Given as goal

abbrev pub invariant-loop-f : goal.invariant-loop-f
invariant-loop-f g l =
    (l.f ≤ l.count) × (l.count ≡ length l.initial.unit.decided)
    × HasOpts l.step.kind l.step.opts (seen l.book.boxes.items (λ x. (goal.Pass-dyn g (x.vtable, x.value)).its_kind x.value) (λ x. (goal.Pass-dyn g (x.vtable, x.value)).its_opts x.value) (λ x. (goal.Pass-dyn g (x.vtable, x.value)).its_count x.value))
    × Reaches (tasks_before l.number l.step l.f l.initial.unit.decided) l.initial.journal l.journal l.initial.unit l.unit
    (seen l.fn.book.boxes.items (λ x. (goal.Pass-dyn g (x.vtable, x.value)).its_kind x.value) (λ x. (goal.Pass-dyn g (x.vtable, x.value)).its_opts x.value) (λ x. (goal.Pass-dyn g (x.vtable, x.value)).its_count x.value))
    (seen l.book.boxes.items (λ x. (goal.Pass-dyn g (x.vtable, x.value)).its_kind x.value) (λ x. (goal.Pass-dyn g (x.vtable, x.value)).its_opts x.value) (λ x. (goal.Pass-dyn g (x.vtable, x.value)).its_count x.value))

abbrev pub decreases-loop-f : goal.decreases-loop-f
decreases-loop-f g l = l.count - l.f
