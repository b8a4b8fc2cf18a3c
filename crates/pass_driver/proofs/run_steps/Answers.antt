use Rattle.std.proofs.Common.{rules, refl, arith, ◌≡◌, ◌<◌, ◌≤◌, ◌+◌, length}
use Rattle.pass_driver.proofs.Counts.{seen_small}
use Rattle.pass_driver.proofs.Steps.{reach_none, reach_step, is_run}
use Rattle.pass_driver.proofs.run_steps.Goals as goal

pub loop-step-init : goal.loop-step-init
loop-step-init g c = (refl, reach_none _ _ _ _ (seen_small _ _ _ c.args.book.now.boxes.items) (λ k. refl))

pub loop-step-preserved : goal.loop-step-preserved
loop-step-preserved g c =
    let within : c.loop-step.step-index < length c.args.steps.now = search rules in
    let n : c.loop-step.number ≡ c.loop-step.step-index = c.loop-step.invariant.0 in
    let m : c.loop-step.number + 1 ≡ c.loop-step.step-index + 1 = omega arith in
    (m, reach_step c.loop-step.step-index (c.loop-step.number + 1) c.args.steps.now _ _ _ _ _ _ _ _ _ _ within m c.loop-step.invariant.1 c.in_ok-run_step.ensures.reaches)

pub returns : goal.returns
returns g c =
    let l : length c.args.steps.now ≤ c.loop-step.step-index = search rules in
    record { run = is_run c.loop-step.step-index c.args.steps.now _ _ _ _ _ _ c.requires.empty l c.loop-step.invariant.1 }
