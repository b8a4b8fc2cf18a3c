use Rattle.std.proofs.Common.{◌<◌, ap, arith, inr, length}
use Rattle.pass_script.proofs.InSteps.{there_are_too_many, step_follows, all_in_range}
use Rattle.pass_script.proofs.read.read_script.Goals as goal

pub returns-then-as_slice-eq-MAX_STEPS-clause-fault : goal.returns-then-as_slice-eq-MAX_STEPS-clause-fault
returns-then-as_slice-eq-MAX_STEPS-clause-fault c =
    let len = ap length c.as_slice.ensures in
    inr (there_are_too_many c.args.text.now c.loop-at.steps c.loop-at.at c.place.result c.loop-at.invariant.is_at (omega arith) c.place.ensures)

pub loop-at-preserved : goal.loop-at-preserved
loop-at-preserved c =
    let len = ap length c.as_slice.ensures in
    let few = c.loop-at.invariant.is_at.few in
    let below : length c.loop-at.steps < 32 = omega arith in
    record {
      is_at = step_follows c.args.text.now c.loop-at.steps c.push.new.self c.loop-at.at c.in_ok-step.behind c.in-Some.next c.in_ok-step.step c.loop-at.invariant.is_at below
          c.in_ok-step.ensures.ok c.in-Some.ensures c.in_ok-push.ensures.ok;
      in_range = all_in_range c.loop-at.steps c.push.new.self c.in_ok-step.step c.loop-at.invariant.in_range c.in_ok-step.ensures.in_range c.in_ok-push.ensures.ok;
    }

pub returns-in-None-clause-in_range : goal.returns-in-None-clause-in_range
returns-in-None-clause-in_range c = all_in_range c.loop-at.steps c.push.new.self c.in_ok-step.step c.loop-at.invariant.in_range c.in_ok-step.ensures.in_range c.in_ok-push.ensures.ok
