use Rattle.std.proofs.Common.{rules, subst, sym, ap, arith, ◌≡◌, ◌<◌, ◌≤◌, ◌∙◌, length}
use Rattle.pass_base.specs.Books.{count_of}
use Rattle.pass_driver.specs.walks.Reached.{HasOpts}
use Rattle.pass_driver.proofs.Counts.{seen_small, has_opts_set, count_set}
use Rattle.pass_driver.proofs.Steps.{reach_none, next_function, within_kept, step_end}
use Rattle.pass_driver.proofs.run_step.Goals as goal

pub loop-f-init : goal.loop-f-init
loop-f-init g c =
    let z : 0 ≤ c.functions-count.result = omega arith in (
      z,
      c.functions-count.ensures,
      subst (λ bs. HasOpts c.args.step.now.kind c.args.step.now.opts bs) (sym c.set.ensures) (has_opts_set c.args.step.now.kind c.args.step.now.opts _),
      reach_none _ _ _ _ (seen_small _ _ _ c.args.book.now.boxes.items)
          (λ k. ap (count_of k) c.set.ensures ∙ count_set k c.args.step.now.kind c.args.step.now.opts _),
    )

pub run_function-requires-clause-within : goal.run_function-requires-clause-within
run_function-requires-clause-within g c =
    let l : c.loop-f.f < c.functions-count.result = search rules in
    let e : c.functions-count.result ≡ length c.args.unit.now.decided = c.loop-f.invariant.1 in
    within_kept _ c.loop-f.f _ _ _ _ _ _ c.loop-f.invariant.3 (omega arith)

pub loop-f-preserved : goal.loop-f-preserved
loop-f-preserved g c =
    let l : c.loop-f.f < c.functions-count.result = search rules in
    let e : c.functions-count.result ≡ length c.args.unit.now.decided = c.loop-f.invariant.1 in
    let within : c.loop-f.f < length c.args.unit.now.decided = omega arith in (
      omega arith,
      e,
      c.in_ok-run_function.ensures.opts,
      next_function c.args.number c.args.step.now c.loop-f.f _ _ _ _ _ _ _ _ _ within c.loop-f.invariant.3 c.in_ok-run_function.ensures.reaches,
    )

pub returns : goal.returns
returns g c =
    let l : c.functions-count.result ≤ c.loop-f.f = search rules in
    let e : c.functions-count.result ≡ length c.args.unit.now.decided = c.loop-f.invariant.1 in
    let end : length c.args.unit.now.decided ≤ c.loop-f.f = omega arith in
    record { reaches = step_end c.args.number c.args.step.now c.loop-f.f _ _ _ _ _ _ _ end c.loop-f.invariant.3 }
