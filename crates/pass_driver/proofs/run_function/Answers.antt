use Rattle.std.proofs.Common.{rules, subst, sym, refl, [], ◌≡◌, true, false}
use Rattle.std.specs.Prelude.{Some, option_map, slice_get}
use Rattle.asm_unit.specs.Decisions.{is_clear}
use Rattle.unit_edits.specs.Bodies.{IsClearAt}
use Rattle.pass_base.specs.Runs.{last_is}
use Rattle.pass_driver.specs.walks.Reached.{HasOpts}
use Rattle.pass_driver.proofs.Counts.{seen_small, has_opts_count}
use Rattle.pass_driver.proofs.Weights.{serials_left}
use Rattle.pass_driver.proofs.Steps.{last_end, reach_one, reach_clear, reach_skipped, told_clear}
use Rattle.pass_driver.proofs.run_function.Goals as goal

pub run-requires-clause-clear : goal.run-requires-clause-clear
run-requires-clause-clear g c = told_clear _ c.frozen.result true c.frozen.ensures (search rules)

pub run-requires-clause-part : goal.run-requires-clause-part
run-requires-clause-part g c = subst (last_is c.args.f) (sym c.in_ok-begin.ensures.ok) (last_end c.args.f c.args.journal.now (record { step = c.args.number; f = c.args.f; edits = [] }) refl)

pub run-requires-clause-serials : goal.run-requires-clause-serials
run-requires-clause-serials g c = serials_left c.args.unit.now c.args.f c.in_ok-check_serials.ensures

pub returns-clause-opts : goal.returns-clause-opts
returns-clause-opts g c = subst (λ bs. HasOpts c.args.step.now.kind c.args.step.now.opts bs) (sym c.in_ok-run.ensures.count)
    (has_opts_count c.args.step.now.kind c.args.step.now.kind c.args.step.now.opts c.in_ok-run.field-0.edits _ c.requires.opts)

pub returns-clause-reaches : goal.returns-clause-reaches
returns-clause-reaches g c =
    let t : IsClearAt c.args.unit.now c.args.f = told_clear _ c.frozen.result true c.frozen.ensures (search rules) in
    reach_clear c.args.number c.args.step.now c.args.f _ _ c.args.unit.now _ _ _ t
    (reach_one c.args.number c.args.step.now c.args.f _ _ _ _ _ _ _ _ c.requires.opts c.in_ok-run.ensures.found (seen_small _ _ _ c.args.book.now.boxes.items) c.in_ok-begin.ensures.ok c.in_ok-run.ensures.count c.in_ok-run.ensures.ran)

pub returns-then-is_some-clause-reaches : goal.returns-then-is_some-clause-reaches
returns-then-is_some-clause-reaches g c =
    let t : option_map is_clear (slice_get c.args.unit.now.decided c.args.f) ≡ Some false = told_clear _ c.frozen.result false c.frozen.ensures (search rules) in
    reach_skipped c.args.number c.args.step.now c.args.f _ c.args.unit.now _ (seen_small _ _ _ c.args.book.now.boxes.items) t
