use Rattle.std.proofs.Common.{◌<◌, length, get_or, sym, ap, ◌∙◌, subst, arith, bit_and}
use Rattle.std.specs.List.{All}
use Rattle.std.proofs.lemmas.List.{get_or_read}
use Rattle.fed_solver.specs.Graph.{AreLeast}
use Rattle.fed_solver.specs.walks.Walk.{walk_of}
use Rattle.fed_solver.proofs.Steps.{fed_within, going, going_next, finished}
use Rattle.fed_solver.proofs.solution.solve.Goals as goal

pub loop-place-init : goal.loop-place-init
loop-place-init c =
    going (length c.args.begins.now) c.args.starts.now c.args.targets.now c.args.begins.now c.args.emits.now c.requires.graph c.args.passes.now
    (walk_of c.in_ok-work.work) c.requires.emits c.in_ok-work.ensures

pub hand_each-requires-clause-rows : goal.hand_each-requires-clause-rows
hand_each-requires-clause-rows c =
    let n = length c.args.begins.now in
    let are : All (λ p. p < n) c.fed.result.now = subst (All (λ p. p < n)) (sym c.fed.ensures) (fed_within n c.args.starts.now c.args.targets.now c.requires.graph c.in-Some.place) in
    subst (λ m. All (λ p. p < m) c.fed.result.now) (sym (ap length c.in-Some.ensures.rows ∙ c.loop-place.invariant.walk.rows)) are

pub loop-place-smaller : goal.loop-place-smaller
loop-place-smaller c =
    let there : c.in-Some.place < length c.take.new.self.rows.items = omega (arith, c.in-Some.ensures.within, ap length c.in-Some.ensures.rows, c.loop-place.invariant.walk.rows, c.loop-place.invariant.walk.listed) in
    let row = get_or_read c.take.new.self.rows.items c.in-Some.place c.index-row.result.now there c.index-row.ensures 0 ∙ ap (λ rs. get_or rs c.in-Some.place 0) c.in-Some.ensures.rows in
    (going_next (length c.args.begins.now) c.args.starts.now c.args.targets.now c.args.begins.now c.args.emits.now c.args.passes.now c.requires.graph c.in-Some.place
    (walk_of c.loop-place.work) (walk_of c.take.new.self) c.loop-place.invariant c.in-Some.ensures (walk_of c.hand_each.new.self) c.fed.result.now
    (bit_and c.index-row.result.now (get_or c.args.passes.now c.in-Some.place 0)) c.fed.ensures (ap (λ r. bit_and r (get_or c.args.passes.now c.in-Some.place 0)) row)
    c.in_ok-hand_each.ensures).1

pub loop-place-preserved : goal.loop-place-preserved
loop-place-preserved c =
    let there : c.in-Some.place < length c.take.new.self.rows.items = omega (arith, c.in-Some.ensures.within, ap length c.in-Some.ensures.rows, c.loop-place.invariant.walk.rows, c.loop-place.invariant.walk.listed) in
    let row = get_or_read c.take.new.self.rows.items c.in-Some.place c.index-row.result.now there c.index-row.ensures 0 ∙ ap (λ rs. get_or rs c.in-Some.place 0) c.in-Some.ensures.rows in
    (going_next (length c.args.begins.now) c.args.starts.now c.args.targets.now c.args.begins.now c.args.emits.now c.args.passes.now c.requires.graph c.in-Some.place
    (walk_of c.loop-place.work) (walk_of c.take.new.self) c.loop-place.invariant c.in-Some.ensures (walk_of c.hand_each.new.self) c.fed.result.now
    (bit_and c.index-row.result.now (get_or c.args.passes.now c.in-Some.place 0)) c.fed.ensures (ap (λ r. bit_and r (get_or c.args.passes.now c.in-Some.place 0)) row)
    c.in_ok-hand_each.ensures).0

pub returns-clause-rows : goal.returns-clause-rows
returns-clause-rows c = ap length c.in_default.ensures.1 ∙ c.loop-place.invariant.walk.rows

pub returns-clause-least : goal.returns-clause-least
returns-clause-least c =
    subst (AreLeast c.args.starts.now c.args.targets.now c.args.begins.now c.args.emits.now c.args.passes.now) (sym c.in_default.ensures.1)
    (finished (length c.args.begins.now) c.args.starts.now c.args.targets.now c.args.begins.now c.args.emits.now c.args.passes.now c.requires.graph (walk_of c.loop-place.work)
    c.loop-place.invariant c.in_default.ensures.0)
