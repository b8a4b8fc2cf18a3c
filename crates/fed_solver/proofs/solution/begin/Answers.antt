use Rattle.std.proofs.Common.{◌<◌, ◌^◌, length, sym, ap, subst, arith}
use Rattle.std.specs.List.{All}
use Rattle.std.proofs.lemmas.List.Elements.{All-from_get_or}
use Rattle.fed_solver.specs.walks.Walk.{walk_of}
use Rattle.fed_solver.proofs.Steps.{fed_within, first_walk, begun_none, begun_next}
use Rattle.fed_solver.proofs.solution.begin.Goals as goal

pub loop-place-init : goal.loop-place-init
loop-place-init c =
    let n = length c.args.begins.now in
    let rows = c.in_ok-from_slice.ensures.items in
    let words : All (λ r. r < 2 ^ 64) c.args.begins.now = All-from_get_or (λ r. r < 2 ^ 64) c.args.begins.now 0 (λ i lt. omega (arith, c.type_inv.begins i)) in
    let w = walk_of record { rows = c.in_ok-from_slice.field-0; listed = c.in_ok-vec.field-0; list = c.in_ok-all_places.field-0 } in
    let first = first_walk n w (ap length rows) (subst (All (λ r. r < 2 ^ 64)) (sym rows) words) (c.in_ok-vec.ensures.items_if_clones_equal (λ y h. h)) c.in_ok-all_places.ensures in
    begun_none n c.args.starts.now c.args.targets.now c.args.begins.now c.args.emits.now c.requires.graph w rows first.0 first.1

pub hand_each-requires-clause-rows : goal.hand_each-requires-clause-rows
hand_each-requires-clause-rows c =
    let n = length c.args.begins.now in
    let are : All (λ p. p < n) c.fed.result.now = subst (All (λ p. p < n)) (sym c.fed.ensures) (fed_within n c.args.starts.now c.args.targets.now c.requires.graph c.loop-place.place) in
    subst (λ m. All (λ p. p < m) c.fed.result.now) (sym c.loop-place.invariant.walk.rows) are

pub loop-place-preserved : goal.loop-place-preserved
loop-place-preserved c =
    begun_next (length c.args.begins.now) c.args.starts.now c.args.targets.now c.args.begins.now c.args.emits.now c.requires.graph c.loop-place.place
    (walk_of c.loop-place.work) c.loop-place.invariant (omega (arith, c.type_inv.emits c.loop-place.place)) (walk_of c.hand_each.new.self) c.fed.result.now c.fed.ensures c.in_ok-hand_each.ensures
