use Rattle.std.proofs.Common.{◌≡◌, ◌<◌, ◌++◌, ◌∷◌, [], length, take, get_or, arith, sym, subst}
use Rattle.std.specs.Prelude.{Some, slice_get}
use Rattle.std.proofs.lemmas.List.{take_more}
use Rattle.std.proofs.lemmas.List.Elements.{All-get_or}
use Rattle.std.proofs.lemmas.Option.{slice_get-get_or}
use Rattle.relaxer.specs.declared.item.Item.TheVariants.{Fixed}
use Rattle.relaxer.specs.walks.Resizing.{IsSetAt}
use Rattle.relaxer.proofs.Resized.{set_more}
use Rattle.relaxer.proofs.resize.set_grown.Goals as goal

pub set-requires-clause-there : goal.set-requires-clause-there
set-requires-clause-there c =
    let there = All-get_or (λ i. i < length c.args.items.now) c.args.grown.now c.loop-i.i-index 0 (omega arith) c.requires.there in
    omega (arith, there, c.requires.long, c.loop-i.invariant.long)

pub loop-i-preserved : goal.loop-i-preserved
loop-i-preserved c =
    let items = c.args.items.now in
    let grown = c.args.grown.now in
    let n = c.loop-i.i-index in
    let i = get_or grown n 0 in
    let there : get_or c.args.grown.now c.loop-i.i-index 0 < length c.args.items.now = All-get_or (λ i. i < length items) grown n 0 (omega arith) c.requires.there in
    let item = get_or items i (Fixed 0) in
    let is : slice_get items i ≡ Some item = slice_get-get_or items i (Fixed 0) there in
    let more =
    set_more items (take n grown) c.args.offsets.now c.loop-i.offsets i c.size_at.result item c.loop-i.invariant
    (omega (arith, there, c.requires.long, c.loop-i.invariant.long)) is c.size_at.ensures in
    subst (λ xs. IsSetAt items xs c.args.offsets.now c.set.new.self) (sym (take_more grown n 0 (omega arith)))
    (subst (IsSetAt items (take n grown ++ i ∷ []) c.args.offsets.now) (sym c.set.ensures) more)
