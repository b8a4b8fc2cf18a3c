use Rattle.std.proofs.Common.{◌≡◌, ◌<◌, ◌++◌, ◌∷◌, [], length, take, get_or, arith, ap, ◌∙◌, sym, subst}
use Rattle.std.specs.Prelude.{Some, slice_get, slice_set}
use Rattle.std.proofs.lemmas.List.{take_more, take_all}
use Rattle.std.proofs.lemmas.List.Elements.{All-get_or}
use Rattle.std.proofs.lemmas.Option.{slice_get-get_or}
use Rattle.relaxer.specs.declared.item.Item.TheVariants.{Fixed}
use Rattle.relaxer.specs.Sizes.{IsItem}
use Rattle.relaxer.specs.Layout.{size_at}
use Rattle.relaxer.proofs.Built.{size_at_small}
use Rattle.relaxer.proofs.Resized.{Padded, padded_on, padded_over, padded_all, below_next}
use Rattle.relaxer.proofs.resize.set_paddings.Goals as goal
use Rattle.relaxer.proofs.resize.set_paddings.Goals.{then-size+in_ok-push, else-size}

pub offset-requires : goal.offset-requires
offset-requires c =
    let there = All-get_or (λ i. i < length c.args.items.now) c.args.alignments.now c.loop-i.i-index 0 (omega arith) c.requires.alignments.there in
    omega (arith, there, c.loop-i.invariant.long)

pub set-requires-clause-small : goal.set-requires-clause-small
set-requires-clause-small c =
    let items = c.args.items.now in
    let i = get_or c.args.alignments.now c.loop-i.i-index 0 in
    let there = All-get_or (λ i. i < length c.args.items.now) c.args.alignments.now c.loop-i.i-index 0 (omega arith) c.requires.alignments.there in
    let item = get_or items i (Fixed 0) in
    omega (arith, c.size_at-size.ensures, size_at_small c.offset.result item (All-get_or IsItem items i (Fixed 0) there c.requires.are.each))

pub loop-i-preserved : goal.loop-i-preserved
loop-i-preserved c =
    let items = c.args.items.now in
    let places = c.args.alignments.now in
    let n = c.loop-i.i-index in
    let i = get_or places n 0 in
    let now = c.loop-i.offsets in
    let changed = c.loop-i.changed.items in
    let there : get_or c.args.alignments.now c.loop-i.i-index 0 < length c.args.items.now =
    All-get_or (λ i. i < length items) places n 0 (omega arith) c.requires.alignments.there in
    let item = get_or items i (Fixed 0) in
    let is : slice_get items i ≡ Some item = slice_get-get_or items i (Fixed 0) there in
    let longer = take_more places n 0 (omega arith) in
    elim c.if-size.branch [
      | then-size+in_ok-push w ↦
          (let on =
          padded_on items (take n places) c.args.offsets.now now c.args.changed.items changed i c.size_at-size.result item c.loop-i.invariant is
          (λ j within. below_next places n j c.requires.alignments.sorted (omega arith) within)
          (c.size_at-size.ensures ∙ ap (λ at. size_at at item) c.offset.ensures) in
          subst (λ xs. Padded items xs c.args.offsets.now c.if-size.offsets c.args.changed.items c.if-size.changed.items) (sym longer)
          (subst (λ xs. Padded items (take n places ++ i ∷ []) c.args.offsets.now xs c.args.changed.items c.if-size.changed.items) (sym (w.offsets-is ∙ w.set.ensures))
          (subst (λ xs. Padded items (take n places ++ i ∷ []) c.args.offsets.now (slice_set now i c.size_at-size.result) c.args.changed.items xs)
          (sym (ap (λ v. v.items) w.changed-is ∙ w.in_ok-push.ensures.items)) on)))
      | else-size w ↦
          (let over =
          padded_over items (take n places) c.args.offsets.now now c.args.changed.items changed i item c.loop-i.invariant is
          (sym c.size.ensures ∙ sym w.if-size.false ∙ c.size_at-size.ensures ∙ ap (λ at. size_at at item) c.offset.ensures) in
          subst (λ xs. Padded items xs c.args.offsets.now c.if-size.offsets c.args.changed.items c.if-size.changed.items) (sym longer)
          (subst (λ xs. Padded items (take n places ++ i ∷ []) c.args.offsets.now xs c.args.changed.items c.if-size.changed.items) (sym w.offsets-is)
          (subst (λ xs. Padded items (take n places ++ i ∷ []) c.args.offsets.now now c.args.changed.items xs) (sym (ap (λ v. v.items) w.changed-is)) over)))
    ]

pub returns-clause-sizes : goal.returns-clause-sizes
returns-clause-sizes c =
    let items = c.args.items.now in
    let places = c.args.alignments.now in
    let every = take_all c.loop-i.i-index places c.loop-i-test.false in
    padded_all items places c.args.offsets.now c.loop-i.offsets c.args.changed.items c.loop-i.changed.items c.requires.alignments
    (subst (λ xs. Padded items xs c.args.offsets.now c.loop-i.offsets c.args.changed.items c.loop-i.changed.items) every c.loop-i.invariant)
