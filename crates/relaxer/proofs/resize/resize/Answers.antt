use Rattle.std.proofs.Common.{ℕ, length, ap, ◌∙◌, sym, subst}
use Rattle.std.specs.Prelude.{Contains}
use Rattle.relaxer.specs.Layout.{sizes_of}
use Rattle.relaxer.specs.walks.Resizing.{IsSetAt, AreRightBut, StaysBut}
use Rattle.relaxer.proofs.Changes.{length-sizes_of, length-next_round}
use Rattle.relaxer.proofs.Resized.{if_ok_both, right_but, stays_but_all}
use Rattle.relaxer.proofs.resize.resize.Goals as goal

pub set_grown-requires-clause-long : goal.set_grown-requires-clause-long
set_grown-requires-clause-long c =
    let next = c.requires.next in
    ap length next.sizes_were ∙ length-sizes_of next.before ∙ sym (length-next_round next.before) ∙ ap length (sym next.next)

pub set_paddings-requires-clause-right : goal.set_paddings-requires-clause-right
set_paddings-requires-clause-right c =
    let next = c.requires.next in
    let grown = c.args.grown.items in
    let set : IsSetAt c.args.items.now c.args.grown.items c.args.offsets.now c.set_grown.new.offsets =
    subst (λ xs. IsSetAt c.args.items.now xs c.args.offsets.now c.set_grown.new.offsets) c.as_slice.ensures.value c.set_grown.ensures in
    subst (λ xs. AreRightBut xs c.set_grown.new.offsets) (sym next.next)
    (right_but next.before grown c.set_grown.new.offsets next.all
    (subst (λ xs. IsSetAt xs grown (sizes_of next.before) c.set_grown.new.offsets) next.next
    (subst (λ s. IsSetAt c.args.items.now grown s c.set_grown.new.offsets) next.sizes_were set)))

pub returns-clause-others : goal.returns-clause-others
returns-clause-others c =
    let set : IsSetAt c.args.items.now c.args.grown.items c.args.offsets.now c.set_grown.new.offsets =
    subst (λ xs. IsSetAt c.args.items.now xs c.args.offsets.now c.set_grown.new.offsets) c.as_slice.ensures.value c.set_grown.ensures in
    if_ok_both c.set_paddings.result (λ all. StaysBut all.items c.set_grown.new.offsets c.set_paddings.new.offsets)
    (λ all. (i : ℕ) → Contains c.args.grown.items i → Contains all.items i)
    (λ changed. StaysBut changed.items c.args.offsets.now c.set_paddings.new.offsets)
    (λ all stays kept. stays_but_all c.args.grown.items all.items c.args.offsets.now c.set_grown.new.offsets c.set_paddings.new.offsets set.others kept stays)
    c.set_paddings.ensures.others c.set_paddings.ensures.kept
