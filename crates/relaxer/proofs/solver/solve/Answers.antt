use Rattle.std.proofs.Common.{◌≡◌, ◌<◌, ℕ, length, arith, ap, ◌∙◌, sym, subst}
use Rattle.std.specs.Prelude.{All, Contains}
use Rattle.std.proofs.lemmas.Bool.{eqb-true, eqb-false}
use Rattle.relaxer.specs.Sizes.{AreItems, AreSizes}
use Rattle.relaxer.specs.Layout.{sizes_of, next_round, HasLayout, short_count}
use Rattle.relaxer.specs.walks.Growth.{IsUnfit, HasUnfit}
use Rattle.relaxer.specs.walks.Resizing.{AreAlignments}
use Rattle.relaxer.proofs.Rounds.{IsRound, round_after, last_round, last_round_stays, round_grows}
use Rattle.relaxer.proofs.Built.{sizes_are, next_are_items}
use Rattle.relaxer.proofs.Changes.{length-next_round}
use Rattle.relaxer.proofs.Grown.{next_written, every_unfit, none_grew, some_grew}
use Rattle.relaxer.proofs.Resized.{alignments_stay, next_of}
use Rattle.relaxer.proofs.solver.solve.Goals as goal

pub build-requires : goal.build-requires
build-requires c =
    let items = c.as_slice-2.ensures.value ∙ c.in_ok-items.ensures.items in
    subst AreSizes (sym (c.as_slice-3.ensures.value ∙ c.in_ok-sizes.ensures))
    (sizes_are c.as_slice-2.result.now (subst AreItems (sym items) c.requires))

pub grow-requires-clause-all : goal.grow-requires-clause-all
grow-requires-clause-all c =
    subst (λ xs. HasUnfit xs c.as_slice-in-loop-offsets.result.now) (sym c.as_mut_slice.ensures.value)
    (subst (HasUnfit c.loop-offsets.items.items) (sym c.as_slice-in-loop-offsets.ensures.value)
    (every_unfit c.loop-offsets.items.items c.in_ok-suspects.suspects.items c.loop-offsets.invariant.every))

pub returns-then-is_empty : goal.returns-then-is_empty
returns-then-is_empty c =
    let before = c.loop-offsets.items.items in
    let value = c.as_mut_slice.ensures.value in
    let after =
    next_written before c.as_mut_slice.result.now c.grow.new.items c.loop-offsets.items.len value (omega (arith, c.loop-offsets.items.ok)) c.in_ok-grown.ensures.next in
    let none : length c.in_ok-grown.grown.items ≡ 0 =
    omega (arith, c.in_ok-grown.grown.ok, eqb-true c.in_ok-grown.grown.len 0 (sym c.is_empty.ensures ∙ c.if-is_empty.true)) in
    let fit = none_grew before c.in_ok-grown.grown.items (subst (λ xs. HasUnfit xs c.in_ok-grown.grown.items) value c.in_ok-grown.ensures.grown) none in
    subst (λ xs. HasLayout c.args.items.now xs c.loop-offsets.offsets) (sym (after ∙ last_round_stays before fit))
    (last_round c.args.items.now before c.loop-offsets.offsets c.loop-offsets.invariant.is fit c.loop-offsets.invariant.sizes)

pub resize-requires-clause-are : goal.resize-requires-clause-are
resize-requires-clause-are c =
    let before = c.loop-offsets.items.items in
    let value = c.as_mut_slice.ensures.value in
    let after =
    next_written before c.as_mut_slice.result.now c.grow.new.items c.loop-offsets.items.len value (omega (arith, c.loop-offsets.items.ok)) c.in_ok-grown.ensures.next in
    subst AreItems (sym (c.as_slice-in-loop-offsets-2.ensures.value ∙ after)) (next_are_items before c.loop-offsets.invariant.are)

pub resize-requires-clause-alignments : goal.resize-requires-clause-alignments
resize-requires-clause-alignments c =
    let before = c.loop-offsets.items.items in
    let value = c.as_mut_slice.ensures.value in
    let after =
    next_written before c.as_mut_slice.result.now c.grow.new.items c.loop-offsets.items.len value (omega (arith, c.loop-offsets.items.ok)) c.in_ok-grown.ensures.next in
    subst (λ xs. AreAlignments xs c.as_slice-in-loop-offsets-3.result.now) (sym (c.as_slice-in-loop-offsets-2.ensures.value ∙ after))
    (subst (AreAlignments (next_round before)) (sym c.as_slice-in-loop-offsets-3.ensures.value)
    (alignments_stay before c.in_ok-alignments.alignments.items c.loop-offsets.invariant.aligned))

pub resize-requires-clause-next : goal.resize-requires-clause-next
resize-requires-clause-next c =
    let before = c.loop-offsets.items.items in
    let grown = c.in_ok-grown.grown.items in
    let value = c.as_mut_slice.ensures.value in
    let after =
    next_written before c.as_mut_slice.result.now c.grow.new.items c.loop-offsets.items.len value (omega (arith, c.loop-offsets.items.ok)) c.in_ok-grown.ensures.next in
    next_of before c.as_slice-in-loop-offsets-2.result.now c.loop-offsets.offsets grown c.loop-offsets.invariant.sizes
    (c.as_slice-in-loop-offsets-2.ensures.value ∙ after)
    (subst (λ xs. HasUnfit xs grown) value c.in_ok-grown.ensures.grown)
    (subst (λ xs. All (IsUnfit xs) grown) value c.in_ok-grown.ensures.unfit)

pub loop-offsets-smaller : goal.loop-offsets-smaller
loop-offsets-smaller c =
    let before = c.loop-offsets.items.items in
    let grown = c.in_ok-grown.grown.items in
    let value = c.as_mut_slice.ensures.value in
    let after =
    next_written before c.as_mut_slice.result.now c.grow.new.items c.loop-offsets.items.len value (omega (arith, c.loop-offsets.items.ok)) c.in_ok-grown.ensures.next in
    let some = eqb-false c.in_ok-grown.grown.len 0 (sym c.is_empty.ensures ∙ c.if-is_empty.false) in
    let unfit = some_grew before grown (subst (λ xs. All (IsUnfit xs) grown) value c.in_ok-grown.ensures.unfit) (omega (arith, c.in_ok-grown.grown.ok, some)) in
    subst (λ xs. short_count xs < short_count before) (sym after) (round_grows before unfit)

pub loop-offsets-preserved : goal.loop-offsets-preserved
loop-offsets-preserved c =
    let before = c.loop-offsets.items.items in
    let grown = c.in_ok-grown.grown.items in
    let suspects = c.in_ok-suspects.suspects.items in
    let value = c.as_mut_slice.ensures.value in
    let after =
    next_written before c.as_mut_slice.result.now c.grow.new.items c.loop-offsets.items.len value (omega (arith, c.loop-offsets.items.ok)) c.in_ok-grown.ensures.next in
    let some = eqb-false c.in_ok-grown.grown.len 0 (sym c.is_empty.ensures ∙ c.if-is_empty.false) in
    let unfit = some_grew before grown (subst (λ xs. All (IsUnfit xs) grown) value c.in_ok-grown.ensures.unfit) (omega (arith, c.in_ok-grown.grown.ok, some)) in
    let long = ap length after ∙ length-next_round before in
    record {
      sizes = c.in_ok-resize.ensures.sizes ∙ ap sizes_of c.as_slice-in-loop-offsets-2.ensures.value;
      aligned = subst (λ xs. AreAlignments xs c.in_ok-alignments.alignments.items) (sym after) (alignments_stay before c.in_ok-alignments.alignments.items c.loop-offsets.invariant.aligned);
      is = subst (IsRound c.args.items.now) (sym after) (round_after c.args.items.now before c.loop-offsets.invariant.is unfit);
      are = subst AreItems (sym after) (next_are_items before c.loop-offsets.invariant.are);
      every = subst (λ n. (i : ℕ) → i < n → Contains suspects i) (sym long) c.loop-offsets.invariant.every;
      there = subst (λ n. All (λ i. i < n) suspects) (sym long) c.loop-offsets.invariant.there;
    }
