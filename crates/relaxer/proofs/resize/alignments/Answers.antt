use Rattle.std.proofs.Common.{◌+◌, [], take, get_or, ap, ◌∙◌, sym, subst}
use Rattle.std.proofs.lemmas.List.{take_all}
use Rattle.relaxer.specs.declared.item.Item.TheVariants.{Fixed}
use Rattle.relaxer.specs.walks.Resizing.{AreAlignments}
use Rattle.relaxer.proofs.Resized.{no_alignments, not_alignment, alignment_over_at, alignment_on_at}
use Rattle.relaxer.proofs.resize.alignments.Goals as goal
use Rattle.relaxer.proofs.resize.alignments.Goals.{in-Align+in_ok-push, in_default}

pub loop-i-init : goal.loop-i-init
loop-i-init c = subst (AreAlignments []) (sym c.new-places.ensures.items) no_alignments

pub loop-i-preserved : goal.loop-i-preserved
loop-i-preserved c =
    let items = c.args.items.now in
    let i = c.loop-i.i in
    let places = c.loop-i.places.items in
    elim c.match-item.branch [
      | in-Align+in_ok-push w ↦
          subst (AreAlignments (take (i + 1) items)) (sym (ap (λ v. v.items) w.places-is ∙ w.in_ok-push.ensures.items))
          (alignment_on_at items places i c.loop-i-test.true c.loop-i.invariant)
      | in_default w ↦
          subst (AreAlignments (take (i + 1) items)) (sym (ap (λ v. v.items) w.places-is))
          (alignment_over_at items places i c.loop-i-test.true c.loop-i.invariant (not_alignment (get_or items i (Fixed 0)) w.in_default.not-Align))
    ]

pub returns : goal.returns
returns c =
    subst (λ xs. AreAlignments xs c.loop-i.places.items) (take_all c.loop-i.i c.args.items.now c.loop-i-test.false) c.loop-i.invariant
