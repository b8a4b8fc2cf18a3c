use Rattle.std.proofs.Common.{◌≡◌, ◌≤◌, ◌<◌, ◌++◌, ◌∷◌, [], length, take, get_or, arith, ap, ◌∙◌, sym}
use Rattle.std.specs.Prelude.{sum}
use Rattle.std.proofs.lemmas.List.{take_more}
use Rattle.std.proofs.lemmas.List.Elements.{All-get_or}
use Rattle.std.proofs.lemmas.List.Sums.{sum_by_push}
use Rattle.relaxer.specs.declared.item.Item.TheVariants.{Fixed}
use Rattle.relaxer.specs.Sizes.{IsItem}
use Rattle.relaxer.specs.Layout.{size_at, sizes_of}
use Rattle.relaxer.proofs.Built.{sizes_of-push, size_at_small}
use Rattle.relaxer.proofs.item.sizes.Goals as goal

pub loop-item-preserved : goal.loop-item-preserved
loop-item-preserved c =
    let i = c.loop-item.item-index in
    let items = c.args.items.now in
    let sizes = c.loop-item.sizes.items in
    let size = c.size_at-size.result in
    let item = get_or items i (Fixed 0) in
    let there : c.loop-item.item-index < length c.args.items.now = omega arith in
    let at : c.loop-item.at ≡ sum (sizes_of (take i items)) = c.loop-item.invariant.at ∙ ap sum c.loop-item.invariant.so_far in
    let is : c.size_at-size.result ≡ size_at (sum (sizes_of (take i items))) item = c.size_at-size.ensures ∙ ap (λ n. size_at n item) at in
    let small : c.size_at-size.result ≤ 4095 =
    omega (arith, c.size_at-size.ensures, size_at_small c.loop-item.at item (All-get_or IsItem items i (Fixed 0) there c.requires.each)) in
    record {
      so_far = c.in_ok-push.ensures.items ∙ ap (λ xs. xs ++ size ∷ []) c.loop-item.invariant.so_far ∙ ap (λ n. sizes_of (take i items) ++ n ∷ []) is
          ∙ sym (sizes_of-push (take i items) item) ∙ ap sizes_of (sym (take_more items i (Fixed 0) there));
      at = omega (arith, c.loop-item.invariant.at, c.from-at.ensures, ap sum c.in_ok-push.ensures.items, sum_by_push (λ x. x) sizes size);
      small = omega (arith, c.loop-item.invariant.small, c.from-at.ensures, small);
    }
