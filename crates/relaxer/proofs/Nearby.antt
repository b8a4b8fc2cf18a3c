-- What a short jump can span.
use Rattle.std.proofs.Common.{◌≡◌, ◌≤◌, ◌+◌, ◌-◌, ℕ, true, inl, inr, List, take, arith, ap, ◌∙◌, sym}
use Rattle.std.specs.Prelude.{pos, negsuc, ◌-ℤ◌, Some, sum, slice_get, slice_index, IsTrue}
use Rattle.std.proofs.lemmas.Bool.{cases_lt, ltb-true}
use Rattle.std.proofs.lemmas.Int.{ints}
use Rattle.relaxer.specs.declared.item.Item.{Item}
use Rattle.relaxer.specs.declared.item.Item.TheVariants.{Short}
use Rattle.relaxer.specs.Layout.{sizes_of, displacement, is_in_reach, next_round, Spans, IsNearby}
use Rattle.relaxer.proofs.Fronts.{sum_take_le}
use Rattle.relaxer.proofs.Untouched.{short_after, untouched_jumps_fit}

reach_bounds : (a b : ℕ) → is_in_reach (pos a -ℤ pos b) ≡ true → (a ≤ b + 127) × (b ≤ a + 128)
reach_bounds a b reach =
    elim (cases_lt a b) [
      | inl less ↦
          (let is : pos a -ℤ pos b ≡ negsuc (b - a - 1) = omega (arith, ints, less) in
          let small = ltb-true (b - a - 1) 128 (ap is_in_reach (sym is) ∙ reach) in
          (omega (arith, less), omega (arith, less, small)))
      | inr above ↦
          (let is : pos a -ℤ pos b ≡ pos (a - b) = omega (arith, ints, above) in
          let small = ltb-true (a - b) 128 (ap is_in_reach (sym is) ∙ reach) in
          (omega (arith, above, small), omega (arith, above)))
    ]

pub spans_are_nearby : (sizes : List ℕ) (i target k : ℕ) → IsTrue (is_in_reach (displacement sizes i target)) → Spans i target k → IsNearby sizes i k
spans_are_nearby sizes i target k reach spans =
    let bounds = reach_bounds (sum (take target sizes)) (sum (take (i + 1) sizes)) reach in
    elim spans [
      | inl ahead ↦
          (let begins = sum_take_le (i + 1) k sizes (omega (arith, ahead.0)) in
          let ends = sum_take_le k target sizes (omega (arith, ahead.1)) in
          record { ahead = omega (arith, ends, bounds.0); back = omega (arith, begins) })
      | inr back ↦
          (let begins = sum_take_le target k sizes back.0 in
          let ends = sum_take_le k (i + 1) sizes (omega (arith, back.1)) in
          record { ahead = omega (arith, ends); back = omega (arith, begins, bounds.1) })
    ]

pub distant_jumps_fit : (items : List Item) (i size near target : ℕ) → slice_get (next_round items) i ≡ Some (Short size near target)
    → ((k : ℕ) → IsNearby (sizes_of items) i k → slice_index (sizes_of (next_round items)) k ≡ slice_index (sizes_of items) k)
    → IsTrue (is_in_reach (displacement (sizes_of (next_round items)) i target))
distant_jumps_fit items i size near target is same =
    untouched_jumps_fit items i size near target is
    (λ k spans. same k (spans_are_nearby (sizes_of items) i target k (short_after items i size near target is) spans))
