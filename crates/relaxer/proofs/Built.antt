-- Sizes of entries as they are built.
use Rattle.std.proofs.Common.{◌≡◌, ◌<◌, ◌≤◌, ◌+◌, ◌-◌, ◌*◌, ◌%◌, ◌^◌, ◌++◌, ℕ, suc, List, [], ◌∷◌, length, take, get_or, arith, ap, ◌∙◌, sym, refl}
use Rattle.std.specs.Prelude.{sum, All, Option, Some, None, nat_lt, slice_get, slice_index}
use Rattle.std.proofs.Math.Nat.{mul-le-mul_left}
use Rattle.std.proofs.lemmas.Nat.{pow_pos, pow-add}
use Rattle.std.proofs.lemmas.Bool.{cond_both}
use Rattle.std.proofs.lemmas.List.Elements.{All-nil, All-cons, All-head, All-tail}
use Rattle.std.proofs.lemmas.List.Sums.{sum_by-cons}
use Rattle.relaxer.specs.declared.item.Item.{Item}
use Rattle.relaxer.specs.declared.item.Item.TheVariants.{Fixed, Short, Near, Align}
use Rattle.relaxer.specs.Sizes.{IsItem, AreItems, AreSizes}
use Rattle.relaxer.specs.Layout.{padding_within, size_at, sizes_from, sizes_of, offset_of, displacement, is_in_reach, grown, grown_from, next_round}
use Rattle.relaxer.proofs.Changes.{length-sizes_of, length-next_round}

sizes_from-push : (at : ℕ) (items : List Item) (item : Item)
    → sizes_from at (items ++ item ∷ []) ≡ sizes_from at items ++ size_at (at + sum (sizes_from at items)) item ∷ []
sizes_from-push at [] item = let here : at ≡ at + 0 = omega arith in ap (λ n. size_at n item ∷ []) here
sizes_from-push at (first ∷ items) item =
    let next = at + size_at at first in
    let rest = sizes_from next items in
    let moved : next + sum rest ≡ at + sum (size_at at first ∷ rest) = omega (arith, sum_by-cons (λ x. x) (size_at at first) rest) in
    ap (λ xs. size_at at first ∷ xs) (sizes_from-push next items item) ∙ ap (λ n. size_at at first ∷ (rest ++ size_at n item ∷ [])) moved

pub sizes_of-push : (items : List Item) (item : Item) → sizes_of (items ++ item ∷ []) ≡ sizes_of items ++ size_at (sum (sizes_of items)) item ∷ []
sizes_of-push items item =
    let here : 0 + sum (sizes_of items) ≡ sum (sizes_of items) = omega arith in
    sizes_from-push 0 items item ∙ ap (λ n. sizes_of items ++ size_at n item ∷ []) here

-- ---- entries are small
power_small : (p : ℕ) → p ≤ 12 → 2 ^ p ≤ 4096
power_small p small =
    let whole : p + (12 - p) ≡ 12 = omega (arith, small) in
    let parts : 2 ^ p * 2 ^ (12 - p) ≡ 4096 = sym (pow-add 2 p (12 - p)) ∙ ap (λ n. 2 ^ n) whole in
    let least : 1 ≤ 2 ^ (12 - p) = omega (arith, pow_pos (12 - p)) in
    omega (arith, parts, mul-le-mul_left (2 ^ p) least)

below_unit : (unit at : ℕ) → 0 < unit → unit ≤ 4096 → (unit - at % unit) % unit ≤ 4095
below_unit unit at some small = omega (arith, some, small)

within_small : (gap : ℕ) (max : Option ℕ) → gap ≤ 4095 → padding_within gap max ≤ 4095
within_small gap None small = small
within_small gap (Some max) small = cond_both (nat_lt max gap) 0 gap (λ n. n ≤ 4095) (λ e. omega arith) (λ e. small)

pub size_at_small : (at : ℕ) (item : Item) → IsItem item → size_at at item ≤ 4095
size_at_small at (Fixed size) is = is
size_at_small at (Short size near target) is = is.0
size_at_small at (Near size target) is = is
size_at_small at (Align power max) is =
    within_small ((2 ^ power - at % 2 ^ power) % 2 ^ power) max (below_unit (2 ^ power) at (pow_pos power) (power_small power is))

sizes_from_small : (at : ℕ) (items : List Item) → All IsItem items → All (λ size. size ≤ 4095) (sizes_from at items)
sizes_from_small at [] each = All-nil (λ size. size ≤ 4095)
sizes_from_small at (item ∷ items) each =
    All-cons (λ size. size ≤ 4095) (size_at at item) (sizes_from (at + size_at at item) items)
    (size_at_small at item (All-head IsItem item items each))
    (sizes_from_small (at + size_at at item) items (All-tail IsItem item items each))

pub sizes_are : (items : List Item) → AreItems items → AreSizes (sizes_of items)
sizes_are items are =
    record {
      few = omega (arith, are.few, length-sizes_of items);
      small = sizes_from_small 0 items are.each;
    }

grown_is_item : (sizes : List ℕ) (i : ℕ) (item : Item) → IsItem item → IsItem (grown sizes i item)
grown_is_item sizes i (Fixed size) is = is
grown_is_item sizes i (Short size near target) is =
    cond_both (is_in_reach (displacement sizes i target)) (Short size near target) (Near near target) IsItem (λ e. is) (λ e. is.1)
grown_is_item sizes i (Near size target) is = is
grown_is_item sizes i (Align power max) is = is

grown_are_items : (sizes : List ℕ) (i : ℕ) (items : List Item) → All IsItem items → All IsItem (grown_from sizes i items)
grown_are_items sizes i [] each = All-nil IsItem
grown_are_items sizes i (item ∷ items) each =
    All-cons IsItem (grown sizes i item) (grown_from sizes (i + 1) items)
    (grown_is_item sizes i item (All-head IsItem item items each))
    (grown_are_items sizes (i + 1) items (All-tail IsItem item items each))

pub next_are_items : (items : List Item) → AreItems items → AreItems (next_round items)
next_are_items items are =
    record {
      few = omega (arith, are.few, length-next_round items);
      each = grown_are_items (sizes_of items) 0 items are.each;
    }

-- ---- no other list has them
only_from : (at : ℕ) (items : List Item) (sizes : List ℕ) → length sizes ≡ length items
    → ((i : ℕ) (item : Item) → slice_get items i ≡ Some item → get_or sizes i 0 ≡ size_at (at + sum (take i sizes)) item) → sizes ≡ sizes_from at items
only_from at [] [] same each = refl
only_from at [] (size ∷ sizes) same each = absurd (omega (arith, same))
only_from at (item ∷ items) [] same each = absurd (omega (arith, same))
only_from at (item ∷ items) (size ∷ sizes) same each =
    let here : at + 0 ≡ at = omega arith in
    let is : size ≡ size_at at item = each 0 item refl ∙ ap (λ n. size_at n item) here in
    let rest : sizes ≡ sizes_from (at + size_at at item) items =
    only_from (at + size_at at item) items sizes (omega (arith, same))
    (λ i later there.
    (let moved : at + sum (size ∷ take i sizes) ≡ (at + size_at at item) + sum (take i sizes) =
    omega (arith, is, sum_by-cons (λ x. x) size (take i sizes)) in
    each (suc i) later there ∙ ap (λ n. size_at n later) moved)) in
    ap (λ n. n ∷ sizes) is ∙ ap (λ xs. size_at at item ∷ xs) rest

pub only_sizes : (items : List Item) (sizes : List ℕ) → length sizes ≡ length items
    → ((i : ℕ) (item : Item) → slice_get items i ≡ Some item → slice_index sizes i ≡ size_at (offset_of sizes i) item) → sizes ≡ sizes_of items
only_sizes items sizes same each =
    only_from 0 items sizes same
    (λ i item there.
    (let here : sum (take i sizes) ≡ 0 + sum (take i sizes) = omega arith in
    each i item there ∙ ap (λ n. size_at n item) here))
