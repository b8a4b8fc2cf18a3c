-- Sums of the first sizes of a list.
use Rattle.std.proofs.Common.{◌≡◌, ◌<◌, ◌≤◌, ◌+◌, ◌-◌, ◌*◌, ◌^◌, ℕ, List, length, take, drop, get_or, arith, ap, ◌∙◌, length-take}
use Rattle.std.specs.Prelude.{sum, All}
use Rattle.std.proofs.Math.ListN.{set}
use Rattle.std.proofs.Math.Seq.{take-add, take-set-lt}
use Rattle.std.proofs.lemmas.List.{take-set-le, get_or-take}
use Rattle.std.proofs.lemmas.List.Elements.{All-take, All-drop}
use Rattle.std.proofs.lemmas.List.Sums.{sum_by-append, sum_by-set, sum_by-le}
use Rattle.relaxer.specs.Sizes.{AreSizes}

-- the first n and the m after them
pub sum_take_add : (n m : ℕ) (xs : List ℕ) → sum (take (n + m) xs) ≡ sum (take n xs) + sum (take m (drop n xs))
sum_take_add n m xs = ap sum (take-add n m xs) ∙ sum_by-append (λ x. x) (take n xs) (take m (drop n xs))

-- a longer front has no smaller sum
pub sum_take_le : (n m : ℕ) (xs : List ℕ) → n ≤ m → sum (take n xs) ≤ sum (take m xs)
sum_take_le n m xs ordered =
    let longer : m ≡ n + (m - n) = omega arith in
    omega (arith, ap (λ k. sum (take k xs)) longer, sum_take_add n (m - n) xs)

-- a part of sizes is at most 4,095 times its length
pub sum_part_le : (n m : ℕ) (xs : List ℕ) → All (λ size. size ≤ 4095) xs → sum (take m (drop n xs)) ≤ m * 4095
sum_part_le n m xs small =
    let part = take m (drop n xs) in
    let most : sum part ≤ length part * 4095 = sum_by-le (λ x. x) 4095 part (All-take (λ size. size ≤ 4095) m (drop n xs) (All-drop (λ size. size ≤ 4095) n xs small)) in
    let short : length part ≤ m = omega (arith, length-take m (drop n xs)) in
    omega (arith, most, short)

-- sizes have a sum below 2^44
pub sum_small : (xs : List ℕ) → AreSizes xs → sum xs < 2 ^ 44
sum_small xs sizes =
    let most : sum xs ≤ length xs * 4095 = sum_by-le (λ x. x) 4095 xs sizes.small in
    let few = sizes.few in
    omega (arith, most, few)

-- a front that holds the element that changes, and one that ends before it
pub sum_take_changed : (xs : List ℕ) (i n v : ℕ) → i < n → i < length xs
    → sum (take n (set xs i v)) + get_or xs i 0 ≡ sum (take n xs) + v
sum_take_changed xs i n v within there =
    let inside : i < length (take n xs) = omega (arith, length-take n xs) in
    omega (arith, ap sum (take-set-lt n xs i v within), sum_by-set (λ x. x) (take n xs) i v 0 inside, get_or-take n xs i 0 within)

pub sum_take_kept : (xs : List ℕ) (i n v : ℕ) → n ≤ i → sum (take n (set xs i v)) ≡ sum (take n xs)
sum_take_kept xs i n v before = ap sum (take-set-le n xs i v before)
