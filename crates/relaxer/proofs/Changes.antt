-- What a change of sizes does to displacements, and what a round changes.
use Rattle.std.proofs.Common.{◌≡◌, ◌<◌, ◌≤◌, ◌+◌, ◌-◌, ◌%◌, ◌^◌, ℕ, zero, suc, List, [], ◌∷◌, length, take, get_or, inl, inr, arith, ap, ◌∙◌, sym, refl}
use Rattle.std.specs.Prelude.{pos, ◌+ℤ◌, ◌-ℤ◌, Some, option_map, sum, slice_get, slice_index, slice_set}
use Rattle.std.proofs.lemmas.Bool.{cases_lt}
use Rattle.std.proofs.lemmas.List.{take_all, get_or_past}
use Rattle.std.proofs.lemmas.List.Sums.{sum_by_more, sum_by-cons}
use Rattle.std.proofs.lemmas.Int.{ints}
use Rattle.relaxer.specs.declared.item.Item.{Item}
use Rattle.relaxer.specs.declared.item.Item.TheVariants.{Fixed, Short, Near, Align}
use Rattle.relaxer.specs.Layout.{padding_within, size_at, sizes_from, sizes_of, offset_of, displacement, grown, grown_from, next_round, Spans, KeepsSize}
use Rattle.relaxer.proofs.Fronts.{sum_take_changed, sum_take_kept}
use Rattle.relaxer.proofs.Rounds.{fit_stays}

-- one size more, which is 0 past the end
pub sum_more : (xs : List ℕ) (i : ℕ) → sum (take (i + 1) xs) ≡ sum (take i xs) + get_or xs i 0
sum_more xs i =
    elim (cases_lt i (length xs)) [
      | inl there ↦ sum_by_more (λ x. x) xs i 0 there
      | inr past ↦ omega (arith, ap sum (take_all (i + 1) xs (omega (arith, past))), ap sum (take_all i xs past), get_or_past xs i 0 past)
    ]

-- where n sizes from a on are the same, so is their sum
same_parts : (s t : List ℕ) (a n : ℕ) → ((k : ℕ) → a ≤ k → k < a + n → get_or s k 0 ≡ get_or t k 0)
    → sum (take (a + n) s) + sum (take a t) ≡ sum (take (a + n) t) + sum (take a s)
same_parts s t a zero same =
    let none : a + 0 ≡ a = omega arith in
    omega (arith, ap (λ k. sum (take k s)) none, ap (λ k. sum (take k t)) none)
same_parts s t a (suc n) same =
    let next : a + suc n ≡ (a + n) + 1 = omega arith in
    omega (
      arith,
      ap (λ k. sum (take k s)) next,
      ap (λ k. sum (take k t)) next,
      sum_more s (a + n),
      sum_more t (a + n),
      same (a + n) (omega arith) (omega arith),
      same_parts s t a n (λ k from below. same k from (omega (arith, below))),
    )

same_between : (s t : List ℕ) (a b : ℕ) → a ≤ b → ((k : ℕ) → a ≤ k → k < b → get_or s k 0 ≡ get_or t k 0)
    → sum (take b s) + sum (take a t) ≡ sum (take b t) + sum (take a s)
same_between s t a b ordered same =
    let whole : a + (b - a) ≡ b = omega (arith, ordered) in
    omega (
      arith,
      ap (λ k. sum (take k s)) whole,
      ap (λ k. sum (take k t)) whole,
      same_parts s t a (b - a) (λ k from below. same k from (omega (arith, below, whole))),
    )

same_difference : (a b c d : ℕ) → a + d ≡ c + b → pos a -ℤ pos b ≡ pos c -ℤ pos d
same_difference a b c d same = omega (arith, ints, same)

pub displacements_stay : (s t : List ℕ) (i target : ℕ) → ((k : ℕ) → Spans i target k → slice_index s k ≡ slice_index t k)
    → displacement s i target ≡ displacement t i target
displacements_stay s t i target same =
    same_difference (sum (take target s)) (sum (take (i + 1) s)) (sum (take target t)) (sum (take (i + 1) t))
    (elim (cases_lt i target) [
      | inl ahead ↦ same_between s t (i + 1) target (omega (arith, ahead)) (λ k from below. same k (inl (omega (arith, from), below)))
      | inr back ↦ omega (arith, same_between s t target (i + 1) (omega (arith, back)) (λ k from below. same k (inr (from, omega (arith, below)))))
    ])

pub size_ahead : (s : List ℕ) (k v i target : ℕ) → k < length s → i < k → k < target
    → displacement (slice_set s k v) i target +ℤ pos (slice_index s k) ≡ displacement s i target +ℤ pos v
size_ahead s k v i target there behind before =
    omega (arith, ints, sum_take_changed s k target v before there, sum_take_kept s k (i + 1) v (omega (arith, behind)))

pub size_back : (s : List ℕ) (k v i target : ℕ) → k < length s → target ≤ k → k ≤ i
    → displacement (slice_set s k v) i target +ℤ pos v ≡ displacement s i target +ℤ pos (slice_index s k)
size_back s k v i target there behind before =
    omega (arith, ints, sum_take_changed s k (i + 1) v (omega (arith, before)) there, sum_take_kept s k target v behind)

-- ---- sizes of entries
size_from : (at : ℕ) (items : List Item) (k : ℕ) (item : Item) → slice_get items k ≡ Some item
    → get_or (sizes_from at items) k 0 ≡ size_at (at + sum (take k (sizes_from at items))) item
size_from at [] k item is = cc
size_from at (first ∷ items) zero item is =
    let same : first ≡ item = cc in
    let here : at ≡ at + 0 = omega arith in
    ap (size_at at) same ∙ ap (λ n. size_at n item) here
size_from at (first ∷ items) (suc k) item is =
    let rest = sizes_from (at + size_at at first) items in
    let moved : (at + size_at at first) + sum (take k rest) ≡ at + sum (size_at at first ∷ take k rest) =
    omega (arith, sum_by-cons (λ x. x) (size_at at first) (take k rest)) in
    size_from (at + size_at at first) items k item is ∙ ap (λ n. size_at n item) moved

pub size_of_entry : (items : List Item) (k : ℕ) (item : Item) → slice_get items k ≡ Some item
    → slice_index (sizes_of items) k ≡ size_at (offset_of (sizes_of items) k) item
size_of_entry items k item is =
    let here : 0 + sum (take k (sizes_of items)) ≡ sum (take k (sizes_of items)) = omega arith in
    size_from 0 items k item is ∙ ap (λ n. size_at n item) here

length-sizes_from : (at : ℕ) (items : List Item) → length (sizes_from at items) ≡ length items
length-sizes_from at [] = refl
length-sizes_from at (item ∷ items) = ap suc (length-sizes_from (at + size_at at item) items)

pub length-sizes_of : (items : List Item) → length (sizes_of items) ≡ length items
length-sizes_of items = length-sizes_from 0 items

-- ---- a round
grown_at : (sizes : List ℕ) (i : ℕ) (items : List Item) (k : ℕ) → slice_get (grown_from sizes i items) k ≡ option_map (grown sizes (i + k)) (slice_get items k)
grown_at sizes i [] k = refl
grown_at sizes i (item ∷ items) zero =
    let here : i ≡ i + 0 = omega arith in
    ap (λ n. Some (grown sizes n item)) here
grown_at sizes i (item ∷ items) (suc k) =
    let later : (i + 1) + k ≡ i + suc k = omega arith in
    grown_at sizes (i + 1) items k ∙ ap (λ n. option_map (grown sizes n) (slice_get items k)) later

pub entry_of_next : (items : List Item) (k : ℕ) → slice_get (next_round items) k ≡ option_map (grown (sizes_of items) k) (slice_get items k)
entry_of_next items k =
    let here : 0 + k ≡ k = omega arith in
    grown_at (sizes_of items) 0 items k ∙ ap (λ n. option_map (grown (sizes_of items) n) (slice_get items k)) here

entry_of_next_is : (items : List Item) (k : ℕ) (item : Item) → slice_get items k ≡ Some item → slice_get (next_round items) k ≡ Some (grown (sizes_of items) k item)
entry_of_next_is items k item is = entry_of_next items k ∙ ap (option_map (grown (sizes_of items) k)) is

length-grown_from : (sizes : List ℕ) (i : ℕ) (items : List Item) → length (grown_from sizes i items) ≡ length items
length-grown_from sizes i [] = refl
length-grown_from sizes i (item ∷ items) = ap suc (length-grown_from sizes (i + 1) items)

pub length-next_round : (items : List Item) → length (next_round items) ≡ length items
length-next_round items = length-grown_from (sizes_of items) 0 items

-- an entry of the next round that has the size that it had
pub next_size : (items : List Item) (k : ℕ) (item : Item) → slice_get items k ≡ Some item
    → size_at (offset_of (sizes_of (next_round items)) k) (grown (sizes_of items) k item) ≡ size_at (offset_of (sizes_of items) k) item
    → slice_index (sizes_of (next_round items)) k ≡ slice_index (sizes_of items) k
next_size items k item is same =
    size_of_entry (next_round items) k (grown (sizes_of items) k item) (entry_of_next_is items k item is) ∙ same ∙ sym (size_of_entry items k item is)

keeps : (items : List Item) (k : ℕ) (item : Item) → KeepsSize items k item
    → size_at (offset_of (sizes_of (next_round items)) k) (grown (sizes_of items) k item) ≡ size_at (offset_of (sizes_of items) k) item
keeps items k (Fixed size) kept = refl
keeps items k (Short size near target) kept = ap (size_at (offset_of (sizes_of (next_round items)) k)) (fit_stays (sizes_of items) k (Short size near target) kept)
keeps items k (Near size target) kept = refl
keeps items k (Align power max) kept = ap (λ r. padding_within ((2 ^ power - r) % 2 ^ power) max) kept

pub sizes_stay : (items : List Item) (k : ℕ) (item : Item) → slice_get items k ≡ Some item → KeepsSize items k item
    → slice_index (sizes_of (next_round items)) k ≡ slice_index (sizes_of items) k
sizes_stay items k item is kept = next_size items k item is (keeps items k item kept)
