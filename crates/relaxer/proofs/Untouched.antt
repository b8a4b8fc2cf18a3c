-- What a round leaves untouched.
use Rattle.std.proofs.Common.{◌≡◌, ◌≤◌, ◌+◌, ◌-◌, ℕ, zero, suc, true, List, inl, inr, arith, ap, ◌∙◌, sym, subst}
use Rattle.std.specs.Prelude.{Option, Some, None, option_map, slice_get, slice_index, IsTrue}
use Rattle.std.proofs.lemmas.Bool.{cases_Bool, cond-true, cond-false}
use Rattle.std.proofs.lemmas.List.{get_or_past}
use Rattle.std.proofs.lemmas.Option.{slice_get_cases}
use Rattle.relaxer.specs.declared.item.Item.{Item}
use Rattle.relaxer.specs.declared.item.Item.TheVariants.{Fixed, Short, Near, Align}
use Rattle.relaxer.specs.Layout.{size_at, sizes_of, offset_of, displacement, is_in_reach, fits, grown, next_round, Spans}
use Rattle.relaxer.proofs.Rounds.{fit_stays}
use Rattle.relaxer.proofs.Changes.{sum_more, displacements_stay, length-sizes_of, length-next_round, entry_of_next, next_size}

-- a jump that is short after a round reached its target in the round before
short_before : (sizes : List ℕ) (i : ℕ) (item : Item) (size near target : ℕ) → grown sizes i item ≡ Short size near target
    → is_in_reach (displacement sizes i target) ≡ true
short_before sizes i (Fixed s) size near target is = cc
short_before sizes i (Short s n t) size near target is =
    elim (cases_Bool (is_in_reach (displacement sizes i t))) [
      | inl reach ↦
          (let same : Short s n t ≡ Short size near target = sym (cond-true (is_in_reach (displacement sizes i t)) (Short s n t) (Near n t) reach) ∙ is in
          let there : t ≡ target = cc in
          ap (λ n. is_in_reach (displacement sizes i n)) (sym there) ∙ reach)
      | inr far ↦
          (let other : Near n t ≡ Short size near target = sym (cond-false (is_in_reach (displacement sizes i t)) (Short s n t) (Near n t) far) ∙ is in
          cc)
    ]
short_before sizes i (Near s t) size near target is = cc
short_before sizes i (Align p m) size near target is = cc

short_of_next : (sizes : List ℕ) (i : ℕ) (before : Option Item) (size near target : ℕ) → option_map (grown sizes i) before ≡ Some (Short size near target)
    → is_in_reach (displacement sizes i target) ≡ true
short_of_next sizes i None size near target is = cc
short_of_next sizes i (Some item) size near target is = let same : grown sizes i item ≡ Short size near target = cc in short_before sizes i item size near target same

pub short_after : (items : List Item) (i size near target : ℕ) → slice_get (next_round items) i ≡ Some (Short size near target)
    → is_in_reach (displacement (sizes_of items) i target) ≡ true
short_after items i size near target is = short_of_next (sizes_of items) i (slice_get items i) size near target (sym (entry_of_next items i) ∙ is)

pub untouched_jumps_fit : (items : List Item) (i size near target : ℕ) → slice_get (next_round items) i ≡ Some (Short size near target)
    → ((k : ℕ) → Spans i target k → slice_index (sizes_of (next_round items)) k ≡ slice_index (sizes_of items) k)
    → IsTrue (is_in_reach (displacement (sizes_of (next_round items)) i target))
untouched_jumps_fit items i size near target is same =
    ap is_in_reach (displacements_stay (sizes_of (next_round items)) (sizes_of items) i target same)
    ∙ short_after items i size near target is

-- ---- behind an entry whose offset stays, and with no jump that grows from there on, all stays
size_behind : (items : List Item) (k : ℕ) → offset_of (sizes_of (next_round items)) k ≡ offset_of (sizes_of items) k
    → ((item : Item) → slice_get items k ≡ Some item → fits (sizes_of items) k item ≡ true)
    → slice_index (sizes_of (next_round items)) k ≡ slice_index (sizes_of items) k
size_behind items k same fit =
    elim (slice_get_cases items k).1 [
      | inl there ↦ next_size items k there.0 there.2
          (ap (size_at (offset_of (sizes_of (next_round items)) k)) (fit_stays (sizes_of items) k there.0 (fit there.0 there.2))
          ∙ ap (λ at. size_at at there.0) same)
      | inr past ↦
          get_or_past (sizes_of (next_round items)) k 0 (omega (arith, past.0, length-sizes_of (next_round items), length-next_round items))
          ∙ sym (get_or_past (sizes_of items) k 0 (omega (arith, past.0, length-sizes_of items)))
    ]

offset_behind : (items : List Item) (k n : ℕ) → offset_of (sizes_of (next_round items)) k ≡ offset_of (sizes_of items) k
    → ((j : ℕ) (item : Item) → k ≤ j → slice_get items j ≡ Some item → fits (sizes_of items) j item ≡ true)
    → offset_of (sizes_of (next_round items)) (k + n) ≡ offset_of (sizes_of items) (k + n)
offset_behind items k zero same fit =
    let here : k ≡ k + 0 = omega arith in
    subst (λ j. offset_of (sizes_of (next_round items)) j ≡ offset_of (sizes_of items) j) here same
offset_behind items k (suc n) same fit =
    let before = offset_behind items k n same fit in
    let size = size_behind items (k + n) before (λ item is. fit (k + n) item (omega arith) is) in
    let next : (k + n) + 1 ≡ k + suc n = omega arith in
    let more : offset_of (sizes_of (next_round items)) ((k + n) + 1) ≡ offset_of (sizes_of items) ((k + n) + 1) =
    omega (arith, before, size, sum_more (sizes_of (next_round items)) (k + n), sum_more (sizes_of items) (k + n)) in
    subst (λ j. offset_of (sizes_of (next_round items)) j ≡ offset_of (sizes_of items) j) next more

pub shift_ends : (items : List Item) (k : ℕ) → offset_of (sizes_of (next_round items)) k ≡ offset_of (sizes_of items) k
    → ((j : ℕ) (item : Item) → k ≤ j → slice_get items j ≡ Some item → fits (sizes_of items) j item ≡ true)
    → (j : ℕ) → k ≤ j → slice_index (sizes_of (next_round items)) j ≡ slice_index (sizes_of items) j
shift_ends items k same fit j behind =
    let there : k + (j - k) ≡ j = omega (arith, behind) in
    let offset = subst (λ n. offset_of (sizes_of (next_round items)) n ≡ offset_of (sizes_of items) n) there (offset_behind items k (j - k) same fit) in
    size_behind items j offset (λ item is. fit j item behind is)
