-- Sizes of a round, from those of the round before.
use Rattle.std.proofs.Common.{◌≡◌, ◌++◌, ◌<◌, ◌≤◌, ◌+◌, ℕ, zero, suc, true, false, List, [], ◌∷◌, length, take, get_or, inl, inr, arith, ap, ◌∙◌, sym, refl, subst, length-take}
use Rattle.std.specs.Prelude.{◌⊎◌, Result, Ok, Err, IfOk, Option, Some, None, All, Contains, option_map, slice_get, slice_index}
use Rattle.std.proofs.Math.ListN.{set}
use Rattle.std.proofs.Math.Seq.{get_or-append_seam}
use Rattle.std.proofs.lemmas.Bool.{both_ways, cases_Bool, cases_eq, cond-true, cond-false}
use Rattle.std.proofs.lemmas.List.{take_more, length-append, length-set, get_or_append_left, get_or-set_same, get_or-set_other, get_or-take}
use Rattle.std.proofs.lemmas.Option.{slice_get_within}
use Rattle.std.proofs.lemmas.Grind.{get_or_default_zero}
use Rattle.std.proofs.lemmas.List.Elements.{All-nil, All-push, Contains-push, Contains-push_cases, Contains-append_left}
use Rattle.relaxer.specs.declared.item.Item.{Item}
use Rattle.relaxer.specs.declared.item.Item.TheVariants.{Fixed, Short, Near, Align}
use Rattle.relaxer.specs.Layout.{size_at, sizes_of, offset_of, displacement, is_in_reach, fits, grown, next_round}
use Rattle.relaxer.specs.walks.Growth.{IsUnfit, HasUnfit}
use Rattle.relaxer.specs.walks.Resizing.{is_alignment, AreAlignments, StaysBut, IsSetAt, AreRightBut, IsNextOf}
use Rattle.relaxer.proofs.Fronts.{sum_take_kept}
use Rattle.relaxer.proofs.Rounds.{fit_stays}
use Rattle.relaxer.proofs.Changes.{size_of_entry, entry_of_next, length-next_round, length-sizes_of}
use Rattle.relaxer.proofs.Built.{only_sizes}

pub if_ok_both : {X E : Type 0} → (r : Result X E) (P Q R : X → Type 0) → ((x : X) → P x → Q x → R x) → IfOk r P → IfOk r Q → IfOk r R
if_ok_both (Ok x) P Q R f p q = f x p q
if_ok_both (Err e) P Q R f p q = p

-- an entry that is no alignment has the same size everywhere
unaligned : (item : Item) (a b : ℕ) → is_alignment item ≡ false → size_at a item ≡ size_at b item
unaligned (Fixed size) a b no_alignment = refl
unaligned (Short size near target) a b no_alignment = refl
unaligned (Near size target) a b no_alignment = refl
unaligned (Align power max) a b no_alignment = absurd (both_ways true no_alignment refl)

same_entry : (items : List Item) (i : ℕ) (one other : Item) → slice_get items i ≡ Some one → slice_get items i ≡ Some other → one ≡ other
same_entry items i one other is also = let both : Some one ≡ Some other = sym is ∙ also in cc

-- ---- what grew
pub set_none : (items : List Item) (sizes : List ℕ) → IsSetAt items [] sizes sizes
set_none items sizes = record { long = refl; others = λ j. inl refl; set = λ j item within is. absurd (omega (arith, within.1)) }

pub set_more : (items : List Item) (places start now : List ℕ) (i size : ℕ) (item : Item) → IsSetAt items places start now → i < length now
    → slice_get items i ≡ Some item → size ≡ size_at 0 item → IsSetAt items (places ++ i ∷ []) start (set now i size)
set_more items places start now i size item so_far there is right =
    record {
      long = length-set now i size ∙ so_far.long;
      others = λ j. elim (cases_eq j i) [
        | inl same ↦ inr (subst (Contains (places ++ i ∷ [])) (sym same) (Contains-push places i))
        | inr other ↦
            (elim (so_far.others j) [
              | inl stays ↦ inl (get_or-set_other now i j size 0 other ∙ stays)
              | inr within ↦ inr (Contains-append_left places (i ∷ []) j within)
            ])
      ];
      set = λ j entry within entry_is. elim (cases_eq j i) [
        | inl same ↦
            (let e : item ≡ entry = same_entry items i item entry is (subst (λ k. slice_get items k ≡ Some entry) same entry_is) in
            subst (λ k. get_or (set now i size) k 0 ≡ size_at 0 entry) (sym same) (get_or-set_same now i size 0 there ∙ right ∙ ap (size_at 0) e))
        | inr other ↦
            (elim (Contains-push_cases places i j within) [
              | inl earlier ↦ get_or-set_other now i j size 0 other ∙ so_far.set j entry earlier entry_is
              | inr here ↦ absurd (other (sym here))
            ])
      ];
    }

-- ---- paddings
pub record Padded (items : List Item) (aligned start now first changed : List ℕ) : Type 0 where
  pub long : length now ≡ length items
  pub fixed : (j : ℕ) (item : Item) → slice_get items j ≡ Some item → is_alignment item ≡ false → slice_index now j ≡ size_at 0 item
  pub done : (j : ℕ) (item : Item) → Contains aligned j → slice_get items j ≡ Some item → slice_index now j ≡ size_at (offset_of now j) item
  pub others : StaysBut changed start now
  pub kept : (j : ℕ) → Contains first j → Contains changed j
  pub there : All (λ i. i < length items) changed

pub padded_none : (items : List Item) (start first : List ℕ) → AreRightBut items start → All (λ i. i < length items) first → Padded items [] start start first first
padded_none items start first right there =
    record {
      long = right.long;
      fixed = right.fixed;
      done = λ j item within is. absurd (omega (arith, within.1));
      others = λ j. inl refl;
      kept = λ j within. within;
      there = there;
    }

pub padded_over : (items : List Item) (aligned start now first changed : List ℕ) (i : ℕ) (item : Item) → Padded items aligned start now first changed
    → slice_get items i ≡ Some item → slice_index now i ≡ size_at (offset_of now i) item → Padded items (aligned ++ i ∷ []) start now first changed
padded_over items aligned start now first changed i item padded is right =
    record {
      long = padded.long;
      fixed = padded.fixed;
      done = λ j entry within entry_is. elim (Contains-push_cases aligned i j within) [
        | inl earlier ↦ padded.done j entry earlier entry_is
        | inr here ↦
            (let e : item ≡ entry = same_entry items i item entry is (subst (λ k. slice_get items k ≡ Some entry) (sym here) entry_is) in
            subst (λ k. get_or now k 0 ≡ size_at (offset_of now k) entry) here (right ∙ ap (size_at (offset_of now i)) e))
      ];
      others = padded.others;
      kept = padded.kept;
      there = padded.there;
    }

pub padded_on : (items : List Item) (aligned start now first changed : List ℕ) (i size : ℕ) (item : Item) → Padded items aligned start now first changed
    → slice_get items i ≡ Some item → ((j : ℕ) → Contains aligned j → j < i) → size ≡ size_at (offset_of now i) item
    → Padded items (aligned ++ i ∷ []) start (set now i size) first (changed ++ i ∷ [])
padded_on items aligned start now first changed i size item padded is below right =
    let within_items : i < length items = slice_get_within items i item is in
    let there : i < length now = omega (arith, within_items, padded.long) in
    let here : get_or (set now i size) i 0 ≡ size = get_or-set_same now i size 0 there in
    record {
      long = length-set now i size ∙ padded.long;
      fixed = λ j entry entry_is no_alignment. elim (cases_eq j i) [
        | inl same ↦
            (let e : item ≡ entry = same_entry items i item entry is (subst (λ k. slice_get items k ≡ Some entry) same entry_is) in
            subst (λ k. get_or (set now i size) k 0 ≡ size_at 0 entry) (sym same)
            (here ∙ right ∙ ap (size_at (offset_of now i)) e ∙ unaligned entry (offset_of now i) 0 no_alignment))
        | inr other ↦ get_or-set_other now i j size 0 other ∙ padded.fixed j entry entry_is no_alignment
      ];
      done = λ j entry within entry_is. elim (Contains-push_cases aligned i j within) [
        | inl earlier ↦
            (let less = below j earlier in
            get_or-set_other now i j size 0 (λ e. omega (arith, less, e)) ∙ padded.done j entry earlier entry_is
            ∙ ap (λ at. size_at at entry) (sym (sum_take_kept now i j size (omega (arith, less)))))
        | inr last ↦
            (let e : item ≡ entry = same_entry items i item entry is (subst (λ k. slice_get items k ≡ Some entry) (sym last) entry_is) in
            subst (λ k. get_or (set now i size) k 0 ≡ size_at (offset_of (set now i size) k) entry) last
            (here ∙ right ∙ ap (size_at (offset_of now i)) e ∙ ap (λ at. size_at at entry) (sym (sum_take_kept now i i size (omega arith)))))
      ];
      others = λ j. elim (cases_eq j i) [
        | inl same ↦ inr (subst (Contains (changed ++ i ∷ [])) (sym same) (Contains-push changed i))
        | inr other ↦
            (elim (padded.others j) [
              | inl stays ↦ inl (get_or-set_other now i j size 0 other ∙ stays)
              | inr within ↦ inr (Contains-append_left changed (i ∷ []) j within)
            ])
      ];
      kept = λ j within. Contains-append_left changed (i ∷ []) j (padded.kept j within);
      there = All-push (λ k. k < length items) changed i padded.there within_items;
    }

pub padded_all : (items : List Item) (aligned start now first changed : List ℕ) → AreAlignments items aligned → Padded items aligned start now first changed
    → now ≡ sizes_of items
padded_all items aligned start now first changed are padded =
    only_sizes items now padded.long
    (λ i item is. elim (cases_Bool (is_alignment item)) [
      | inl alignment ↦ padded.done i item (are.all i item is alignment) is
      | inr no_alignment ↦ padded.fixed i item is no_alignment ∙ unaligned item 0 (offset_of now i) no_alignment
    ])

-- the first n of a sorted list are below the next
pub below_next : (places : List ℕ) (n j : ℕ) → ((p q : ℕ) → p < q → q < length places → slice_index places p < slice_index places q)
    → n < length places → Contains (take n places) j → j < get_or places n 0
below_next places n j sorted there within =
    let before : within.0 < n = omega (arith, within.1, length-take n places) in
    let is : get_or places within.0 j ≡ j = sym (get_or-take n places within.0 j before) ∙ within.2 in
    let zero_default : get_or places within.0 j ≡ get_or places within.0 0 = get_or_default_zero places within.0 j (omega (arith, before, there)) in
    omega (arith, is, zero_default, sorted within.0 n before there)

-- ---- after what grew all but alignments are right
grown_no_alignment : (sizes : List ℕ) (i : ℕ) (item : Item) → is_alignment (grown sizes i item) ≡ is_alignment item
grown_no_alignment sizes i (Fixed size) = refl
grown_no_alignment sizes i (Short size near target) =
    elim (cases_Bool (is_in_reach (displacement sizes i target))) [
      | inl reach ↦ ap is_alignment (cond-true (is_in_reach (displacement sizes i target)) (Short size near target) (Near near target) reach)
      | inr far ↦ ap is_alignment (cond-false (is_in_reach (displacement sizes i target)) (Short size near target) (Near near target) far)
    ]
grown_no_alignment sizes i (Near size target) = refl
grown_no_alignment sizes i (Align power max) = refl

right_at : (before : List Item) (places sizes : List ℕ) (j : ℕ) (item : Item) (entry : Option Item) → HasUnfit before places
    → IsSetAt (next_round before) places (sizes_of before) sizes → slice_get before j ≡ entry → slice_get (next_round before) j ≡ Some item
    → is_alignment item ≡ false → slice_index sizes j ≡ size_at 0 item
right_at before places sizes j item None all so_far was is no_alignment =
    let none : None ≡ Some item = sym (entry_of_next before j ∙ ap (option_map (grown (sizes_of before) j)) was) ∙ is in
    cc
right_at before places sizes j item (Some old) all so_far was is no_alignment =
    let some : Some (grown (sizes_of before) j old) ≡ Some item = sym (entry_of_next before j ∙ ap (option_map (grown (sizes_of before) j)) was) ∙ is in
    let form : grown (sizes_of before) j old ≡ item = cc in
    elim (cases_Bool (fits (sizes_of before) j old)) [
      | inl fit ↦
          (elim (so_far.others j) [
            | inl stays ↦
                (let same : old ≡ item = sym (fit_stays (sizes_of before) j old fit) ∙ form in
                stays ∙ size_of_entry before j old was ∙ ap (size_at (offset_of (sizes_of before) j)) same
                ∙ unaligned item (offset_of (sizes_of before) j) 0 no_alignment)
            | inr within ↦ so_far.set j item within is
          ])
      | inr far ↦ so_far.set j item (all j (old, was, far)) is
    ]

pub right_but : (before : List Item) (places sizes : List ℕ) → HasUnfit before places → IsSetAt (next_round before) places (sizes_of before) sizes
    → AreRightBut (next_round before) sizes
right_but before places sizes all so_far =
    record {
      long = so_far.long ∙ length-sizes_of before ∙ sym (length-next_round before);
      fixed = λ j item is no_alignment. right_at before places sizes j item (slice_get before j) all so_far refl is no_alignment;
    }

-- a change of all that grew, and then of all that `changed` has
pub stays_but_all : (places changed before between after : List ℕ) → StaysBut places before between → ((j : ℕ) → Contains places j → Contains changed j)
    → StaysBut changed between after → StaysBut changed before after
stays_but_all places changed before between after one kept two j =
    elim (two j) [
      | inl stays ↦
          (elim (one j) [
            | inl stayed ↦ inl (stays ∙ stayed)
            | inr within ↦ inr (kept j within)
          ])
      | inr within ↦ inr within
    ]

-- ---- alignments stay
next_alignment : (before : List Item) (i : ℕ) (item : Item) (entry : Option Item) → slice_get before i ≡ entry → slice_get (next_round before) i ≡ Some item
    → is_alignment item ≡ true → (old : Item) × (slice_get before i ≡ Some old) × (is_alignment old ≡ true)
next_alignment before i item None was is alignment =
    let none : None ≡ Some item = sym (entry_of_next before i ∙ ap (option_map (grown (sizes_of before) i)) was) ∙ is in
    cc
next_alignment before i item (Some old) was is alignment =
    let some : Some (grown (sizes_of before) i old) ≡ Some item = sym (entry_of_next before i ∙ ap (option_map (grown (sizes_of before) i)) was) ∙ is in
    let form : grown (sizes_of before) i old ≡ item = cc in
    (old, was, sym (grown_no_alignment (sizes_of before) i old) ∙ ap is_alignment form ∙ alignment)

pub alignments_stay : (before : List Item) (places : List ℕ) → AreAlignments before places → AreAlignments (next_round before) places
alignments_stay before places are =
    record {
      there = subst (λ n. All (λ i. i < n) places) (sym (length-next_round before)) are.there;
      sorted = are.sorted;
      all = λ i item is alignment. (let old = next_alignment before i item (slice_get before i) refl is alignment in are.all i old.0 old.1 old.2);
    }

pub no_alignments : AreAlignments [] []
no_alignments =
    record {
      there = All-nil (λ i. i < 0);
      sorted = λ p q less within. absurd (omega (arith, within));
      all = λ i item is. cc;
    }

-- one entry more
wider : (n m : ℕ) (places : List ℕ) → n ≤ m → All (λ i. i < n) places → All (λ i. i < m) places
wider n m places ordered below = λ k d within. (let less = below k d within in omega (arith, less, ordered))

entry_of_push : (items : List Item) (item : Item) (i : ℕ) (entry : Item) → slice_get (items ++ item ∷ []) i ≡ Some entry
    → (slice_get items i ≡ Some entry) ⊎ ((i ≡ length items) × (item ≡ entry))
entry_of_push [] item zero entry is = let e : item ≡ entry = cc in inr (refl, e)
entry_of_push [] item (suc i) entry is = cc
entry_of_push (first ∷ items) item zero entry is = inl is
entry_of_push (first ∷ items) item (suc i) entry is =
    elim (entry_of_push items item i entry is) [
      | inl earlier ↦ inl earlier
      | inr last ↦ inr (ap suc last.0, last.1)
    ]

pub alignment_over : (items : List Item) (places : List ℕ) (item : Item) → AreAlignments items places → is_alignment item ≡ false
    → AreAlignments (items ++ item ∷ []) places
alignment_over items places item are no_alignment =
    record {
      there = wider (length items) (length (items ++ item ∷ [])) places (omega (arith, length-append items (item ∷ []))) are.there;
      sorted = are.sorted;
      all = λ i entry is alignment. elim (entry_of_push items item i entry is) [
        | inl earlier ↦ are.all i entry earlier alignment
        | inr last ↦ absurd (both_ways (is_alignment item) no_alignment (ap is_alignment last.1 ∙ alignment))
      ];
    }

pub alignment_on : (items : List Item) (places : List ℕ) (item : Item) → AreAlignments items places → AreAlignments (items ++ item ∷ []) (places ++ length items ∷ [])
alignment_on items places item are =
    record {
      there =
          All-push (λ i. i < length (items ++ item ∷ [])) places (length items)
          (wider (length items) (length (items ++ item ∷ [])) places (omega (arith, length-append items (item ∷ []))) are.there)
          (omega (arith, length-append items (item ∷ [])));
      sorted = λ p q less within. elim (cases_eq q (length places)) [
        | inl last ↦
            (let p_there : p < length places = omega (arith, less, last) in
            omega (arith, less, last, get_or_append_left places (length items ∷ []) 0 p p_there, ap (λ n. get_or (places ++ length items ∷ []) n 0) last, get_or-append_seam places (length items) [] 0, are.there p 0 p_there))
        | inr earlier ↦
            (let q_there : q < length places = omega (arith, within, earlier, length-append places (length items ∷ [])) in
            omega (
              arith,
              get_or_append_left places (length items ∷ []) 0 p (omega (arith, less, q_there)),
              get_or_append_left places (length items ∷ []) 0 q q_there,
              are.sorted p q less q_there,
            ))
      ];
      all = λ i entry is alignment. elim (entry_of_push items item i entry is) [
        | inl earlier ↦ Contains-append_left places (length items ∷ []) i (are.all i entry earlier alignment)
        | inr last ↦ subst (Contains (places ++ length items ∷ [])) (sym last.0) (Contains-push places (length items))
      ];
    }

pub not_alignment : (item : Item) → ((power : ℕ) (max : Option ℕ) → item ≡ Align power max → ⊥) → is_alignment item ≡ false
not_alignment (Fixed size) no_alignment = refl
not_alignment (Short size near target) no_alignment = refl
not_alignment (Near size target) no_alignment = refl
not_alignment (Align power max) no_alignment = absurd (no_alignment power max refl)

pub alignment_over_at : (items : List Item) (places : List ℕ) (i : ℕ) → i < length items → AreAlignments (take i items) places
    → is_alignment (get_or items i (Fixed 0)) ≡ false → AreAlignments (take (i + 1) items) places
alignment_over_at items places i there are no_alignment =
    subst (λ xs. AreAlignments xs places) (sym (take_more items i (Fixed 0) there))
    (alignment_over (take i items) places (get_or items i (Fixed 0)) are no_alignment)

pub alignment_on_at : (items : List Item) (places : List ℕ) (i : ℕ) → i < length items → AreAlignments (take i items) places
    → AreAlignments (take (i + 1) items) (places ++ i ∷ [])
alignment_on_at items places i there are =
    let long : length (take i items) ≡ i = omega (arith, length-take i items, there) in
    subst (λ xs. AreAlignments xs (places ++ i ∷ [])) (sym (take_more items i (Fixed 0) there))
    (subst (λ n. AreAlignments (take i items ++ get_or items i (Fixed 0) ∷ []) (places ++ n ∷ [])) long
    (alignment_on (take i items) places (get_or items i (Fixed 0)) are))

-- ---- what a round is handed
pub next_of : (before items : List Item) (sizes places : List ℕ) → sizes ≡ sizes_of before → items ≡ next_round before → HasUnfit before places
    → All (IsUnfit before) places → IsNextOf sizes items places
next_of before items sizes places were next all each =
    record {
      before = before;
      sizes_were = were;
      next = next;
      all = all;
      there = λ k d within.
          (let unfit = each k d within in
          let inside = slice_get_within before (get_or places k d) unfit.0 unfit.1 in
          omega (arith, inside, ap length next, length-next_round before));
    }
