-- A round that is under way.
use Rattle.std.proofs.Common.{◌≡◌, ◌++◌, ◌<◌, ◌+◌, ℕ, zero, suc, true, false, List, [], ◌∷◌, length, take, drop, get_or, inl, inr, arith, ap, ◌∙◌, sym, refl, subst}
use Rattle.std.specs.Prelude.{◌⊎◌, ◌&&◌, if◌then◌else◌, Option, Some, None, All, Contains, option_map, slice_get}
use Rattle.std.proofs.Math.ListN.{set}
use Rattle.std.proofs.lemmas.Bool.{both_ways, and_parts, cases_Bool, cases_order, cond-true, cond-false}
use Rattle.std.proofs.lemmas.List.{length-set, take-append-le, take_all}
use Rattle.std.proofs.lemmas.Option.{slice_get_within}
use Rattle.std.proofs.lemmas.List.Elements.{All-nil, All-push, All-get_or, Contains-push, Contains-push_cases, Contains-append_left}
use Rattle.relaxer.specs.declared.item.Item.{Item}
use Rattle.relaxer.specs.declared.item.Item.TheVariants.{Fixed, Short, Near, Align}
use Rattle.relaxer.specs.Layout.{sizes_of, displacement, is_in_reach, fits, fit_from, AllFit, grown, next_round}
use Rattle.relaxer.specs.walks.Growth.{IsUnfit, HasUnfit}
use Rattle.relaxer.proofs.Rounds.{fit_stays}
use Rattle.relaxer.proofs.Changes.{entry_of_next, length-next_round}

-- ---- elements after a change
pub get_set_same : {A : Type 0} → (xs : List A) (i : ℕ) (x : A) → i < length xs → slice_get (set xs i x) i ≡ Some x
get_set_same [] i x there = absurd (omega (arith, there))
get_set_same (y ∷ ys) zero x there = refl
get_set_same (y ∷ ys) (suc i) x there = get_set_same ys i x (omega (arith, there))

pub get_set_other : {A : Type 0} → (xs : List A) (i j : ℕ) (x : A) → (j ≡ i → ⊥) → slice_get (set xs i x) j ≡ slice_get xs j
get_set_other [] i j x other = refl
get_set_other (y ∷ ys) zero zero x other = absurd (other refl)
get_set_other (y ∷ ys) zero (suc j) x other = refl
get_set_other (y ∷ ys) (suc i) zero x other = refl
get_set_other (y ∷ ys) (suc i) (suc j) x other = get_set_other ys i j x (λ e. other (ap suc e))

pub same_elements : {A : Type 0} → (xs ys : List A) → ((j : ℕ) → slice_get xs j ≡ slice_get ys j) → xs ≡ ys
same_elements [] [] same = refl
same_elements [] (y ∷ ys) same = let e = same 0 in cc
same_elements (x ∷ xs) [] same = let e = same 0 in cc
same_elements (x ∷ xs) (y ∷ ys) same =
    let first : Some x ≡ Some y = same 0 in
    let is : x ≡ y = cc in
    ap (λ z. z ∷ xs) is ∙ ap (λ zs. y ∷ zs) (same_elements xs ys (λ j. same (suc j)))

-- ---- what has grown fits
grown_fits : (sizes : List ℕ) (i : ℕ) (item : Item) → fits sizes i (grown sizes i item) ≡ true
grown_fits sizes i (Fixed size) = refl
grown_fits sizes i (Short size near target) =
    elim (cases_Bool (is_in_reach (displacement sizes i target))) [
      | inl reach ↦ ap (fits sizes i) (cond-true (is_in_reach (displacement sizes i target)) (Short size near target) (Near near target) reach) ∙ reach
      | inr far ↦ ap (fits sizes i) (cond-false (is_in_reach (displacement sizes i target)) (Short size near target) (Near near target) far)
    ]
grown_fits sizes i (Near size target) = refl
grown_fits sizes i (Align power max) = refl

next_fits : (sizes : List ℕ) (i : ℕ) (before : Option Item) (item : Item) → option_map (grown sizes i) before ≡ Some item → fits sizes i item ≡ true
next_fits sizes i None item is = cc
next_fits sizes i (Some old) item is = let same : grown sizes i old ≡ item = cc in ap (fits sizes i) (sym same) ∙ grown_fits sizes i old

-- ---- the entries of the round before, of which the suspects so far have grown where they didn't fit
pub record Grew (old : List Item) (suspects : List ℕ) (now : List Item) (places : List ℕ) : Type 0 where
  pub long : length now ≡ length old
  pub each : (j : ℕ) → (slice_get now j ≡ slice_get old j) ⊎ ((slice_get now j ≡ slice_get (next_round old) j) × Contains places j)
  pub done : (j : ℕ) → Contains suspects j → IsUnfit old j → (slice_get now j ≡ slice_get (next_round old) j) × Contains places j
  pub unfit : All (IsUnfit old) places

pub grew_none : (old : List Item) → Grew old [] old []
grew_none old =
    record {
      long = refl;
      each = λ j. inl refl;
      done = λ j within unfit. absurd (omega (arith, within.1));
      unfit = All-nil (IsUnfit old);
    }

not_unfit : (old : List Item) (i : ℕ) (item : Item) → slice_get old i ≡ Some item → fits (sizes_of old) i item ≡ true → IsUnfit old i → ⊥
not_unfit old i item is fit unfit =
    let both : Some unfit.0 ≡ Some item = sym unfit.1 ∙ is in
    let same : unfit.0 ≡ item = cc in
    both_ways (fits (sizes_of old) i item) (ap (fits (sizes_of old) i) (sym same) ∙ unfit.2) fit

pub grew_over : (old : List Item) (suspects : List ℕ) (now : List Item) (places : List ℕ) (i : ℕ) (item : Item) → Grew old suspects now places
    → slice_get now i ≡ Some item → fits (sizes_of old) i item ≡ true → Grew old (suspects ++ i ∷ []) now places
grew_over old suspects now places i item grew is fit =
    record {
      long = grew.long;
      each = grew.each;
      done = λ j within unfit. elim (Contains-push_cases suspects i j within) [
        | inl earlier ↦ grew.done j earlier unfit
        | inr here ↦
            (elim (grew.each j) [
              | inl stays ↦
                  absurd (not_unfit old i item (subst (λ k. slice_get old k ≡ Some item) (sym here) (sym stays ∙ subst (λ k. slice_get now k ≡ Some item) here is)) fit
                  (subst (IsUnfit old) (sym here) unfit))
              | inr has ↦ has
            ])
      ];
      unfit = grew.unfit;
    }

pub grew_on : (old : List Item) (suspects : List ℕ) (now : List Item) (places : List ℕ) (i : ℕ) (item : Item) → Grew old suspects now places
    → i < length now → slice_get now i ≡ Some item → fits (sizes_of old) i item ≡ false
    → Grew old (suspects ++ i ∷ []) (set now i (grown (sizes_of old) i item)) (places ++ i ∷ [])
grew_on old suspects now places i item grew there is far =
    let before : slice_get old i ≡ Some item =
    (elim (grew.each i) [
      | inl stays ↦ sym stays ∙ is
      | inr has ↦
          absurd (both_ways (fits (sizes_of old) i item) far
          (next_fits (sizes_of old) i (slice_get old i) item (sym (entry_of_next old i) ∙ sym has.0 ∙ is)))
    ]) in
    let next : slice_get (next_round old) i ≡ Some (grown (sizes_of old) i item) = entry_of_next old i ∙ ap (option_map (grown (sizes_of old) i)) before in
    let now_is : slice_get (set now i (grown (sizes_of old) i item)) i ≡ slice_get (next_round old) i =
    get_set_same now i (grown (sizes_of old) i item) there ∙ sym next in
    let here : (slice_get (set now i (grown (sizes_of old) i item)) i ≡ slice_get (next_round old) i) × Contains (places ++ i ∷ []) i =
    (now_is, Contains-push places i) in
    let keeps : (j : ℕ) → (slice_get now j ≡ slice_get (next_round old) j) × Contains places j
    → (slice_get (set now i (grown (sizes_of old) i item)) j ≡ slice_get (next_round old) j) × Contains (places ++ i ∷ []) j =
    (λ j has. elim (cases_order j i) [
      | inl same ↦ subst (λ k. (slice_get (set now i (grown (sizes_of old) i item)) k ≡ slice_get (next_round old) k) × Contains (places ++ i ∷ []) k) (sym same) here
      | inr (inl less) ↦ (get_set_other now i j (grown (sizes_of old) i item) (λ e. omega (arith, less, e)) ∙ has.0, Contains-append_left places (i ∷ []) j has.1)
      | inr (inr more) ↦ (get_set_other now i j (grown (sizes_of old) i item) (λ e. omega (arith, more, e)) ∙ has.0, Contains-append_left places (i ∷ []) j has.1)
    ]) in
    record {
      long = length-set now i (grown (sizes_of old) i item) ∙ grew.long;
      each = λ j. elim (grew.each j) [
        | inl stays ↦
            (elim (cases_order j i) [
              | inl same ↦ inr (subst (λ k. (slice_get (set now i (grown (sizes_of old) i item)) k ≡ slice_get (next_round old) k) × Contains (places ++ i ∷ []) k) (sym same) here)
              | inr (inl less) ↦ inl (get_set_other now i j (grown (sizes_of old) i item) (λ e. omega (arith, less, e)) ∙ stays)
              | inr (inr more) ↦ inl (get_set_other now i j (grown (sizes_of old) i item) (λ e. omega (arith, more, e)) ∙ stays)
            ])
        | inr has ↦ inr (keeps j has)
      ];
      done = λ j within unfit. elim (Contains-push_cases suspects i j within) [
        | inl earlier ↦ keeps j (grew.done j earlier unfit)
        | inr last ↦ subst (λ k. (slice_get (set now i (grown (sizes_of old) i item)) k ≡ slice_get (next_round old) k) × Contains (places ++ i ∷ []) k) last here
      ];
      unfit = All-push (IsUnfit old) places i grew.unfit (item, before, far);
    }

-- ---- once all suspects are done
pub grew_all : (old : List Item) (suspects : List ℕ) (now : List Item) (places : List ℕ) → HasUnfit old suspects → Grew old suspects now places → HasUnfit old places
grew_all old suspects now places all grew i unfit = (grew.done i (all i unfit) unfit).1

grows_or_stays : (old : List Item) (suspects : List ℕ) (now : List Item) (places : List ℕ) (j : ℕ) (entry : Option Item) → HasUnfit old suspects → Grew old suspects now places
    → slice_get old j ≡ entry → slice_get now j ≡ slice_get old j → slice_get now j ≡ slice_get (next_round old) j
grows_or_stays old suspects now places j None all grew is stays = stays ∙ is ∙ sym (entry_of_next old j ∙ ap (option_map (grown (sizes_of old) j)) is)
grows_or_stays old suspects now places j (Some item) all grew is stays =
    elim (cases_Bool (fits (sizes_of old) j item)) [
      | inl fit ↦ stays ∙ is ∙ sym (entry_of_next old j ∙ ap (option_map (grown (sizes_of old) j)) is ∙ ap Some (fit_stays (sizes_of old) j item fit))
      | inr far ↦ (grew.done j (all j (item, is, far)) (item, is, far)).0
    ]

pub grew_next : (old : List Item) (suspects : List ℕ) (now : List Item) (places : List ℕ) → HasUnfit old suspects → Grew old suspects now places
    → now ≡ next_round old
grew_next old suspects now places all grew =
    same_elements now (next_round old)
    (λ j. elim (grew.each j) [
      | inl stays ↦ grows_or_stays old suspects now places j (slice_get old j) all grew refl stays
      | inr has ↦ has.0
    ])

-- ---- where nothing has grown all fit
fit_from_each : (sizes : List ℕ) (i : ℕ) (items : List Item) → ((k : ℕ) (item : Item) → slice_get items k ≡ Some item → fits sizes (i + k) item ≡ true)
    → fit_from sizes i items ≡ true
fit_from_each sizes i [] each = refl
fit_from_each sizes i (item ∷ items) each =
    let here : i + 0 ≡ i = omega arith in
    let first : fits sizes i item ≡ true = subst (λ n. fits sizes n item ≡ true) here (each 0 item refl) in
    ap (λ b. b && fit_from sizes (i + 1) items) first
    ∙ fit_from_each sizes (i + 1) items
    (λ k later is.
    (let next : i + suc k ≡ (i + 1) + k = omega arith in
    subst (λ n. fits sizes n later ≡ true) next (each (suc k) later is)))

each_of_fit_from : (sizes : List ℕ) (i : ℕ) (items : List Item) → fit_from sizes i items ≡ true → (k : ℕ) (item : Item) → slice_get items k ≡ Some item
    → fits sizes (i + k) item ≡ true
each_of_fit_from sizes i [] fit k item is = cc
each_of_fit_from sizes i (first ∷ items) fit zero item is =
    let here : i ≡ i + 0 = omega arith in
    let same : first ≡ item = cc in
    subst (λ n. fits sizes n item ≡ true) here (subst (λ x. fits sizes i x ≡ true) same (and_parts (fits sizes i first) (fit_from sizes (i + 1) items) fit).0)
each_of_fit_from sizes i (first ∷ items) fit (suc k) item is =
    let next : (i + 1) + k ≡ i + suc k = omega arith in
    subst (λ n. fits sizes n item ≡ true) next
    (each_of_fit_from sizes (i + 1) items (and_parts (fits sizes i first) (fit_from sizes (i + 1) items) fit).1 k item is)

pub all_fit : (items : List Item) → ((i : ℕ) → IsUnfit items i → ⊥) → AllFit items
all_fit items none =
    fit_from_each (sizes_of items) 0 items
    (λ k item is. elim (cases_Bool (fits (sizes_of items) (0 + k) item)) [
      | inl fit ↦ fit
      | inr far ↦
          (let here : 0 + k ≡ k = omega arith in
          absurd (none k (item, is, subst (λ n. fits (sizes_of items) n item ≡ false) here far)))
    ])

pub none_fit : (items : List Item) (i : ℕ) → IsUnfit items i → AllFit items → ⊥
none_fit items i unfit fit =
    let here : 0 + i ≡ i = omega arith in
    both_ways (fits (sizes_of items) i unfit.0) unfit.2
    (subst (λ n. fits (sizes_of items) n unfit.0 ≡ true) here (each_of_fit_from (sizes_of items) 0 items fit i unfit.0 unfit.1))

-- ---- a step, by what `near_form` answers
pub grew_over_by : (old : List Item) (suspects : List ℕ) (now : List Item) (places sizes : List ℕ) (i : ℕ) (item : Item) (answer : Option Item)
    → Grew old suspects now places → sizes ≡ sizes_of old → slice_get now i ≡ Some item
    → answer ≡ (if fits sizes i item then None else Some (grown sizes i item)) → answer ≡ None → Grew old (suspects ++ i ∷ []) now places
grew_over_by old suspects now places sizes i item answer grew same is answers none =
    grew_over old suspects now places i item grew is
    (elim (cases_Bool (fits sizes i item)) [
      | inl fit ↦ subst (λ s. fits s i item ≡ true) same fit
      | inr far ↦
          (let some : None ≡ Some (grown sizes i item) = sym none ∙ answers ∙ cond-false (fits sizes i item) None (Some (grown sizes i item)) far in
          cc)
    ])

pub grew_on_by : (old : List Item) (suspects : List ℕ) (now : List Item) (places sizes : List ℕ) (i : ℕ) (item near : Item) (answer : Option Item)
    → Grew old suspects now places → sizes ≡ sizes_of old → i < length now → slice_get now i ≡ Some item
    → answer ≡ (if fits sizes i item then None else Some (grown sizes i item)) → answer ≡ Some near
    → Grew old (suspects ++ i ∷ []) (set now i near) (places ++ i ∷ [])
grew_on_by old suspects now places sizes i item near answer grew same there is answers some =
    elim (cases_Bool (fits sizes i item)) [
      | inl fit ↦
          (let none : None ≡ Some near = sym (answers ∙ cond-true (fits sizes i item) None (Some (grown sizes i item)) fit) ∙ some in
          cc)
      | inr far ↦
          (let both : Some (grown sizes i item) ≡ Some near = sym (answers ∙ cond-false (fits sizes i item) None (Some (grown sizes i item)) far) ∙ some in
          let form : grown sizes i item ≡ near = cc in
          subst (λ x. Grew old (suspects ++ i ∷ []) (set now i x) (places ++ i ∷ [])) (ap (λ s. grown s i item) (sym same) ∙ form)
          (grew_on old suspects now places i item grew there is (subst (λ s. fits s i item ≡ false) same far)))
    ]

-- ---- what a slice writes back to its vector
written_back : {A : Type 0} → (new old : List A) (n : ℕ) → length new ≡ n → take n (new ++ drop (length new) old) ≡ new
written_back new old n same =
    take-append-le n new (drop (length new) old) (omega (arith, same)) ∙ take_all n new (omega (arith, same))

pub next_written : (old slice new : List Item) (n : ℕ) → slice ≡ old → length old ≡ n → new ≡ next_round slice
    → take n (new ++ drop (length new) old) ≡ next_round old
next_written old slice new n value long next =
    let is : new ≡ next_round old = next ∙ ap next_round value in
    written_back new old n (ap length is ∙ length-next_round old ∙ long) ∙ is

-- ---- lists of all entries
pub with_next : (places : List ℕ) (n : ℕ) → ((i : ℕ) → i < n → Contains places i) → (i : ℕ) → i < n + 1 → Contains (places ++ n ∷ []) i
with_next places n every i below =
    elim (cases_order i n) [
      | inl same ↦ subst (Contains (places ++ n ∷ [])) (sym same) (Contains-push places n)
      | inr (inl less) ↦ Contains-append_left places (n ∷ []) i (every i less)
      | inr (inr more) ↦ absurd (omega (arith, below, more))
    ]

pub every_unfit : (items : List Item) (places : List ℕ) → ((i : ℕ) → i < length items → Contains places i) → HasUnfit items places
every_unfit items places every i unfit = every i (slice_get_within items i unfit.0 unfit.1)

pub none_grew : (items : List Item) (places : List ℕ) → HasUnfit items places → length places ≡ 0 → AllFit items
none_grew items places all none = all_fit items (λ i unfit. (let within = (all i unfit).1 in omega (arith, within, none)))

pub some_grew : (items : List Item) (places : List ℕ) → All (IsUnfit items) places → 0 < length places → AllFit items → ⊥
some_grew items places each some = none_fit items (get_or places 0 0) (All-get_or (IsUnfit items) places 0 0 some each)
