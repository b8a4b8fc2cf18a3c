-- Rounds end.
use Rattle.std.proofs.Common.{◌≡◌, ◌<◌, ◌≤◌, ◌+◌, ◌-◌, ℕ, zero, suc, true, false, cond, List, [], ◌∷◌, inl, inr, arith, ap, ◌∙◌, sym, refl, subst}
use Rattle.std.specs.Prelude.{◌&&◌}
use Rattle.std.proofs.lemmas.Bool.{both_ways, and_parts, cases_Bool, false_from_ne_true, cond-true, cond-false, cases_order}
use Rattle.std.proofs.lemmas.List.Sums.{sum_by-cons}
use Rattle.relaxer.specs.declared.item.Item.{Item}
use Rattle.relaxer.specs.declared.item.Item.TheVariants.{Fixed, Short, Near, Align}
use Rattle.relaxer.specs.Layout.{sizes_of, displacement, is_in_reach, fits, fit_from, AllFit, grown, grown_from, next_round, round, IsLayout, HasLayout, is_short, short_count}

weight : Item → ℕ
weight item = cond (is_short item) 1 0

short_count-cons : (item : Item) (items : List Item) → short_count (item ∷ items) ≡ weight item + short_count items
unfolding weight
short_count-cons item items = sum_by-cons (λ x. cond (is_short x) 1 0) item items

-- what fits stays, and what doesn't fit is a short jump that becomes near
pub fit_stays : (sizes : List ℕ) (i : ℕ) (item : Item) → fits sizes i item ≡ true → grown sizes i item ≡ item
fit_stays sizes i (Fixed size) fit = refl
fit_stays sizes i (Short size near target) fit = cond-true (is_in_reach (displacement sizes i target)) (Short size near target) (Near near target) fit
fit_stays sizes i (Near size target) fit = refl
fit_stays sizes i (Align power max) fit = refl

unfit_grows : (sizes : List ℕ) (i : ℕ) (item : Item) → fits sizes i item ≡ false → weight (grown sizes i item) + 1 ≡ weight item
unfolding weight
unfit_grows sizes i (Fixed size) unfit = absurd (both_ways true unfit refl)
unfit_grows sizes i (Short size near target) unfit =
    ap (λ item. cond (is_short item) 1 0 + 1) (cond-false (is_in_reach (displacement sizes i target)) (Short size near target) (Near near target) unfit)
unfit_grows sizes i (Near size target) unfit = absurd (both_ways true unfit refl)
unfit_grows sizes i (Align power max) unfit = absurd (both_ways true unfit refl)

-- no round makes a jump short
short_count-grown_from : (sizes : List ℕ) (i : ℕ) (items : List Item) → short_count (grown_from sizes i items) ≤ short_count items
short_count-grown_from sizes i [] = omega arith
short_count-grown_from sizes i (item ∷ items) =
    let rest = short_count-grown_from sizes (i + 1) items in
    let after = short_count-cons (grown sizes i item) (grown_from sizes (i + 1) items) in
    let before = short_count-cons item items in
    elim (cases_Bool (fits sizes i item)) [
      | inl fit ↦ omega (arith, rest, after, before, ap weight (fit_stays sizes i item fit))
      | inr unfit ↦ omega (arith, rest, after, before, unfit_grows sizes i item unfit)
    ]

pub fit_from_stays : (sizes : List ℕ) (i : ℕ) (items : List Item) → fit_from sizes i items ≡ true → grown_from sizes i items ≡ items
fit_from_stays sizes i [] fit = refl
fit_from_stays sizes i (item ∷ items) fit =
    let both = and_parts (fits sizes i item) (fit_from sizes (i + 1) items) fit in
    ap (λ x. x ∷ grown_from sizes (i + 1) items) (fit_stays sizes i item both.0) ∙ ap (λ xs. item ∷ xs) (fit_from_stays sizes (i + 1) items both.1)

unfit_from_grows : (sizes : List ℕ) (i : ℕ) (items : List Item) → fit_from sizes i items ≡ false → short_count (grown_from sizes i items) < short_count items
unfit_from_grows sizes i [] unfit = absurd (both_ways true unfit refl)
unfit_from_grows sizes i (item ∷ items) unfit =
    let after = short_count-cons (grown sizes i item) (grown_from sizes (i + 1) items) in
    let before = short_count-cons item items in
    elim (cases_Bool (fits sizes i item)) [
      | inl fit ↦
          (let later : fit_from sizes (i + 1) items ≡ false = ap (λ b. b && fit_from sizes (i + 1) items) (sym fit) ∙ unfit in
          omega (arith, after, before, ap weight (fit_stays sizes i item fit), unfit_from_grows sizes (i + 1) items later))
      | inr far ↦ omega (arith, after, before, unfit_grows sizes i item far, short_count-grown_from sizes (i + 1) items)
    ]

pub last_round_stays : (items : List Item) → AllFit items → next_round items ≡ items
last_round_stays items fit = fit_from_stays (sizes_of items) 0 items fit

pub round_grows : (items : List Item) → (AllFit items → ⊥) → short_count (next_round items) < short_count items
round_grows items unfit = unfit_from_grows (sizes_of items) 0 items (false_from_ne_true (fit_from (sizes_of items) 0 items) unfit)

-- rounds from one up to which none fits, with as many to come as it has short jumps
rounds_on : (items : List Item) (left n : ℕ) → short_count (round n items) ≤ left → n + short_count (round n items) ≤ short_count items
    → ((m : ℕ) → m < n → AllFit (round m items) → ⊥) → (last : ℕ) × (last ≤ short_count items) × IsLayout items last
rounds_on items zero n few within before =
    elim (cases_Bool (fit_from (sizes_of (round n items)) 0 (round n items))) [
      | inl fit ↦ (n, omega (arith, within), record { fit = fit; first = before })
      | inr unfit ↦ absurd (omega (arith, few, unfit_from_grows (sizes_of (round n items)) 0 (round n items) unfit))
    ]
rounds_on items (suc left) n few within before =
    elim (cases_Bool (fit_from (sizes_of (round n items)) 0 (round n items))) [
      | inl fit ↦ (n, omega (arith, within), record { fit = fit; first = before })
      | inr unfit ↦
          (let fewer : short_count (round (suc n) items) < short_count (round n items) = unfit_from_grows (sizes_of (round n items)) 0 (round n items) unfit in
          rounds_on items left (suc n) (omega (arith, few, fewer)) (omega (arith, within, fewer))
          (λ m below fit. elim (cases_order m n) [
            | inl here ↦ both_ways (fit_from (sizes_of (round n items)) 0 (round n items)) unfit (subst (λ k. AllFit (round k items)) here fit)
            | inr (inl earlier) ↦ before m earlier fit
            | inr (inr later) ↦ absurd (omega (arith, below, later))
          ]))
    ]

pub rounds_end : (items : List Item) → (last : ℕ) × (last ≤ short_count items) × IsLayout items last
rounds_end items = rounds_on items (short_count items) 0 (omega arith) (omega arith) (λ m below. absurd (omega (arith, below)))

pub one_layout : (items : List Item) (m n : ℕ) → IsLayout items m → IsLayout items n → m ≡ n
one_layout items m n one other =
    elim (cases_order m n) [
      | inl same ↦ same
      | inr (inl earlier) ↦ absurd (other.first m earlier one.fit)
      | inr (inr later) ↦ absurd (one.first n later other.fit)
    ]

-- once all fit, all later rounds are the same
all_fit_later : (items : List Item) (n : ℕ) → AllFit (round n items) → AllFit (round (suc n) items)
all_fit_later items n fit = subst AllFit (sym (last_round_stays (round n items) fit)) fit

fit_by : (items : List Item) (m k : ℕ) → AllFit (round m items) → AllFit (round (k + m) items)
fit_by items m zero fit = let here : m ≡ zero + m = omega arith in subst (λ n. AllFit (round n items)) here fit
fit_by items m (suc k) fit =
    let next : suc (k + m) ≡ suc k + m = omega arith in
    subst (λ n. AllFit (round n items)) next (all_fit_later items (k + m) (fit_by items m k fit))

-- so a layout is told by its last two rounds
pub layout_by : (items : List Item) (n : ℕ) → fit_from (sizes_of (round n items)) 0 (round n items) ≡ false → AllFit (round (suc n) items) → IsLayout items (suc n)
layout_by items n unfit fit =
    record {
      fit = fit;
      first = λ m below early.
          (let later : (n - m) + m ≡ n = omega (arith, below) in
          both_ways (fit_from (sizes_of (round n items)) 0 (round n items)) unfit (subst (λ k. AllFit (round k items)) later (fit_by items m (n - m) early)));
    }

pub layout_at_once : (items : List Item) → AllFit items → IsLayout items 0
layout_at_once items fit = record { fit = fit; first = λ m below. absurd (omega (arith, below)) }

-- ---- a code as it is after some rounds, of which none is the last
pub record IsRound (items now : List Item) : Type 0 where
  pub count : ℕ
  pub is : now ≡ round count items
  pub before : (m : ℕ) → m < count → AllFit (round m items) → ⊥

pub first_round : (items : List Item) → IsRound items items
first_round items = record { count = 0; is = refl; before = λ m below. absurd (omega (arith, below)) }

pub round_after : (items now : List Item) → IsRound items now → (AllFit now → ⊥) → IsRound items (next_round now)
round_after items now this unfit =
    record {
      count = suc this.count;
      is = ap next_round this.is;
      before = λ m below fit. elim (cases_order m this.count) [
        | inl here ↦ unfit (subst AllFit (sym this.is) (subst (λ k. AllFit (round k items)) here fit))
        | inr (inl earlier) ↦ this.before m earlier fit
        | inr (inr later) ↦ absurd (omega (arith, below, later))
      ];
    }

pub last_round : (items now : List Item) (sizes : List ℕ) → IsRound items now → AllFit now → sizes ≡ sizes_of now → HasLayout items now sizes
last_round items now sizes this fit offsets =
    record {
      rounds = this.count;
      last = record { fit = subst AllFit this.is fit; first = this.before };
      entries = this.is;
      offsets = offsets;
    }
