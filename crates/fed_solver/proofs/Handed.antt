-- What a work list has after places were given bits.
use Rattle.std.proofs.Common.{◌≡◌, ℕ, ◌+◌, ◌<◌, ◌≤◌, ◌^◌, Bool, true, false, not, ◌||◌, ◌&&◌, cond, List, [], ◌∷◌, length, set, get_or, fold, ⊎_elim, refl, sym, ap, ◌∙◌, arith, bit_or, length-append}
use Rattle.std.specs.Prelude.{nat_eq}
use Rattle.std.specs.List.{All, sum_by}
use Rattle.std.proofs.lemmas.Bool.{both_ways, not-true, not-false, eqb-true, eqb-false, eq-eqb, cases_eq, and_parts, and_cases, or_left, or_right}
use Rattle.std.proofs.lemmas.Nat.{le_or_l, or_lt}
use Rattle.std.proofs.lemmas.Grind.{get_or-set_at}
use Rattle.std.proofs.lemmas.List.{length-set, get_or-set_other}
use Rattle.std.proofs.lemmas.List.Elements.{All-get_or, All-head, All-tail, All-set, All-push}
use Rattle.std.proofs.lemmas.List.Folds.{list_any-append}
use Rattle.std.proofs.lemmas.List.Sums.{sum_by-set}
use Rattle.blocks_cfg.specs.Fed.{is_among}
use Rattle.fed_solver.specs.Graph.{has_bit}
use Rattle.fed_solver.specs.walks.Walk.{Walk, waits, handed_to, handed, IsWalk}
use Rattle.fed_solver.proofs.Bits.{bit, bit-or}

abbrev pub total : List ℕ → ℕ
total rows = sum_by (λ r. r) rows

-- the places ts were given bits
pub record IsGiven (give : ℕ) (ts : List ℕ) (v w : Walk) : Type 0 where
  pub bits : (b p : ℕ) → has_bit w.rows b p ≡ (has_bit v.rows b p || (is_among p ts && bit give b))
  pub waiting : (p : ℕ) → waits w p ≡ false → (waits v p ≡ false) × ((b : ℕ) → has_bit w.rows b p ≡ has_bit v.rows b p)
  pub marked : (p : ℕ) → waits v p ≡ true → waits w p ≡ true
  pub paid : total v.rows + length w.list ≤ total w.rows + length v.list

or_false : (x : Bool) → (x || false) ≡ x
or_false true = refl
or_false false = refl

regroup : (x e r g : Bool) → ((x || (e && g)) || (r && g)) ≡ (x || ((e || r) && g))
regroup true e r g = refl
regroup false true true true = refl
regroup false true true false = refl
regroup false true false true = refl
regroup false true false false = refl
regroup false false r g = refl

given_none : (give : ℕ) (v : Walk) → IsGiven give [] v v
given_none give v =
    record { bits = λ b p. sym (or_false (has_bit v.rows b p)); waiting = λ p h. (h, λ b. refl); marked = λ p h. h; paid = omega arith }

-- ---- one place

module _ (give : ℕ) (v : Walk) (q : ℕ) (row_there : q < length v.rows) (mark_there : q < length v.listed) where
  abbrev row : ℕ
  row = get_or v.rows q 0

  abbrev grown : ℕ
  grown = bit_or row give

  abbrev new : Bool
  new = not (nat_eq grown row) && not (waits v q)

  bits_one : (b p : ℕ) → has_bit (set v.rows q grown) b p ≡ (has_bit v.rows b p || (nat_eq p q && bit give b))
  bits_one b p = by_test (nat_eq p q) refl
    where
      by_test : (t : Bool) → nat_eq p q ≡ t → has_bit (set v.rows q grown) b p ≡ (has_bit v.rows b p || (t && bit give b))
      by_test true e =
          let i : p ≡ q = eqb-true p q e in
          ap (λ r. bit r b) (get_or-set_at v.rows q p grown 0 i row_there) ∙ bit-or row give b ∙ ap (λ k. bit (get_or v.rows k 0) b || bit give b) (sym i)
      by_test false e = ap (λ r. bit r b) (get_or-set_other v.rows q p grown 0 (eqb-false p q e)) ∙ sym (or_false (has_bit v.rows b p))

  -- the place waits, or nothing was new to it or it waited already
  waiting_one : (t : Bool) → (not (nat_eq grown row) && not (waits v q)) ≡ t → (p : ℕ) → waits (handed_to grown v q t) p ≡ false
      → (waits v p ≡ false) × ((b : ℕ) → has_bit (set v.rows q grown) b p ≡ has_bit v.rows b p)
  waiting_one true e p h =
      ⊎_elim
      (λ i. absurd (both_ways (get_or (set v.listed q true) p false) h (get_or-set_at v.listed q p true false i mark_there)))
      (λ ne. (sym (get_or-set_other v.listed q p true false ne) ∙ h, λ b. ap (λ r. bit r b) (get_or-set_other v.rows q p grown 0 ne)))
      (cases_eq p q)
  waiting_one false e p h = (
    h,
    λ b. ⊎_elim
        (λ i. ap (λ r. bit r b) (get_or-set_at v.rows q p grown 0 i row_there ∙ nothing_new i ∙ ap (λ k. get_or v.rows k 0) (sym i)))
        (λ ne. ap (λ r. bit r b) (get_or-set_other v.rows q p grown 0 ne))
        (cases_eq p q),
  )
    where
      nothing_new : p ≡ q → grown ≡ row
      nothing_new i =
          ⊎_elim
          (λ f. eqb-true grown row (not-false (nat_eq grown row) f))
          (λ f. absurd (both_ways (waits v q) (ap (waits v) (sym i) ∙ h) (not-false (waits v q) f)))
          (and_cases (not (nat_eq grown row)) (not (waits v q)) e)

  marked_one : (t : Bool) (p : ℕ) → waits v p ≡ true → waits (handed_to grown v q t) p ≡ true
  marked_one true p h =
      ⊎_elim
      (λ i. get_or-set_at v.listed q p true false i mark_there)
      (λ ne. get_or-set_other v.listed q p true false ne ∙ h)
      (cases_eq p q)
  marked_one false p h = h

  paid_one : (t : Bool) → (not (nat_eq grown row) && not (waits v q)) ≡ t → total v.rows + length (handed_to grown v q t).list ≤ total (set v.rows q grown) + length v.list
  paid_one true e =
      let ne = eqb-false grown row (not-true (nat_eq grown row) (and_parts (not (nat_eq grown row)) (not (waits v q)) e).0) in
      omega (arith, ne, sum_by-set (λ r. r) v.rows q grown 0 row_there, le_or_l row give, length-append v.list (q ∷ []))
  paid_one false e = omega (arith, sum_by-set (λ r. r) v.rows q grown 0 row_there, le_or_l row give)

  given_more : (ts : List ℕ) (w : Walk) → IsGiven give ts (handed give v q) w → IsGiven give (q ∷ ts) v w
  given_more ts w g = record {
    bits = λ b p. g.bits b p ∙ ap (λ x. x || (is_among p ts && bit give b)) (bits_one b p) ∙ regroup (has_bit v.rows b p) (nat_eq p q) (is_among p ts) (bit give b);
    waiting = λ p h. let later = g.waiting p h in let one = waiting_one new refl p later.0 in (one.0, λ b. later.1 b ∙ one.1 b);
    marked = λ p h. g.marked p (marked_one new p h);
    paid = omega (arith, g.paid, paid_one new refl);
  }

-- ---- lengths and the list stay in order

module _ (n give : ℕ) (small : give < 2 ^ 64) (v : Walk) (q : ℕ) (i : IsWalk n v) (within : q < n) where
  abbrev more : ℕ
  more = bit_or (get_or v.rows q 0) give

  words : All (λ r. r < 2 ^ 64) (set v.rows q more)
  words =
      All-set (λ r. r < 2 ^ 64) v.rows q more
      (or_lt 64 (get_or v.rows q 0) give (All-get_or (λ r. r < 2 ^ 64) v.rows q 0 (omega (arith, i.rows)) i.words) small)
      i.words

  walk_by : (t : Bool) → IsWalk n (handed_to more v q t)
  walk_by true = record {
    rows = length-set v.rows q more ∙ i.rows;
    listed = length-set v.listed q true ∙ i.listed;
    words = words;
    within = All-push (λ p. p < n) v.list q i.within within;
    waiting = λ p h. list_any-append (nat_eq p) v.list (q ∷ []) ∙ ⊎_elim
        (λ e. or_right (is_among p v.list) (nat_eq p q || false) (or_left (nat_eq p q) false (eq-eqb p q e)))
        (λ ne. or_left (is_among p v.list) (nat_eq p q || false) (i.waiting p (sym (get_or-set_other v.listed q p true false ne) ∙ h)))
        (cases_eq p q);
  }
  walk_by false =
      record { rows = length-set v.rows q more ∙ i.rows; listed = i.listed; words = words; within = i.within; waiting = i.waiting }

  walk_one : IsWalk n (handed give v q)
  walk_one = walk_by (not (nat_eq more (get_or v.rows q 0)) && not (waits v q))

module _ (n give : ℕ) (small : give < 2 ^ 64) where
  -- each of the places ts was given bits
  pub walk_all : (ts : List ℕ) (v : Walk) → IsWalk n v → All (λ p. p < n) ts → IsWalk n (fold (handed give) v ts)
  walk_all [] v i h = i
  walk_all (q ∷ ts) v i h = walk_all ts (handed give v q) (walk_one n give small v q i (All-head (λ p. p < n) q ts h)) (All-tail (λ p. p < n) q ts h)

  pub given_all : (ts : List ℕ) (v : Walk) → IsWalk n v → All (λ p. p < n) ts → IsGiven give ts v (fold (handed give) v ts)
  given_all [] v i h = given_none give v
  given_all (q ∷ ts) v i h =
      let within : q < n = All-head (λ p. p < n) q ts h in
      given_more give v q (omega (arith, i.rows)) (omega (arith, i.listed)) ts (fold (handed give) (handed give v q) ts)
      (given_all ts (handed give v q) (walk_one n give small v q i within) (All-tail (λ p. p < n) q ts h))

-- ---- lengths stay

same_length : (t : Bool) (bs : List Bool) (q : ℕ) → length (cond t (set bs q true) bs) ≡ length bs
same_length true bs q = length-set bs q true
same_length false bs q = refl

pub lengths_stay : (give : ℕ) (v : Walk) (q : ℕ) → (length (handed give v q).rows ≡ length v.rows) × (length (handed give v q).listed ≡ length v.listed)
lengths_stay give v q = (
  length-set v.rows q (bit_or (get_or v.rows q 0) give),
  same_length (not (nat_eq (bit_or (get_or v.rows q 0) give) (get_or v.rows q 0)) && not (waits v q)) v.listed q,
)
