-- The beginning, the step and the end of a work list.
use Rattle.std.proofs.Common.{◌≡◌, ℕ, ◌+◌, ◌-◌, ◌*◌, ◌<◌, ◌≤◌, ◌^◌, true, false, ◌||◌, ◌&&◌, List, [], ◌∷◌, length, set, get_or, drop, replicate, fold, Some, ⊎_elim, inl, inr, refl, sym, ap, ◌∙◌, subst, arith, bit_and, length-append}
use Rattle.std.specs.Prelude.{nat_eq}
use Rattle.std.specs.List.{All}
use Rattle.std.proofs.lemmas.Bool.{both_ways, eqb-true, cases_eq, cases_lt, and_parts, and_from, or_cases, or_left, or_right, false_from_ne_true}
use Rattle.std.proofs.lemmas.Nat.{and_le_l}
use Rattle.std.proofs.lemmas.Nat.Bits.{bit_at-zero}
use Rattle.std.proofs.lemmas.Grind.{get_or-set_at}
use Rattle.std.proofs.lemmas.List.{length-set, length-replicate, get_or-replicate, get_or-set_other}
use Rattle.std.proofs.lemmas.List.Elements.{All-get_or, All-pop, All-take, All-drop, All-weaker}
use Rattle.std.proofs.lemmas.List.Folds.{list_any-append}
use Rattle.std.proofs.lemmas.List.Sums.{sum_by-le}
use Rattle.blocks_cfg.specs.Fed.{begun, emitted, IsClosed, IsStep, GivesMore, is_among}
use Rattle.blocks_cfg.proofs.Solution.{least, step_is_sound, step_is_closed, more_is_fed}
use Rattle.fed_solver.specs.Graph.{IsGraph, fed_by, has_bit, system_of, AreLeast}
use Rattle.fed_solver.specs.walks.Walk.{Walk, waits, handed, IsPopped, HasAll, IsWalk, IsBegun, IsGoing}
use Rattle.fed_solver.proofs.Bits.{bit, bit-and, past_end, in_range}
use Rattle.fed_solver.proofs.Handed.{total, IsGiven, walk_all, given_all}

-- each place that is fed is a place
pub fed_within : (n : ℕ) (starts targets : List ℕ) → IsGraph n starts targets → (q : ℕ) → All (λ p. p < n) (fed_by starts targets q)
fed_within n starts targets g q =
    let from = get_or starts q 0 in
    All-take (λ p. p < n) (get_or starts (q + 1) 0 - from) (drop from targets) (All-drop (λ p. p < n) from targets g.places)

-- ---- the beginning

-- all places wait at first
pub first_walk : (n : ℕ) (w : Walk) → length w.rows ≡ n → All (λ r. r < 2 ^ 64) w.rows → w.listed ≡ replicate n true → HasAll n w.list
    → IsWalk n w × ((p : ℕ) → p < n → waits w p ≡ true)
first_walk n w many words same h = (
  record {
    rows = many;
    listed = ap length same ∙ length-replicate n true;
    words = words;
    within = h.within;
    waiting = λ p e. ⊎_elim
        (λ lt. h.all p lt)
        (λ ge. absurd (both_ways (waits w p) (past_end w.listed p false (omega (arith, ap length same, length-replicate n true, ge))) e))
        (cases_lt p n);
  },
  λ p lt. ap (λ bs. get_or bs p false) same ∙ get_or-replicate n p true false lt,
)

module _ (n : ℕ) (starts targets begins emits : List ℕ) (graph : IsGraph n starts targets) where
  pub begun_none : (w : Walk) → w.rows ≡ begins → IsWalk n w → ((p : ℕ) → p < n → waits w p ≡ true) → IsBegun n starts targets begins emits 0 w
  begun_none w same walk waiting = record {
    walk = walk;
    waiting = waiting;
    sound = λ b p h. begun p (ap (λ rs. has_bit rs b p) (sym same) ∙ h);
    started = λ b p h. ap (λ rs. has_bit rs b p) same ∙ h;
    given = λ b q p lt m h. absurd (omega arith);
  }

  module _ (q : ℕ) (w : Walk) (i : IsBegun n starts targets begins emits q w) (small : get_or emits q 0 < 2 ^ 64) where
    abbrev given_bits : ℕ
    given_bits = get_or emits q 0

    abbrev places : List ℕ
    places = fed_by starts targets q

    places_within : All (λ p. p < n) places
    places_within = fed_within n starts targets graph q

    given : IsGiven given_bits places w (fold (handed given_bits) w places)
    given = given_all n given_bits small places w i.walk places_within

    old : (b p : ℕ) → has_bit w.rows b p ≡ true → has_bit (fold (handed given_bits) w places).rows b p ≡ true
    old b p h = given.bits b p ∙ or_left (has_bit w.rows b p) (is_among p places && bit given_bits b) h

    -- one place more has emitted
    begun_more : IsBegun n starts targets begins emits (q + 1) (fold (handed given_bits) w places)
    begun_more = record {
      walk = walk_all n given_bits small places w i.walk places_within;
      waiting = λ p lt. given.marked p (i.waiting p lt);
      sound = λ b p h. ⊎_elim
          (λ e. i.sound b p e)
          (λ e. let t = and_parts (is_among p places) (bit given_bits b) e in emitted q p t.0 t.1)
          (or_cases (has_bit w.rows b p) (is_among p places && bit given_bits b) (sym (given.bits b p) ∙ h));
      started = λ b p h. old b p (i.started b p h);
      given = λ b r p lt m h. ⊎_elim
          (λ e. given.bits b p ∙ or_right (has_bit w.rows b p) (is_among p places && bit given_bits b)
          (and_from (is_among p places) (bit given_bits b) (subst (λ k. is_among p (fed_by starts targets k) ≡ true) e m) (subst (λ k. has_bit emits b k ≡ true) e h)))
          (λ ne. old b p (i.given b r p (omega (arith, ne)) m h))
          (cases_eq r q);
    }

    pub begun_next : (x : Walk) (fed : List ℕ) → fed ≡ places → x ≡ fold (handed given_bits) w fed → IsBegun n starts targets begins emits (q + 1) x
    begun_next x fed e f = subst (IsBegun n starts targets begins emits (q + 1)) (sym (f ∙ ap (fold (handed given_bits) w) e)) begun_more

  no_bits : (b p : ℕ) → has_bit [] b p ≡ true → ⊥
  no_bits b p e = let f : false ≡ true = sym (ap (λ n. nat_eq n 1) (bit_at-zero b)) ∙ e in cc

  -- with all that is emitted handed on, the places that wait are all
  pub going : (passes : List ℕ) (w : Walk) → length emits ≡ n → IsBegun n starts targets begins emits n w → IsGoing n starts targets begins emits passes w
  going passes w many i = record {
    walk = i.walk;
    sound = λ b p h. more_is_fed (system_of starts targets begins emits [] b) (system_of starts targets begins emits passes b) (more b) p (i.sound b p h);
    closed = λ b. record {
      begins = λ p h. i.started b p h;
      emits = λ q p m h. i.given b q p (omega (arith, in_range emits b q h)) m h;
      passes = λ q p m h k quiet. absurd (both_ways (waits w q) quiet (i.waiting q (omega (arith, in_range w.rows b q h, i.walk.rows))));
    };
  }
    where
      more : (b : ℕ) → GivesMore (system_of starts targets begins emits [] b) (system_of starts targets begins emits passes b)
      more b = record { feeds = λ q p h. h; begins = λ p h. h; emits = λ p h. h; passes = λ p h. absurd (no_bits b p h) }

-- ---- a step

module _ (n : ℕ) (starts targets begins emits passes : List ℕ) (graph : IsGraph n starts targets) where
  module _ (q : ℕ) (u v : Walk) (going : IsGoing n starts targets begins emits passes u) (popped : IsPopped q u v) where
    abbrev give : ℕ
    give = bit_and (get_or u.rows q 0) (get_or passes q 0)

    abbrev fed : List ℕ
    fed = fed_by starts targets q

    abbrev after : Walk
    after = fold (handed give) v fed

    pub place_within : q < n
    place_within = omega (arith, popped.within, going.walk.listed)

    marks : (p : ℕ) → waits v p ≡ get_or (set u.listed q false) p false
    marks p = ap (λ bs. get_or bs p false) popped.listed

    unmarked : waits v q ≡ false
    unmarked = marks q ∙ get_or-set_at u.listed q q false false refl (omega (arith, place_within, going.walk.listed))

    same_mark : (p : ℕ) → (p ≡ q → ⊥) → waits v p ≡ waits u p
    same_mark p ne = marks p ∙ get_or-set_other u.listed q p false false ne

    among : (p : ℕ) → is_among p u.list ≡ (is_among p v.list || (nat_eq p q || false))
    among p = ap (is_among p) popped.list ∙ list_any-append (nat_eq p) v.list (q ∷ [])

    only : (p : ℕ) → (nat_eq p q || false) ≡ true → p ≡ q
    only p h = ⊎_elim (λ e. eqb-true p q e) (λ e. let no : ⊥ = cc in absurd no) (or_cases (nat_eq p q) false h)

    pub walk_popped : IsWalk n v
    walk_popped = record {
      rows = ap length popped.rows ∙ going.walk.rows;
      listed = ap length popped.listed ∙ length-set u.listed q false ∙ going.walk.listed;
      words = subst (All (λ r. r < 2 ^ 64)) (sym popped.rows) going.walk.words;
      within = (All-pop (λ p. p < n) u.list v.list (Some q) popped.list going.walk.within).0;
      waiting = λ p h. ⊎_elim
          (λ e. absurd (both_ways (waits v q) unmarked (ap (waits v) (sym e) ∙ h)))
          (λ ne. ⊎_elim
          (λ e. e)
          (λ e. absurd (ne (only p e)))
          (or_cases (is_among p v.list) (nat_eq p q || false) (sym (among p) ∙ going.walk.waiting p (sym (same_mark p ne) ∙ h))))
          (cases_eq p q);
    }

    word : get_or u.rows q 0 < 2 ^ 64
    word = All-get_or (λ r. r < 2 ^ 64) u.rows q 0 (omega (arith, place_within, going.walk.rows)) going.walk.words

    pub give_small : give < 2 ^ 64
    give_small = omega (arith, word, and_le_l (get_or u.rows q 0) (get_or passes q 0))

    fed_are : All (λ p. p < n) fed
    fed_are = fed_within n starts targets graph q

    handed_on : IsGiven give fed v after
    handed_on = given_all n give give_small fed v walk_popped fed_are

    same_bit : (b p : ℕ) → has_bit v.rows b p ≡ has_bit u.rows b p
    same_bit b p = ap (λ rs. has_bit rs b p) popped.rows

    is_step : (b : ℕ) → IsStep (system_of starts targets begins emits passes b) q (has_bit u.rows b) (waits u) (has_bit after.rows b) (waits after)
    is_step b = record {
      grows = λ p h. handed_on.bits b p ∙ or_left (has_bit v.rows b p) (is_among p fed && bit give b) (same_bit b p ∙ h);
      reason = λ p h. ⊎_elim
          (λ e. inl (sym (same_bit b p) ∙ e))
          (λ e. let t = and_parts (is_among p fed) (bit give b) e in
          let s = and_parts (has_bit u.rows b q) (has_bit passes b q) (sym (bit-and (get_or u.rows q 0) (get_or passes q 0) b) ∙ t.1) in
          inr (t.0, s.0, s.1))
          (or_cases (has_bit v.rows b p) (is_among p fed && bit give b) (sym (handed_on.bits b p) ∙ h));
      given = λ p m h k. handed_on.bits b p ∙ or_right (has_bit v.rows b p) (is_among p fed && bit give b)
          (and_from (is_among p fed) (bit give b) m
          (bit-and (get_or u.rows q 0) (get_or passes q 0) b ∙ and_from (has_bit u.rows b q) (has_bit passes b q) h k));
      waits = λ p h. let t = handed_on.waiting p h in (
        ⊎_elim (λ e. inr e) (λ ne. inl (sym (same_mark p ne) ∙ t.0)) (cases_eq p q),
        (λ x. sym (same_bit b p) ∙ sym (t.1 b) ∙ x),
      );
    }

    going_on : IsGoing n starts targets begins emits passes after
    going_on = record {
      walk = walk_all n give give_small fed v walk_popped fed_are;
      sound = λ b. step_is_sound (system_of starts targets begins emits passes b) q (has_bit u.rows b) (waits u) (has_bit after.rows b) (waits after) (is_step b) (going.sound b);
      closed = λ b. step_is_closed (system_of starts targets begins emits passes b) q (has_bit u.rows b) (waits u) (has_bit after.rows b) (waits after) (is_step b) (going.closed b);
    }

    -- what was set makes up for what waits anew
    less_left : n * 2 ^ 64 + length after.list - total after.rows < n * 2 ^ 64 + length u.list - total u.rows
    less_left =
        let walk : IsWalk n after = walk_all n give give_small fed v walk_popped fed_are in
        let at_most : (length after.rows) * 2 ^ 64 ≡ n * 2 ^ 64 = ap (λ k. k * 2 ^ 64) walk.rows in
        omega (
          arith,
          handed_on.paid,
          ap total popped.rows,
          ap length popped.list,
          length-append v.list (q ∷ []),
          at_most,
          sum_by-le (λ r. r) (2 ^ 64) after.rows (All-weaker (λ r. r < 2 ^ 64) (λ r. r ≤ 2 ^ 64) (λ r h. omega arith) after.rows walk.words),
        )

    -- a place passed on what it has, and less is left
    pub going_next : (x : Walk) (places : List ℕ) (bits : ℕ) → places ≡ fed → bits ≡ give → x ≡ fold (handed bits) v places
        → IsGoing n starts targets begins emits passes x × (n * 2 ^ 64 + length x.list - total x.rows < n * 2 ^ 64 + length u.list - total u.rows)
    going_next x places bits e f g =
        subst (λ y. IsGoing n starts targets begins emits passes y × (n * 2 ^ 64 + length y.list - total y.rows < n * 2 ^ 64 + length u.list - total u.rows))
        (sym (g ∙ ap (λ k. fold (handed k) v places) f ∙ ap (fold (handed give) v) e))
        (going_on, less_left)

  -- where no place waits, the sets are the least
  pub finished : (w : Walk) → IsGoing n starts targets begins emits passes w → w.list ≡ [] → AreLeast starts targets begins emits passes w.rows
  finished w i none b = least (system_of starts targets begins emits passes b) (has_bit w.rows b) closed (i.sound b)
    where
      quiet : (q : ℕ) → waits w q ≡ false
      quiet q = false_from_ne_true (waits w q) (λ t. let e : false ≡ true = sym (ap (is_among q) none) ∙ i.walk.waiting q t in cc)

      closed : IsClosed (system_of starts targets begins emits passes b) (has_bit w.rows b)
      closed = record {
        begins = λ p h. (i.closed b).begins p h;
        emits = λ q p m h. (i.closed b).emits q p m h;
        passes = λ q p m h k _. (i.closed b).passes q p m h k (quiet q);
      }
