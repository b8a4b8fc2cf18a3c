-- Least sets by computation: a list of places that solves the equations and that a few rounds reach is the least set. So a
-- worked case is one test that computes.
use Rattle.std.proofs.Common.{◌≡◌, ◌⊎◌, ℕ, zero, suc, ◌<◌, Bool, true, false, not, ◌&&◌, ◌||◌, List, [], ◌∷◌, ◌++◌, length, Option, Some, None, inl, inr, ⊎_elim, refl, sym, ap, subst, T, eqb→eq, arith}
use Rattle.std.proofs.lemmas.Option.{slice_get_within}
use Rattle.std.specs.Prelude.{nat_eq}
use Rattle.std.specs.List.{list_any}
use Rattle.insn_ir.specs.Code.{Code, Place, places, place_at}
use Rattle.insn_effects.specs.Footprint.{Loc}
use Rattle.blocks_cfg.specs.Flow.{IsAmong, successors_by, successors, IsReached}
use Rattle.blocks_cfg.specs.Live.{LiveAfter}
use Rattle.blocks_cfg.specs.Facts.{Rule, Holds}
use Rattle.blocks_cfg.specs.Fed.{System, Fed, begun, emitted, passed, IsClosed, IsSound, Decides, is_among, liveness, reaching, failing}
use Rattle.blocks_cfg.proofs.Solution.{least, among_is, live_is_fed, reached_is_fed, holds_unless_fails}

-- ---- tests

pub and_left : (a b : Bool) → (a && b) ≡ true → a ≡ true
and_left true b h = refl
and_left false b h = cc

pub and_right : (a b : Bool) → (a && b) ≡ true → b ≡ true
and_right true b h = h
and_right false b h = cc

or_is : (a b : Bool) → (a || b) ≡ true → (a ≡ true) ⊎ (b ≡ true)
or_is true b h = inl refl
or_is false b h = inr h

-- both, where b is computed only if a holds
abbrev pub and_then : Bool → (Unit {0} → Bool) → Bool
and_then true b = b tt
and_then false b = false

then_left : (a : Bool) (b : Unit {0} → Bool) → and_then a b ≡ true → a ≡ true
then_left true b h = refl
then_left false b h = cc

then_right : (a : Bool) (b : Unit {0} → Bool) → and_then a b ≡ true → b tt ≡ true
then_right true b h = h
then_right false b h = cc

-- ---- a test on every way from a place to a successor

abbrev pub each_of : (ℕ → Bool) → List ℕ → Bool
each_of t [] = true
each_of t (q ∷ qs) = t q && each_of t qs

cross : (b : Bool) → b ≡ true → b ≡ false → ⊥
cross true h k = cc
cross false h k = cc

each_is : (t : ℕ → Bool) (qs : List ℕ) → each_of t qs ≡ true → (q : ℕ) → IsAmong q qs → t q ≡ true
each_is t [] h q m = absurd m
each_is t (p ∷ qs) h q m =
    ⊎_elim (λ e. subst (λ z. t z ≡ true) e (and_left (t p) (each_of t qs) h)) (λ k. each_is t qs (and_right (t p) (each_of t qs) h) q k) m

abbrev pub each_edge_below : (ℕ → ℕ → Bool) → Code → ℕ → Bool
each_edge_below t f zero = true
each_edge_below t f (suc n) = each_of (t n) (successors f n) && each_edge_below t f n

-- the test passes from each place to each of its successors
abbrev pub each_edge : (ℕ → ℕ → Bool) → Code → Bool
each_edge t f = each_edge_below t f (length (places f.lines))

pub below_or_last : (p n : ℕ) → p < suc n → (p < n) ⊎ (p ≡ n)
below_or_last zero zero lt = inr refl
below_or_last zero (suc n) lt = inl (omega arith)
below_or_last (suc p) zero lt = absurd (omega arith)
below_or_last (suc p) (suc n) lt = ⊎_elim (λ k. inl (up k)) (λ e. inr (ap suc e)) (below_or_last p n (omega arith))
  where
    up : p < n → suc p < suc n
    up k = omega arith

edge_below : (t : ℕ → ℕ → Bool) (f : Code) (n : ℕ) → each_edge_below t f n ≡ true → (p q : ℕ) → p < n → IsAmong q (successors f p) → t p q ≡ true
edge_below t f zero h p q lt m = absurd (omega arith)
edge_below t f (suc n) h p q lt m =
    ⊎_elim
    (λ k. edge_below t f n (and_right (each_of (t n) (successors f n)) _ h) p q k m)
    (λ e. subst (λ z. t z q ≡ true) (sym e) (each_is (t n) (successors f n) (and_left _ _ h) q (subst (λ z. IsAmong q (successors f z)) e m)))
    (below_or_last p n lt)

edge_passes : (t : ℕ → ℕ → Bool) (f : Code) → each_edge t f ≡ true → (p q : ℕ) → IsAmong q (successors f p) → t p q ≡ true
edge_passes t f h p q m = by_place (place_at f p) refl m
  where
    by_place : (o : Option Place) → place_at f p ≡ o → IsAmong q (successors_by f p o) → t p q ≡ true
    by_place None e k = absurd k
    by_place (Some i) e k = edge_below t f (length (places f.lines)) h p q (slice_get_within (places f.lines) p i e) m

-- ---- sets that grow by reasons

-- the place p has it by what is in the list
abbrev pub has_reason : System → List ℕ → List ℕ → ℕ → Bool
has_reason u ps xs p =
    u.begins p || list_any (λ q. and_then (u.feeds q p) (λ k. u.emits q || and_then (is_among q xs) (λ l. u.passes q))) ps

abbrev pub with_it : Bool → ℕ → List ℕ → List ℕ
with_it true p xs = p ∷ xs
with_it false p xs = xs

abbrev pub grown : System → List ℕ → List ℕ → List ℕ → List ℕ
grown u all [] xs = xs
grown u all (p ∷ ps) xs = grown u all ps (with_it (and_then (not (is_among p xs)) (λ k. has_reason u all xs p)) p xs)

abbrev pub grown_for : System → List ℕ → ℕ → List ℕ
grown_for u all zero = []
grown_for u all (suc n) = grown u all all (grown_for u all n)

-- the set that the list holds
abbrev pub held_in : List ℕ → ℕ → Bool
held_in xs p = is_among p xs

any_is : (t : ℕ → Bool) (qs : List ℕ) → list_any t qs ≡ true → (q : ℕ) × (t q ≡ true)
any_is t [] h = cc
any_is t (q ∷ qs) h = ⊎_elim (λ e. (q, e)) (λ k. any_is t qs k) (or_is (t q) (list_any t qs) h)

module _ (u : System) where
  reason_is : (all xs : List ℕ) (p : ℕ) → IsSound u (held_in xs) → has_reason u all xs p ≡ true → Fed u p
  reason_is all xs p s h = ⊎_elim (λ e. begun p e) (λ k. by_place (any_is _ all k)) (or_is (u.begins p) _ h)
    where
      by_place : (q : ℕ) × (and_then (u.feeds q p) (λ k. u.emits q || and_then (is_among q xs) (λ l. u.passes q)) ≡ true) → Fed u p
      by_place (q, e) =
          let there : u.feeds q p ≡ true = then_left _ _ e in
          ⊎_elim
          (λ k. emitted q p there k)
          (λ k. passed q p there (s q (then_left _ _ k)) (then_right (is_among q xs) (λ l. u.passes q) k))
          (or_is (u.emits q) _ (then_right (u.feeds q p) _ e))

  one_more : (xs : List ℕ) (p : ℕ) → IsSound u (held_in xs) → Fed u p → IsSound u (held_in (p ∷ xs))
  one_more xs p s d q h = ⊎_elim (λ e. subst (Fed u) (sym (eqb→eq q p (subst T (sym e) tt))) d) (λ k. s q k) (or_is (nat_eq q p) (is_among q xs) h)

  grown_is_sound : (all ps xs : List ℕ) → IsSound u (held_in xs) → IsSound u (held_in (grown u all ps xs))
  grown_is_sound all [] xs s = s
  grown_is_sound all (p ∷ ps) xs s =
      by_reason (and_then (not (is_among p xs)) (λ k. has_reason u all xs p)) refl (λ ys t. grown_is_sound all ps ys t)
    where
      by_reason : (b : Bool) → and_then (not (is_among p xs)) (λ k. has_reason u all xs p) ≡ b → ((ys : List ℕ) → IsSound u (held_in ys) → IsSound u (held_in (grown u all ps ys))) → IsSound u (held_in (grown u all ps (with_it b p xs)))
      by_reason true e rest = rest (p ∷ xs) (one_more xs p s (reason_is all xs p s (then_right (not (is_among p xs)) _ e)))
      by_reason false e rest = rest xs s

  pub grown_for_is_sound : (all : List ℕ) (n : ℕ) → IsSound u (held_in (grown_for u all n))
  grown_for_is_sound all zero = λ p h. cc
  grown_for_is_sound all (suc n) = grown_is_sound all all (grown_for u all n) (grown_for_is_sound all n)

-- q gives p nothing that the list lacks
abbrev pub gives_no_more : System → List ℕ → ℕ → ℕ → Bool
gives_no_more u xs q p =
    is_among p xs || not (u.emits q || and_then (is_among q xs) (λ k. u.passes q))

abbrev pub below : ℕ → List ℕ
below zero = []
below (suc n) = below n ++ (n ∷ [])

-- from the one past the last place down to 0
abbrev pub above : ℕ → List ℕ
above zero = []
above (suc n) = n ∷ above n

abbrev pub all_up : Code → List ℕ
all_up f = below (suc (length (places f.lines)))

abbrev pub all_down : Code → List ℕ
all_down f = above (suc (length (places f.lines)))

-- by three rounds over the places, in the order in which they feed one another
abbrev pub solved : System → List ℕ → List ℕ
solved u all = grown_for u all 3

gives : (u : System) (xs : List ℕ) (q p : ℕ) → gives_no_more u xs q p ≡ true → (u.emits q ≡ true) ⊎ ((is_among q xs ≡ true) × (u.passes q ≡ true)) → is_among p xs ≡ true
gives u xs q p h k =
    ⊎_elim (λ e. emit (is_among p xs) (u.emits q) (is_among q xs) e h) (λ e. pass (is_among p xs) (u.emits q) (is_among q xs) (u.passes q) e.0 e.1 h) k
  where
    emit : (r a b : Bool) → a ≡ true → (r || not (a || and_then b (λ k. u.passes q))) ≡ true → r ≡ true
    emit true a b e h = refl
    emit false true b e h = cc
    emit false false b e h = cc

    pass : (r a b c : Bool) → b ≡ true → c ≡ true → (r || not (a || and_then b (λ k. c))) ≡ true → r ≡ true
    pass true a b c e k h = refl
    pass false true b c e k h = cc
    pass false false true true e k h = cc
    pass false false true false e k h = cc
    pass false false false c e k h = cc

-- ---- sets that solve the equations

abbrev pub sub_list : List ℕ → List ℕ → Bool
sub_list ps qs = each_of (λ p. is_among p qs) ps

sub_is : (ps qs : List ℕ) → sub_list ps qs ≡ true → (p : ℕ) → is_among p ps ≡ true → is_among p qs ≡ true
sub_is ps qs h p k = each_is (λ p. is_among p qs) ps h p (among_is p ps k)

-- the list solves the equations, and the rounds come to each of its places
abbrev pub is_solution : Code → System → List ℕ → (ℕ → ℕ → Bool) → List ℕ → Bool
is_solution f u all edge ps = each_edge edge f && sub_list ps (solved u all)

solution_is_least : (f : Code) (u : System) (all : List ℕ) (edge : ℕ → ℕ → Bool) (ps : List ℕ) → is_solution f u all edge ps ≡ true → ((each_edge edge f ≡ true) → IsClosed u (held_in ps)) → Decides (held_in ps) (Fed u)
solution_is_least f u all edge ps h closed =
    least u (held_in ps) (closed (and_left _ _ h))
    (λ p k. grown_for_is_sound u all 3 p (sub_is ps (solved u all) (and_right (each_edge edge f) _ h) p k))

-- ---- liveness

-- x is live after exactly these places
pub record LiveAre (f : Code) (x : Loc) (ps : List ℕ) : Type 0 where
  pub exactly : Decides (held_in ps) (λ p. LiveAfter f p x)

abbrev pub live_edge : Code → Loc → List ℕ → ℕ → ℕ → Bool
live_edge f x ps p q = gives_no_more (liveness f x) ps q p

abbrev pub live_test : Code → Loc → List ℕ → Bool
live_test f x ps = is_solution f (liveness f x) (all_down f) (live_edge f x ps) ps

pub live_are : (f : Code) (x : Loc) (ps : List ℕ) → live_test f x ps ≡ true → LiveAre f x ps
live_are f x ps h = record { exactly = both }
  where
    closed : each_edge (live_edge f x ps) f ≡ true → IsClosed (liveness f x) (held_in ps)
    closed k =
        record {
          begins = λ p e. cc;
          emits = λ q p m e. gives (liveness f x) ps q p (edge_passes (live_edge f x ps) f k p q (among_is q (successors f p) m)) (inl e);
          passes = λ q p m e o w. gives (liveness f x) ps q p (edge_passes (live_edge f x ps) f k p q (among_is q (successors f p) m)) (inr (e, o));
        }

    fed : Decides (held_in ps) (Fed (liveness f x))
    fed = solution_is_least f (liveness f x) (all_down f) (live_edge f x ps) ps h closed

    both : Decides (held_in ps) (λ p. LiveAfter f p x)
    both =
        record {
          sound = λ p k. (live_is_fed f x p).1 (fed.sound p k);
          complete = λ p k. fed.complete p ((live_is_fed f x p).0 k);
        }

-- ---- places that are reached, and facts

-- from place 0 along the ways, a list that holds it
abbrev pub along_edge : System → List ℕ → ℕ → ℕ → Bool
along_edge u ps q p = gives_no_more u ps q p

abbrev pub reached_test : Code → List ℕ → Bool
reached_test f ps = is_among 0 ps && is_solution f (reaching f) (all_up f) (along_edge (reaching f) ps) ps

-- exactly these places are reached
pub record ReachedAre (f : Code) (ps : List ℕ) : Type 0 where
  pub exactly : Decides (held_in ps) (IsReached f)

zero_in : (ps : List ℕ) → is_among 0 ps ≡ true → (p : ℕ) → nat_eq p 0 ≡ true → is_among p ps ≡ true
zero_in ps h p e = subst (λ z. is_among z ps ≡ true) (sym (eqb→eq p 0 (subst T (sym e) tt))) h

pub reached_are : (f : Code) (ps : List ℕ) → reached_test f ps ≡ true → ReachedAre f ps
reached_are f ps h = record { exactly = both }
  where
    closed : each_edge (along_edge (reaching f) ps) f ≡ true → IsClosed (reaching f) (held_in ps)
    closed k =
        record {
          begins = zero_in ps (and_left _ _ h);
          emits = λ q p m e. cc;
          passes = λ q p m e o w. gives (reaching f) ps q p (edge_passes (along_edge (reaching f) ps) f k q p (among_is p (successors f q) m)) (inr (e, o));
        }

    fed : Decides (held_in ps) (Fed (reaching f))
    fed = solution_is_least f (reaching f) (all_up f) (along_edge (reaching f) ps) ps (and_right (is_among 0 ps) _ h) closed

    both : Decides (held_in ps) (IsReached f)
    both =
        record {
          sound = λ p k. (reached_is_fed f p).1 (fed.sound p k);
          complete = λ p k. fed.complete p ((reached_is_fed f p).0 k);
        }

-- what fails, for a fact with these makers
abbrev pub failing_by : Code → Rule → (ℕ → Bool) → List ℕ → System
failing_by f u makes rs = failing f u (held_in rs) makes

abbrev pub fails_test : Code → Rule → (ℕ → Bool) → List ℕ → List ℕ → Bool
fails_test f u makes rs ps = is_among 0 ps && is_solution f (failing_by f u makes rs) (all_up f) (along_edge (failing_by f u makes rs) ps) ps

fails_are : (f : Code) (u : Rule) (makes : ℕ → Bool) (rs ps : List ℕ) → fails_test f u makes rs ps ≡ true → Decides (held_in ps) (Fed (failing_by f u makes rs))
fails_are f u makes rs ps h = solution_is_least f v (all_up f) (along_edge v ps) ps (and_right (is_among 0 ps) _ h) closed
  where
    v : System
    v = failing_by f u makes rs

    closed : each_edge (along_edge v ps) f ≡ true → IsClosed v (held_in ps)
    closed k =
        record {
          begins = zero_in ps (and_left _ _ h);
          emits = λ q p m e. gives v ps q p (edge_passes (along_edge v ps) f k q p (among_is p (successors f q) m)) (inl e);
          passes = λ q p m e o w. gives v ps q p (edge_passes (along_edge v ps) f k q p (among_is p (successors f q) m)) (inr (e, o));
        }

abbrev pub without_those : List ℕ → List ℕ → List ℕ
without_those fs [] = []
without_those fs (p ∷ ps) = with_it (not (is_among p fs)) p (without_those fs ps)

-- rs are reached, and of these the fact fails at fs and holds at ps
abbrev pub holds_test : Code → Rule → (ℕ → Bool) → List ℕ → List ℕ → List ℕ → Bool
holds_test f u makes rs fs ps =
    reached_test f rs && (fails_test f u makes rs fs && (sub_list ps (without_those fs rs) && sub_list (without_those fs rs) ps))

in_list : (fs ps : List ℕ) (p : ℕ) → is_among p (without_those fs ps) ≡ true → (is_among p ps ≡ true) × (is_among p fs ≡ false)
in_list fs [] p h = cc
in_list fs (q ∷ ps) p h = by_test (is_among q fs) refl h (in_list fs ps p)
  where
    behind : is_among p ps ≡ true → (nat_eq p q || is_among p ps) ≡ true
    behind k = by_head (nat_eq p q)
      where
        by_head : (b : Bool) → (b || is_among p ps) ≡ true
        by_head true = refl
        by_head false = k

    here : (nat_eq p q ≡ true) → is_among q fs ≡ false → (is_among p (q ∷ ps) ≡ true) × (is_among p fs ≡ false)
    here e out =
        let k : p ≡ q = eqb→eq p q (subst T (sym e) tt) in
        (ap (λ b. (b || is_among p ps)) e, subst (λ z. is_among z fs ≡ false) (sym k) out)

    by_test : (b : Bool) → is_among q fs ≡ b → is_among p (with_it (not b) q (without_those fs ps)) ≡ true → (is_among p (without_those fs ps) ≡ true → (is_among p ps ≡ true) × (is_among p fs ≡ false)) → (is_among p (q ∷ ps) ≡ true) × (is_among p fs ≡ false)
    by_test true e k rest = let r = rest k in (behind r.0, r.1)
    by_test false e k rest =
        ⊎_elim (λ a. here a e) (λ a. let r = rest a in (behind r.0, r.1)) (or_is (nat_eq p q) (is_among p (without_those fs ps)) k)

to_list : (fs ps : List ℕ) (p : ℕ) → is_among p ps ≡ true → is_among p fs ≡ false → is_among p (without_those fs ps) ≡ true
to_list fs [] p h out = cc
to_list fs (q ∷ ps) p h out = by_test (is_among q fs) refl (to_list fs ps p)
  where
    behind : is_among p (without_those fs ps) ≡ true → (nat_eq p q || is_among p (without_those fs ps)) ≡ true
    behind k = by_head (nat_eq p q)
      where
        by_head : (b : Bool) → (b || is_among p (without_those fs ps)) ≡ true
        by_head true = refl
        by_head false = k

    by_test : (b : Bool) → is_among q fs ≡ b → (is_among p ps ≡ true → is_among p fs ≡ false → is_among p (without_those fs ps) ≡ true) → is_among p (with_it (not b) q (without_those fs ps)) ≡ true
    by_test true e rest =
        ⊎_elim
        (λ a. absurd (cross (is_among q fs) e (subst (λ z. is_among z fs ≡ false) (eqb→eq p q (subst T (sym a) tt)) out)))
        (λ a. rest a out)
        (or_is (nat_eq p q) (is_among p ps) h)
    by_test false e rest =
        ⊎_elim
        (λ a. ap (λ b. (b || is_among p (without_those fs ps))) a)
        (λ a. behind (rest a out))
        (or_is (nat_eq p q) (is_among p ps) h)

-- at a place that is reached, and where the fact doesn't fail
hold_are : (f : Code) (u : Rule) (makes : ℕ → Bool) → Decides makes u.makes → (rs fs ps : List ℕ) → holds_test f u makes rs fs ps ≡ true → Decides (held_in ps) (Holds f u)
hold_are f u makes is_made rs fs ps h = both
  where
    reached : Decides (held_in rs) (IsReached f)
    reached = (reached_are f rs (and_left _ _ h)).exactly

    rest : (fails_test f u makes rs fs && (sub_list ps (without_those fs rs) && sub_list (without_those fs rs) ps)) ≡ true
    rest = and_right (reached_test f rs) _ h

    fails : Decides (held_in fs) (Fed (failing_by f u makes rs))
    fails = fails_are f u makes rs fs (and_left _ _ rest)

    subs : (sub_list ps (without_those fs rs) && sub_list (without_those fs rs) ps) ≡ true
    subs = and_right (fails_test f u makes rs fs) _ rest

    down : sub_list ps (without_those fs rs) ≡ true
    down = and_left _ _ subs

    up : sub_list (without_those fs rs) ps ≡ true
    up = and_right (sub_list ps (without_those fs rs)) _ subs

    holds : (p : ℕ) → (Holds f u p → IsReached f p × (Fed (failing_by f u makes rs) p → ⊥)) × (IsReached f p × (Fed (failing_by f u makes rs) p → ⊥) → Holds f u p)
    holds = holds_unless_fails f u (held_in rs) makes reached is_made

    out : (p : ℕ) → (Fed (failing_by f u makes rs) p → ⊥) → (b : Bool) → is_among p fs ≡ b → b ≡ false
    out p no_fail true e = absurd (no_fail (fails.sound p e))
    out p no_fail false e = refl

    both : Decides (held_in ps) (Holds f u)
    both =
        record {
          sound = λ p k. let m = in_list fs rs p (sub_is ps (without_those fs rs) down p k) in
              (holds p).1 (reached.sound p m.0, (λ d. cross (is_among p fs) (fails.complete p d) m.1));
          complete = λ p k. let m = (holds p).0 k in
              sub_is (without_those fs rs) ps up p (to_list fs rs p (reached.complete p m.0) (out p m.1 (is_among p fs) refl));
        }

-- rs are reached, and the fact fails at those that aren't in ps
abbrev pub fact_test : Code → Rule → (ℕ → Bool) → List ℕ → List ℕ → Bool
fact_test f u makes rs ps = holds_test f u makes rs (without_those ps rs) ps

-- the fact holds exactly at these places
pub fact_holds : (f : Code) (u : Rule) (makes : ℕ → Bool) → Decides makes u.makes → (rs ps : List ℕ) → fact_test f u makes rs ps ≡ true → Decides (held_in ps) (Holds f u)
fact_holds f u makes is_made rs ps h = hold_are f u makes is_made rs (without_those ps rs) ps h
