-- The nodes after each call hold the list that it leaves.
use Rattle.std.proofs.Common.{◌≡◌, ◌≢◌, ℕ, suc, ◌+◌, ◌≤◌, Bool, true, false, cond, ◌||◌, nat_eq, List, [], ◌∷◌, ◌++◌, length, Option, Some, None, refl, sym, ap, ◌∙◌, inl, inr, arith, subst, length-append}
use Rattle.std.specs.Prelude.{option_map, is_some}
use Rattle.std.proofs.lemmas.Bool.{cases_eq, eq-eqb, ne_eqb, eqb-true}
use Rattle.slab.specs.Slab.{Slab, get, slab_len, ContainsKey, Updates}
use Rattle.entry_list.specs.declared.node.Node.{Node}
use Rattle.entry_list.specs.Listed.{has_key, AreDistinct, value_at, first_key, last_from, last_key, next_key, prev_from, prev_key, inserted, without, replaced}
use Rattle.entry_list.specs.Nodes.{node_at}
use Rattle.entry_list.specs.walks.Linked.{pairs_of, Holds, with_prev, with_next, with_value, is_key, put, prev_set, next_set, end_at}
use Rattle.entry_list.proofs.NodeLaws.{has_tail, has_head, node_there, node_value, node_next, node_prev, pairs_are}
use Rattle.entry_list.proofs.EditLaws.{node_of, insert_nodes, remove_nodes, replace_nodes, push_nodes, prev_is, next_is, last_is}

no : {P : Type 0} → true ≡ false → P
no e = absurd (cc)

or_swap : (a b c : Bool) → (a || (b || c)) ≡ (b || (a || c))
or_swap true true c = refl
or_swap true false c = refl
or_swap false true c = refl
or_swap false false c = refl

module _ {T : Type 0} where
  -- keys and counts of what edits leave

  has_cond : (b : Bool) (k : ℕ) (ps qs : List (ℕ × T)) → has_key k (cond b ps qs) ≡ cond b (has_key k ps) (has_key k qs)
  has_cond true k ps qs = refl
  has_cond false k ps qs = refl

  pub has_inserted : (key k : ℕ) (q : ℕ × T) (ps : List (ℕ × T)) → has_key key ps ≡ true → has_key k (inserted key q ps) ≡ nat_eq q.0 k || has_key k ps
  has_inserted key k q [] h = no (sym h)
  has_inserted key k q (p ∷ ps) h = by_test (nat_eq p.0 key) h (has_inserted key k q ps)
    where
      by_test : (b : Bool) → (b || has_key key ps) ≡ true → (has_key key ps ≡ true → has_key k (inserted key q ps) ≡ nat_eq q.0 k || has_key k ps)
          → has_key k (cond b (q ∷ p ∷ ps) (p ∷ inserted key q ps)) ≡ nat_eq q.0 k || (nat_eq p.0 k || has_key k ps)
      by_test true h rest = refl
      by_test false h rest = ap (λ b. nat_eq p.0 k || b) (rest h) ∙ or_swap (nat_eq p.0 k) (nat_eq q.0 k) (has_key k ps)

  pub length_inserted : (key : ℕ) (q : ℕ × T) (ps : List (ℕ × T)) → has_key key ps ≡ true → length (inserted key q ps) ≡ suc (length ps)
  length_inserted key q [] h = no (sym h)
  length_inserted key q (p ∷ ps) h = by_test (nat_eq p.0 key) h (length_inserted key q ps)
    where
      by_test : (b : Bool) → (b || has_key key ps) ≡ true → (has_key key ps ≡ true → length (inserted key q ps) ≡ suc (length ps)) → length (cond b (q ∷ p ∷ ps) (p ∷ inserted key q ps)) ≡ suc (suc (length ps))
      by_test true h rest = refl
      by_test false h rest = ap suc (rest h)

  pub distinct_inserted : (key : ℕ) (q : ℕ × T) (ps : List (ℕ × T)) → has_key key ps ≡ true → has_key q.0 ps ≡ false → AreDistinct ps → AreDistinct (inserted key q ps)
  distinct_inserted key q [] h new d = tt
  distinct_inserted key q (p ∷ ps) h new d =
      by_test (nat_eq p.0 key) h (λ g. distinct_inserted key q ps g (has_tail p ps q.0 new).1 d.1)
    where
      other : nat_eq q.0 p.0 ≡ false
      other = ne_eqb q.0 p.0 (λ e. (has_tail p ps q.0 new).0 (sym e))

      by_test : (b : Bool) → (b || has_key key ps) ≡ true → (has_key key ps ≡ true → AreDistinct (inserted key q ps)) → AreDistinct (cond b (q ∷ p ∷ ps) (p ∷ inserted key q ps))
      by_test true h rest = (new, d)
      by_test false h rest = (has_inserted key p.0 q ps h ∙ ap (λ b. b || has_key p.0 ps) other ∙ d.0, rest h)

  pub lacks_without : (key k : ℕ) (ps : List (ℕ × T)) → has_key k ps ≡ false → has_key k (without key ps) ≡ false
  lacks_without key k [] h = refl
  lacks_without key k (p ∷ ps) h = by_test (nat_eq p.0 key) (lacks_without key k ps (has_tail p ps k h).1)
    where
      by_test : (b : Bool) → has_key k (without key ps) ≡ false → has_key k (cond b ps (p ∷ without key ps)) ≡ false
      by_test true e = (has_tail p ps k h).1
      by_test false e = has_head p (without key ps) k (has_tail p ps k h).0 ∙ e

  pub length_without : (key : ℕ) (ps : List (ℕ × T)) → has_key key ps ≡ true → suc (length (without key ps)) ≡ length ps
  length_without key [] h = no (sym h)
  length_without key (p ∷ ps) h = by_test (nat_eq p.0 key) h (length_without key ps)
    where
      by_test : (b : Bool) → (b || has_key key ps) ≡ true → (has_key key ps ≡ true → suc (length (without key ps)) ≡ length ps) → suc (length (cond b ps (p ∷ without key ps))) ≡ suc (length ps)
      by_test true h rest = refl
      by_test false h rest = ap suc (rest h)

  pub distinct_without : (key : ℕ) (ps : List (ℕ × T)) → AreDistinct ps → AreDistinct (without key ps)
  distinct_without key [] d = tt
  distinct_without key (p ∷ ps) d = by_test (nat_eq p.0 key) (distinct_without key ps d.1)
    where
      by_test : (b : Bool) → AreDistinct (without key ps) → AreDistinct (cond b ps (p ∷ without key ps))
      by_test true rest = d.1
      by_test false rest = (lacks_without key p.0 ps d.0, rest)

  pub has_replaced : (key k : ℕ) (v : T) (ps : List (ℕ × T)) → has_key k (replaced key v ps) ≡ has_key k ps
  has_replaced key k v [] = refl
  has_replaced key k v (p ∷ ps) = by_test (nat_eq p.0 key) (has_replaced key k v ps)
    where
      by_test : (b : Bool) → has_key k (replaced key v ps) ≡ has_key k ps → has_key k (cond b ((p.0, v) ∷ ps) (p ∷ replaced key v ps)) ≡ nat_eq p.0 k || has_key k ps
      by_test true e = refl
      by_test false e = ap (λ b. nat_eq p.0 k || b) e

  pub length_replaced : (key : ℕ) (v : T) (ps : List (ℕ × T)) → length (replaced key v ps) ≡ length ps
  length_replaced key v [] = refl
  length_replaced key v (p ∷ ps) = by_test (nat_eq p.0 key) (length_replaced key v ps)
    where
      by_test : (b : Bool) → length (replaced key v ps) ≡ length ps → length (cond b ((p.0, v) ∷ ps) (p ∷ replaced key v ps)) ≡ suc (length ps)
      by_test true e = refl
      by_test false e = ap suc e

  pub distinct_replaced : (key : ℕ) (v : T) (ps : List (ℕ × T)) → AreDistinct ps → AreDistinct (replaced key v ps)
  distinct_replaced key v [] d = tt
  distinct_replaced key v (p ∷ ps) d = by_test (nat_eq p.0 key) (distinct_replaced key v ps d.1)
    where
      by_test : (b : Bool) → AreDistinct (replaced key v ps) → AreDistinct (cond b ((p.0, v) ∷ ps) (p ∷ replaced key v ps))
      by_test true rest = d
      by_test false rest = (has_replaced key p.0 v ps ∙ d.0, rest)

  pub has_pushed : (k : ℕ) (q : ℕ × T) (ps : List (ℕ × T)) → has_key k (ps ++ q ∷ []) ≡ has_key k ps || nat_eq q.0 k
  has_pushed k q [] = or_false (nat_eq q.0 k)
    where
      or_false : (b : Bool) → (b || false) ≡ b
      or_false true = refl
      or_false false = refl
  has_pushed k q (p ∷ ps) = ap (λ b. nat_eq p.0 k || b) (has_pushed k q ps) ∙ assoc (nat_eq p.0 k) (has_key k ps) (nat_eq q.0 k)
    where
      assoc : (a b c : Bool) → (a || (b || c)) ≡ ((a || b) || c)
      assoc true b c = refl
      assoc false b c = refl

  pub distinct_pushed : (q : ℕ × T) (ps : List (ℕ × T)) → has_key q.0 ps ≡ false → AreDistinct ps → AreDistinct (ps ++ q ∷ [])
  distinct_pushed q [] new d = (refl, tt)
  distinct_pushed q (p ∷ ps) new d =
      (has_pushed p.0 q ps ∙ ap (λ b. b || nat_eq q.0 p.0) d.0 ∙ ne_eqb q.0 p.0 (λ e. (has_tail p ps q.0 new).0 (sym e)), distinct_pushed q ps (has_tail p ps q.0 new).1 d.1)

  -- the ends

  -- behind a pair something stands before each key
  prev_some : (j key : ℕ) (ps : List (ℕ × T)) → has_key key ps ≡ true → (r : ℕ) × (prev_from (Some j) ps key ≡ Some r)
  prev_some j key [] h = no (sym h)
  prev_some j key (p ∷ ps) h = by_test (nat_eq p.0 key) h (prev_some p.0 key ps)
    where
      by_test : (b : Bool) → (b || has_key key ps) ≡ true → (has_key key ps ≡ true → (r : ℕ) × (prev_from (Some p.0) ps key ≡ Some r)) → (r : ℕ) × (cond b (Some j) (prev_from (Some p.0) ps key) ≡ Some r)
      by_test true h rest = (j, refl)
      by_test false h rest = rest h

  pub first_inserted_is : (key m : ℕ) (v : T) (ps : List (ℕ × T)) → has_key key ps ≡ true → end_at (prev_key ps key) (Some m) (first_key ps) ≡ first_key (inserted key (m, v) ps)
  first_inserted_is key m v [] h = no (sym h)
  first_inserted_is key m v (p ∷ ps) h = by_test (nat_eq p.0 key) h
    where
      by_test : (b : Bool) → (b || has_key key ps) ≡ true → end_at (cond b None (prev_from (Some p.0) ps key)) (Some m) (Some p.0) ≡ first_key (cond b ((m, v) ∷ p ∷ ps) (p ∷ inserted key (m, v) ps))
      by_test true h = refl
      by_test false h = ap (λ o. end_at o (Some m) (Some p.0)) (prev_some p.0 key ps h).1

  pub last_inserted : (before : Option ℕ) (key : ℕ) (q : ℕ × T) (ps : List (ℕ × T)) → has_key key ps ≡ true → last_from before (inserted key q ps) ≡ last_from before ps
  last_inserted before key q [] h = no (sym h)
  last_inserted before key q (p ∷ ps) h = by_test (nat_eq p.0 key) h (last_inserted (Some p.0) key q ps)
    where
      by_test : (b : Bool) → (b || has_key key ps) ≡ true → (has_key key ps ≡ true → last_from (Some p.0) (inserted key q ps) ≡ last_from (Some p.0) ps) → last_from before (cond b (q ∷ p ∷ ps) (p ∷ inserted key q ps)) ≡ last_from (Some p.0) ps
      by_test true h rest = refl
      by_test false h rest = rest h

  pub first_without_is : (key : ℕ) (ps : List (ℕ × T)) → has_key key ps ≡ true → end_at (prev_key ps key) (next_key ps key) (first_key ps) ≡ first_key (without key ps)
  first_without_is key [] h = no (sym h)
  first_without_is key (p ∷ ps) h = by_test (nat_eq p.0 key) h
    where
      by_test : (b : Bool) → (b || has_key key ps) ≡ true → end_at (cond b None (prev_from (Some p.0) ps key)) (cond b (first_key ps) (next_key ps key)) (Some p.0) ≡ first_key (cond b ps (p ∷ without key ps))
      by_test true h = refl
      by_test false h = ap (λ o. end_at o (next_key ps key) (Some p.0)) (prev_some p.0 key ps h).1

  pub last_without : (before : Option ℕ) (key : ℕ) (ps : List (ℕ × T)) → has_key key ps ≡ true → end_at (next_key ps key) (prev_from before ps key) (last_from before ps) ≡ last_from before (without key ps)
  last_without before key [] h = no (sym h)
  last_without before key (p ∷ ps) h = by_test (nat_eq p.0 key) h (last_without (Some p.0) key ps)
    where
      at_head : (qs : List (ℕ × T)) → end_at (first_key qs) before (last_from (Some p.0) qs) ≡ last_from before qs
      at_head [] = refl
      at_head (q ∷ qs) = refl

      by_test : (b : Bool) → (b || has_key key ps) ≡ true → (has_key key ps ≡ true → end_at (next_key ps key) (prev_from (Some p.0) ps key) (last_from (Some p.0) ps) ≡ last_from (Some p.0) (without key ps))
          → end_at (cond b (first_key ps) (next_key ps key)) (cond b before (prev_from (Some p.0) ps key)) (last_from (Some p.0) ps) ≡ last_from before (cond b ps (p ∷ without key ps))
      by_test true h rest = at_head ps
      by_test false h rest = rest h

  pub first_pushed : (m : ℕ) (v : T) (ps : List (ℕ × T)) → end_at (last_key ps) (Some m) (first_key ps) ≡ first_key (ps ++ (m, v) ∷ [])
  first_pushed m v [] = refl
  first_pushed m v (p ∷ ps) = by_last p.0 ps
    where
      by_last : (j : ℕ) (qs : List (ℕ × T)) → end_at (last_from (Some j) qs) (Some m) (Some p.0) ≡ Some p.0
      by_last j [] = refl
      by_last j (q ∷ qs) = by_last q.0 qs

  pub last_pushed : (before : Option ℕ) (q : ℕ × T) (ps : List (ℕ × T)) → last_from before (ps ++ q ∷ []) ≡ Some q.0
  last_pushed before q [] = refl
  last_pushed before q (p ∷ ps) = last_pushed (Some p.0) q ps

  pub first_replaced_is : (key : ℕ) (v : T) (ps : List (ℕ × T)) → first_key (replaced key v ps) ≡ first_key ps
  first_replaced_is key v [] = refl
  first_replaced_is key v (p ∷ ps) = by_test (nat_eq p.0 key)
    where
      by_test : (b : Bool) → first_key (cond b ((p.0, v) ∷ ps) (p ∷ replaced key v ps)) ≡ Some p.0
      by_test true = refl
      by_test false = refl

  pub last_replaced : (before : Option ℕ) (key : ℕ) (v : T) (ps : List (ℕ × T)) → last_from before (replaced key v ps) ≡ last_from before ps
  last_replaced before key v [] = refl
  last_replaced before key v (p ∷ ps) = by_test (nat_eq p.0 key) (last_replaced (Some p.0) key v ps)
    where
      by_test : (b : Bool) → last_from (Some p.0) (replaced key v ps) ≡ last_from (Some p.0) ps → last_from before (cond b ((p.0, v) ∷ ps) (p ∷ replaced key v ps)) ≡ last_from (Some p.0) ps
      by_test true e = refl
      by_test false e = e

  -- a slab that changed at one key
  pub updated : (s t : Slab (Node T)) (key : ℕ) (n : Option (Node T)) → Updates s t key n → (k : ℕ) → get t k ≡ put key n (get s) k
  updated s t key n u k =
      elim (cases_eq key k) [
        | inl e ↦ ap (get t) (sym e) ∙ u.changed ∙ sym (ap (λ b. cond b n (get s k)) (eq-eqb key k e))
        | inr d ↦ u.others k (λ e. d (sym e)) ∙ sym (ap (λ b. cond b n (get s k)) (ne_eqb key k d))
      ]

  -- a key of the list is one of the slab
  pub contained : (ps : List (ℕ × T)) (s : Slab (Node T)) (first last : Option ℕ) (spare : ℕ) → Holds ps s first last spare → (k : ℕ) → has_key k ps ≡ true → ContainsKey s k
  contained ps s first last spare h k there = ap is_some (h.nodes k) ∙ node_there None ps k ∙ there

  pub vacant : (ps : List (ℕ × T)) (s : Slab (Node T)) (first last : Option ℕ) (spare : ℕ) → Holds ps s first last spare → (k : ℕ) → get s k ≡ None → has_key k ps ≡ false
  vacant ps s first last spare h k e = sym (node_there None ps k) ∙ ap is_some (sym (h.nodes k) ∙ e)

  set_some : (b : Bool) (f : Node T → Node T) (o : Option (Node T)) → is_some o ≡ true → is_some (cond b (option_map f o) o) ≡ true
  set_some true f None e = e
  set_some true f (Some n) e = refl
  set_some false f o e = e

  pub prev_set_some : (at n : Option ℕ) (f : ℕ → Option (Node T)) (k : ℕ) → is_some (f k) ≡ true → is_some (prev_set at n f k) ≡ true
  prev_set_some at n f k e = set_some (is_key at k) (with_prev n) (f k) e

  pub next_set_some : (at n : Option ℕ) (f : ℕ → Option (Node T)) (k : ℕ) → is_some (f k) ≡ true → is_some (next_set at n f k) ≡ true
  next_set_some at n f k e = set_some (is_key at k) (with_next n) (f k) e

  prev_ext : (at n : Option ℕ) (f g : ℕ → Option (Node T)) (k : ℕ) → f k ≡ g k → prev_set at n f k ≡ prev_set at n g k
  prev_ext at n f g k e = ap (λ o. cond (is_key at k) (option_map (with_prev n) o) o) e

  next_ext : (at n : Option ℕ) (f g : ℕ → Option (Node T)) (k : ℕ) → f k ≡ g k → next_set at n f k ≡ next_set at n g k
  next_ext at n f g k e = ap (λ o. cond (is_key at k) (option_map (with_next n) o) o) e

  put_ext : (m : ℕ) (n : Option (Node T)) (f g : ℕ → Option (Node T)) (k : ℕ) → f k ≡ g k → put m n f k ≡ put m n g k
  put_ext m n f g k e = ap (cond (nat_eq m k) n) e

  -- a new node between two, or at the end; one that goes; one whose value changes

  pub holds_inserted : (ps : List (ℕ × T)) (s s1 s2 s3 : Slab (Node T)) (first last prev first' last' : Option ℕ) (spare less key m : ℕ) (v : T) → Holds ps s first last spare → has_key key ps ≡ true → prev ≡ prev_key ps key
      → get s m ≡ None → Updates s s1 m (node_of v prev (Some key)) → ((k : ℕ) → get s2 k ≡ prev_set (Some key) (Some m) (get s1) k) → ((k : ℕ) → get s3 k ≡ next_set prev (Some m) (get s2) k)
      → first' ≡ end_at prev (Some m) first → last' ≡ last
      → slab_len s3 ≡ slab_len s + 1 → s3.capacity ≡ s.capacity → less + 1 ≡ spare → Holds (inserted key (m, v) ps) s3 first' last' less
  holds_inserted ps s s1 s2 s3 first last prev first' last' spare less key m v h there p free up f2 f3 fe le len cap room =
      let new : has_key m ps ≡ false = vacant ps s first last spare h m free in
      record {
        nodes = λ k.
            f3 k
            ∙ next_ext prev (Some m) (get s2) (prev_set (Some key) (Some m) (put m (node_of v prev (Some key)) (node_at ps))) k
            (f2 k ∙ prev_ext (Some key) (Some m) (get s1) (put m (node_of v prev (Some key)) (node_at ps)) k (updated s s1 m (node_of v prev (Some key)) up k ∙ put_ext m (node_of v prev (Some key)) (get s) (node_at ps) k (h.nodes k)))
            ∙ ap (λ q. next_set q (Some m) (prev_set (Some key) (Some m) (put m (node_of v q (Some key)) (node_at ps))) k) p
            ∙ sym (insert_nodes None ps key m v h.distinct there new (λ r e. absurd (cc)) (λ r e. absurd (cc)) k);
        distinct = distinct_inserted key (m, v) ps there new h.distinct;
        len = len ∙ ap (λ n. n + 1) h.len ∙ more (length ps) ∙ sym (length_inserted key (m, v) ps there);
        first_is = fe ∙ ap (λ o. end_at o (Some m) first) p ∙ ap (end_at (prev_key ps key) (Some m)) h.first_is ∙ first_inserted_is key m v ps there;
        last_is = le ∙ h.last_is ∙ sym (last_inserted None key (m, v) ps there);
        room = omega (arith, len, cap, room, h.room);
      }
    where
      more : (n : ℕ) → n + 1 ≡ suc n
      more n = omega arith

  pub holds_pushed : (ps : List (ℕ × T)) (s s1 s2 : Slab (Node T)) (first last first' : Option ℕ) (spare less m : ℕ) (v : T) → Holds ps s first last spare
      → get s m ≡ None → Updates s s1 m (node_of v last None) → ((k : ℕ) → get s2 k ≡ next_set last (Some m) (get s1) k)
      → first' ≡ end_at last (Some m) first → slab_len s2 ≡ slab_len s + 1 → s2.capacity ≡ s.capacity → less + 1 ≡ spare → Holds (ps ++ (m, v) ∷ []) s2 first' (Some m) less
  holds_pushed ps s s1 s2 first last first' spare less m v h free up f2 fe len cap room =
      let new : has_key m ps ≡ false = vacant ps s first last spare h m free in
      record {
        nodes = λ k.
            f2 k
            ∙ next_ext last (Some m) (get s1) (put m (node_of v last None) (node_at ps)) k (updated s s1 m (node_of v last None) up k ∙ put_ext m (node_of v last None) (get s) (node_at ps) k (h.nodes k))
            ∙ ap (λ q. next_set q (Some m) (put m (node_of v q None) (node_at ps)) k) h.last_is
            ∙ sym (push_nodes None ps m v h.distinct new (λ r e. absurd (cc)) (λ r e. absurd (cc)) k);
        distinct = distinct_pushed (m, v) ps new h.distinct;
        len = omega (arith, len, h.len, length-append ps ((m, v) ∷ []));
        first_is = fe ∙ ap (λ o. end_at o (Some m) first) h.last_is ∙ ap (end_at (last_key ps) (Some m)) h.first_is ∙ first_pushed m v ps;
        last_is = sym (last_pushed None (m, v) ps);
        room = omega (arith, len, cap, room, h.room);
      }

  pub holds_without : (ps : List (ℕ × T)) (s s1 s2 s3 : Slab (Node T)) (first last prev next first' last' : Option ℕ) (spare key : ℕ) → Holds ps s first last spare → has_key key ps ≡ true → prev ≡ prev_key ps key → next ≡ next_key ps key
      → Updates s s1 key None → ((k : ℕ) → get s2 k ≡ next_set prev next (get s1) k) → ((k : ℕ) → get s3 k ≡ prev_set next prev (get s2) k)
      → first' ≡ end_at prev next first → last' ≡ end_at next prev last → slab_len s3 + 1 ≡ slab_len s → s3.capacity ≡ s.capacity → Holds (without key ps) s3 first' last' spare
  holds_without ps s s1 s2 s3 first last prev next first' last' spare key h there p n up f2 f3 fe le len cap =
      record {
        nodes = λ k.
            f3 k
            ∙ prev_ext next prev (get s2) (next_set prev next (put key None (node_at ps))) k
            (f2 k ∙ next_ext prev next (get s1) (put key None (node_at ps)) k (updated s s1 key None up k ∙ put_ext key None (get s) (node_at ps) k (h.nodes k)))
            ∙ ap (λ q. prev_set next q (next_set q next (put key None (node_at ps))) k) p
            ∙ ap (λ q. prev_set q (prev_key ps key) (next_set (prev_key ps key) q (put key None (node_at ps))) k) n
            ∙ sym (remove_nodes None ps key h.distinct there (λ r e. absurd (cc)) k);
        distinct = distinct_without key ps h.distinct;
        len = omega (arith, len, h.len, length_without key ps there);
        first_is = fe ∙ ap (λ o. end_at o next first) p ∙ ap (λ o. end_at (prev_key ps key) o first) n ∙ ap (end_at (prev_key ps key) (next_key ps key)) h.first_is ∙ first_without_is key ps there;
        last_is = le ∙ ap (λ o. end_at o prev last) n ∙ ap (λ o. end_at (next_key ps key) o last) p ∙ ap (end_at (next_key ps key) (prev_key ps key)) h.last_is ∙ last_without None key ps there;
        room = omega (arith, len, cap, h.room);
      }

  pub holds_replaced : (ps : List (ℕ × T)) (s s1 : Slab (Node T)) (first last : Option ℕ) (spare key : ℕ) (v : T) → Holds ps s first last spare
      → Updates s s1 key (option_map (with_value v) (get s key)) → slab_len s1 ≡ slab_len s → s1.capacity ≡ s.capacity → Holds (replaced key v ps) s1 first last spare
  holds_replaced ps s s1 first last spare key v h up len cap =
      record {
        nodes = λ k.
            updated s s1 key (option_map (with_value v) (get s key)) up k
            ∙ put_ext key (option_map (with_value v) (get s key)) (get s) (node_at ps) k (h.nodes k)
            ∙ ap (λ o. put key (option_map (with_value v) o) (node_at ps) k) (h.nodes key)
            ∙ sym (replace_nodes None ps key v k h.distinct);
        distinct = distinct_replaced key v ps h.distinct;
        len = len ∙ h.len ∙ sym (length_replaced key v ps);
        first_is = h.first_is ∙ sym (first_replaced_is key v ps);
        last_is = h.last_is ∙ sym (last_replaced None key v ps);
        room = omega (arith, len, cap, h.room);
      }

  -- more room
  pub holds_room : (ps : List (ℕ × T)) (s t : Slab (Node T)) (first last : Option ℕ) (spare more : ℕ) → Holds ps s first last spare → t ≡ record s { capacity = t.capacity } → slab_len t + more ≤ t.capacity → Holds ps t first last more
  holds_room ps s t first last spare more h same room =
      record {
        nodes = λ k. ap (λ u. get u k) same ∙ h.nodes k;
        distinct = h.distinct;
        len = ap slab_len same ∙ h.len;
        first_is = h.first_is;
        last_is = h.last_is;
        room = room;
      }

  -- what the node at a key says of the list
  pub value_found : (ps : List (ℕ × T)) (s : Slab (Node T)) (first last : Option ℕ) (spare : ℕ) → Holds ps s first last spare → (k : ℕ) (o : Option (Node T)) → o ≡ get s k → option_map (λ n. n.value) o ≡ value_at ps k
  value_found ps s first last spare h k o e = ap (option_map (λ n. n.value)) (e ∙ h.nodes k) ∙ node_value None ps k

  pub next_found : (ps : List (ℕ × T)) (s : Slab (Node T)) (first last : Option ℕ) (spare : ℕ) → Holds ps s first last spare → (k : ℕ) (n : Node T) → get s k ≡ Some n → n.next ≡ next_key ps k
  next_found ps s first last spare h k n e = node_next None ps k n (sym (h.nodes k) ∙ e)

  pub prev_found : (ps : List (ℕ × T)) (s : Slab (Node T)) (first last : Option ℕ) (spare : ℕ) → Holds ps s first last spare → (k : ℕ) (n : Node T) → get s k ≡ Some n → n.prev ≡ prev_key ps k
  prev_found ps s first last spare h k n e = node_prev None ps k n (sym (h.nodes k) ∙ e)

  put_some : (m : ℕ) (n : Node T) (f : ℕ → Option (Node T)) (k : ℕ) → is_some (f k) ≡ true → is_some (put m (Some n) f k) ≡ true
  put_some m n f k e = by_test (nat_eq m k)
    where
      by_test : (b : Bool) → is_some (cond b (Some n) (f k)) ≡ true
      by_test true = refl
      by_test false = e

  -- what stands before or after a key is there: before, with a new node, and without one
  pub before_there : (ps : List (ℕ × T)) (s : Slab (Node T)) (first last prev : Option ℕ) (spare key : ℕ) → Holds ps s first last spare → prev ≡ prev_key ps key → (k : ℕ) → prev ≡ Some k → ContainsKey s k
  before_there ps s first last prev spare key h p k e =
      elim (prev_is None ps key k (sym p ∙ e)) [
        | inl q ↦ absurd (cc)
        | inr q ↦ contained ps s first last spare h k q
      ]

  pub after_there : (ps : List (ℕ × T)) (s : Slab (Node T)) (first last next : Option ℕ) (spare key : ℕ) → Holds ps s first last spare → next ≡ next_key ps key → (k : ℕ) → next ≡ Some k → ContainsKey s k
  after_there ps s first last next spare key h n k e = contained ps s first last spare h k (next_is ps key k (sym n ∙ e))

  pub last_there : (ps : List (ℕ × T)) (s : Slab (Node T)) (first last : Option ℕ) (spare : ℕ) → Holds ps s first last spare → (k : ℕ) → last ≡ Some k → ContainsKey s k
  last_there ps s first last spare h k e =
      elim (last_is None ps k (sym h.last_is ∙ e)) [
        | inl q ↦ absurd (cc)
        | inr q ↦ contained ps s first last spare h k q
      ]

  pub there_with : (s t : Slab (Node T)) (m : ℕ) (n : Node T) (k : ℕ) → Updates s t m (Some n) → ContainsKey s k → ContainsKey t k
  there_with s t m n k u there = ap is_some (updated s t m (Some n) u k) ∙ put_some m n (get s) k there

  pub there_prev : (s t : Slab (Node T)) (at n : Option ℕ) (k : ℕ) → ((k : ℕ) → get t k ≡ prev_set at n (get s) k) → ContainsKey s k → ContainsKey t k
  there_prev s t at n k f there = ap is_some (f k) ∙ prev_set_some at n (get s) k there

  pub there_next : (s t : Slab (Node T)) (at n : Option ℕ) (k : ℕ) → ((k : ℕ) → get t k ≡ next_set at n (get s) k) → ContainsKey s k → ContainsKey t k
  there_next s t at n k f there = ap is_some (f k) ∙ next_set_some at n (get s) k there

  -- another key is still there
  pub there_without : (s t : Slab (Node T)) (key k : ℕ) → Updates s t key None → k ≢ key → ContainsKey s k → ContainsKey t k
  there_without s t key k u d there = ap is_some (u.others k d) ∙ there

  -- a neighbour is another
  pub before_differs : (before : Option ℕ) (ps : List (ℕ × T)) (key k : ℕ) → AreDistinct ps → ((r : ℕ) → before ≡ Some r → has_key r ps ≡ false) → has_key key ps ≡ true → prev_from before ps key ≡ Some k → k ≢ key
  before_differs before [] key k d apart h e q = no (sym h)
  before_differs before (p ∷ ps) key k d apart h e q =
      by_test (nat_eq p.0 key) refl h e (λ g z. before_differs (Some p.0) ps key k d.1 (λ r z. let same : p.0 ≡ r = cc in ap (λ j. has_key j ps) (sym same) ∙ d.0) g z q)
    where
      by_test : (b : Bool) → nat_eq p.0 key ≡ b → (b || has_key key ps) ≡ true → cond b before (prev_from (Some p.0) ps key) ≡ Some k → (has_key key ps ≡ true → prev_from (Some p.0) ps key ≡ Some k → ⊥) → ⊥
      by_test true t h e rest = no (sym (ap (λ j. has_key j (p ∷ ps)) q ∙ ap (λ b. b || has_key key ps) t) ∙ apart k e)
      by_test false t h e rest = rest h e

  pub after_differs : (ps : List (ℕ × T)) (key k : ℕ) → AreDistinct ps → next_key ps key ≡ Some k → k ≢ key
  after_differs [] key k d e q = absurd (cc)
  after_differs (p ∷ ps) key k d e q = by_test (nat_eq p.0 key) refl e (λ z. after_differs ps key k d.1 z q)
    where
      in_first : (qs : List (ℕ × T)) → first_key qs ≡ Some k → has_key k qs ≡ true
      in_first [] e = absurd (cc)
      in_first (r ∷ qs) e = let same : r.0 ≡ k = cc in ap (λ b. b || has_key k qs) (eq-eqb r.0 k same)

      by_test : (b : Bool) → nat_eq p.0 key ≡ b → cond b (first_key ps) (next_key ps key) ≡ Some k → (next_key ps key ≡ Some k → ⊥) → ⊥
      by_test true t e rest = no (sym (in_first ps e) ∙ ap (λ j. has_key j ps) (q ∙ sym (eqb-true p.0 key t)) ∙ d.0)
      by_test false t e rest = rest e

  -- what a closing wants: the pairs are those that the fields tell
  pub closed : (ps : List (ℕ × T)) (s : Slab (Node T)) (first last : Option ℕ) (spare : ℕ) → Holds ps s first last spare → Holds (pairs_of s first) s first last spare
  closed ps s first last spare h = subst (λ qs. Holds qs s first last spare) (sym (pairs_are ps s first last spare h)) h
