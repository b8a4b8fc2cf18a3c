-- What an edit of a list makes of its nodes.
use Rattle.std.proofs.Common.{◌≡◌, ◌≢◌, ◌⊎◌, ℕ, Bool, true, false, cond, ◌||◌, nat_eq, List, [], ◌∷◌, ◌++◌, Option, Some, None, refl, sym, ap, ◌∙◌, inl, inr}
use Rattle.std.specs.Prelude.{option_map}
use Rattle.std.proofs.lemmas.Bool.{cases_eq, eq-eqb, ne_eqb}
use Rattle.entry_list.specs.declared.node.Node.{Node}
use Rattle.entry_list.specs.Listed.{has_key, AreDistinct, first_key, last_from, next_key, prev_from, inserted, without, replaced}
use Rattle.entry_list.specs.Nodes.{node_from}
use Rattle.entry_list.specs.walks.Linked.{with_prev, with_next, with_value, is_key, put, prev_set, next_set}
use Rattle.entry_list.proofs.NodeLaws.{has_tail, has_head, node_none}

no : {P : Type 0} → true ≡ false → P
no e = absurd (cc)

-- a key is none of these pairs', and not this one
abbrev pub IsApart : Option ℕ → {T : Type 0} → List (ℕ × T) → Type 0
IsApart before ps = (r : ℕ) → before ≡ Some r → has_key r ps ≡ false

not_key : (at : Option ℕ) (k : ℕ) → ((r : ℕ) → at ≡ Some r → r ≢ k) → is_key at k ≡ false
not_key None k h = refl
not_key (Some r) k h = ne_eqb r k (h r refl)

same_cases : {A : Type 0} (b : Bool) (x : A) → x ≡ cond b x x
same_cases true x = refl
same_cases false x = refl

module _ {T : Type 0} where
  next_miss : (at n : Option ℕ) (f : ℕ → Option (Node T)) (k : ℕ) → is_key at k ≡ false → next_set at n f k ≡ f k
  next_miss at n f k e = ap (λ b. cond b (option_map (with_next n) (f k)) (f k)) e

  next_hit : (at n : Option ℕ) (f : ℕ → Option (Node T)) (k : ℕ) → is_key at k ≡ true → next_set at n f k ≡ option_map (with_next n) (f k)
  next_hit at n f k e = ap (λ b. cond b (option_map (with_next n) (f k)) (f k)) e

  -- where there is no node, none changes
  next_none : (at n : Option ℕ) (f : ℕ → Option (Node T)) (k : ℕ) → f k ≡ None → next_set at n f k ≡ None
  next_none at n f k e = by_test (is_key at k)
    where
      by_test : (b : Bool) → cond b (option_map (with_next n) (f k)) (f k) ≡ None
      by_test true = ap (option_map (with_next n)) e
      by_test false = e

  prev_miss : (at n : Option ℕ) (f : ℕ → Option (Node T)) (k : ℕ) → is_key at k ≡ false → prev_set at n f k ≡ f k
  prev_miss at n f k e = ap (λ b. cond b (option_map (with_prev n) (f k)) (f k)) e

  prev_hit : (at n : Option ℕ) (f : ℕ → Option (Node T)) (k : ℕ) → is_key at k ≡ true → prev_set at n f k ≡ option_map (with_prev n) (f k)
  prev_hit at n f k e = ap (λ b. cond b (option_map (with_prev n) (f k)) (f k)) e

  put_hit : (m : ℕ) (n : Option (Node T)) (f : ℕ → Option (Node T)) (k : ℕ) → m ≡ k → put m n f k ≡ n
  put_hit m n f k e = ap (λ b. cond b n (f k)) (eq-eqb m k e)

  put_miss : (m : ℕ) (n : Option (Node T)) (f : ℕ → Option (Node T)) (k : ℕ) → m ≢ k → put m n f k ≡ f k
  put_miss m n f k e = ap (λ b. cond b n (f k)) (ne_eqb m k e)

  abbrev pub node_of : T → Option ℕ → Option ℕ → Option (Node T)
  node_of v prev next = Some (record { value = v; prev = prev; next = next })

  -- the nodes with a new one between these two
  abbrev with_new : Option ℕ → Option ℕ → List (ℕ × T) → ℕ → ℕ → T → ℕ → Option (Node T)
  with_new before prev ps key m v k = next_set prev (Some m) (prev_set (Some key) (Some m) (put m (node_of v prev (Some key)) (node_from before ps))) k

  inserted_here : (key : ℕ) (q p : ℕ × T) (ps : List (ℕ × T)) → p.0 ≡ key → inserted key q (p ∷ ps) ≡ q ∷ p ∷ ps
  inserted_here key q p ps e = ap (λ b. cond b (q ∷ p ∷ ps) (p ∷ inserted key q ps)) (eq-eqb p.0 key e)

  inserted_later : (key : ℕ) (q p : ℕ × T) (ps : List (ℕ × T)) → p.0 ≢ key → inserted key q (p ∷ ps) ≡ p ∷ inserted key q ps
  inserted_later key q p ps e = ap (λ b. cond b (q ∷ p ∷ ps) (p ∷ inserted key q ps)) (ne_eqb p.0 key e)

  prev_here : (before : Option ℕ) (key : ℕ) (p : ℕ × T) (ps : List (ℕ × T)) → p.0 ≡ key → prev_from before (p ∷ ps) key ≡ before
  prev_here before key p ps e = ap (λ b. cond b before (prev_from (Some p.0) ps key)) (eq-eqb p.0 key e)

  prev_later : (before : Option ℕ) (key : ℕ) (p : ℕ × T) (ps : List (ℕ × T)) → p.0 ≢ key → prev_from before (p ∷ ps) key ≡ prev_from (Some p.0) ps key
  prev_later before key p ps e = ap (λ b. cond b before (prev_from (Some p.0) ps key)) (ne_eqb p.0 key e)

  -- what stands before a key is this, or a key of a pair
  pub prev_is : (before : Option ℕ) (ps : List (ℕ × T)) (key r : ℕ) → prev_from before ps key ≡ Some r → (before ≡ Some r) ⊎ (has_key r ps ≡ true)
  prev_is before [] key r e = absurd (cc)
  prev_is before (p ∷ ps) key r e = by_test (nat_eq p.0 key) e (prev_is (Some p.0) ps key r)
    where
      by_key : (Some p.0 ≡ Some r) ⊎ (has_key r ps ≡ true) → (before ≡ Some r) ⊎ (has_key r (p ∷ ps) ≡ true)
      by_key (inl q) = let same : p.0 ≡ r = cc in inr (ap (λ b. b || has_key r ps) (eq-eqb p.0 r same))
      by_key (inr q) = inr (by_or (nat_eq p.0 r))
        where
          by_or : (b : Bool) → (b || has_key r ps) ≡ true
          by_or true = refl
          by_or false = q

      by_test : (b : Bool) → cond b before (prev_from (Some p.0) ps key) ≡ Some r → (prev_from (Some p.0) ps key ≡ Some r → (Some p.0 ≡ Some r) ⊎ (has_key r ps ≡ true)) → (before ≡ Some r) ⊎ (has_key r (p ∷ ps) ≡ true)
      by_test true e rest = inl e
      by_test false e rest = by_key (rest e)

  -- a key that is in the list and not in the list
  clash : (r k : ℕ) (ps : List (ℕ × T)) → has_key r ps ≡ true → has_key k ps ≡ false → r ≢ k
  clash r k ps a b e = no (sym a ∙ ap (λ j. has_key j ps) e ∙ b)

  -- whether a key is the first
  abbrev heads : ℕ → List (ℕ × T) → Bool
  heads key [] = false
  heads key (p ∷ ps) = nat_eq p.0 key

  first_inserted : (key m : ℕ) (v : T) (ps : List (ℕ × T)) → first_key (inserted key (m, v) ps) ≡ cond (heads key ps) (Some m) (first_key ps)
  first_inserted key m v [] = refl
  first_inserted key m v (p ∷ ps) = by_test (nat_eq p.0 key)
    where
      by_test : (b : Bool) → first_key (cond b ((m, v) ∷ p ∷ ps) (p ∷ inserted key (m, v) ps)) ≡ cond b (Some m) (Some p.0)
      by_test true = refl
      by_test false = refl

  -- what stands before a key is what stands before the first
  prev_heads : (j key : ℕ) (ps : List (ℕ × T)) → has_key j ps ≡ false → is_key (prev_from (Some j) ps key) j ≡ heads key ps
  prev_heads j key [] h = refl
  prev_heads j key (p ∷ ps) h = by_test (nat_eq p.0 key)
    where
      here : is_key (prev_from (Some p.0) ps key) j ≡ false
      here = not_key (prev_from (Some p.0) ps key) j (λ r e w. elim (prev_is (Some p.0) ps key r e) [
        | inl q ↦ let same : p.0 ≡ r = cc in (has_tail p ps j h).0 (same ∙ w)
        | inr q ↦ clash r j ps q (has_tail p ps j h).1 w
      ])

      by_test : (b : Bool) → is_key (cond b (Some j) (prev_from (Some p.0) ps key)) j ≡ b
      by_test true = eq-eqb j j refl
      by_test false = here

  missed : (at : Option ℕ) (k : ℕ) (o : Option (Node T)) (n : Option ℕ) → ((r : ℕ) → at ≡ Some r → r ≡ k → o ≡ None) → o ≡ cond (is_key at k) (option_map (with_next n) o) o
  missed None k o n h = refl
  missed (Some r) k o n h =
      elim (cases_eq r k) [
        | inl e ↦ let a : nat_eq r k ≡ true = eq-eqb r k e in let g : o ≡ None = h r refl e in simp (a, g)
        | inr e ↦ let a : nat_eq r k ≡ false = ne_eqb r k e in simp a
      ]

  pub insert_nodes : (before : Option ℕ) (ps : List (ℕ × T)) (key m : ℕ) (v : T) → AreDistinct ps → has_key key ps ≡ true → has_key m ps ≡ false → IsApart before ps → ((r : ℕ) → before ≡ Some r → r ≢ m)
      → (k : ℕ) → node_from before (inserted key (m, v) ps) k
      ≡ next_set (prev_from before ps key) (Some m) (prev_set (Some key) (Some m) (put m (node_of v (prev_from before ps key) (Some key)) (node_from before ps))) k
  insert_nodes before [] key m v d there new apart other k = no (sym there)
  insert_nodes before (p ∷ ps) key m v d there new apart other k =
      elim (cases_eq p.0 key) [
        | inl here ↦ at_head here
        | inr later ↦ behind later (λ t n a o. insert_nodes (Some p.0) ps key m v d.1 t n a o k)
      ]
    where
      at_head : p.0 ≡ key → node_from before (inserted key (m, v) (p ∷ ps)) k
          ≡ next_set (prev_from before (p ∷ ps) key) (Some m) (prev_set (Some key) (Some m) (put m (node_of v (prev_from before (p ∷ ps) key) (Some key)) (node_from before (p ∷ ps)))) k
      at_head here =
          rw (inserted_here key (m, v) p ps here, prev_here before key p ps here) (
          elim (cases_eq m k) [
            | inl e ↦ new_at e
            | inr n ↦ elim (cases_eq p.0 k) [ inl e ↦ key_at n e | inr q ↦ else_at n q ]
          ]
          )
        where
          new_at : m ≡ k → node_from before ((m, v) ∷ p ∷ ps) k ≡ with_new before before (p ∷ ps) key m v k
          new_at e =
              let a : is_key before k ≡ false = not_key before k (λ r q w. other r q (w ∙ sym e)) in
              let b : nat_eq key k ≡ false = ne_eqb key k (λ w. clash key m (p ∷ ps) there new (w ∙ sym e)) in
              let c : nat_eq m k ≡ true = eq-eqb m k e in
              simp (a, b, c) (ap (λ j. node_of v before (Some j)) here)

          key_at : m ≢ k → p.0 ≡ k → node_from before ((m, v) ∷ p ∷ ps) k ≡ with_new before before (p ∷ ps) key m v k
          key_at n e =
              let a : is_key before k ≡ false = not_key before k (λ r q w. clash k r (p ∷ ps) (ap (λ b. b || has_key k ps) (eq-eqb p.0 k e)) (apart r q) (sym w)) in
              let b : nat_eq key k ≡ true = eq-eqb key k (sym here ∙ e) in
              let c : nat_eq m k ≡ false = ne_eqb m k n in
              let f : nat_eq p.0 k ≡ true = eq-eqb p.0 k e in
              simp (a, b, c, f)

          else_at : m ≢ k → p.0 ≢ k → node_from before ((m, v) ∷ p ∷ ps) k ≡ with_new before before (p ∷ ps) key m v k
          else_at n q =
              let b : nat_eq key k ≡ false = ne_eqb key k (λ w. q (here ∙ w)) in
              let c : nat_eq m k ≡ false = ne_eqb m k n in
              let f : nat_eq p.0 k ≡ false = ne_eqb p.0 k q in
              simp (b, c, f) (missed before k (node_from (Some p.0) ps k) (Some m) (λ r g w. node_none (Some p.0) ps k (has_tail p ps k (ap (λ j. has_key j (p ∷ ps)) (sym w) ∙ apart r g)).1))

      behind : p.0 ≢ key
          → (has_key key ps ≡ true → has_key m ps ≡ false → IsApart (Some p.0) ps → ((r : ℕ) → Some p.0 ≡ Some r → r ≢ m) → node_from (Some p.0) (inserted key (m, v) ps) k ≡ with_new (Some p.0) (prev_from (Some p.0) ps key) ps key m v k)
          → node_from before (inserted key (m, v) (p ∷ ps)) k
          ≡ next_set (prev_from before (p ∷ ps) key) (Some m) (prev_set (Some key) (Some m) (put m (node_of v (prev_from before (p ∷ ps) key) (Some key)) (node_from before (p ∷ ps)))) k
      behind later induct =
          rw (inserted_later key (m, v) p ps later, prev_later before key p ps later) (
          elim (cases_eq p.0 k) [
            | inl e ↦ at_key e
            | inr n ↦ further n
          ]
          )
        where
          fresh : (p.0 ≢ m) × (has_key m ps ≡ false)
          fresh = has_tail p ps m new

          among : has_key key ps ≡ true
          among = sym (has_head p ps key later) ∙ there

          at_key : p.0 ≡ k → node_from before (p ∷ inserted key (m, v) ps) k ≡ with_new before (prev_from (Some p.0) ps key) (p ∷ ps) key m v k
          at_key e =
              let a : nat_eq p.0 k ≡ true = eq-eqb p.0 k e in
              let b : nat_eq key k ≡ false = ne_eqb key k (λ w. later (e ∙ sym w)) in
              let c : nat_eq m k ≡ false = ne_eqb m k (λ w. fresh.0 (e ∙ sym w)) in
              let f : is_key (prev_from (Some p.0) ps key) k ≡ heads key ps = ap (is_key (prev_from (Some p.0) ps key)) (sym e) ∙ prev_heads p.0 key ps d.0 in
              let h : first_key (inserted key (m, v) ps) ≡ cond (heads key ps) (Some m) (first_key ps) = first_inserted key m v ps in
              simp (a, b, c, f, h) (by_heads (heads key ps))
            where
              by_heads : (b : Bool) → node_of p.1 before (cond b (Some m) (first_key ps))
                  ≡ cond b (node_of p.1 before (Some m)) (node_of p.1 before (first_key ps))
              by_heads true = refl
              by_heads false = refl

          further : p.0 ≢ k → node_from before (p ∷ inserted key (m, v) ps) k ≡ with_new before (prev_from (Some p.0) ps key) (p ∷ ps) key m v k
          further n =
              let a : nat_eq p.0 k ≡ false = ne_eqb p.0 k n in
              simp a (induct among fresh.1 (λ r e. let same : p.0 ≡ r = cc in ap (λ j. has_key j ps) (sym same) ∙ d.0) (λ r e w. let same : p.0 ≡ r = cc in fresh.0 (same ∙ w)))

  -- one goes

  prev_none : (at n : Option ℕ) (f : ℕ → Option (Node T)) (k : ℕ) → f k ≡ None → prev_set at n f k ≡ None
  prev_none at n f k e = by_test (is_key at k)
    where
      by_test : (b : Bool) → cond b (option_map (with_prev n) (f k)) (f k) ≡ None
      by_test true = ap (option_map (with_prev n)) e
      by_test false = e

  -- behind another key only the first node is another
  rehead : (b c : Option ℕ) (ps : List (ℕ × T)) (k : ℕ) → node_from b ps k ≡ prev_set (first_key ps) b (node_from c ps) k
  rehead b c [] k = refl
  rehead b c (p ∷ ps) k = by_test (nat_eq p.0 k)
    where
      by_test : (t : Bool) → cond t (node_of p.1 b (first_key ps)) (node_from (Some p.0) ps k)
          ≡ cond t (option_map (with_prev b) (cond t (node_of p.1 c (first_key ps)) (node_from (Some p.0) ps k))) (cond t (node_of p.1 c (first_key ps)) (node_from (Some p.0) ps k))
      by_test true = refl
      by_test false = refl

  pub first_in : (ps : List (ℕ × T)) (r : ℕ) → first_key ps ≡ Some r → has_key r ps ≡ true
  first_in [] r e = absurd (cc)
  first_in (p ∷ ps) r e = let same : p.0 ≡ r = cc in ap (λ b. b || has_key r ps) (eq-eqb p.0 r same)

  pub next_is : (ps : List (ℕ × T)) (key r : ℕ) → next_key ps key ≡ Some r → has_key r ps ≡ true
  next_is [] key r e = absurd (cc)
  next_is (p ∷ ps) key r e = by_or (nat_eq p.0 r) (by_test (nat_eq p.0 key) e (first_in ps r) (next_is ps key r))
    where
      by_or : (b : Bool) → has_key r ps ≡ true → (b || has_key r ps) ≡ true
      by_or true h = refl
      by_or false h = h

      by_test : (b : Bool) → cond b (first_key ps) (next_key ps key) ≡ Some r → (first_key ps ≡ Some r → has_key r ps ≡ true) → (next_key ps key ≡ Some r → has_key r ps ≡ true) → has_key r ps ≡ true
      by_test true e here later = here e
      by_test false e here later = later e

  without_here : (key : ℕ) (p : ℕ × T) (ps : List (ℕ × T)) → p.0 ≡ key → without key (p ∷ ps) ≡ ps
  without_here key p ps e = ap (λ b. cond b ps (p ∷ without key ps)) (eq-eqb p.0 key e)

  without_later : (key : ℕ) (p : ℕ × T) (ps : List (ℕ × T)) → p.0 ≢ key → without key (p ∷ ps) ≡ p ∷ without key ps
  without_later key p ps e = ap (λ b. cond b ps (p ∷ without key ps)) (ne_eqb p.0 key e)

  next_here : (key : ℕ) (p : ℕ × T) (ps : List (ℕ × T)) → p.0 ≡ key → next_key (p ∷ ps) key ≡ first_key ps
  next_here key p ps e = ap (λ b. cond b (first_key ps) (next_key ps key)) (eq-eqb p.0 key e)

  next_later : (key : ℕ) (p : ℕ × T) (ps : List (ℕ × T)) → p.0 ≢ key → next_key (p ∷ ps) key ≡ next_key ps key
  next_later key p ps e = ap (λ b. cond b (first_key ps) (next_key ps key)) (ne_eqb p.0 key e)

  first_without : (key : ℕ) (ps : List (ℕ × T)) → first_key (without key ps) ≡ cond (heads key ps) (next_key ps key) (first_key ps)
  first_without key [] = refl
  first_without key (p ∷ ps) = by_test (nat_eq p.0 key)
    where
      by_test : (b : Bool) → first_key (cond b ps (p ∷ without key ps)) ≡ cond b (cond b (first_key ps) (next_key ps key)) (Some p.0)
      by_test true = refl
      by_test false = refl

  -- the nodes without one between these two
  abbrev with_none : Option ℕ → Option ℕ → Option ℕ → List (ℕ × T) → ℕ → ℕ → Option (Node T)
  with_none before prev next ps key k = prev_set next prev (next_set prev next (put key None (node_from before ps))) k

  pub remove_nodes : (before : Option ℕ) (ps : List (ℕ × T)) (key : ℕ) → AreDistinct ps → has_key key ps ≡ true → IsApart before ps
      → (k : ℕ) → node_from before (without key ps) k ≡ with_none before (prev_from before ps key) (next_key ps key) ps key k
  remove_nodes before [] key d there apart k = no (sym there)
  remove_nodes before (p ∷ ps) key d there apart k =
      elim (cases_eq p.0 key) [
        | inl here ↦ at_head here
        | inr later ↦ behind later (λ t a. remove_nodes (Some p.0) ps key d.1 t a k)
      ]
    where
      at_head : p.0 ≡ key → node_from before (without key (p ∷ ps)) k ≡ with_none before (prev_from before (p ∷ ps) key) (next_key (p ∷ ps) key) (p ∷ ps) key k
      at_head here =
          rw (without_here key p ps here, prev_here before key p ps here, next_here key p ps here) (
          elim (cases_eq key k) [
            | inl e ↦ node_none before ps k (ap (λ j. has_key j ps) (sym e ∙ sym here) ∙ d.0) ∙ sym (prev_none (first_key ps) before (next_set before (first_key ps) (put key None (node_from before (p ∷ ps)))) k (next_none before (first_key ps) (put key None (node_from before (p ∷ ps))) k (put_hit key None (node_from before (p ∷ ps)) k e)))
            | inr n ↦ else_at n
          ]
          )
        where
          else_at : key ≢ k → node_from before ps k ≡ with_none before before (first_key ps) (p ∷ ps) key k
          else_at n =
              let a : nat_eq key k ≡ false = ne_eqb key k n in
              let b : nat_eq p.0 k ≡ false = ne_eqb p.0 k (λ w. n (sym here ∙ w)) in
              let m : node_from (Some p.0) ps k ≡ cond (is_key before k) (option_map (with_next (first_key ps)) (node_from (Some p.0) ps k)) (node_from (Some p.0) ps k) =
              missed before k (node_from (Some p.0) ps k) (first_key ps) (λ r g w. node_none (Some p.0) ps k (has_tail p ps k (ap (λ j. has_key j (p ∷ ps)) (sym w) ∙ apart r g)).1) in
              rehead before (Some p.0) ps k ∙ ap (λ o. cond (is_key (first_key ps) k) (option_map (with_prev before) o) o) m ∙ simp (a, b)

      behind : p.0 ≢ key → (has_key key ps ≡ true → IsApart (Some p.0) ps → node_from (Some p.0) (without key ps) k ≡ with_none (Some p.0) (prev_from (Some p.0) ps key) (next_key ps key) ps key k)
          → node_from before (without key (p ∷ ps)) k ≡ with_none before (prev_from before (p ∷ ps) key) (next_key (p ∷ ps) key) (p ∷ ps) key k
      behind later induct =
          rw (without_later key p ps later, prev_later before key p ps later, next_later key p ps later) (
          elim (cases_eq p.0 k) [
            | inl e ↦ at_key e
            | inr n ↦ further n
          ]
          )
        where
          at_key : p.0 ≡ k → node_from before (p ∷ without key ps) k ≡ with_none before (prev_from (Some p.0) ps key) (next_key ps key) (p ∷ ps) key k
          at_key e =
              let a : nat_eq p.0 k ≡ true = eq-eqb p.0 k e in
              let b : nat_eq key k ≡ false = ne_eqb key k (λ w. later (e ∙ sym w)) in
              let c : is_key (next_key ps key) k ≡ false = not_key (next_key ps key) k (λ r g w. clash r p.0 ps (next_is ps key r g) d.0 (w ∙ sym e)) in
              let f : is_key (prev_from (Some p.0) ps key) k ≡ heads key ps = ap (is_key (prev_from (Some p.0) ps key)) (sym e) ∙ prev_heads p.0 key ps d.0 in
              let h : first_key (without key ps) ≡ cond (heads key ps) (next_key ps key) (first_key ps) = first_without key ps in
              simp (a, b, c, f, h) (by_heads (heads key ps))
            where
              by_heads : (b : Bool) → node_of p.1 before (cond b (next_key ps key) (first_key ps)) ≡ cond b (node_of p.1 before (next_key ps key)) (node_of p.1 before (first_key ps))
              by_heads true = refl
              by_heads false = refl

          further : p.0 ≢ k → node_from before (p ∷ without key ps) k ≡ with_none before (prev_from (Some p.0) ps key) (next_key ps key) (p ∷ ps) key k
          further n =
              let a : nat_eq p.0 k ≡ false = ne_eqb p.0 k n in
              simp a (induct (sym (has_head p ps key later) ∙ there) (λ r e. let same : p.0 ≡ r = cc in ap (λ j. has_key j ps) (sym same) ∙ d.0))

  -- a value changes

  first_replaced : (key : ℕ) (v : T) (ps : List (ℕ × T)) → first_key (replaced key v ps) ≡ first_key ps
  first_replaced key v [] = refl
  first_replaced key v (p ∷ ps) = by_test (nat_eq p.0 key)
    where
      by_test : (b : Bool) → first_key (cond b ((p.0, v) ∷ ps) (p ∷ replaced key v ps)) ≡ Some p.0
      by_test true = refl
      by_test false = refl

  pub replace_nodes : (before : Option ℕ) (ps : List (ℕ × T)) (key : ℕ) (v : T) (k : ℕ) → AreDistinct ps
      → node_from before (replaced key v ps) k ≡ put key (option_map (with_value v) (node_from before ps key)) (node_from before ps) k
  replace_nodes before [] key v k d = same_cases (nat_eq key k) None
  replace_nodes before (p ∷ ps) key v k d =
      elim (cases_eq p.0 key) [
        | inl here ↦ at_head here
        | inr later ↦ behind later (replace_nodes (Some p.0) ps key v k d.1)
      ]
    where
      at_head : p.0 ≡ key → node_from before (replaced key v (p ∷ ps)) k ≡ put key (option_map (with_value v) (node_from before (p ∷ ps) key)) (node_from before (p ∷ ps)) k
      at_head here =
          let a : nat_eq p.0 key ≡ true = eq-eqb p.0 key here in
          let b : nat_eq key k ≡ nat_eq p.0 k = ap (λ j. nat_eq j k) (sym here) in
          simp (a, b) (by_test (nat_eq p.0 k))
        where
          by_test : (b : Bool) → cond b (node_of v before (first_key ps)) (node_from (Some p.0) ps k)
              ≡ cond b (node_of v before (first_key ps)) (cond b (node_of p.1 before (first_key ps)) (node_from (Some p.0) ps k))
          by_test true = refl
          by_test false = refl

      behind : p.0 ≢ key → node_from (Some p.0) (replaced key v ps) k ≡ put key (option_map (with_value v) (node_from (Some p.0) ps key)) (node_from (Some p.0) ps) k
          → node_from before (replaced key v (p ∷ ps)) k ≡ put key (option_map (with_value v) (node_from before (p ∷ ps) key)) (node_from before (p ∷ ps)) k
      behind later induct =
          let a : nat_eq p.0 key ≡ false = ne_eqb p.0 key later in
          let h : first_key (replaced key v ps) ≡ first_key ps = first_replaced key v ps in
          simp (a, h, induct) (elim (cases_eq p.0 k) [
            | inl e ↦ at_key e
            | inr n ↦ let b : nat_eq p.0 k ≡ false = ne_eqb p.0 k n in simp b
          ])
        where
          at_key : p.0 ≡ k → cond (nat_eq p.0 k) (node_of p.1 before (first_key ps)) (put key (option_map (with_value v) (node_from (Some p.0) ps key)) (node_from (Some p.0) ps) k)
              ≡ cond (nat_eq key k) (option_map (with_value v) (node_from (Some p.0) ps key)) (cond (nat_eq p.0 k) (node_of p.1 before (first_key ps)) (node_from (Some p.0) ps k))
          at_key e =
              let b : nat_eq p.0 k ≡ true = eq-eqb p.0 k e in
              let c : nat_eq key k ≡ false = ne_eqb key k (λ w. later (e ∙ sym w)) in
              simp (b, c)

  -- one more at the end

  pub last_is : (before : Option ℕ) (ps : List (ℕ × T)) (r : ℕ) → last_from before ps ≡ Some r → (before ≡ Some r) ⊎ (has_key r ps ≡ true)
  last_is before [] r e = inl e
  last_is before (p ∷ ps) r e = by_key (last_is (Some p.0) ps r e)
    where
      by_key : (Some p.0 ≡ Some r) ⊎ (has_key r ps ≡ true) → (before ≡ Some r) ⊎ (has_key r (p ∷ ps) ≡ true)
      by_key (inl q) = let same : p.0 ≡ r = cc in inr (ap (λ b. b || has_key r ps) (eq-eqb p.0 r same))
      by_key (inr q) = inr (by_or (nat_eq p.0 r))
        where
          by_or : (b : Bool) → (b || has_key r ps) ≡ true
          by_or true = refl
          by_or false = q

  pub push_nodes : (before : Option ℕ) (ps : List (ℕ × T)) (m : ℕ) (v : T) → AreDistinct ps → has_key m ps ≡ false → IsApart before ps → ((r : ℕ) → before ≡ Some r → r ≢ m)
      → (k : ℕ) → node_from before (ps ++ (m, v) ∷ []) k ≡ next_set (last_from before ps) (Some m) (put m (node_of v (last_from before ps) None) (node_from before ps)) k
  push_nodes before [] m v d new apart other k =
      missed before k (cond (nat_eq m k) (node_of v before None) None) (Some m) (λ r e w. ap (λ b. cond b (node_of v before None) None) (ne_eqb m k (λ q. other r e (w ∙ sym q))))
  push_nodes before (p ∷ ps) m v d new apart other k =
      elim (cases_eq p.0 k) [
        | inl e ↦ at_key e
        | inr n ↦
            let a : nat_eq p.0 k ≡ false = ne_eqb p.0 k n in
            simp a (push_nodes (Some p.0) ps m v d.1 (has_tail p ps m new).1 (λ r e. let same : p.0 ≡ r = cc in ap (λ j. has_key j ps) (sym same) ∙ d.0) (λ r e w. let same : p.0 ≡ r = cc in (has_tail p ps m new).0 (same ∙ w)) k)
      ]
    where
      at_key : p.0 ≡ k → node_from before (p ∷ ps ++ (m, v) ∷ []) k ≡ next_set (last_from (Some p.0) ps) (Some m) (put m (node_of v (last_from (Some p.0) ps) None) (node_from before (p ∷ ps))) k
      at_key e =
          let a : nat_eq p.0 k ≡ true = eq-eqb p.0 k e in
          let b : nat_eq m k ≡ false = ne_eqb m k (λ w. (has_tail p ps m new).0 (e ∙ sym w)) in
          simp (a, b) (by_rest ps d.0)
        where
          by_rest : (qs : List (ℕ × T)) → has_key p.0 qs ≡ false → node_of p.1 before (first_key (qs ++ (m, v) ∷ [])) ≡ cond (is_key (last_from (Some p.0) qs) k) (node_of p.1 before (Some m)) (node_of p.1 before (first_key qs))
          by_rest [] h = let c : nat_eq p.0 k ≡ true = eq-eqb p.0 k e in simp c
          by_rest (q ∷ qs) h =
              let c : is_key (last_from (Some q.0) qs) k ≡ false = not_key (last_from (Some q.0) qs) k (λ r g w. elim (last_is None (q ∷ qs) r g) [ inl z ↦ absurd (cc) | inr z ↦ clash r p.0 (q ∷ qs) z h (w ∙ sym e) ]) in
              simp c
