-- What the nodes of a list are, and what an edit makes of them.
use Rattle.std.proofs.Common.{◌≡◌, ◌≢◌, ℕ, Bool, true, false, cond, ◌||◌, nat_eq, List, [], ◌∷◌, length, Option, Some, None, refl, sym, ap, ◌∙◌, inl, inr, subst}
use Rattle.std.specs.Prelude.{option_map, is_some}
use Rattle.std.proofs.lemmas.Bool.{cases_eq, eq-eqb, ne_eqb}
use Rattle.slab.specs.Slab.{Slab, get}
use Rattle.entry_list.specs.declared.node.Node.{Node}
use Rattle.entry_list.specs.Listed.{has_key, AreDistinct, value_at, first_key, next_key, prev_from}
use Rattle.entry_list.specs.Nodes.{node_from}
use Rattle.entry_list.specs.walks.Linked.{onto, walk, pairs_of, Holds}

no : {P : Type 0} → true ≡ false → P
no e = absurd (cc)

module _ {T : Type 0} where
  -- a key that no pair has is none of its neighbours'
  pub has_tail : (p : ℕ × T) (ps : List (ℕ × T)) (k : ℕ) → has_key k (p ∷ ps) ≡ false → (p.0 ≢ k) × (has_key k ps ≡ false)
  has_tail p ps k h =
      elim (cases_eq p.0 k) [
        | inl e ↦ no (sym (ap (λ b. b || has_key k ps) (eq-eqb p.0 k e)) ∙ h)
        | inr n ↦ (n, sym (ap (λ b. b || has_key k ps) (ne_eqb p.0 k n)) ∙ h)
      ]

  pub has_head : (p : ℕ × T) (ps : List (ℕ × T)) (k : ℕ) → p.0 ≢ k → has_key k (p ∷ ps) ≡ has_key k ps
  has_head p ps k n = ap (λ b. b || has_key k ps) (ne_eqb p.0 k n)

  pub node_head : (before : Option ℕ) (p : ℕ × T) (ps : List (ℕ × T)) (k : ℕ) → p.0 ≢ k → node_from before (p ∷ ps) k ≡ node_from (Some p.0) ps k
  node_head before p ps k n = ap (λ b. cond b (Some (record { value = p.1; prev = before; next = first_key ps })) (node_from (Some p.0) ps k)) (ne_eqb p.0 k n)

  pub node_here : (before : Option ℕ) (p : ℕ × T) (ps : List (ℕ × T)) (k : ℕ) → p.0 ≡ k → node_from before (p ∷ ps) k ≡ Some (record { value = p.1; prev = before; next = first_key ps })
  node_here before p ps k e = ap (λ b. cond b (Some (record { value = p.1; prev = before; next = first_key ps })) (node_from (Some p.0) ps k)) (eq-eqb p.0 k e)

  -- where there is a key, there is a node
  pub node_there : (before : Option ℕ) (ps : List (ℕ × T)) (k : ℕ) → is_some (node_from before ps k) ≡ has_key k ps
  node_there before [] k = refl
  node_there before (p ∷ ps) k = by_test (nat_eq p.0 k) (node_there (Some p.0) ps k)
    where
      by_test : (b : Bool) → is_some (node_from (Some p.0) ps k) ≡ has_key k ps
          → is_some (cond b (Some (record { value = p.1; prev = before; next = first_key ps })) (node_from (Some p.0) ps k)) ≡ b || has_key k ps
      by_test true e = refl
      by_test false e = e

  pub node_none : (before : Option ℕ) (ps : List (ℕ × T)) (k : ℕ) → has_key k ps ≡ false → node_from before ps k ≡ None
  node_none before ps k h = is_none (node_from before ps k) (node_there before ps k ∙ h)
    where
      is_none : (o : Option (Node T)) → is_some o ≡ false → o ≡ None
      is_none None e = refl
      is_none (Some n) e = no e

  -- what a node says
  pub node_value : (before : Option ℕ) (ps : List (ℕ × T)) (k : ℕ) → option_map (λ n. n.value) (node_from before ps k) ≡ value_at ps k
  node_value before [] k = refl
  node_value before (p ∷ ps) k = by_test (nat_eq p.0 k) (node_value (Some p.0) ps k)
    where
      by_test : (b : Bool) → option_map (λ n. n.value) (node_from (Some p.0) ps k) ≡ value_at ps k
          → option_map (λ n. n.value) (cond b (Some (record { value = p.1; prev = before; next = first_key ps })) (node_from (Some p.0) ps k)) ≡ cond b (Some p.1) (value_at ps k)
      by_test true e = refl
      by_test false e = e

  pub node_next : (before : Option ℕ) (ps : List (ℕ × T)) (k : ℕ) (n : Node T) → node_from before ps k ≡ Some n → n.next ≡ next_key ps k
  node_next before [] k n e = absurd (cc)
  node_next before (p ∷ ps) k n e = by_test (nat_eq p.0 k) e (node_next (Some p.0) ps k n)
    where
      by_test : (b : Bool) → cond b (Some (record { value = p.1; prev = before; next = first_key ps })) (node_from (Some p.0) ps k) ≡ Some n
          → (node_from (Some p.0) ps k ≡ Some n → n.next ≡ next_key ps k) → n.next ≡ cond b (first_key ps) (next_key ps k)
      by_test true e rest = let same : record { value = p.1; prev = before; next = first_key ps } ≡ n = cc in sym (ap (λ m. m.next) same)
      by_test false e rest = rest e

  pub node_prev : (before : Option ℕ) (ps : List (ℕ × T)) (k : ℕ) (n : Node T) → node_from before ps k ≡ Some n → n.prev ≡ prev_from before ps k
  node_prev before [] k n e = absurd (cc)
  node_prev before (p ∷ ps) k n e = by_test (nat_eq p.0 k) e (node_prev (Some p.0) ps k n)
    where
      by_test : (b : Bool) → cond b (Some (record { value = p.1; prev = before; next = first_key ps })) (node_from (Some p.0) ps k) ≡ Some n
          → (node_from (Some p.0) ps k ≡ Some n → n.prev ≡ prev_from (Some p.0) ps k) → n.prev ≡ cond b before (prev_from (Some p.0) ps k)
      by_test true e rest = let same : record { value = p.1; prev = before; next = first_key ps } ≡ n = cc in sym (ap (λ m. m.prev) same)
      by_test false e rest = rest e

  -- the walk along `next` comes to the pairs of the nodes
  pub walk_is : (s : Slab (Node T)) (before : Option ℕ) (ps : List (ℕ × T)) → AreDistinct ps → ((k : ℕ) → has_key k ps ≡ true → get s k ≡ node_from before ps k) → walk (length ps) s (first_key ps) ≡ ps
  walk_is s before [] d h = refl
  walk_is s before (p ∷ ps) d h =
      ap (λ o. onto p.0 o (walk (length ps) s)) (h p.0 (ap (λ b. b || has_key p.0 ps) (eq-eqb p.0 p.0 refl)) ∙ node_here before p ps p.0 refl)
      ∙ ap (λ qs. p ∷ qs) (walk_is s (Some p.0) ps d.1 (λ k there. let n = apart k there in h k (has_head p ps k n ∙ there) ∙ node_head before p ps k n))
    where
      apart : (k : ℕ) → has_key k ps ≡ true → p.0 ≢ k
      apart k there e = no (sym there ∙ ap (λ j. has_key j ps) (sym e) ∙ d.0)

  pub pairs_are : (ps : List (ℕ × T)) (s : Slab (Node T)) (first last : Option ℕ) (spare : ℕ) → Holds ps s first last spare → pairs_of s first ≡ ps
  pairs_are ps s first last spare h =
      ap (λ n. walk n s first) h.len ∙ ap (walk (length ps) s) h.first_is ∙ walk_is s None ps h.distinct (λ k there. h.nodes k)

  pub held_pairs : (ps : List (ℕ × T)) (s : Slab (Node T)) (first last : Option ℕ) (spare : ℕ) → Holds ps s first last spare → Holds (pairs_of s first) s first last spare
  held_pairs ps s first last spare h = subst (λ qs. Holds qs s first last spare) (sym (pairs_are ps s first last spare h)) h
