-- As many entries stand in a list as values in the slab of its nodes, or fewer.
use Rattle.std.proofs.Common.{◌≡◌, ◌≢◌, ◌≤◌, ◌<◌, ◌+◌, ◌*◌, ◌-◌, ◌/◌, ◌^◌, ℕ, suc, zero, List, [], ◌∷◌, length, refl, ap, sym, ◌∙◌, cond, true, false, arith, slice_index_or, slice_set}
use Rattle.std.specs.Prelude.{Bool, Option, Some, None, ◌||◌, nat_eq, is_some, filter}
use Rattle.std.proofs.lemmas.Grind.{common_steps}
use Rattle.std.proofs.lemmas.List.{get_or-set_other}
use Rattle.std.proofs.lemmas.List.Sums.{length-filter}
use Rattle.slab.specs.Slab.{Slab, get, slab_len}
use Rattle.entry_list.specs.declared.node.Node.{Node}
use Rattle.entry_list.specs.Listed.{has_key, AreDistinct, first_key, values_of}
use Rattle.entry_list.specs.Nodes.{node_at, node_from}

one_less : {A : Type 0} (xs : List (Option A)) (k : ℕ) → is_some (slice_index_or xs k None) ≡ true
    → length (filter is_some xs) ≡ suc (length (filter is_some (slice_set xs k None)))
one_less [] k h = grind (arith, common_steps)
one_less (Some x ∷ xs) zero h = refl
one_less (None ∷ xs) zero h = grind (arith, common_steps)
one_less (Some x ∷ xs) (suc k) h = ap suc (one_less xs k h)
one_less (None ∷ xs) (suc k) h = one_less xs k h

-- where each of some keys, of which none comes twice, has a value, there are as many values
many_there : {A T : Type 0} (ps : List (ℕ × T)) (xs : List (Option A)) → AreDistinct ps → ((k : ℕ) → has_key k ps ≡ true → is_some (slice_index_or xs k None) ≡ true)
    → length ps ≤ length (filter is_some xs)
many_there [] xs d h = omega arith
many_there (p ∷ ps) xs d h =
    let less : length (filter is_some xs) ≡ suc (length (filter is_some (slice_set xs p.0 None))) = one_less xs p.0 (h p.0 (at_first p.0 p.0 refl)) in
    let rest : length ps ≤ length (filter is_some (slice_set xs p.0 None)) = many_there ps (slice_set xs p.0 None) d.1 kept in
    omega (arith, less, rest)
  where
    at_first : (a b : ℕ) → a ≡ b → (nat_eq a b || has_key b ps) ≡ true
    at_first a b e = grind (arith, common_steps)

    behind : (k : ℕ) → has_key k ps ≡ true → (nat_eq p.0 k || has_key k ps) ≡ true
    behind k t = grind (arith, common_steps)

    differ : (k : ℕ) → has_key k ps ≡ true → k ≢ p.0
    differ k t e = grind (arith, common_steps)

    kept : (k : ℕ) → has_key k ps ≡ true → is_some (slice_index_or (slice_set xs p.0 None) k None) ≡ true
    kept k t = ap is_some (get_or-set_other xs p.0 k None None (differ k t)) ∙ h k (behind k t)

node_there : {T : Type 0} (before : Option ℕ) (ps : List (ℕ × T)) (k : ℕ) → has_key k ps ≡ true → is_some (node_from before ps k) ≡ true
node_there before [] k h = grind (arith, common_steps)
node_there before (p ∷ ps) k h = by_key (nat_eq p.0 k) h (node_there (Some p.0) ps k)
  where
    by_key : (b : Bool) → (b || has_key k ps) ≡ true → (has_key k ps ≡ true → is_some (node_from (Some p.0) ps k) ≡ true)
        → is_some (cond b (Some (record { value = p.1; prev = before; next = first_key ps })) (node_from (Some p.0) ps k)) ≡ true
    by_key true t rest = refl
    by_key false t rest = rest t

many_values : {T : Type 0} (ps : List (ℕ × T)) → length (values_of ps) ≡ length ps
many_values [] = refl
many_values (p ∷ ps) = ap suc (many_values ps)

pub entries_counted : {T : Type 0} (s : Slab (Node T)) (ps : List (ℕ × T)) (vs : List T) (n : ℕ) → n ≡ slab_len s → values_of ps ≡ vs
    → ((k : ℕ) → get s k ≡ node_at ps k) → AreDistinct ps → length vs ≤ n
entries_counted s ps vs n len list nodes d =
    let many : length ps ≤ length (filter is_some s.slots) = many_there ps s.slots d (λ k t. ap is_some (nodes k) ∙ node_there None ps k t) in
    let all : length (filter is_some s.slots) ≡ slab_len s = length-filter is_some s.slots in
    let same : length vs ≡ length ps = ap length (sym list) ∙ many_values ps in
    omega (arith, len, many, all, same)

-- where the serials that are left are 31 for each entry
pub serials_free : (entries count last : ℕ) → entries ≤ count → last < 2 ^ 32 → count ≤ (2 ^ 32 - 1 - last) / 31 → last + 31 * entries < 2 ^ 32
serials_free entries count last e l c = omega (arith, e, l, c)
