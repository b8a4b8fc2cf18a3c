-- Keys and table after each call fit each other.
use Rattle.std.proofs.Common.{◌≡◌, ◌≢◌, ℕ, zero, suc, ◌+◌, ◌-◌, ◌<◌, ◌≤◌, ◌^◌, false, cond, List, [], ◌∷◌, ◌++◌, length, Option, Some, None, refl, sym, ap, ◌∙◌, inl, inr, arith, subst, length-append, length-set}
use Rattle.std.specs.Prelude.{is_some, slice_index_or, slice_set}
use Rattle.std.proofs.lemmas.Bool.{cases_eq, eq-eqb, ne_eqb}
use Rattle.std.proofs.lemmas.List.{get_or-set_same, get_or-set_other, get_or_past}
use Rattle.insn_ir.specs.declared.entry.EntryKind.{EntryKind}
use Rattle.entry_list.specs.Listed.{values_of, has_key, inserted, without, replaced}
use Rattle.entry_list.proofs.HoldLaws.{distinct_inserted, distinct_without, distinct_replaced, distinct_pushed}
use Rattle.asm_unit.specs.Held.{Held, serial_is, holds_serial, AreUnique, new_held, held_inserted, Numbered}
use Rattle.asm_unit.specs.Keyed.{key_at, number_key, key_in, Keyed}
use Rattle.asm_unit.proofs.KeyLaws.{HasKey, key_without, values_without, unique_without, key_replaced, values_replaced, unique_put, key_inserted, values_inserted, unique_inserted, key_pushed, values_pushed, unique_pushed, none_holds}

pub at_end : (ks : List ℕ) (x : ℕ) → slice_index_or (ks ++ x ∷ []) (length ks) 0 ≡ x
at_end [] x = refl
at_end (k ∷ ks) x = at_end ks x

pub at_other : (ks : List ℕ) (x t : ℕ) → t ≢ length ks → slice_index_or (ks ++ x ∷ []) t 0 ≡ slice_index_or ks t 0
at_other [] x zero n = absurd (n refl)
at_other [] x (suc t) n = refl
at_other (k ∷ ks) x zero n = refl
at_other (k ∷ ks) x (suc t) n = at_other ks x t (λ e. n (ap suc e))

-- a serial that wasn't given has no key
pub ungiven : (ps : List (ℕ × Held)) (keys : List ℕ) → Keyed ps keys → key_at ps (length keys) ≡ None
ungiven ps keys h = let le : length keys ≤ length keys = omega arith in sym (h.tells (length keys)) ∙ ap number_key (get_or_past keys (length keys) 0 le)

pub keyed_without : (ps : List (ℕ × Held)) (keys : List ℕ) (s k : ℕ) → Keyed ps keys → HasKey ps keys s k → Keyed (without k ps) (slice_set keys s 0)
keyed_without ps keys s k h w =
    record {
      tells = λ t. elim (cases_eq t s) [ inl e ↦ here t e | inr n ↦ there t n ];
      distinct = distinct_without k ps h.distinct;
      unique = subst AreUnique (sym (values_without ps s k h.distinct h.unique w.key)) (unique_without s (values_of ps) h.unique);
      some = omega (arith, length-set keys s 0, h.some);
      few = omega (arith, length-set keys s 0, h.few);
    }
  where
    here : (t : ℕ) → t ≡ s → key_in (slice_set keys s 0) t ≡ key_at (without k ps) t
    here t e =
        ap (λ n. key_in (slice_set keys s 0) n) e ∙ ap number_key (get_or-set_same keys s 0 0 w.within)
        ∙ sym (key_without ps s k t h.distinct h.unique w.key ∙ ap (λ b. cond b None (key_at ps t)) (eq-eqb s t (sym e)))

    there : (t : ℕ) → t ≢ s → key_in (slice_set keys s 0) t ≡ key_at (without k ps) t
    there t n =
        ap number_key (get_or-set_other keys s t 0 0 n) ∙ h.tells t
        ∙ sym (key_without ps s k t h.distinct h.unique w.key ∙ ap (λ b. cond b None (key_at ps t)) (ne_eqb s t (λ e. n (sym e))))

pub keyed_put : (ps : List (ℕ × Held)) (keys : List ℕ) (s k : ℕ) (kind : EntryKind) → Keyed ps keys → HasKey ps keys s k → Keyed (replaced k (new_held s kind) ps) keys
keyed_put ps keys s k kind h w =
    record {
      tells = λ t. h.tells t ∙ sym (key_replaced ps s k t (new_held s kind) h.distinct w.key refl);
      distinct = distinct_replaced k (new_held s kind) ps h.distinct;
      unique = subst AreUnique (sym (values_replaced ps s k kind h.distinct h.unique w.key)) (unique_put s kind (values_of ps) h.unique);
      some = h.some;
      few = h.few;
    }

pub keyed_inserted : (ps : List (ℕ × Held)) (keys : List ℕ) (s k m : ℕ) (v : Held) → Keyed ps keys → HasKey ps keys s k → has_key m ps ≡ false → v.entry.serial ≡ length keys → length keys < 2 ^ 32
    → Keyed (inserted k (m, v) ps) (keys ++ suc m ∷ [])
keyed_inserted ps keys s k m v h w new e lt =
    record {
      tells = λ t. elim (cases_eq t (length keys)) [ inl q ↦ here t q | inr n ↦ there t n ];
      distinct = distinct_inserted k (m, v) ps w.there new h.distinct;
      unique = subst AreUnique (sym (values_inserted ps s k m v h.distinct w.key)) (unique_inserted s v (values_of ps) h.unique fresh);
      some = omega (arith, length-append keys (suc m ∷ []), h.some);
      few = omega (arith, length-append keys (suc m ∷ []), lt);
    }
  where
    fresh : holds_serial v.entry.serial (values_of ps) ≡ false
    fresh = ap (λ n. holds_serial n (values_of ps)) e ∙ none_holds ps (length keys) (ungiven ps keys h)

    here : (t : ℕ) → t ≡ length keys → key_in (keys ++ suc m ∷ []) t ≡ key_at (inserted k (m, v) ps) t
    here t q =
        ap (key_in (keys ++ suc m ∷ [])) q ∙ ap number_key (at_end keys (suc m))
        ∙ sym (key_inserted ps s k m t v h.distinct w.key fresh ∙ ap (λ b. cond b (Some m) (key_at ps t)) (eq-eqb v.entry.serial t (e ∙ sym q)))

    there : (t : ℕ) → t ≢ length keys → key_in (keys ++ suc m ∷ []) t ≡ key_at (inserted k (m, v) ps) t
    there t n =
        ap number_key (at_other keys (suc m) t n) ∙ h.tells t
        ∙ sym (key_inserted ps s k m t v h.distinct w.key fresh ∙ ap (λ b. cond b (Some m) (key_at ps t)) (ne_eqb v.entry.serial t (λ z. n (sym z ∙ e))))

pub keyed_pushed : (ps : List (ℕ × Held)) (keys : List ℕ) (m : ℕ) (v : Held) → Keyed ps keys → has_key m ps ≡ false → v.entry.serial ≡ length keys → length keys < 2 ^ 32
    → Keyed (ps ++ (m, v) ∷ []) (keys ++ suc m ∷ [])
keyed_pushed ps keys m v h new e lt =
    record {
      tells = λ t. elim (cases_eq t (length keys)) [ inl q ↦ here t q | inr n ↦ there t n ];
      distinct = distinct_pushed (m, v) ps new h.distinct;
      unique = subst AreUnique (sym (values_pushed ps m v)) (unique_pushed v (values_of ps) h.unique fresh);
      some = omega (arith, length-append keys (suc m ∷ []), h.some);
      few = omega (arith, length-append keys (suc m ∷ []), lt);
    }
  where
    fresh : holds_serial v.entry.serial (values_of ps) ≡ false
    fresh = ap (λ n. holds_serial n (values_of ps)) e ∙ none_holds ps (length keys) (ungiven ps keys h)

    here : (t : ℕ) → t ≡ length keys → key_in (keys ++ suc m ∷ []) t ≡ key_at (ps ++ (m, v) ∷ []) t
    here t q =
        ap (key_in (keys ++ suc m ∷ [])) q ∙ ap number_key (at_end keys (suc m))
        ∙ sym (key_pushed ps m t v ∙ ap (λ o. cond (is_some o) o (cond (serial_is t v) (Some m) None)) (ap (key_at ps) q ∙ ungiven ps keys h) ∙ ap (λ b. cond b (Some m) None) (eq-eqb v.entry.serial t (e ∙ sym q)))

    same_some : (o : Option ℕ) → cond (is_some o) o None ≡ o
    same_some None = refl
    same_some (Some k) = refl

    there : (t : ℕ) → t ≢ length keys → key_in (keys ++ suc m ∷ []) t ≡ key_at (ps ++ (m, v) ∷ []) t
    there t n =
        ap number_key (at_other keys (suc m) t n) ∙ h.tells t
        ∙ sym (key_pushed ps m t v ∙ ap (λ b. cond (is_some (key_at ps t)) (key_at ps t) (cond b (Some m) None)) (ne_eqb v.entry.serial t (λ z. n (sym z ∙ e))) ∙ same_some (key_at ps t))

pub keyed_none : (keys : List ℕ) → keys ≡ 0 ∷ [] → Keyed [] keys
keyed_none keys e = subst (Keyed []) (sym e) (record { tells = tells; distinct = tt; unique = tt; some = omega arith; few = omega arith })
  where
    tells : (serial : ℕ) → key_in (0 ∷ []) serial ≡ None
    tells zero = refl
    tells (suc n) = refl

pub same_numbered : (a b : List Held) (m n : ℕ) → a ≡ b → m ≡ n → (let x : Numbered = record { held = a; last = m } in x) ≡ record { held = b; last = n }
same_numbered a b m n p q = ap (λ hs. (let x : Numbered = record { held = hs; last = m } in x)) p ∙ ap (λ k. (let x : Numbered = record { held = b; last = k } in x)) q

-- what an insertion and a push leave
pub record Fits (rs : List (ℕ × Held)) (table : List ℕ) (hs : List Held) (serial : ℕ) : Type 0 where
  pub keyed : Keyed rs table
  pub values : values_of rs ≡ hs
  pub last : length table - 1 ≡ serial

one_more : (m : ℕ) → m + 1 ≡ suc m
one_more m = omega arith

pub insert_fits : (ps qs rs : List (ℕ × Held)) (keys ks table : List ℕ) (before k m serial : ℕ) (kind : EntryKind) → Keyed ps keys → HasKey ps keys before k → qs ≡ ps → has_key m qs ≡ false → rs ≡ inserted k (m, new_held serial kind) qs
    → ks ≡ keys → table ≡ ks ++ (m + 1) ∷ [] → serial ≡ length ks → length keys < 2 ^ 32 → Fits rs table (held_inserted before (new_held serial kind) (values_of ps)) serial
insert_fits ps qs rs keys ks table before k m serial kind h w pe new re ke te se lt =
    let v = new_held serial kind in
    let rows : rs ≡ inserted k (m, v) ps = re ∙ ap (inserted k (m, v)) pe in
    let cells : table ≡ keys ++ suc m ∷ [] = te ∙ ap (λ xs. xs ++ (m + 1) ∷ []) ke ∙ ap (λ n. keys ++ n ∷ []) (one_more m) in
    record {
      keyed = subst (λ xs. Keyed xs table) (sym rows) (subst (Keyed (inserted k (m, v) ps)) (sym cells) (keyed_inserted ps keys before k m v h w (ap (has_key m) (sym pe) ∙ new) (se ∙ ap length ke) lt));
      values = ap values_of rows ∙ values_inserted ps before k m v h.distinct w.key;
      last = omega (arith, ap length cells, length-append keys (suc m ∷ []), se, ap length ke);
    }

pub push_fits : (ps qs rs : List (ℕ × Held)) (keys ks table : List ℕ) (m : ℕ) (v : Held) → Keyed ps keys → qs ≡ ps → has_key m qs ≡ false → rs ≡ qs ++ (m, v) ∷ []
    → ks ≡ keys → table ≡ ks ++ (m + 1) ∷ [] → v.entry.serial ≡ length keys → length keys < 2 ^ 32 → Fits rs table (values_of ps ++ v ∷ []) v.entry.serial
push_fits ps qs rs keys ks table m v h pe new re ke te se lt =
    let rows : rs ≡ ps ++ (m, v) ∷ [] = re ∙ ap (λ xs. xs ++ (m, v) ∷ []) pe in
    let cells : table ≡ keys ++ suc m ∷ [] = te ∙ ap (λ xs. xs ++ (m + 1) ∷ []) ke ∙ ap (λ n. keys ++ n ∷ []) (one_more m) in
    record {
      keyed = subst (λ xs. Keyed xs table) (sym rows) (subst (Keyed (ps ++ (m, v) ∷ [])) (sym cells) (keyed_pushed ps keys m v h (ap (has_key m) (sym pe) ∙ new) se lt));
      values = ap values_of rows ∙ values_pushed ps m v;
      last = omega (arith, ap length cells, length-append keys (suc m ∷ []), se);
    }
