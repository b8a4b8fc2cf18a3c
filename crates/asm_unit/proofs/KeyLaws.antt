-- What keys tell of serials, and what edits make of it.
use Rattle.std.proofs.Common.{◌≡◌, ◌≢◌, ◌⊎◌, ℕ, zero, suc, ◌<◌, Bool, true, false, not, cond, ◌||◌, nat_eq, List, [], ◌∷◌, ◌++◌, length, Option, Some, None, refl, sym, ap, ◌∙◌, inl, inr, arith, option_map}
use Rattle.std.specs.Prelude.{find, is_some, slice_index_or, option_and_then}
use Rattle.std.proofs.lemmas.Bool.{cases_lt, cases_eq, eq-eqb, ne_eqb, eqb-true}
use Rattle.std.proofs.lemmas.List.{get_or_past}
use Rattle.insn_ir.specs.declared.entry.EntryKind.{EntryKind}
use Rattle.entry_list.specs.Listed.{values_of, has_key, AreDistinct, value_at, first_key, next_key, prev_from, inserted, without, replaced}
use Rattle.entry_list.proofs.NodeLaws.{has_head}
use Rattle.asm_unit.specs.Held.{Held, serial_is, holds_serial, AreUnique, first_of, next_of, prev_from as serial_before, new_held, held_without, held_put, held_inserted}
use Rattle.asm_unit.specs.Keyed.{key_at, number_key, key_in, Keyed}

no : {P : Type 0} → true ≡ false → P
no e = absurd (cc)

some_is : {A : Type 0} (x y : A) → Some x ≡ Some y → x ≡ y
some_is x y e = cc

abbrev pub serial_of : Held → ℕ
serial_of h = h.entry.serial

pub key_there : (ps : List (ℕ × Held)) (s k : ℕ) → key_at ps s ≡ Some k → has_key k ps ≡ true
key_there [] s k e = absurd (cc)
key_there (p ∷ ps) s k e = by_or (nat_eq p.0 k) refl (by_test (serial_is s p.1) e (key_there ps s k))
  where
    by_test : (b : Bool) → cond b (Some p.0) (key_at ps s) ≡ Some k → (key_at ps s ≡ Some k → has_key k ps ≡ true) → (p.0 ≡ k) ⊎ (has_key k ps ≡ true)
    by_test true e rest = inl (some_is p.0 k e)
    by_test false e rest = inr (rest e)

    by_or : (b : Bool) → nat_eq p.0 k ≡ b → (p.0 ≡ k) ⊎ (has_key k ps ≡ true) → (b || has_key k ps) ≡ true
    by_or true g h = refl
    by_or false g (inl e) = no (sym (eq-eqb p.0 k e) ∙ g)
    by_or false g (inr e) = e

-- a key that stands behind another is another
apart : (p : ℕ × Held) (ps : List (ℕ × Held)) (k : ℕ) → AreDistinct (p ∷ ps) → has_key k ps ≡ true → p.0 ≢ k
apart p ps k d h e = no (sym h ∙ ap (λ j. has_key j ps) (sym e) ∙ d.0)

value_here : (p : ℕ × Held) (ps : List (ℕ × Held)) (k : ℕ) → p.0 ≡ k → value_at (p ∷ ps) k ≡ Some p.1
value_here p ps k e = ap (λ b. cond b (Some p.1) (value_at ps k)) (eq-eqb p.0 k e)

value_later : (p : ℕ × Held) (ps : List (ℕ × Held)) (k : ℕ) → p.0 ≢ k → value_at (p ∷ ps) k ≡ value_at ps k
value_later p ps k e = ap (λ b. cond b (Some p.1) (value_at ps k)) (ne_eqb p.0 k e)

-- the value under the key of a serial is the entry of the serial
pub value_is : (ps : List (ℕ × Held)) (s k : ℕ) → AreDistinct ps → key_at ps s ≡ Some k → value_at ps k ≡ find (serial_is s) (values_of ps)
value_is [] s k d e = refl
value_is (p ∷ ps) s k d e = by_test (serial_is s p.1) e (λ q. value_later p ps k (apart p ps k d (key_there ps s k q)) ∙ value_is ps s k d.1 q)
  where
    by_test : (b : Bool) → cond b (Some p.0) (key_at ps s) ≡ Some k → (key_at ps s ≡ Some k → value_at (p ∷ ps) k ≡ find (serial_is s) (values_of ps)) → value_at (p ∷ ps) k ≡ cond b (Some p.1) (find (serial_is s) (values_of ps))
    by_test true e rest = value_here p ps k (some_is p.0 k e)
    by_test false e rest = rest e

pub none_there : (ps : List (ℕ × Held)) (s : ℕ) → key_at ps s ≡ None → find (serial_is s) (values_of ps) ≡ None
none_there [] s e = refl
none_there (p ∷ ps) s e = by_test (serial_is s p.1) e (none_there ps s)
  where
    by_test : (b : Bool) → cond b (Some p.0) (key_at ps s) ≡ None → (key_at ps s ≡ None → find (serial_is s) (values_of ps) ≡ None) → cond b (Some p.1) (find (serial_is s) (values_of ps)) ≡ None
    by_test true e rest = absurd (cc)
    by_test false e rest = rest e

pub none_holds : (ps : List (ℕ × Held)) (s : ℕ) → key_at ps s ≡ None → holds_serial s (values_of ps) ≡ false
none_holds [] s e = refl
none_holds (p ∷ ps) s e = by_test (serial_is s p.1) e (none_holds ps s)
  where
    by_test : (b : Bool) → cond b (Some p.0) (key_at ps s) ≡ None → (key_at ps s ≡ None → holds_serial s (values_of ps) ≡ false) → (b || holds_serial s (values_of ps)) ≡ false
    by_test true e rest = absurd (cc)
    by_test false e rest = rest e

pub holds_none : (ps : List (ℕ × Held)) (s : ℕ) → holds_serial s (values_of ps) ≡ false → key_at ps s ≡ None
holds_none [] s e = refl
holds_none (p ∷ ps) s e = by_test (serial_is s p.1) e (holds_none ps s)
  where
    by_test : (b : Bool) → (b || holds_serial s (values_of ps)) ≡ false → (holds_serial s (values_of ps) ≡ false → key_at ps s ≡ None) → cond b (Some p.0) (key_at ps s) ≡ None
    by_test true e rest = no e
    by_test false e rest = rest e

-- an entry that is found has a key
pub found_key : (ps : List (ℕ × Held)) (s : ℕ) → is_some (find (serial_is s) (values_of ps)) ≡ true → (k : ℕ) × (key_at ps s ≡ Some k)
found_key [] s e = no (sym e)
found_key (p ∷ ps) s e = by_test (serial_is s p.1) e (found_key ps s)
  where
    by_test : (b : Bool) → is_some (cond b (Some p.1) (find (serial_is s) (values_of ps))) ≡ true → (is_some (find (serial_is s) (values_of ps)) ≡ true → (k : ℕ) × (key_at ps s ≡ Some k)) → (k : ℕ) × (cond b (Some p.0) (key_at ps s) ≡ Some k)
    by_test true e rest = (p.0, refl)
    by_test false e rest = rest e

-- neighbours

abbrev pub serial_under : List (ℕ × Held) → Option ℕ → Option ℕ
serial_under ps o = option_and_then (λ k. option_map serial_of (value_at ps k)) o

first_serial : (ps : List (ℕ × Held)) → serial_under ps (first_key ps) ≡ first_of (values_of ps)
first_serial [] = refl
first_serial (p ∷ ps) = ap (option_map serial_of) (value_here p ps p.0 refl)

-- what a key behind the first leads to
under_later : (p : ℕ × Held) (ps : List (ℕ × Held)) (o : Option ℕ) → ((k : ℕ) → o ≡ Some k → p.0 ≢ k) → serial_under (p ∷ ps) o ≡ serial_under ps o
under_later p ps None h = refl
under_later p ps (Some k) h = ap (option_map serial_of) (value_later p ps k (h k refl))

first_there : (ps : List (ℕ × Held)) (k : ℕ) → first_key ps ≡ Some k → has_key k ps ≡ true
first_there [] k e = absurd (cc)
first_there (p ∷ ps) k e = ap (λ b. b || has_key k ps) (eq-eqb p.0 k (some_is p.0 k e))

next_there : (ps : List (ℕ × Held)) (k j : ℕ) → next_key ps k ≡ Some j → has_key j ps ≡ true
next_there [] k j e = absurd (cc)
next_there (p ∷ ps) k j e = by_or (nat_eq p.0 j) (by_test (nat_eq p.0 k) e (next_there ps k j))
  where
    by_or : (b : Bool) → has_key j ps ≡ true → (b || has_key j ps) ≡ true
    by_or true h = refl
    by_or false h = h

    by_test : (b : Bool) → cond b (first_key ps) (next_key ps k) ≡ Some j → (next_key ps k ≡ Some j → has_key j ps ≡ true) → has_key j ps ≡ true
    by_test true e rest = first_there ps j e
    by_test false e rest = rest e

pub next_is : (ps : List (ℕ × Held)) (s k : ℕ) → AreDistinct ps → key_at ps s ≡ Some k → serial_under ps (next_key ps k) ≡ next_of (values_of ps) s
next_is [] s k d e = absurd (cc)
next_is (p ∷ ps) s k d e = by_test (serial_is s p.1) e (next_is ps s k d.1)
  where
    at_head : p.0 ≡ k → serial_under (p ∷ ps) (next_key (p ∷ ps) k) ≡ first_of (values_of ps)
    at_head q =
        ap (λ b. serial_under (p ∷ ps) (cond b (first_key ps) (next_key ps k))) (eq-eqb p.0 k q)
        ∙ under_later p ps (first_key ps) (λ j z. apart p ps j d (first_there ps j z))
        ∙ first_serial ps

    behind : p.0 ≢ k → serial_under ps (next_key ps k) ≡ next_of (values_of ps) s → serial_under (p ∷ ps) (next_key (p ∷ ps) k) ≡ next_of (values_of ps) s
    behind n rest =
        ap (λ b. serial_under (p ∷ ps) (cond b (first_key ps) (next_key ps k))) (ne_eqb p.0 k n)
        ∙ under_later p ps (next_key ps k) (λ j z. apart p ps j d (next_there ps k j z))
        ∙ rest

    by_test : (b : Bool) → cond b (Some p.0) (key_at ps s) ≡ Some k → (key_at ps s ≡ Some k → serial_under ps (next_key ps k) ≡ next_of (values_of ps) s)
        → serial_under (p ∷ ps) (next_key (p ∷ ps) k) ≡ cond b (first_of (values_of ps)) (next_of (values_of ps) s)
    by_test true e rest = at_head (some_is p.0 k e)
    by_test false e rest = behind (apart p ps k d (key_there ps s k e)) (rest e)

pub next_none : (ps : List (ℕ × Held)) (s : ℕ) → key_at ps s ≡ None → next_of (values_of ps) s ≡ None
next_none [] s e = refl
next_none (p ∷ ps) s e = by_test (serial_is s p.1) e (next_none ps s)
  where
    by_test : (b : Bool) → cond b (Some p.0) (key_at ps s) ≡ None → (key_at ps s ≡ None → next_of (values_of ps) s ≡ None) → cond b (first_of (values_of ps)) (next_of (values_of ps) s) ≡ None
    by_test true e rest = absurd (cc)
    by_test false e rest = rest e

-- what stands before: with the serial of what stands before the list
abbrev before_under : List (ℕ × Held) → Option ℕ → ℕ → Option ℕ → Option ℕ
before_under ps b k None = None
before_under ps b k (Some j) = option_map serial_of (value_at ps j)

prev_there : (before : Option ℕ) (ps : List (ℕ × Held)) (k j : ℕ) → prev_from before ps k ≡ Some j → (before ≡ Some j) ⊎ (has_key j ps ≡ true)
prev_there before [] k j e = absurd (cc)
prev_there before (p ∷ ps) k j e = by_test (nat_eq p.0 k) e (prev_there (Some p.0) ps k j)
  where
    by_or : (b : Bool) → nat_eq p.0 j ≡ b → (Some p.0 ≡ Some j) ⊎ (has_key j ps ≡ true) → (b || has_key j ps) ≡ true
    by_or true g h = refl
    by_or false g (inl z) = no (sym (eq-eqb p.0 j (some_is p.0 j z)) ∙ g)
    by_or false g (inr z) = z

    by_test : (b : Bool) → cond b before (prev_from (Some p.0) ps k) ≡ Some j → (prev_from (Some p.0) ps k ≡ Some j → (Some p.0 ≡ Some j) ⊎ (has_key j ps ≡ true)) → (before ≡ Some j) ⊎ (has_key j (p ∷ ps) ≡ true)
    by_test true e rest = inl e
    by_test false e rest = inr (by_or (nat_eq p.0 j) refl (rest e))

-- a list behind a front that leads to what stands before it
prev_behind : (f : Option ℕ → Option ℕ) (before : Option ℕ) (was : Option ℕ) (ps : List (ℕ × Held)) (s k : ℕ) → AreDistinct ps → f before ≡ was → ((j : ℕ) → has_key j ps ≡ true → f (Some j) ≡ option_map serial_of (value_at ps j))
    → key_at ps s ≡ Some k → f (prev_from before ps k) ≡ serial_before was (values_of ps) s
prev_behind f before was [] s k d g h e = absurd (cc)
prev_behind f before was (p ∷ ps) s k d g h e =
    by_test (serial_is s p.1) e (prev_behind f (Some p.0) (Some p.1.entry.serial) ps s k d.1 (h p.0 (ap (λ b. b || has_key p.0 ps) (eq-eqb p.0 p.0 refl)) ∙ ap (option_map serial_of) (value_here p ps p.0 refl))
    (λ j t. let n = apart p ps j d t in h j (has_head p ps j n ∙ t) ∙ ap (option_map serial_of) (value_later p ps j n)))
  where
    by_test : (b : Bool) → cond b (Some p.0) (key_at ps s) ≡ Some k → (key_at ps s ≡ Some k → f (prev_from (Some p.0) ps k) ≡ serial_before (Some p.1.entry.serial) (values_of ps) s)
        → f (prev_from before (p ∷ ps) k) ≡ cond b was (serial_before (Some p.1.entry.serial) (values_of ps) s)
    by_test true e rest = ap (λ b. f (cond b before (prev_from (Some p.0) ps k))) (eq-eqb p.0 k (some_is p.0 k e)) ∙ g
    by_test false e rest = ap (λ b. f (cond b before (prev_from (Some p.0) ps k))) (ne_eqb p.0 k (apart p ps k d (key_there ps s k e))) ∙ rest e

pub prev_is : (ps : List (ℕ × Held)) (s k : ℕ) → AreDistinct ps → key_at ps s ≡ Some k → serial_under ps (prev_from None ps k) ≡ serial_before None (values_of ps) s
prev_is ps s k d e = prev_behind (serial_under ps) None None ps s k d refl (λ j t. refl) e

pub prev_none : (before : Option ℕ) (ps : List (ℕ × Held)) (s : ℕ) → key_at ps s ≡ None → serial_before before (values_of ps) s ≡ None
prev_none before [] s e = refl
prev_none before (p ∷ ps) s e = by_test (serial_is s p.1) e (prev_none (Some p.1.entry.serial) ps s)
  where
    by_test : (b : Bool) → cond b (Some p.0) (key_at ps s) ≡ None → (key_at ps s ≡ None → serial_before (Some p.1.entry.serial) (values_of ps) s ≡ None) → cond b before (serial_before (Some p.1.entry.serial) (values_of ps) s) ≡ None
    by_test true e rest = absurd (cc)
    by_test false e rest = rest e

-- the table

number_some : (n k : ℕ) → number_key n ≡ Some k → n ≡ suc k
number_some zero k e = absurd (cc)
number_some (suc j) k e = ap suc (some_is j k e)

-- where a serial has a key, the table has a place for it
pub key_place : (keys : List ℕ) (s k : ℕ) → key_in keys s ≡ Some k → (s < length keys) × (slice_index_or keys s 0 ≡ suc k)
key_place keys s k e =
    elim (cases_lt s (length keys)) [
      | inl lt ↦ (lt, number_some (slice_index_or keys s 0) k e)
      | inr le ↦ absurd (omega (arith, number_some (slice_index_or keys s 0) k e, get_or_past keys s 0 le))
    ]

pub told : (ps : List (ℕ × Held)) (keys slice : List ℕ) (s : ℕ) (r o : Option ℕ) → Keyed ps keys → slice ≡ keys → r ≡ key_in slice s → r ≡ o → key_at ps s ≡ o
told ps keys slice s r o h e q w = sym (h.tells s) ∙ ap (λ ks. key_in ks s) (sym e) ∙ sym q ∙ w

-- an entry that is there has a key in the table
pub record HasKey (ps : List (ℕ × Held)) (keys : List ℕ) (s k : ℕ) : Type 0 where
  pub key : key_at ps s ≡ Some k
  pub there : has_key k ps ≡ true
  pub within : s < length keys
  pub at : slice_index_or keys s 0 ≡ suc k

found_entry : (s : ℕ) (o : Option Held) → is_some (option_map (λ h. h.entry) o) ≡ true → is_some o ≡ true
found_entry s None e = e
found_entry s (Some h) e = refl

pub has_place : (ps : List (ℕ × Held)) (keys : List ℕ) (s : ℕ) → Keyed ps keys → is_some (option_map (λ h. h.entry) (find (serial_is s) (values_of ps))) ≡ true → (k : ℕ) × HasKey ps keys s k
has_place ps keys s h e =
    let f = found_key ps s (found_entry s (find (serial_is s) (values_of ps)) e) in
    let p = key_place keys s f.0 (h.tells s ∙ f.1) in
    (f.0, record { key = f.1; there = key_there ps s f.0 f.1; within = p.0; at = p.1 })

-- one goes

serials_same : (h : Held) (s t : ℕ) → serial_is s h ≡ true → serial_is t h ≡ nat_eq s t
serials_same h s t e = ap (λ n. nat_eq n t) (eqb-true h.entry.serial s e)

pub key_without : (ps : List (ℕ × Held)) (s k t : ℕ) → AreDistinct ps → AreUnique (values_of ps) → key_at ps s ≡ Some k → key_at (without k ps) t ≡ cond (nat_eq s t) None (key_at ps t)
key_without [] s k t d u e = absurd (cc)
key_without (p ∷ ps) s k t d u e = by_test (serial_is s p.1) refl e (λ q. key_without ps s k t d.1 u.1 q)
  where
    at_head : serial_is s p.1 ≡ true → p.0 ≡ k → key_at (without k (p ∷ ps)) t ≡ cond (nat_eq s t) None (key_at (p ∷ ps) t)
    at_head g q =
        let a : nat_eq p.0 k ≡ true = eq-eqb p.0 k q in
        let b : serial_is t p.1 ≡ nat_eq s t = serials_same p.1 s t g in
        simp (a, b) (by_serial (nat_eq s t) refl)
      where
        by_serial : (b : Bool) → nat_eq s t ≡ b → key_at ps t ≡ cond b None (cond b (Some p.0) (key_at ps t))
        by_serial true z = holds_none ps t (ap (λ n. holds_serial n (values_of ps)) (sym (eqb-true s t z) ∙ sym (eqb-true p.1.entry.serial s g)) ∙ u.0)
        by_serial false z = refl

    behind : serial_is s p.1 ≡ false → p.0 ≢ k → key_at (without k ps) t ≡ cond (nat_eq s t) None (key_at ps t) → key_at (without k (p ∷ ps)) t ≡ cond (nat_eq s t) None (key_at (p ∷ ps) t)
    behind g n rest =
        let a : nat_eq p.0 k ≡ false = ne_eqb p.0 k n in
        simp (a, rest) (by_serials (serial_is t p.1) (nat_eq s t) refl refl)
      where
        by_serials : (b c : Bool) → serial_is t p.1 ≡ b → nat_eq s t ≡ c → cond b (Some p.0) (cond c None (key_at ps t)) ≡ cond c None (cond b (Some p.0) (key_at ps t))
        by_serials true true y z = no (sym (eq-eqb p.1.entry.serial s (eqb-true p.1.entry.serial t y ∙ sym (eqb-true s t z))) ∙ g)
        by_serials true false y z = refl
        by_serials false true y z = refl
        by_serials false false y z = refl

    by_test : (b : Bool) → serial_is s p.1 ≡ b → cond b (Some p.0) (key_at ps s) ≡ Some k → (key_at ps s ≡ Some k → key_at (without k ps) t ≡ cond (nat_eq s t) None (key_at ps t)) → key_at (without k (p ∷ ps)) t ≡ cond (nat_eq s t) None (key_at (p ∷ ps) t)
    by_test true g e rest = at_head g (some_is p.0 k e)
    by_test false g e rest = behind g (apart p ps k d (key_there ps s k e)) (rest e)

pub without_none : (s : ℕ) (hs : List Held) → holds_serial s hs ≡ false → held_without s hs ≡ hs
without_none s [] e = refl
without_none s (h ∷ hs) e = by_test (serial_is s h) e (without_none s hs)
  where
    by_test : (b : Bool) → (b || holds_serial s hs) ≡ false → (holds_serial s hs ≡ false → held_without s hs ≡ hs) → cond (not b) (h ∷ held_without s hs) (held_without s hs) ≡ h ∷ hs
    by_test true e rest = no e
    by_test false e rest = ap (λ xs. h ∷ xs) (rest e)

pub values_without : (ps : List (ℕ × Held)) (s k : ℕ) → AreDistinct ps → AreUnique (values_of ps) → key_at ps s ≡ Some k → values_of (without k ps) ≡ held_without s (values_of ps)
values_without [] s k d u e = absurd (cc)
values_without (p ∷ ps) s k d u e = by_test (serial_is s p.1) refl e (λ q. values_without ps s k d.1 u.1 q)
  where
    by_test : (b : Bool) → serial_is s p.1 ≡ b → cond b (Some p.0) (key_at ps s) ≡ Some k → (key_at ps s ≡ Some k → values_of (without k ps) ≡ held_without s (values_of ps))
        → values_of (cond (nat_eq p.0 k) ps (p ∷ without k ps)) ≡ cond (not b) (p.1 ∷ held_without s (values_of ps)) (held_without s (values_of ps))
    by_test true g e rest =
        ap (λ b. values_of (cond b ps (p ∷ without k ps))) (eq-eqb p.0 k (some_is p.0 k e))
        ∙ sym (without_none s (values_of ps) (ap (λ n. holds_serial n (values_of ps)) (sym (eqb-true p.1.entry.serial s g)) ∙ u.0))
    by_test false g e rest = ap (λ b. values_of (cond b ps (p ∷ without k ps))) (ne_eqb p.0 k (apart p ps k d (key_there ps s k e))) ∙ ap (λ xs. p.1 ∷ xs) (rest e)

pub holds_without : (s t : ℕ) (hs : List Held) → holds_serial t hs ≡ false → holds_serial t (held_without s hs) ≡ false
holds_without s t [] e = refl
holds_without s t (h ∷ hs) e = by_tests (serial_is s h) (serial_is t h) refl e (holds_without s t hs)
  where
    by_tests : (b c : Bool) → serial_is t h ≡ c → (c || holds_serial t hs) ≡ false → (holds_serial t hs ≡ false → holds_serial t (held_without s hs) ≡ false) → holds_serial t (cond (not b) (h ∷ held_without s hs) (held_without s hs)) ≡ false
    by_tests b true z e rest = no e
    by_tests true false z e rest = rest e
    by_tests false false z e rest = ap (λ c. c || holds_serial t (held_without s hs)) z ∙ rest e

pub unique_without : (s : ℕ) (hs : List Held) → AreUnique hs → AreUnique (held_without s hs)
unique_without s [] u = tt
unique_without s (h ∷ hs) u = by_test (serial_is s h) (unique_without s hs u.1)
  where
    by_test : (b : Bool) → AreUnique (held_without s hs) → AreUnique (cond (not b) (h ∷ held_without s hs) (held_without s hs))
    by_test true e = e
    by_test false e = (holds_without s h.entry.serial hs u.0, e)

-- one changes

pub key_replaced : (ps : List (ℕ × Held)) (s k t : ℕ) (v : Held) → AreDistinct ps → key_at ps s ≡ Some k → v.entry.serial ≡ s → key_at (replaced k v ps) t ≡ key_at ps t
key_replaced [] s k t v d e w = absurd (cc)
key_replaced (p ∷ ps) s k t v d e w = by_test (serial_is s p.1) refl e (λ q. key_replaced ps s k t v d.1 q w)
  where
    by_test : (b : Bool) → serial_is s p.1 ≡ b → cond b (Some p.0) (key_at ps s) ≡ Some k → (key_at ps s ≡ Some k → key_at (replaced k v ps) t ≡ key_at ps t) → key_at (replaced k v (p ∷ ps)) t ≡ key_at (p ∷ ps) t
    by_test true g e rest =
        ap (λ b. key_at (cond b ((p.0, v) ∷ ps) (p ∷ replaced k v ps)) t) (eq-eqb p.0 k (some_is p.0 k e))
        ∙ ap (λ n. cond (nat_eq n t) (Some p.0) (key_at ps t)) (w ∙ sym (eqb-true p.1.entry.serial s g))
    by_test false g e rest =
        ap (λ b. key_at (cond b ((p.0, v) ∷ ps) (p ∷ replaced k v ps)) t) (ne_eqb p.0 k (apart p ps k d (key_there ps s k e)))
        ∙ ap (λ o. cond (serial_is t p.1) (Some p.0) o) (rest e)

pub put_none : (s : ℕ) (k : EntryKind) (hs : List Held) → holds_serial s hs ≡ false → held_put s k hs ≡ hs
put_none s k [] e = refl
put_none s k (h ∷ hs) e = by_test (serial_is s h) e (put_none s k hs)
  where
    by_test : (b : Bool) → (b || holds_serial s hs) ≡ false → (holds_serial s hs ≡ false → held_put s k hs ≡ hs) → cond b (new_held h.entry.serial k) h ∷ held_put s k hs ≡ h ∷ hs
    by_test true e rest = no e
    by_test false e rest = ap (λ xs. h ∷ xs) (rest e)

pub values_replaced : (ps : List (ℕ × Held)) (s k : ℕ) (kind : EntryKind) → AreDistinct ps → AreUnique (values_of ps) → key_at ps s ≡ Some k → values_of (replaced k (new_held s kind) ps) ≡ held_put s kind (values_of ps)
values_replaced [] s k kind d u e = absurd (cc)
values_replaced (p ∷ ps) s k kind d u e = by_test (serial_is s p.1) refl e (λ q. values_replaced ps s k kind d.1 u.1 q)
  where
    by_test : (b : Bool) → serial_is s p.1 ≡ b → cond b (Some p.0) (key_at ps s) ≡ Some k → (key_at ps s ≡ Some k → values_of (replaced k (new_held s kind) ps) ≡ held_put s kind (values_of ps))
        → values_of (cond (nat_eq p.0 k) ((p.0, new_held s kind) ∷ ps) (p ∷ replaced k (new_held s kind) ps)) ≡ cond b (new_held p.1.entry.serial kind) p.1 ∷ held_put s kind (values_of ps)
    by_test true g e rest =
        ap (λ b. values_of (cond b ((p.0, new_held s kind) ∷ ps) (p ∷ replaced k (new_held s kind) ps))) (eq-eqb p.0 k (some_is p.0 k e))
        ∙ ap (λ n. new_held n kind ∷ values_of ps) (sym (eqb-true p.1.entry.serial s g))
        ∙ ap (λ xs. new_held p.1.entry.serial kind ∷ xs) (sym (put_none s kind (values_of ps) (ap (λ n. holds_serial n (values_of ps)) (sym (eqb-true p.1.entry.serial s g)) ∙ u.0)))
    by_test false g e rest = ap (λ b. values_of (cond b ((p.0, new_held s kind) ∷ ps) (p ∷ replaced k (new_held s kind) ps))) (ne_eqb p.0 k (apart p ps k d (key_there ps s k e))) ∙ ap (λ xs. p.1 ∷ xs) (rest e)

pub holds_put : (s t : ℕ) (k : EntryKind) (hs : List Held) → holds_serial t (held_put s k hs) ≡ holds_serial t hs
holds_put s t k [] = refl
holds_put s t k (h ∷ hs) = by_test (serial_is s h) (holds_put s t k hs)
  where
    by_test : (b : Bool) → holds_serial t (held_put s k hs) ≡ holds_serial t hs → (serial_is t (cond b (new_held h.entry.serial k) h) || holds_serial t (held_put s k hs)) ≡ serial_is t h || holds_serial t hs
    by_test true e = ap (λ b. serial_is t h || b) e
    by_test false e = ap (λ b. serial_is t h || b) e

pub unique_put : (s : ℕ) (k : EntryKind) (hs : List Held) → AreUnique hs → AreUnique (held_put s k hs)
unique_put s k [] u = tt
unique_put s k (h ∷ hs) u = by_test (serial_is s h) (unique_put s k hs u.1)
  where
    by_test : (b : Bool) → AreUnique (held_put s k hs) → AreUnique (cond b (new_held h.entry.serial k) h ∷ held_put s k hs)
    by_test true e = (holds_put s h.entry.serial k hs ∙ u.0, e)
    by_test false e = (holds_put s h.entry.serial k hs ∙ u.0, e)

-- one more

pub key_inserted : (ps : List (ℕ × Held)) (s k m t : ℕ) (v : Held) → AreDistinct ps → key_at ps s ≡ Some k → holds_serial v.entry.serial (values_of ps) ≡ false → key_at (inserted k (m, v) ps) t ≡ cond (serial_is t v) (Some m) (key_at ps t)
key_inserted [] s k m t v d e w = absurd (cc)
key_inserted (p ∷ ps) s k m t v d e w = by_test (serial_is s p.1) refl e (λ q. key_inserted ps s k m t v d.1 q lacks.1)
  where
    lacks : (serial_is v.entry.serial p.1 ≡ false) × (holds_serial v.entry.serial (values_of ps) ≡ false)
    lacks = by_or (serial_is v.entry.serial p.1) (holds_serial v.entry.serial (values_of ps)) w
      where
        by_or : (b c : Bool) → (b || c) ≡ false → (b ≡ false) × (c ≡ false)
        by_or true c e = no e
        by_or false c e = (refl, e)

    by_serials : (b c : Bool) → serial_is t p.1 ≡ b → serial_is t v ≡ c → cond b (Some p.0) (cond c (Some m) (key_at ps t)) ≡ cond c (Some m) (cond b (Some p.0) (key_at ps t))
    by_serials true true y z = no (sym (eq-eqb p.1.entry.serial v.entry.serial (eqb-true p.1.entry.serial t y ∙ sym (eqb-true v.entry.serial t z))) ∙ lacks.0)
    by_serials true false y z = refl
    by_serials false true y z = refl
    by_serials false false y z = refl

    by_test : (b : Bool) → serial_is s p.1 ≡ b → cond b (Some p.0) (key_at ps s) ≡ Some k → (key_at ps s ≡ Some k → key_at (inserted k (m, v) ps) t ≡ cond (serial_is t v) (Some m) (key_at ps t))
        → key_at (inserted k (m, v) (p ∷ ps)) t ≡ cond (serial_is t v) (Some m) (key_at (p ∷ ps) t)
    by_test true g e rest = ap (λ b. key_at (cond b ((m, v) ∷ p ∷ ps) (p ∷ inserted k (m, v) ps)) t) (eq-eqb p.0 k (some_is p.0 k e))
    by_test false g e rest =
        ap (λ b. key_at (cond b ((m, v) ∷ p ∷ ps) (p ∷ inserted k (m, v) ps)) t) (ne_eqb p.0 k (apart p ps k d (key_there ps s k e)))
        ∙ ap (λ o. cond (serial_is t p.1) (Some p.0) o) (rest e) ∙ by_serials (serial_is t p.1) (serial_is t v) refl refl

pub values_inserted : (ps : List (ℕ × Held)) (s k m : ℕ) (v : Held) → AreDistinct ps → key_at ps s ≡ Some k → values_of (inserted k (m, v) ps) ≡ held_inserted s v (values_of ps)
values_inserted [] s k m v d e = absurd (cc)
values_inserted (p ∷ ps) s k m v d e = by_test (serial_is s p.1) e (λ q. values_inserted ps s k m v d.1 q)
  where
    by_test : (b : Bool) → cond b (Some p.0) (key_at ps s) ≡ Some k → (key_at ps s ≡ Some k → values_of (inserted k (m, v) ps) ≡ held_inserted s v (values_of ps))
        → values_of (cond (nat_eq p.0 k) ((m, v) ∷ p ∷ ps) (p ∷ inserted k (m, v) ps)) ≡ cond b (v ∷ p.1 ∷ values_of ps) (p.1 ∷ held_inserted s v (values_of ps))
    by_test true e rest = ap (λ b. values_of (cond b ((m, v) ∷ p ∷ ps) (p ∷ inserted k (m, v) ps))) (eq-eqb p.0 k (some_is p.0 k e))
    by_test false e rest = ap (λ b. values_of (cond b ((m, v) ∷ p ∷ ps) (p ∷ inserted k (m, v) ps))) (ne_eqb p.0 k (apart p ps k d (key_there ps s k e))) ∙ ap (λ xs. p.1 ∷ xs) (rest e)

pub holds_inserted_less : (s t : ℕ) (v : Held) (hs : List Held) → holds_serial t hs ≡ false → serial_is t v ≡ false → holds_serial t (held_inserted s v hs) ≡ false
holds_inserted_less s t v [] e w = refl
holds_inserted_less s t v (h ∷ hs) e w = by_tests (serial_is s h) (serial_is t h) refl e (holds_inserted_less s t v hs)
  where
    by_tests : (b c : Bool) → serial_is t h ≡ c → (c || holds_serial t hs) ≡ false → (holds_serial t hs ≡ false → serial_is t v ≡ false → holds_serial t (held_inserted s v hs) ≡ false)
        → holds_serial t (cond b (v ∷ h ∷ hs) (h ∷ held_inserted s v hs)) ≡ false
    by_tests b true z e rest = no e
    by_tests true false z e rest = ap (λ c. c || (serial_is t h || holds_serial t hs)) w ∙ ap (λ c. c || holds_serial t hs) z ∙ e
    by_tests false false z e rest = ap (λ c. c || holds_serial t (held_inserted s v hs)) z ∙ rest e w

pub unique_inserted : (s : ℕ) (v : Held) (hs : List Held) → AreUnique hs → holds_serial v.entry.serial hs ≡ false → AreUnique (held_inserted s v hs)
unique_inserted s v [] u w = tt
unique_inserted s v (h ∷ hs) u w = by_tests (serial_is s h) (serial_is v.entry.serial h) refl w (unique_inserted s v hs u.1)
  where
    by_tests : (b c : Bool) → serial_is v.entry.serial h ≡ c → (c || holds_serial v.entry.serial hs) ≡ false → (holds_serial v.entry.serial hs ≡ false → AreUnique (held_inserted s v hs)) → AreUnique (cond b (v ∷ h ∷ hs) (h ∷ held_inserted s v hs))
    by_tests b true z e rest = no e
    by_tests true false z e rest = (ap (λ c. c || holds_serial v.entry.serial hs) z ∙ e, u)
    by_tests false false z e rest = (holds_inserted_less s h.entry.serial v hs u.0 (other (cases_eq v.entry.serial h.entry.serial)), rest e)
      where
        other : (v.entry.serial ≡ h.entry.serial) ⊎ (v.entry.serial ≢ h.entry.serial) → serial_is h.entry.serial v ≡ false
        other (inl q) = no (sym (eq-eqb h.entry.serial v.entry.serial (sym q)) ∙ z)
        other (inr q) = ne_eqb v.entry.serial h.entry.serial q

pub key_pushed : (ps : List (ℕ × Held)) (m t : ℕ) (v : Held) → key_at (ps ++ (m, v) ∷ []) t ≡ cond (is_some (key_at ps t)) (key_at ps t) (cond (serial_is t v) (Some m) None)
key_pushed [] m t v = refl
key_pushed (p ∷ ps) m t v = by_test (serial_is t p.1) (key_pushed ps m t v)
  where
    by_test : (b : Bool) → key_at (ps ++ (m, v) ∷ []) t ≡ cond (is_some (key_at ps t)) (key_at ps t) (cond (serial_is t v) (Some m) None)
        → cond b (Some p.0) (key_at (ps ++ (m, v) ∷ []) t) ≡ cond (is_some (cond b (Some p.0) (key_at ps t))) (cond b (Some p.0) (key_at ps t)) (cond (serial_is t v) (Some m) None)
    by_test true e = refl
    by_test false e = e

pub values_pushed : (ps : List (ℕ × Held)) (m : ℕ) (v : Held) → values_of (ps ++ (m, v) ∷ []) ≡ values_of ps ++ v ∷ []
values_pushed [] m v = refl
values_pushed (p ∷ ps) m v = ap (λ xs. p.1 ∷ xs) (values_pushed ps m v)

pub unique_pushed : (v : Held) (hs : List Held) → AreUnique hs → holds_serial v.entry.serial hs ≡ false → AreUnique (hs ++ v ∷ [])
unique_pushed v [] u w = (refl, tt)
unique_pushed v (h ∷ hs) u w = (still hs u.0, unique_pushed v hs u.1 lacks.1)
  where
    lacks : (serial_is v.entry.serial h ≡ false) × (holds_serial v.entry.serial hs ≡ false)
    lacks = by_or (serial_is v.entry.serial h) (holds_serial v.entry.serial hs) w
      where
        by_or : (b c : Bool) → (b || c) ≡ false → (b ≡ false) × (c ≡ false)
        by_or true c e = no e
        by_or false c e = (refl, e)

    other : (v.entry.serial ≡ h.entry.serial) ⊎ (v.entry.serial ≢ h.entry.serial) → serial_is h.entry.serial v ≡ false
    other (inl q) = no (sym (eq-eqb h.entry.serial v.entry.serial (sym q)) ∙ lacks.0)
    other (inr q) = ne_eqb v.entry.serial h.entry.serial q

    still : (xs : List Held) → holds_serial h.entry.serial xs ≡ false → holds_serial h.entry.serial (xs ++ v ∷ []) ≡ false
    still [] e = ap (λ b. b || false) (other (cases_eq v.entry.serial h.entry.serial))
    still (x ∷ xs) e = by_test (serial_is h.entry.serial x) e (still xs)
      where
        by_test : (b : Bool) → (b || holds_serial h.entry.serial xs) ≡ false → (holds_serial h.entry.serial xs ≡ false → holds_serial h.entry.serial (xs ++ v ∷ []) ≡ false) → (b || holds_serial h.entry.serial (xs ++ v ∷ [])) ≡ false
        by_test true e rest = no e
        by_test false e rest = rest e

-- a key is asked of the table, and found
pub must : (ps : List (ℕ × Held)) (keys slice : List ℕ) (s : ℕ) → Keyed ps keys → slice ≡ keys → is_some (option_map (λ h. h.entry) (find (serial_is s) (values_of ps))) ≡ true → is_some (key_in slice s) ≡ true
must ps keys slice s h e there = ap (λ ks. is_some (key_in ks s)) e ∙ ap is_some (h.tells s) ∙ ap is_some (found_key ps s (found_entry s (find (serial_is s) (values_of ps)) there)).1

pub got : (ps : List (ℕ × Held)) (keys slice : List ℕ) (s k : ℕ) → Keyed ps keys → slice ≡ keys → key_in slice s ≡ Some k → HasKey ps keys s k
got ps keys slice s k h e q =
    let key : key_at ps s ≡ Some k = sym (h.tells s) ∙ ap (λ ks. key_in ks s) (sym e) ∙ q in
    let p = key_place keys s k (h.tells s ∙ key) in
    record { key = key; there = key_there ps s k key; within = p.0; at = p.1 }
