-- The end of a code: behind it stands none of the code, and no entry that goes changes that.
use Rattle.std.proofs.Common.{◌≡◌, ℕ, suc, ◌<◌, ◌≤◌, Bool, true, false, not, cond, List, [], ◌∷◌, Option, Some, None, refl, sym, ap, ◌∙◌, arith, subst, nat_eq, option_map}
use Rattle.std.specs.Prelude.{⊤, find}
use Rattle.std.proofs.lemmas.Bool.{ne_eqb, eq-eqb, eqb-true, or_from, or_parts}
use Rattle.insn_ir.specs.declared.entry.EntryKind.{EntryKind}
use Rattle.asm_unit.specs.Held.{Held, AreNumbered, entries_of, serial_is, holds_serial, AreUnique, behind, held_without, new_held, put_held, held_put, held_inserted}
use Rattle.asm_unit.specs.OwnerWalk.{next_where}

no : {P : Type 0} → true ≡ false → P
no e = absurd (cc)

-- serials that rise, the first of which is above this number
abbrev pub Rise : ℕ → List Held → Type 0
Rise n [] = ⊤
Rise n (h ∷ hs) = (n < h.entry.serial) × Rise h.entry.serial hs

pub numbered_rise : (n : ℕ) (hs : List Held) → AreNumbered n (entries_of hs) → Rise n hs
numbered_rise n [] h = tt
numbered_rise n (x ∷ hs) h = (omega (arith, h.0), subst (λ m. Rise m hs) (sym h.0) (numbered_rise (suc n) hs h.1))

none_below : (n s : ℕ) (hs : List Held) → Rise n hs → s ≤ n → holds_serial s hs ≡ false
none_below n s [] r le = refl
none_below n s (h ∷ hs) r le =
    or_from (serial_is s h) (holds_serial s hs) (ne_eqb h.entry.serial s (λ q. absurd (omega (arith, q, r.0, le)))) (none_below h.entry.serial s hs r.1 (omega (arith, r.0, le)))

pub rise_unique : (n : ℕ) (hs : List Held) → Rise n hs → AreUnique hs
rise_unique n [] r = tt
rise_unique n (h ∷ hs) r = let le : h.entry.serial ≤ h.entry.serial = omega arith in (none_below h.entry.serial h.entry.serial hs r.1 le, rise_unique h.entry.serial hs r.1)

-- the first that passes a test
abbrev pub found_in : (ℕ → Bool) → List Held → Option Held
found_in test hs = find (λ h. test h.entry.serial) hs

none_of : (o : Option Held) → option_map (λ h. h.entry.serial) o ≡ None → o ≡ None
none_of None e = refl
none_of (Some h) e = absurd (cc)

not_first : (b : Bool) (x : Held) (o : Option Held) → cond b (Some x) o ≡ None → (b ≡ false) × (o ≡ None)
not_first true x o e = absurd (cc)
not_first false x o e = (refl, e)

-- at the entry itself, and past another
at_behind : (test : ℕ → Bool) (h : Held) (hs : List Held) (s : ℕ) → serial_is s h ≡ true → found_in test (behind s (h ∷ hs)) ≡ found_in test hs
at_behind test h hs s e = ap (λ b. found_in test (cond b hs (behind s hs))) e

past_behind : (test : ℕ → Bool) (h : Held) (hs : List Held) (s : ℕ) → serial_is s h ≡ false → found_in test (behind s (h ∷ hs)) ≡ found_in test (behind s hs)
past_behind test h hs s e = ap (λ b. found_in test (cond b hs (behind s hs))) e

none_found : (test : ℕ → Bool) (n end : ℕ) (hs : List Held) → Rise n hs → end ≤ n → ((s : ℕ) → test s ≡ true → s ≤ end) → found_in test hs ≡ None
none_found test n end [] r le h = refl
none_found test n end (x ∷ hs) r le h = by_test (test x.entry.serial) refl (none_found test x.entry.serial end hs r.1 (omega (arith, le, r.0)) h)
  where
    by_test : (b : Bool) → test x.entry.serial ≡ b → found_in test hs ≡ None → cond b (Some x) (found_in test hs) ≡ None
    by_test true g rest = absurd (omega (arith, h x.entry.serial g, r.0, le))
    by_test false g rest = rest

none_behind : (test : ℕ → Bool) (n end : ℕ) (hs : List Held) → Rise n hs → ((s : ℕ) → test s ≡ true → s ≤ end) → found_in test (behind end hs) ≡ None
none_behind test n end [] r h = refl
none_behind test n end (x ∷ hs) r h = by_test (serial_is end x) refl (none_behind test x.entry.serial end hs r.1 h)
  where
    by_test : (b : Bool) → serial_is end x ≡ b → found_in test (behind end hs) ≡ None → found_in test (behind end (x ∷ hs)) ≡ None
    by_test true g rest = at_behind test x hs end g ∙ none_found test x.entry.serial end hs r.1 (omega (arith, eqb-true x.entry.serial end g)) h
    by_test false g rest = past_behind test x hs end g ∙ rest

-- where serials rise, nothing that has at most this serial stands behind its entry
pub none_above : (test : ℕ → Bool) (n end : ℕ) (hs : List Held) → Rise n hs → ((s : ℕ) → test s ≡ true → s ≤ end) → next_where test hs end ≡ None
none_above test n end hs r h = ap (option_map (λ h. h.entry.serial)) (none_behind test n end hs r h)

-- an entry goes
module _ (test left : ℕ → Bool) (fewer : (s : ℕ) → left s ≡ true → test s ≡ true) (serial : ℕ) where
  still_not : (s : ℕ) → test s ≡ false → left s ≡ false
  still_not s e = by_test (left s) refl
    where
      by_test : (b : Bool) → left s ≡ b → b ≡ false
      by_test true g = sym (fewer s g) ∙ e
      by_test false g = refl

  none_left : (hs : List Held) → found_in test hs ≡ None → found_in left (held_without serial hs) ≡ None
  none_left [] e = refl
  none_left (x ∷ hs) e =
      let w = not_first (test x.entry.serial) x (found_in test hs) e in
      by_test (serial_is serial x) (still_not x.entry.serial w.0) (none_left hs w.1)
    where
      by_test : (b : Bool) → left x.entry.serial ≡ false → found_in left (held_without serial hs) ≡ None → found_in left (cond (not b) (x ∷ held_without serial hs) (held_without serial hs)) ≡ None
      by_test true g rest = rest
      by_test false g rest = ap (λ b. cond b (Some x) (found_in left (held_without serial hs))) g ∙ rest

  none_behind_none : (end : ℕ) (hs : List Held) → found_in left hs ≡ None → found_in left (behind end hs) ≡ None
  none_behind_none end [] e = refl
  none_behind_none end (x ∷ hs) e =
      let w = not_first (left x.entry.serial) x (found_in left hs) e in
      by_test (serial_is end x) (none_behind_none end hs w.1)
    where
      by_test : (b : Bool) → found_in left (behind end hs) ≡ None → found_in left (cond b hs (behind end hs)) ≡ None
      by_test true rest = (not_first (left x.entry.serial) x (found_in left hs) e).1
      by_test false rest = rest

  behind_left : (end : ℕ) (hs : List Held) → found_in test (behind end hs) ≡ None → found_in left (behind end (held_without serial hs)) ≡ None
  behind_left end [] e = refl
  behind_left end (x ∷ hs) e = by_tests (serial_is serial x) (serial_is end x) refl e (behind_left end hs)
    where
      by_tests : (b c : Bool) → serial_is end x ≡ c → found_in test (cond c hs (behind end hs)) ≡ None
          → (found_in test (behind end hs) ≡ None → found_in left (behind end (held_without serial hs)) ≡ None)
          → found_in left (behind end (cond (not b) (x ∷ held_without serial hs) (held_without serial hs))) ≡ None
      by_tests true true g q rest = none_behind_none end (held_without serial hs) (none_left hs q)
      by_tests true false g q rest = rest q
      by_tests false true g q rest = at_behind left x (held_without serial hs) end g ∙ none_left hs q
      by_tests false false g q rest = past_behind left x (held_without serial hs) end g ∙ rest q

  pub end_left : (end : ℕ) (hs : List Held) → next_where test hs end ≡ None → next_where left (held_without serial hs) end ≡ None
  end_left end hs e = ap (option_map (λ h. h.entry.serial)) (behind_left end hs (none_of (found_in test (behind end hs)) e))

-- an entry changes, and keeps its serial
module _ (test left : ℕ → Bool) (fewer : (s : ℕ) → left s ≡ true → test s ≡ true) (serial : ℕ) (k : EntryKind) where
  put_keeps : (b : Bool) (x : Held) → (cond b (new_held x.entry.serial k) x).entry.serial ≡ x.entry.serial
  put_keeps true x = refl
  put_keeps false x = refl

  none_put : (hs : List Held) → found_in test hs ≡ None → found_in left (held_put serial k hs) ≡ None
  none_put [] e = refl
  none_put (x ∷ hs) e =
      let w = not_first (test x.entry.serial) x (found_in test hs) e in
      ap (λ b. cond b (Some (put_held serial k x)) (found_in left (held_put serial k hs))) (ap left (put_keeps (serial_is serial x) x) ∙ still_not test left fewer serial x.entry.serial w.0)
      ∙ none_put hs w.1

  behind_put : (end : ℕ) (hs : List Held) → found_in test (behind end hs) ≡ None → found_in left (behind end (held_put serial k hs)) ≡ None
  behind_put end [] e = refl
  behind_put end (x ∷ hs) e =
      ap (λ n. found_in left (cond (nat_eq n end) (held_put serial k hs) (behind end (held_put serial k hs)))) (put_keeps (serial_is serial x) x)
      ∙ by_test (serial_is end x) e (behind_put end hs)
    where
      by_test : (b : Bool) → found_in test (cond b hs (behind end hs)) ≡ None → (found_in test (behind end hs) ≡ None → found_in left (behind end (held_put serial k hs)) ≡ None)
          → found_in left (cond b (held_put serial k hs) (behind end (held_put serial k hs))) ≡ None
      by_test true q rest = none_put hs q
      by_test false q rest = rest q

  pub end_put : (end : ℕ) (hs : List Held) → next_where test hs end ≡ None → next_where left (held_put serial k hs) end ≡ None
  end_put end hs e = ap (option_map (λ h. h.entry.serial)) (behind_put end hs (none_of (found_in test (behind end hs)) e))

-- an entry comes before another
module _ (test left : ℕ → Bool) (b n : ℕ) (k : EntryKind) (same : (s : ℕ) → nat_eq n s ≡ false → left s ≡ true → test s ≡ true) (with_next : left n ≡ true → test b ≡ true) where
  still_none : (s : ℕ) → nat_eq n s ≡ false → test s ≡ false → left s ≡ false
  still_none s d e = by_test (left s) refl
    where
      by_test : (t : Bool) → left s ≡ t → t ≡ false
      by_test true g = sym (same s d g) ∙ e
      by_test false g = refl

  none_new : test b ≡ false → left n ≡ false
  none_new e = by_test (left n) refl
    where
      by_test : (t : Bool) → left n ≡ t → t ≡ false
      by_test true g = sym (with_next g) ∙ e
      by_test false g = refl

  other_serial : (x : Held) (hs : List Held) → holds_serial n (x ∷ hs) ≡ false → (nat_eq n x.entry.serial ≡ false) × (holds_serial n hs ≡ false)
  other_serial x hs f = let w = or_parts (serial_is n x) (holds_serial n hs) f in (ne_eqb n x.entry.serial (λ q. no (sym (eq-eqb x.entry.serial n (sym q)) ∙ w.0)), w.1)

  none_kept : (hs : List Held) → holds_serial n hs ≡ false → found_in test hs ≡ None → found_in left hs ≡ None
  none_kept [] f e = refl
  none_kept (x ∷ hs) f e =
      let w = other_serial x hs f in
      let v = not_first (test x.entry.serial) x (found_in test hs) e in
      ap (λ t. cond t (Some x) (found_in left hs)) (still_none x.entry.serial w.0 v.0) ∙ none_kept hs w.1 v.1

  none_inserted : (hs : List Held) → holds_serial n hs ≡ false → found_in test hs ≡ None → found_in left (held_inserted b (new_held n k) hs) ≡ None
  none_inserted [] f e = refl
  none_inserted (x ∷ hs) f e =
      let w = other_serial x hs f in
      let v = not_first (test x.entry.serial) x (found_in test hs) e in
      by_test (serial_is b x) refl (still_none x.entry.serial w.0 v.0) v.0 (none_kept (x ∷ hs) f e) (none_inserted hs w.1 v.1)
    where
      by_test : (t : Bool) → serial_is b x ≡ t → left x.entry.serial ≡ false → test x.entry.serial ≡ false → found_in left (x ∷ hs) ≡ None → found_in left (held_inserted b (new_held n k) hs) ≡ None
          → found_in left (cond t (new_held n k ∷ x ∷ hs) (x ∷ held_inserted b (new_held n k) hs)) ≡ None
      by_test true g l e all rest = ap (λ t. cond t (Some (new_held n k)) (found_in left (x ∷ hs))) (none_new (ap test (sym (eqb-true x.entry.serial b g)) ∙ e)) ∙ all
      by_test false g l e all rest = ap (λ t. cond t (Some x) (found_in left (held_inserted b (new_held n k) hs))) l ∙ rest

  none_behind_kept : (end : ℕ) (hs : List Held) → holds_serial n hs ≡ false → found_in test (behind end hs) ≡ None → found_in left (behind end hs) ≡ None
  none_behind_kept end [] f e = refl
  none_behind_kept end (x ∷ hs) f e = by_test (serial_is end x) e (none_behind_kept end hs (other_serial x hs f).1)
    where
      by_test : (t : Bool) → found_in test (cond t hs (behind end hs)) ≡ None → (found_in test (behind end hs) ≡ None → found_in left (behind end hs) ≡ None) → found_in left (cond t hs (behind end hs)) ≡ None
      by_test true q rest = none_kept hs (other_serial x hs f).1 q
      by_test false q rest = rest q

  behind_inserted : (end : ℕ) (hs : List Held) → nat_eq n end ≡ false → holds_serial n hs ≡ false → found_in test (behind end hs) ≡ None → found_in left (behind end (held_inserted b (new_held n k) hs)) ≡ None
  behind_inserted end [] d f e = refl
  behind_inserted end (x ∷ hs) d f e = by_before (serial_is b x) (none_behind_kept end (x ∷ hs) f e) (by_end (serial_is end x) refl e (behind_inserted end hs d (other_serial x hs f).1))
    where
      by_end : (t : Bool) → serial_is end x ≡ t → found_in test (cond t hs (behind end hs)) ≡ None → (found_in test (behind end hs) ≡ None → found_in left (behind end (held_inserted b (new_held n k) hs)) ≡ None)
          → found_in left (behind end (x ∷ held_inserted b (new_held n k) hs)) ≡ None
      by_end true g q rest = at_behind left x (held_inserted b (new_held n k) hs) end g ∙ none_inserted hs (other_serial x hs f).1 q
      by_end false g q rest = past_behind left x (held_inserted b (new_held n k) hs) end g ∙ rest q

      by_before : (t : Bool) → found_in left (behind end (x ∷ hs)) ≡ None → found_in left (behind end (x ∷ held_inserted b (new_held n k) hs)) ≡ None
          → found_in left (behind end (cond t (new_held n k ∷ x ∷ hs) (x ∷ held_inserted b (new_held n k) hs))) ≡ None
      by_before true all rest = past_behind left (new_held n k) (x ∷ hs) end d ∙ all
      by_before false all rest = rest

  pub end_inserted : (end : ℕ) (hs : List Held) → nat_eq n end ≡ false → holds_serial n hs ≡ false → next_where test hs end ≡ None → next_where left (held_inserted b (new_held n k) hs) end ≡ None
  end_inserted end hs d f e = ap (option_map (λ h. h.entry.serial)) (behind_inserted end hs d f (none_of (found_in test (behind end hs)) e))
