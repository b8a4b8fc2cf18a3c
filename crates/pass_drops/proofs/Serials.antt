-- Lists of serials, and those of a function's code.
use Rattle.std.proofs.Common.{◌≡◌, ℕ, Bool, true, false, cond, ◌||◌, List, [], ◌∷◌, filter, Option, Some, None, refl, sym, ap, ◌∙◌, subst}
use Rattle.std.specs.Prelude.{nat_eq, slice_get, unwrap_or}
use Rattle.std.specs.List.{AllByRecursion}
use Rattle.std.proofs.Math.Bool.{or-true}
use Rattle.std.proofs.lemmas.Bool.{eq-eqb, eqb-true}
use Rattle.std.proofs.lemmas.Option.{get_or_from_slice_get, unwrap_or-slice_get}
use Rattle.jump_tables.specs.Sections.{Placed}
use Rattle.asm_unit.specs.declared.held.Held.{Held}
use Rattle.asm_unit.specs.Functions.{Part, nothing, code_part}
use Rattle.asm_unit.specs.Held.{AreUnique, holds_serial, serial_is}
use Rattle.asm_unit.specs.Tables.{is_among}
use Rattle.asm_unit.specs.Unit.{Unit, functions_of}
use Rattle.unit_edits.specs.Bodies.{body_of}
use Rattle.pass_drops.specs.walks.Dropping.{has_number, AreDistinct}
use Rattle.pass_drops.proofs.Walked.{placed_serials, serials_of, code_picked}

no : {P : Type 0} → true ≡ false → P
no e = absurd (cc)

pub each_of : (P : ℕ → Type 0) (xs ys : List ℕ) → ((s : ℕ) → has_number s ys ≡ true → P s) → ((s : ℕ) → has_number s xs ≡ true → has_number s ys ≡ true) → AllByRecursion P xs
each_of P [] ys h w = tt
each_of P (x ∷ xs) ys h w = (
  h x (w x (ap (λ b. b || has_number x xs) (eq-eqb x x refl))),
  each_of P xs ys h (λ s e. w s (ap (λ b. nat_eq x s || b) e ∙ or-true (nat_eq x s))),
)

pub serials_among : (s : ℕ) (ps : List Placed) → has_number s (placed_serials ps) ≡ is_among s ps
serials_among s [] = refl
serials_among s (p ∷ ps) = ap (λ b. nat_eq p.entry.serial s || b) (serials_among s ps)

-- what is filtered is there and passes, and what is there and passes is filtered
pub filtered : (test : ℕ → Bool) (s : ℕ) (xs : List ℕ) → has_number s (filter test xs) ≡ true → (has_number s xs ≡ true) × (test s ≡ true)
filtered test s [] e = no (sym e)
filtered test s (x ∷ xs) e = by_test (test x) (nat_eq x s) refl refl e (filtered test s xs)
  where
    later : (has_number s xs ≡ true) × (test s ≡ true) → (b : Bool) → (b || has_number s xs ≡ true) × (test s ≡ true)
    later w true = (refl, w.1)
    later w false = w

    by_test : (b c : Bool) → test x ≡ b → nat_eq x s ≡ c → has_number s (cond b (x ∷ filter test xs) (filter test xs)) ≡ true → (has_number s (filter test xs) ≡ true → (has_number s xs ≡ true) × (test s ≡ true))
        → (c || has_number s xs ≡ true) × (test s ≡ true)
    by_test true true t g q rest = (refl, ap test (sym (eqb-true x s g)) ∙ t)
    by_test true false t g q rest = rest (sym (ap (λ c. c || has_number s (filter test xs)) g) ∙ q)
    by_test false c t g q rest = later (rest q) c

pub kept : (test : ℕ → Bool) (s : ℕ) (xs : List ℕ) → has_number s xs ≡ true → test s ≡ true → has_number s (filter test xs) ≡ true
kept test s [] e t = e
kept test s (x ∷ xs) e t = by_test (test x) (nat_eq x s) refl refl e (λ q. kept test s xs q t)
  where
    by_test : (b c : Bool) → test x ≡ b → nat_eq x s ≡ c → c || has_number s xs ≡ true → (has_number s xs ≡ true → has_number s (filter test xs) ≡ true) → has_number s (cond b (x ∷ filter test xs) (filter test xs)) ≡ true
    by_test true true u g q rest = ap (λ c. c || has_number s (filter test xs)) g
    by_test false true u g q rest = no (sym t ∙ ap test (sym (eqb-true x s g)) ∙ u)
    by_test true false u g q rest = ap (λ b. nat_eq x s || b) (rest q) ∙ or-true (nat_eq x s)
    by_test false false u g q rest = rest q

pub distinct_kept : (test : ℕ → Bool) (xs : List ℕ) → AreDistinct xs → AreDistinct (filter test xs)
distinct_kept test [] d = tt
distinct_kept test (x ∷ xs) d = by_test (test x) (distinct_kept test xs d.1)
  where
    lacks : (b : Bool) → has_number x (filter test xs) ≡ b → b ≡ false
    lacks true e = no (sym (filtered test x xs e).0 ∙ d.0)
    lacks false e = refl

    by_test : (b : Bool) → AreDistinct (filter test xs) → AreDistinct (cond b (x ∷ filter test xs) (filter test xs))
    by_test true r = (lacks (has_number x (filter test xs)) refl, r)
    by_test false r = r

-- no serial comes twice

held_serials : (s : ℕ) (hs : List Held) → has_number s (serials_of hs) ≡ holds_serial s hs
held_serials s [] = refl
held_serials s (h ∷ hs) = ap (λ b. serial_is s h || b) (held_serials s hs)

serials_distinct : (hs : List Held) → AreUnique hs → AreDistinct (serials_of hs)
serials_distinct [] u = tt
serials_distinct (h ∷ hs) u = (held_serials h.entry.serial hs ∙ u.0, serials_distinct hs u.1)

abbrev IsApart : Part → Type 0
IsApart q = AreDistinct (placed_serials (code_part q))

pub code_distinct : (u : Unit) (f : ℕ) → AreUnique u.held → AreDistinct (placed_serials (code_part (body_of u f)))
code_distinct u f unique = by_place (slice_get (functions_of u) f) refl
  where
    by_place : (o : Option Part) → slice_get (functions_of u) f ≡ o → IsApart (body_of u f)
    by_place None e = subst IsApart (sym (ap (λ o. unwrap_or o nothing) e) ∙ unwrap_or-slice_get (functions_of u) f nothing) tt
    by_place (Some q) e =
        subst IsApart (sym (get_or_from_slice_get (functions_of u) f q nothing e))
        (subst AreDistinct (sym (code_picked u.held f q unique e)) (distinct_kept (λ s. is_among s (code_part q)) (serials_of u.held) (serials_distinct u.held unique)))
