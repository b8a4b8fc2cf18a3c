-- A serial that no two entries of a file have: its entry stands in one body at most.
use Rattle.std.proofs.Common.{◌≡◌, ◌≢◌, ℕ, zero, suc, Bool, true, false, cond, ◌||◌, List, [], ◌∷◌, ◌++◌, filter, Some, refl, sym, ap, ◌∙◌, subst}
use Rattle.std.specs.Prelude.{slice_get, is_some, ⊤}
use Rattle.std.specs.List.{AllByRecursion}
use Rattle.std.proofs.lemmas.Bool.{or_parts}
use Rattle.jump_tables.specs.Sections.{Placed}
use Rattle.asm_unit.specs.Functions.{Part, label_of, parts, functions}
use Rattle.asm_unit.specs.Tables.{is_among}
use Rattle.asm_unit.specs.Edits.{has_serial, joined_parts}
use Rattle.asm_unit.specs.Grown.{LacksPlaced, IsOnce}
use Rattle.asm_unit.proofs.Whole.{whole}

no : {P : Type 0} → true ≡ false → P
no e = absurd (cc)

-- what is true of each is true of one
pub all_get : {A : Type 0} (P : A → Type 0) (xs : List A) (k : ℕ) (x : A) → AllByRecursion P xs → slice_get xs k ≡ Some x → P x
all_get P [] k x h e = absurd (cc)
all_get P (y ∷ xs) zero x h e = let same : y ≡ x = cc in subst P same h.0
all_get P (y ∷ xs) (suc k) x h e = all_get P xs k x h.1 e

pub all_kept : {A : Type 0} (P : A → Type 0) (test : A → Bool) (xs : List A) → AllByRecursion P xs → AllByRecursion P (filter test xs)
all_kept P test [] h = tt
all_kept P test (x ∷ xs) h = by_test (test x) (all_kept P test xs h.1)
  where
    by_test : (b : Bool) → AllByRecursion P (filter test xs) → AllByRecursion P (cond b (x ∷ filter test xs) (filter test xs))
    by_test true g = (h.0, g)
    by_test false g = g

module _ (s : ℕ) where
  pub lacks_among : (ps : List Placed) → LacksPlaced s ps → is_among s ps ≡ false
  lacks_among [] l = refl
  lacks_among (p ∷ ps) l = ap (λ b. b || is_among s ps) l.0 ∙ lacks_among ps l.1

  pub among_lacks : (ps : List Placed) → is_among s ps ≡ false → LacksPlaced s ps
  among_lacks [] e = tt
  among_lacks (p ∷ ps) e = let h = or_parts (has_serial s p.entry) (is_among s ps) e in (h.0, among_lacks ps h.1)

  pub lacks_front : (xs ys : List Placed) → LacksPlaced s (xs ++ ys) → LacksPlaced s xs
  lacks_front [] ys l = tt
  lacks_front (x ∷ xs) ys l = (l.0, lacks_front xs ys l.1)

  pub lacks_back : (xs ys : List Placed) → LacksPlaced s (xs ++ ys) → LacksPlaced s ys
  lacks_back [] ys l = l
  lacks_back (x ∷ xs) ys l = lacks_back xs ys l.1

  pub once_first : (xs ys : List Placed) → IsOnce s (xs ++ ys) → IsOnce s xs
  once_first [] ys o = tt
  once_first (x ∷ xs) ys o = (λ e. lacks_front xs ys (o.0 e), once_first xs ys o.1)

  pub once_second : (xs ys : List Placed) → IsOnce s (xs ++ ys) → IsOnce s ys
  once_second [] ys o = o
  once_second (x ∷ xs) ys o = once_second xs ys o.1

  -- in the first of two lists, so not in the second
  pub once_behind : (xs ys : List Placed) → IsOnce s (xs ++ ys) → is_among s xs ≡ true → LacksPlaced s ys
  once_behind [] ys o e = no (sym e)
  once_behind (x ∷ xs) ys o e = by_test (has_serial s x.entry) refl e (once_behind xs ys o.1)
    where
      by_test : (b : Bool) → has_serial s x.entry ≡ b → b || is_among s xs ≡ true → (is_among s xs ≡ true → LacksPlaced s ys) → LacksPlaced s ys
      by_test true g a rest = lacks_back xs ys (o.0 g)
      by_test false g a rest = rest a

  -- in the second of two lists, so not in the first
  pub once_front : (xs ys : List Placed) → IsOnce s (xs ++ ys) → is_among s ys ≡ true → LacksPlaced s xs
  once_front [] ys o e = tt
  once_front (x ∷ xs) ys o e = (by_test (has_serial s x.entry) refl, once_front xs ys o.1 e)
    where
      by_test : (t : Bool) → has_serial s x.entry ≡ t → t ≡ false
      by_test true g = no (sym e ∙ lacks_among ys (lacks_back xs ys (o.0 g)))
      by_test false g = refl

  pub among_front : (xs ys : List Placed) → is_among s xs ≡ true → is_among s (xs ++ ys) ≡ true
  among_front [] ys e = no (sym e)
  among_front (x ∷ xs) ys e = by_test (has_serial s x.entry) e (among_front xs ys)
    where
      by_test : (t : Bool) → (t || is_among s xs) ≡ true → (is_among s xs ≡ true → is_among s (xs ++ ys) ≡ true) → (t || is_among s (xs ++ ys)) ≡ true
      by_test true e rest = refl
      by_test false e rest = rest e

  pub among_behind : (xs ys : List Placed) → is_among s ys ≡ true → is_among s (xs ++ ys) ≡ true
  among_behind [] ys e = e
  among_behind (x ∷ xs) ys e = ap (λ b. has_serial s x.entry || b) (among_behind xs ys e) ∙ or_true (has_serial s x.entry)
    where
      or_true : (b : Bool) → b || true ≡ true
      or_true true = refl
      or_true false = refl

  pub lacks_kept : (test : Placed → Bool) (ps : List Placed) → LacksPlaced s ps → LacksPlaced s (filter test ps)
  lacks_kept test ps l = all_kept (λ p. has_serial s p.entry ≡ false) test ps l

  pub once_kept : (test : Placed → Bool) (ps : List Placed) → IsOnce s ps → IsOnce s (filter test ps)
  once_kept test [] o = tt
  once_kept test (p ∷ ps) o = by_test (test p) (once_kept test ps o.1)
    where
      by_test : (b : Bool) → IsOnce s (filter test ps) → IsOnce s (cond b (p ∷ filter test ps) (filter test ps))
      by_test true g = (λ e. lacks_kept test ps (o.0 e), g)
      by_test false g = g

  pub among_kept : (test : Placed → Bool) (ps : List Placed) → is_among s (filter test ps) ≡ true → is_among s ps ≡ true
  among_kept test ps e = by_test (is_among s ps) refl
    where
      by_test : (b : Bool) → is_among s ps ≡ b → b ≡ true
      by_test true g = refl
      by_test false g = no (sym e ∙ lacks_among (filter test ps) (lacks_kept test ps (among_lacks ps g)))

  -- bodies

  abbrev LacksBody : Part → Type 0
  LacksBody q = LacksPlaced s q.body

  abbrev OnceBody : Part → Type 0
  OnceBody q = IsOnce s q.body

  abbrev AreApart : List Part → Type 0
  AreApart [] = ⊤
  AreApart (q ∷ qs) = (is_among s q.body ≡ true → AllByRecursion LacksBody qs) × AreApart qs

  lack_bodies : (qs : List Part) → LacksPlaced s (joined_parts qs) → AllByRecursion LacksBody qs
  lack_bodies [] l = tt
  lack_bodies (q ∷ qs) l = (lacks_back q.before q.body (lacks_front (q.before ++ q.body) (joined_parts qs) l), lack_bodies qs (lacks_back (q.before ++ q.body) (joined_parts qs) l))

  bodies_apart : (qs : List Part) → IsOnce s (joined_parts qs) → AreApart qs
  bodies_apart [] o = tt
  bodies_apart (q ∷ qs) o = (
    λ e. lack_bodies qs (once_behind (q.before ++ q.body) (joined_parts qs) o (among_behind q.before q.body e)),
    bodies_apart qs (once_second (q.before ++ q.body) (joined_parts qs) o),
  )

  bodies_once : (qs : List Part) → IsOnce s (joined_parts qs) → AllByRecursion OnceBody qs
  bodies_once [] o = tt
  bodies_once (q ∷ qs) o = (once_second q.before q.body (once_first (q.before ++ q.body) (joined_parts qs) o), bodies_once qs (once_second (q.before ++ q.body) (joined_parts qs) o))

  apart_kept : (test : Part → Bool) (qs : List Part) → AreApart qs → AreApart (filter test qs)
  apart_kept test [] h = tt
  apart_kept test (q ∷ qs) h = by_test (test q) (apart_kept test qs h.1)
    where
      by_test : (b : Bool) → AreApart (filter test qs) → AreApart (cond b (q ∷ filter test qs) (filter test qs))
      by_test true g = (λ e. all_kept LacksBody test qs (h.0 e), g)
      by_test false g = g

  apart_others : (qs : List Part) (j k : ℕ) (g f : Part) → AreApart qs → slice_get qs j ≡ Some g → slice_get qs k ≡ Some f → j ≢ k → is_among s f.body ≡ true → LacksPlaced s g.body
  apart_others [] j k g f h a b n e = absurd (cc)
  apart_others (q ∷ qs) zero zero g f h a b n e = absurd (n refl)
  apart_others (q ∷ qs) zero (suc k) g f h a b n e =
      let same : q ≡ g = cc in subst LacksBody same (among_lacks q.body (by_test (is_among s q.body) refl))
    where
      by_test : (t : Bool) → is_among s q.body ≡ t → t ≡ false
      by_test true w = no (sym e ∙ lacks_among f.body (all_get LacksBody qs k f (h.0 w) b))
      by_test false w = refl
  apart_others (q ∷ qs) (suc j) zero g f h a b n e =
      let same : q ≡ f = cc in all_get LacksBody qs j g (h.0 (ap (λ r. is_among s r.body) same ∙ e)) a
  apart_others (q ∷ qs) (suc j) (suc k) g f h a b n e = apart_others qs j k g f h.1 a b (λ w. n (ap suc w)) e

  -- the entry of a body stands in no other body
  pub in_one_body : (ps : List Placed) (j k : ℕ) (g f : Part) → IsOnce s ps → slice_get (functions ps) j ≡ Some g → slice_get (functions ps) k ≡ Some f → j ≢ k → is_among s f.body ≡ true → LacksPlaced s g.body
  in_one_body ps j k g f o a b n e =
      apart_others (functions ps) j k g f (apart_kept (λ q. is_some (label_of q)) (parts ps) (bodies_apart (parts ps) (subst (IsOnce s) (sym (whole ps)) o))) a b n e

  -- and once in it
  pub once_in_body : (ps : List Placed) (k : ℕ) (f : Part) → IsOnce s ps → slice_get (functions ps) k ≡ Some f → IsOnce s f.body
  once_in_body ps k f o b =
      all_get OnceBody (functions ps) k f (all_kept OnceBody (λ q. is_some (label_of q)) (parts ps) (bodies_once (parts ps) (subst (IsOnce s) (sym (whole ps)) o))) b
