-- The uses of each name, changed one after another.
use Rattle.std.proofs.Common.{◌≡◌, ℕ, suc, Bool, true, false, cond, List, [], ◌∷◌, map, length, get_or, set, Option, Some, None, refl, sym, ap, ◌∙◌, subst, arith}
use Rattle.std.specs.Prelude.{bytes_eq, option_map}
use Rattle.std.proofs.lemmas.Bool.{or_parts}
use Rattle.std.proofs.lemmas.Slice.Eq.{bytes_eq-Decides}
use Rattle.jump_tables.specs.declared.collect.Uses.{Uses}
use Rattle.jump_tables.specs.Names.{has, place_of, AreDistinct}
use Rattle.jump_tables.specs.Collected.{for_each, at_name}
use Rattle.jump_tables.proofs.NameLaws.{none_there}

pub each_same : (f g : List ℕ → Uses → Uses) → ((n : List ℕ) (u : Uses) → f n u ≡ g n u) → (ns : List (List ℕ)) (us : List Uses) → for_each f ns us ≡ for_each g ns us
each_same f g e [] us = refl
each_same f g e (n ∷ ns) [] = refl
each_same f g e (n ∷ ns) (u ∷ us) = ap (λ v. v ∷ for_each f ns us) (e n u) ∙ ap (λ vs. g n u ∷ vs) (each_same f g e ns us)

pub each_each : (f g : List ℕ → Uses → Uses) (ns : List (List ℕ)) (us : List Uses) → for_each f ns (for_each g ns us) ≡ for_each (λ n u. f n (g n u)) ns us
each_each f g [] us = refl
each_each f g (n ∷ ns) [] = refl
each_each f g (n ∷ ns) (u ∷ us) = ap (λ vs. f n (g n u) ∷ vs) (each_each f g ns us)

pub each_length : (f : List ℕ → Uses → Uses) (ns : List (List ℕ)) (us : List Uses) → length (for_each f ns us) ≡ length us
each_length f [] us = refl
each_length f (n ∷ ns) [] = refl
each_length f (n ∷ ns) (u ∷ us) = ap suc (each_length f ns us)

pub each_stays : (f : List ℕ → Uses → Uses) → ((n : List ℕ) (u : Uses) → f n u ≡ u) → (ns : List (List ℕ)) (us : List Uses) → for_each f ns us ≡ us
each_stays f e [] us = refl
each_stays f e (n ∷ ns) [] = refl
each_stays f e (n ∷ ns) (u ∷ us) = ap (λ v. v ∷ for_each f ns us) (e n u) ∙ ap (λ vs. u ∷ vs) (each_stays f e ns us)

pub each_map : (f : List ℕ → Uses → Uses) (g : List ℕ → Uses) (ns : List (List ℕ)) → for_each f ns (map g ns) ≡ map (λ n. f n (g n)) ns
each_map f g [] = refl
each_map f g (n ∷ ns) = ap (λ vs. f n (g n) ∷ vs) (each_map f g ns)

module _ (m : List ℕ) (f : Uses → Uses) where
  absent_stays : (ns : List (List ℕ)) (us : List Uses) → has m ns ≡ false → for_each (at_name m f) ns us ≡ us
  absent_stays [] us e = refl
  absent_stays (n ∷ ns) [] e = refl
  absent_stays (n ∷ ns) (u ∷ us) e =
      let parts = or_parts _ _ e in
      ap (λ b. cond b (f u) u ∷ for_each (at_name m f) ns us) parts.0 ∙ ap (λ vs. u ∷ vs) (absent_stays ns us parts.1)

  pub each_absent : (ns : List (List ℕ)) (us : List Uses) → place_of m ns ≡ None → for_each (at_name m f) ns us ≡ us
  each_absent ns us e = absent_stays ns us (none_there m ns e)

  pub each_at : (ns : List (List ℕ)) (us : List Uses) (k : ℕ) (d : Uses) → place_of m ns ≡ Some k → AreDistinct ns → length us ≡ length ns → for_each (at_name m f) ns us ≡ set us k (f (get_or us k d))
  each_at [] us k d e a l = absurd (no e)
    where
      no : None ≡ Some k → ⊥
      no q = cc
  each_at (n ∷ ns) [] k d e a l = absurd (omega (arith, l))
  each_at (n ∷ ns) (u ∷ us) k d e a l = by_head (bytes_eq m n) refl (place_of m ns) refl e (λ j q. each_at ns us j d q a.1 (omega (arith, l)))
    where
      by_head : (b : Bool) → bytes_eq m n ≡ b → (o : Option ℕ) → place_of m ns ≡ o → cond b (Some 0) (option_map suc o) ≡ Some k → ((j : ℕ) → place_of m ns ≡ Some j → for_each (at_name m f) ns us ≡ set us j (f (get_or us j d)))
          → cond b (f u) u ∷ for_each (at_name m f) ns us ≡ set (u ∷ us) k (f (get_or (u ∷ us) k d))
      by_head true g o h q rest =
          let same : m ≡ n = (bytes_eq-Decides m n).0 g in
          let z : 0 ≡ k = cc in
          ap (λ vs. f u ∷ vs) (absent_stays ns us (subst (λ x. has x ns ≡ false) (sym same) a.0))
          ∙ ap (λ j. set (u ∷ us) j (f (get_or (u ∷ us) j d))) z
      by_head false g None h q rest = let no : ⊥ = cc in absurd no
      by_head false g (Some j) h q rest =
          let z : suc j ≡ k = cc in
          ap (λ vs. u ∷ vs) (rest j h) ∙ ap (λ i. set (u ∷ us) i (f (get_or (u ∷ us) i d))) z
