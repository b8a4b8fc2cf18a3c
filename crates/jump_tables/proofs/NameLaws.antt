-- Lists of names: places, and one more name.
use Rattle.std.proofs.Common.{◌≡◌, ℕ, suc, ◌+◌, ◌<◌, Bool, true, false, not, cond, List, [], ◌∷◌, ◌++◌, map, length, Option, Some, None, zero, subst, refl, sym, ap, ◌∙◌, arith, ltb}
use Rattle.std.specs.Prelude.{bytes_eq, option_map, is_some, IfSome, ◌||◌, slice_get}
use Rattle.std.specs.Bool.{OnTrue}
use Rattle.std.proofs.lemmas.Option.{slice_get-map}
use Rattle.std.specs.List.{list_any, position, position_or_len}
use Rattle.std.proofs.lemmas.Bool.{lt-ltb, ltb-true, ltb-false, le-ltb, or_from, or_parts, cond-false, false_from_ne_true, both_ways}
use Rattle.std.proofs.lemmas.Slice.Eq.{bytes_eq-Decides}
use Rattle.std.proofs.lemmas.List.Folds.{list_any-append}
use Rattle.std.proofs.lemmas.List.{map-append, length-map}
use Rattle.jump_tables.specs.Names.{has, place_of, with_name, AreDistinct}

-- std's `position` is the place, where each item stands for a name
module _ {X : Type 0} (name : X → List ℕ) where
  position_step : (b : Bool) (n m : ℕ) → cond (ltb (cond (not b) (1 + n) 0) (suc m)) (Some (cond (not b) (1 + n) 0)) None ≡ cond b (Some 0) (option_map suc (cond (ltb n m) (Some n) None))
  position_step true n m = ap (λ t. cond t (Some 0) None) (lt-ltb 0 (suc m) (omega arith))
  position_step false n m = by_test (ltb n m) refl
    where
      by_test : (t : Bool) → ltb n m ≡ t → cond (ltb (1 + n) (suc m)) (Some (1 + n)) None ≡ option_map suc (cond t (Some n) None)
      by_test true e = ap (λ t. cond t (Some (1 + n)) None) (lt-ltb (1 + n) (suc m) (omega (arith, ltb-true n m e))) ∙ ap Some (omega arith)
      by_test false e = ap (λ t. cond t (Some (1 + n)) None) (le-ltb (1 + n) (suc m) (omega (arith, ltb-false n m e)))

  pub position_is : (n : List ℕ) (xs : List X) → position (λ x. bytes_eq n (name x)) xs ≡ place_of n (map name xs)
  position_is n [] = refl
  position_is n (x ∷ xs) =
      position_step (bytes_eq n (name x)) (position_or_len (λ y. bytes_eq n (name y)) xs) (length xs)
      ∙ ap (λ r. cond (bytes_eq n (name x)) (Some 0) (option_map suc r)) (position_is n xs)

  pub any_is : (n : List ℕ) (xs : List X) → list_any (λ x. bytes_eq n (name x)) xs ≡ has n (map name xs)
  any_is n [] = refl
  any_is n (x ∷ xs) = ap (λ b. bytes_eq n (name x) || b) (any_is n xs)

-- a name has a place where it is among them
pub some_place : (n : List ℕ) (ns : List (List ℕ)) → is_some (place_of n ns) ≡ has n ns
some_place n [] = refl
some_place n (m ∷ ms) = by_head (bytes_eq n m) (place_of n ms) (some_place n ms)
  where
    by_head : (b : Bool) (o : Option ℕ) → is_some o ≡ has n ms → is_some (cond b (Some 0) (option_map suc o)) ≡ b || has n ms
    by_head true o e = refl
    by_head false None e = e
    by_head false (Some k) e = e

pub place_within : (n : List ℕ) (ns : List (List ℕ)) (k : ℕ) → place_of n ns ≡ Some k → k < length ns
place_within n [] k e = absurd (no e)
  where
    no : None ≡ Some k → ⊥
    no q = cc
place_within n (m ∷ ms) k e = by_head (bytes_eq n m) (place_of n ms) refl (place_within n ms) e
  where
    by_head : (b : Bool) (o : Option ℕ) → place_of n ms ≡ o → ((j : ℕ) → place_of n ms ≡ Some j → j < length ms) → cond b (Some 0) (option_map suc o) ≡ Some k → k < suc (length ms)
    by_head true o f rest q = let z : 0 ≡ k = cc in omega arith
    by_head false None f rest q = let no : ⊥ = cc in absurd no
    by_head false (Some j) f rest q = let z : suc j ≡ k = cc in omega (arith, rest j f)

-- one more name

has_more : (m n : List ℕ) (ns : List (List ℕ)) → has m ns ≡ false → bytes_eq m n ≡ false → has m (ns ++ n ∷ []) ≡ false
has_more m n ns e f = list_any-append (bytes_eq m) ns (n ∷ []) ∙ or_from _ _ e (or_from _ _ f refl)

pub differ_back : (m n : List ℕ) → bytes_eq m n ≡ false → bytes_eq n m ≡ false
differ_back m n e =
    false_from_ne_true (bytes_eq n m) (λ f. both_ways (bytes_eq m n) e ((bytes_eq-Decides m n).1 (sym ((bytes_eq-Decides n m).0 f))))

pub distinct_more : (n : List ℕ) (ns : List (List ℕ)) → has n ns ≡ false → AreDistinct ns → AreDistinct (ns ++ n ∷ [])
distinct_more n [] e d = (refl, tt)
distinct_more n (m ∷ ms) e d =
    let parts = or_parts _ _ e in
    (has_more m n ms d.0 (differ_back n m parts.0), distinct_more n ms parts.1 d.1)

-- the new name's place is the last
pub place_more : (n : List ℕ) (ns : List (List ℕ)) → has n ns ≡ false → place_of n (ns ++ n ∷ []) ≡ Some (length ns)
place_more n [] e = ap (λ b. cond b (Some 0) None) ((bytes_eq-Decides n n).1 refl)
place_more n (m ∷ ms) e =
    let parts = or_parts _ _ e in
    ap (λ b. cond b (Some 0) (option_map suc (place_of n (ms ++ n ∷ [])))) parts.0 ∙ ap (option_map suc) (place_more n ms parts.1)

pub there_stays : (n : List ℕ) (ns : List (List ℕ)) (k : ℕ) → place_of n ns ≡ Some k → ns ≡ with_name ns n
there_stays n ns k e =
    let there : has n ns ≡ true = sym (some_place n ns) ∙ ap is_some e in
    sym (ap (λ b. cond b ns (ns ++ n ∷ [])) there)

pub none_there : (n : List ℕ) (ns : List (List ℕ)) → place_of n ns ≡ None → has n ns ≡ false
none_there n ns e = sym (some_place n ns) ∙ ap is_some e

module _ {X : Type 0} (name : X → List ℕ) where
  or_len_none : (p : X → Bool) (xs : List X) → list_any p xs ≡ false → position_or_len p xs ≡ length xs
  or_len_none p [] e = refl
  or_len_none p (x ∷ xs) e =
      let parts = or_parts _ _ e in
      ap (λ b. cond (not b) (1 + position_or_len p xs) 0) parts.0 ∙ omega (arith, or_len_none p xs parts.1)

  absent : (xs : List X) (v : X) (n : List ℕ) → name v ≡ n → has n (map name xs) ≡ false → list_any (λ y. bytes_eq (name v) (name y)) xs ≡ false
  absent xs v n e f = ap (λ m. list_any (λ y. bytes_eq m (name y)) xs) e ∙ any_is name n xs ∙ f

  -- the keys after a new one has come
  pub keys_more : (xs ys : List X) (v : X) (n : List ℕ) → name v ≡ n → has n (map name xs) ≡ false → ys ≡ cond (list_any (λ y. bytes_eq (name v) (name y)) xs) xs (xs ++ v ∷ []) → map name ys ≡ map name xs ++ n ∷ []
  keys_more xs ys v n e f g =
      ap (map name) (g ∙ cond-false _ xs (xs ++ v ∷ []) (absent xs v n e f)) ∙ map-append name xs (v ∷ []) ∙ ap (λ m. map name xs ++ m ∷ []) e

  pub place_new : (xs : List X) (v : X) (n : List ℕ) (k : ℕ) → name v ≡ n → has n (map name xs) ≡ false → k ≡ position_or_len (λ y. bytes_eq (name v) (name y)) xs → place_of n (map name xs ++ n ∷ []) ≡ Some k
  place_new xs v n k e f g =
      place_more n (map name xs) f ∙ ap Some (length-map xs name ∙ sym (g ∙ or_len_none _ xs (absent xs v n e f)))

  -- the keys after one has come that may be there
  pub keys_with : (xs ys : List X) (v : X) (n : List ℕ) → name v ≡ n → ys ≡ cond (list_any (λ y. bytes_eq (name v) (name y)) xs) xs (xs ++ v ∷ []) → map name ys ≡ with_name (map name xs) n
  keys_with xs ys v n e g = ap (map name) g ∙ by_test (list_any (λ y. bytes_eq (name v) (name y)) xs) (same e)
    where
      same : name v ≡ n → list_any (λ y. bytes_eq (name v) (name y)) xs ≡ has n (map name xs)
      same q = ap (λ m. list_any (λ y. bytes_eq m (name y)) xs) q ∙ any_is name n xs

      by_test : (b : Bool) → b ≡ has n (map name xs) → map name (cond b xs (xs ++ v ∷ [])) ≡ with_name (map name xs) n
      by_test true q = ap (λ b. cond b (map name xs) (map name xs ++ n ∷ [])) q
      by_test false q = map-append name xs (v ∷ []) ∙ ap (λ m. map name xs ++ m ∷ []) e ∙ ap (λ b. cond b (map name xs) (map name xs ++ n ∷ [])) q

  -- its place after it has come
  pub place_with : (xs : List X) (v : X) (n : List ℕ) (k : ℕ) → name v ≡ n → k ≡ position_or_len (λ y. bytes_eq (name v) (name y)) xs → place_of n (with_name (map name xs) n) ≡ Some k
  place_with xs v n k e g = by_test (has n (map name xs)) refl
    where
      place : ℕ
      place = position_or_len (λ y. bytes_eq n (name y)) xs

      here : k ≡ place
      here = g ∙ ap (λ m. position_or_len (λ y. bytes_eq m (name y)) xs) e

      within : (b : Bool) → ltb place (length xs) ≡ b → has n (map name xs) ≡ true → place_of n (map name xs) ≡ Some k
      within true f there = sym (position_is name n xs) ∙ ap (λ t. cond t (Some place) None) f ∙ ap Some (sym here)
      within false f there =
          let gone : place_of n (map name xs) ≡ None = sym (position_is name n xs) ∙ ap (λ t. cond t (Some place) None) f in
          absurd (both_ways (has n (map name xs)) (none_there n (map name xs) gone) there)

      by_test : (b : Bool) → has n (map name xs) ≡ b → place_of n (cond b (map name xs) (map name xs ++ n ∷ [])) ≡ Some k
      by_test true there = within (ltb place (length xs)) refl there
      by_test false none = place_new xs v n k e none g

pub distinct_with : (n : List ℕ) (ns : List (List ℕ)) → AreDistinct ns → AreDistinct (with_name ns n)
distinct_with n ns d = by_test (has n ns) refl
  where
    by_test : (b : Bool) → has n ns ≡ b → AreDistinct (cond b ns (ns ++ n ∷ []))
    by_test true e = d
    by_test false e = distinct_more n ns e d

pub new_comes : (n : List ℕ) (ns : List (List ℕ)) → has n ns ≡ false → ns ++ n ∷ [] ≡ with_name ns n
new_comes n ns e = ap (λ b. cond b ns (ns ++ n ∷ [])) (sym e)

pub place_found : (n : List ℕ) (ns : List (List ℕ)) (o : Option ℕ) → o ≡ place_of n ns → IfSome o (λ k. k < length ns)
place_found n ns None e = tt
place_found n ns (Some k) e = place_within n ns k (sym e)

-- where names are distinct, the one at a place is found there
pub place_at : (ns : List (List ℕ)) (k : ℕ) (m : List ℕ) → AreDistinct ns → slice_get ns k ≡ Some m → place_of m ns ≡ Some k
place_at [] k m d e = absurd (no e)
  where
    no : None ≡ Some m → ⊥
    no q = cc
place_at (n ∷ ns) zero m d e = let same : n ≡ m = cc in ap (λ b. cond b (Some 0) (option_map suc (place_of m ns))) ((bytes_eq-Decides m n).1 (sym same))
place_at (n ∷ ns) (suc k) m d e =
    let found : place_of m ns ≡ Some k = place_at ns k m d.1 e in
    ap (λ b. cond b (Some 0) (option_map suc (place_of m ns))) (differs (sym (some_place m ns) ∙ ap is_some found)) ∙ ap (option_map suc) found
  where
    differs : has m ns ≡ true → bytes_eq m n ≡ false
    differs there = false_from_ne_true (bytes_eq m n) (λ f. both_ways (has n ns) d.0 (subst (λ x. has x ns ≡ true) ((bytes_eq-Decides m n).0 f) there))

pub place_at_key : {X : Type 0} (name : X → List ℕ) (xs : List X) (k : ℕ) (o : Option X) (x : X) (n : List ℕ) (b : Bool) → AreDistinct (map name xs) → o ≡ slice_get xs k → o ≡ Some x → b ≡ bytes_eq (name x) n → OnTrue b (place_of n (map name xs) ≡ Some k)
place_at_key name xs k o x n false d e t f = tt
place_at_key name xs k o x n true d e t f =
    place_at (map name xs) k n d (slice_get-map name xs k ∙ ap (option_map name) (sym e ∙ t) ∙ ap Some ((bytes_eq-Decides (name x) n).0 (sym f)))

-- a name whose place is known is there
pub there_at : (n : List ℕ) (ns : List (List ℕ)) (k : ℕ) (b : Bool) → OnTrue b (place_of n ns ≡ Some k) → OnTrue b (has n ns ≡ true)
there_at n ns k false h = tt
there_at n ns k true h = sym (some_place n ns) ∙ ap is_some h
