-- Runs of bytes that pass a test, seen a vector at a time through the mask of those that fail it.
use Rattle.std.proofs.Common.{◌≡◌, ℕ, ◌+◌, ◌*◌, ◌%◌, ◌^◌, ◌<◌, ◌≤◌, Bool, true, false, not, ◌&&◌, ◌||◌, cond, eqb, List, [], ◌∷◌, map, length, drop, replicate, Fits, w8, refl, sym, ap, ap₂, ◌∙◌, arith, inl, inr}
use Rattle.std.proofs.lemmas.Simd.{map-map, zip2_splat, chunk-drop, length-chunk, mask_l-mod, leading_from_mask_l, trailing_mask_l}
use Rattle.std.proofs.lemmas.List.{length-drop, length-map}
use Rattle.std.proofs.lemmas.List.Folds.{prefix_len-append}
use Rattle.std.proofs.lemmas.List.Sums.{prefix_len-le-length}
use Rattle.std.proofs.lemmas.Bool.{agree_below, agree_below_at, cases_eq, eq-eqb, ne_eqb}
use Rattle.std.specs.List.{prefix_len, list_all}
use Rattle.std.proofs.Math.Bool.{not-not}
use lib.Bits.{bit_or}
use lib.Lanes.{Each1, zip2, chunk, mask_l, top}
use lib.Count.{count_trailing_zeros}

abbrev pub hit : ℕ → ℕ → ℕ
hit a b = cond (eqb a b) 255 0

-- a lane with all bits set where a test passes
abbrev pub full : (ℕ → Bool) → ℕ → ℕ
full p x = cond (p x) 255 0

or_full : (a b : Bool) → bit_or (cond a 255 0) (cond b 255 0) ≡ cond (a || b) 255 0
or_full true true = refl
or_full true false = refl
or_full false true = refl
or_full false false = refl

zip2-full : (p q : ℕ → Bool) (xs : List ℕ) → zip2 bit_or (map (full p) xs) (map (full q) xs) ≡ map (full (λ x. p x || q x)) xs
zip2-full p q [] = refl
zip2-full p q (x ∷ xs) = ap₂ (λ a r. a ∷ r) (or_full (p x) (q x)) (zip2-full p q xs)

pub one : (y n : ℕ) (v : List ℕ) → length v ≡ n → zip2 hit v (replicate n y) ≡ map (full (λ x. eqb x y)) v
one y n v long = zip2_splat hit v n y long

pub either : (p q : ℕ → Bool) (v : List ℕ) {a b : List ℕ} → a ≡ map (full p) v → b ≡ map (full q) v → zip2 bit_or a b ≡ map (full (λ x. p x || q x)) v
either p q v e f = ap₂ (zip2 bit_or) e f ∙ zip2-full p q v

top_full : (b : Bool) → top 7 (cond b 255 0) ≡ b
top_full true = refl
top_full false = refl

tops : (p : ℕ → Bool) (xs : List ℕ) → map (top 7) (map (full p) xs) ≡ map p xs
tops p [] = refl
tops p (x ∷ xs) = ap₂ (λ a r. a ∷ r) (top_full (p x)) (tops p xs)

pub masked : (p : ℕ → Bool) (v z : List ℕ) → length v ≤ 64 → z ≡ map (full p) v → mask_l (map (top 7) z) % 2 ^ 64 ≡ mask_l (map p v)
masked p v z short e = ap (λ l. mask_l l % 2 ^ 64) (ap (map (top 7)) e ∙ tops p v) ∙ mask_l-mod (map p v) 64 (omega (arith, length-map v p))

agreeing : (f p : ℕ → Bool) (v : List ℕ) → Each1 (Fits w8) v → agree_below f p 256 ≡ true → map f v ≡ map p v
agreeing f p [] fits all = refl
agreeing f p (x ∷ xs) fits all = ap₂ (λ b r. b ∷ r) (agree_below_at f p 256 x all fits.0.fits) (agreeing f p xs fits.1 all)

-- the mask of lanes that were computed one by one, where the test of each byte comes out right
pub tested : (f : ℕ → ℕ) (p : ℕ → Bool) (v z : List ℕ) → length v ≤ 64 → Each1 (Fits w8) v → agree_below (λ x. top 7 (f x)) p 256 ≡ true → z ≡ map f v → mask_l (map (top 7) z) % 2 ^ 64 ≡ mask_l (map p v)
tested f p v z short fits all e =
    ap (λ l. mask_l l % 2 ^ 64) (ap (map (top 7)) e ∙ map-map (top 7) f v ∙ agreeing (λ x. top 7 (f x)) p v fits all)
    ∙ mask_l-mod (map p v) 64 (omega (arith, length-map v p))

pub run_bound : (q : ℕ → Bool) (d : List ℕ) (i : ℕ) → i ≤ length d → i + prefix_len q (drop i d) ≤ length d
run_bound q d i h = omega (arith, prefix_len-le-length q (drop i d), length-drop i d)

none_fails : (b : Bool) (n l m : ℕ) → n ≤ l → cond (not b) (1 + n) 0 ≡ 1 + l → (n ≡ l → m ≡ 0) → cond b 1 0 + 2 * m ≡ 0
none_fails true n l m le e ih = let no : ⊥ = omega arith in absurd no
none_fails false n l m le e ih = let z = ih (omega arith) in omega arith

-- a run of bytes that fail p
abbrev pub run : (ℕ → Bool) → List ℕ → ℕ
run p xs = prefix_len (λ x. not (p x)) xs

all_pass : (p : ℕ → Bool) (xs : List ℕ) → run p xs ≡ length xs → mask_l (map p xs) ≡ 0
all_pass p [] e = refl
all_pass p (x ∷ xs) e = none_fails (p x) _ (length xs) _ (prefix_len-le-length (λ y. not (p y)) xs) (omega arith) (all_pass p xs)

split : (p : ℕ → Bool) (d : List ℕ) (i n : ℕ) → run p (drop i d) ≡ cond (eqb (run p (chunk i n d)) (length (chunk i n d))) (length (chunk i n d) + run p (drop (i + n) d)) (run p (chunk i n d))
split p d i n = ap (run p) (chunk-drop i n d) ∙ prefix_len-append (λ x. not (p x)) (chunk i n d) (drop (i + n) d)

-- it goes on through a vector with no mark
pub run_through : (p : ℕ → Bool) (d : List ℕ) (i n : ℕ) → i + n ≤ length d → mask_l (map p (chunk i n d)) ≡ 0 → run p (drop i d) ≡ n + run p (drop (i + n) d)
run_through p d i n room none =
    let c = chunk i n d in
    split p d i n ∙ ap (λ b. cond b (length c + run p (drop (i + n) d)) (run p c)) (eq-eqb _ _ (leading_from_mask_l p c none))
    ∙ ap (λ k. k + run p (drop (i + n) d)) (length-chunk i n d room)

-- and it stops at the first mark
pub run_stops : (p : ℕ → Bool) (d : List ℕ) (i n : ℕ) → i + n ≤ length d → n ≤ 64 → 0 < mask_l (map p (chunk i n d)) → run p (drop i d) ≡ count_trailing_zeros 64 (mask_l (map p (chunk i n d)))
run_stops p d i n room short some =
    let c = chunk i n d in
    split p d i n ∙ ap (λ b. cond b (length c + run p (drop (i + n) d)) (run p c)) (ne_eqb _ _ (λ (e : run p c ≡ length c). omega (arith, all_pass p c e)))
    ∙ sym (trailing_mask_l p 64 c (omega (arith, length-chunk i n d room)) some)

-- a run of bytes that don't fail
twice : (p : ℕ → Bool) (xs : List ℕ) → run (λ x. not (p x)) xs ≡ prefix_len p xs
twice p [] = refl
twice p (x ∷ xs) = ap₂ (λ b n. cond b (1 + n) 0) (not-not (p x)) (twice p xs)

pub passed_through : (p : ℕ → Bool) (d : List ℕ) (i n : ℕ) → i + n ≤ length d → mask_l (map (λ x. not (p x)) (chunk i n d)) ≡ 0 → prefix_len p (drop i d) ≡ n + prefix_len p (drop (i + n) d)
passed_through p d i n room none =
    sym (twice p (drop i d)) ∙ run_through (λ x. not (p x)) d i n room none ∙ ap (λ k. n + k) (twice p (drop (i + n) d))

pub passed_to : (p : ℕ → Bool) (d : List ℕ) (i n : ℕ) → i + n ≤ length d → n ≤ 64 → 0 < mask_l (map (λ x. not (p x)) (chunk i n d)) → prefix_len p (drop i d) ≡ count_trailing_zeros 64 (mask_l (map (λ x. not (p x)) (chunk i n d)))
passed_to p d i n room short some = sym (twice p (drop i d)) ∙ run_stops (λ x. not (p x)) d i n room short some

next_same : (n m : ℕ) → eqb (1 + n) (1 + m) ≡ eqb n m
next_same n m = elim (cases_eq n m) [ inl e ↦ eq-eqb _ _ (omega (arith, e)) ∙ sym (eq-eqb n m e) | inr e ↦ ne_eqb _ _ (λ h. e (omega (arith, h))) ∙ sym (ne_eqb n m e) ]

-- a run to the end is a run of all
pub run_of_all : (p : ℕ → Bool) (xs : List ℕ) → eqb (prefix_len p xs) (length xs) ≡ list_all p xs
run_of_all p [] = refl
run_of_all p (x ∷ xs) = by_test (p x) (run_of_all p xs)
  where
    by_test : (b : Bool) → eqb (prefix_len p xs) (length xs) ≡ list_all p xs → eqb (cond b (1 + prefix_len p xs) 0) (length (x ∷ xs)) ≡ (b && list_all p xs)
    by_test true rest = ap (eqb (1 + prefix_len p xs)) (omega arith) ∙ next_same (prefix_len p xs) (length xs) ∙ rest
    by_test false rest = ne_eqb _ _ (λ h. omega (arith, h))
