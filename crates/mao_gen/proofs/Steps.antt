-- The text of n functions, one function at a time.
use Rattle.std.proofs.Common.{◌≡◌, ◌++◌, ◌<◌, ◌≤◌, ◌+◌, ◌-◌, ℕ, zero, suc, List, [], arith, refl, ap, append_assoc}
use Rattle.std.specs.Prelude.{codes}
use Rattle.rand_pcg.specs.Lcg.{Lcg}
use Rattle.rand_pcg.specs.Pcg.{pcg32}
use Rattle.mao_gen.specs.declared.shape.Shape.{Shape}
use Rattle.mao_gen.specs.Shapes.{drawn, shape_of, words_of}
use Rattle.mao_gen.specs.Functions.{function_text}
use Rattle.mao_gen.specs.Generated.{functions_from, generated}

pub no_functions : (n : ℕ) → n ≡ 0 → generated n ≡ []
unfolding generated
no_functions zero e = refl
no_functions (suc n) e = absurd (omega arith)

pub first_functions : (n : ℕ) → 0 < n → codes "\t.text\n" ++ functions_from 0 (drawn (n - 0) (words_of n)) ≡ generated n
unfolding generated
first_functions zero above = absurd (omega arith)
first_functions (suc n) above =
    let all : suc n - 0 ≡ suc n = omega arith in
    ap (λ m. codes "\t.text\n" ++ functions_from 0 (drawn m (words_of (suc n)))) all

pub next_function : (k n : ℕ) (words : Lcg) → k < n
    → functions_from k (drawn (n - k) words)
    ≡ function_text k (shape_of (pcg32 words).0) ++ functions_from (k + 1) (drawn (n - (k + 1)) (pcg32 words).1)
unfolding functions_from drawn
next_function k n words below =
    let one_more : n - k ≡ suc (n - (k + 1)) = omega arith in
    ap (λ m. functions_from k (drawn m words)) one_more

pub none_left : (k n : ℕ) (words : Lcg) → n ≤ k → functions_from k (drawn (n - k) words) ≡ []
unfolding functions_from drawn
none_left k n words over =
    let none : n - k ≡ 0 = omega arith in
    ap (λ m. functions_from k (drawn m words)) none

-- a function that was put, with the word drawn for it
pub function_put : (before : List ℕ) {after all : List ℕ} (k n : ℕ) {word : ℕ} (words : Lcg) {next : Lcg} {shape : Shape} → k < n
    → before ++ functions_from k (drawn (n - k) words) ≡ all → (word, next) ≡ pcg32 words → shape ≡ shape_of word
    → after ≡ before ++ function_text k shape → after ++ functions_from (k + 1) (drawn (n - (k + 1)) next) ≡ all
function_put before k n {word = word} words {next = next} {shape = shape} below joined drawing shaped put =
    let split = next_function k n words below in
    let word_drawn : word ≡ (pcg32 words).0 = ap (λ p. p.0) drawing in
    let left : next ≡ (pcg32 words).1 = ap (λ p. p.1) drawing in
    let moved = append_assoc before (function_text k shape) (functions_from (k + 1) (drawn (n - (k + 1)) next)) in
    cc
