-- How long the text is at most.
use Rattle.std.proofs.Common.{◌≡◌, ◌++◌, ◌<◌, ◌≤◌, ◌+◌, ◌*◌, ◌^◌, ℕ, zero, suc, List, [], ◌∷◌, true, false, length, length-append, arith, refl, ap}
use Rattle.std.specs.Prelude.{◌==◌, if◌then◌else◌, decimal}
use Rattle.std.specs.List.{flat_map, sum_by}
use Rattle.std.proofs.lemmas.List.Sums.{sum_by-cons}
use Rattle.std.proofs.lemmas.Fmt.{length-decimal-le}
use Rattle.rand_pcg.specs.Lcg.{Lcg}
use Rattle.rand_pcg.specs.Pcg.{pcg32}
use Rattle.mao_gen.specs.declared.shape.Shape.{Shape}
use Rattle.mao_gen.specs.declared.shape.Shape.TheVariants.{Branch, Loads, Sums, Loop}
use Rattle.mao_gen.specs.Shapes.{drawn, words_of}
use Rattle.mao_gen.specs.Functions.{head, body, tail, byte_or_number, numbered, function_text}
use Rattle.mao_gen.specs.Generated.{functions_from, generated}

-- 1 for a `K` and 0 for any other byte
abbrev number_at : ℕ → ℕ
number_at byte = if byte == 75 then 1 else 0

length-byte : (k byte : ℕ) → k < 10 ^ 4 → length (byte_or_number k byte) ≤ 1 + 3 * number_at byte
length-byte k byte small =
    let number : length (decimal k) ≤ 4 = length-decimal-le 4 k (omega arith) small (omega arith) in
    elim (byte == 75) as (λ v. length (if v then decimal k else (byte ∷ [])) ≤ 1 + 3 * (if v then 1 else 0)) [
      | true ↦ omega (arith, number)
      | false ↦ omega arith
    ]

length-numbered : (lines : List ℕ) (k : ℕ) → k < 10 ^ 4 → length (numbered lines k) ≤ length lines + 3 * sum_by number_at lines
unfolding numbered
length-numbered [] k small = omega arith
length-numbered (byte ∷ lines) k small =
    omega (
      arith,
      length-byte k byte small,
      length-numbered lines k small,
      length-append (byte_or_number k byte) (flat_map (byte_or_number k) lines),
      sum_by-cons number_at byte lines,
    )

length-body : (shape : Shape) → length (body shape) + 3 * sum_by number_at (body shape) ≤ 130
length-body Branch = omega arith
length-body Loads = omega arith
length-body Sums = omega arith
length-body Loop = omega arith

length-function : (k : ℕ) (shape : Shape) → k < 10 ^ 4 → length (function_text k shape) ≤ 256
length-function k shape small =
    omega (
      arith,
      length-append (numbered head k ++ numbered (body shape) k) (numbered tail k),
      length-append (numbered head k) (numbered (body shape) k),
      length-numbered head k small,
      length-numbered (body shape) k small,
      length-numbered tail k small,
      length-body shape,
    )

length-functions : (k : ℕ) (shapes : List Shape) → k + length shapes ≤ 10 ^ 4 → length (functions_from k shapes) ≤ 256 * length shapes
unfolding functions_from
length-functions k [] small = omega arith
length-functions k (shape ∷ shapes) small =
    omega (arith, length-append (function_text k shape) (functions_from (k + 1) shapes), length-function k shape (omega arith), length-functions (k + 1) shapes (omega arith))

pub length-drawn : (n : ℕ) (words : Lcg) → length (drawn n words) ≡ n
unfolding drawn
length-drawn zero words = refl
length-drawn (suc n) words = ap suc (length-drawn n (pcg32 words).1)

-- a text of at most 2,000 functions has at most 256 bytes for each and 7 more
pub length_generated : (n : ℕ) → n ≤ 2000 → length (generated n) ≤ 256 * n + 7
unfolding generated
length_generated zero few = omega arith
length_generated (suc n) few =
    let shapes = drawn (suc n) (words_of (suc n)) in
    let drawn_all : length shapes ≡ suc n = length-drawn (suc n) (words_of (suc n)) in
    omega (arith, length-functions 0 shapes (omega arith))
