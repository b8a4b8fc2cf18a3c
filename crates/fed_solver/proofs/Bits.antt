-- Bits of rows.
use Rattle.std.proofs.Common.{◌≡◌, ℕ, zero, suc, ◌<◌, ◌≤◌, min, max, Bool, true, false, ◌||◌, ◌&&◌, List, [], ◌∷◌, length, get_or, ⊎_elim, refl, sym, ap, ◌∙◌, arith, bit_and, bit_or}
use Rattle.std.specs.Prelude.{nat_eq}
use Rattle.std.specs.Int.{bit_at}
use Rattle.std.proofs.lemmas.Bool.{cases_lt}
use Rattle.std.proofs.lemmas.Nat.Bits.{bit_at_and, bit_at_or, bit_at-lt, bit_at-zero}
use Rattle.fed_solver.specs.Graph.{has_bit}

-- whether bit b of a word is set
abbrev pub bit : ℕ → ℕ → Bool
bit word b = nat_eq (bit_at word b) 1

max_of_bits : (m n : ℕ) → m < 2 → n < 2 → nat_eq (max m n) 1 ≡ (nat_eq m 1 || nat_eq n 1)
max_of_bits zero zero h k = refl
max_of_bits zero (suc zero) h k = refl
max_of_bits (suc zero) zero h k = refl
max_of_bits (suc zero) (suc zero) h k = refl
max_of_bits zero (suc (suc n)) h k = absurd (omega arith)
max_of_bits (suc zero) (suc (suc n)) h k = absurd (omega arith)
max_of_bits (suc (suc m)) n h k = absurd (omega arith)

min_of_bits : (m n : ℕ) → m < 2 → n < 2 → nat_eq (min m n) 1 ≡ (nat_eq m 1 && nat_eq n 1)
min_of_bits zero zero h k = refl
min_of_bits zero (suc zero) h k = refl
min_of_bits (suc zero) zero h k = refl
min_of_bits (suc zero) (suc zero) h k = refl
min_of_bits zero (suc (suc n)) h k = absurd (omega arith)
min_of_bits (suc zero) (suc (suc n)) h k = absurd (omega arith)
min_of_bits (suc (suc m)) n h k = absurd (omega arith)

pub bit-or : (x y b : ℕ) → bit (bit_or x y) b ≡ (bit x b || bit y b)
bit-or x y b = ap (λ n. nat_eq n 1) (bit_at_or x y b) ∙ max_of_bits (bit_at x b) (bit_at y b) (bit_at-lt x b) (bit_at-lt y b)

pub bit-and : (x y b : ℕ) → bit (bit_and x y) b ≡ (bit x b && bit y b)
bit-and x y b = ap (λ n. nat_eq n 1) (bit_at_and x y b) ∙ min_of_bits (bit_at x b) (bit_at y b) (bit_at-lt x b) (bit_at-lt y b)

pub past_end : {X : Type 0} (xs : List X) (p : ℕ) (d : X) → length xs ≤ p → get_or xs p d ≡ d
past_end [] p d h = refl
past_end (x ∷ xs) zero d h = absurd (omega arith)
past_end (x ∷ xs) (suc p) d h = past_end xs p d (omega arith)

-- a bit that is set stands in a row that is there
pub in_range : (rows : List ℕ) (b p : ℕ) → has_bit rows b p ≡ true → p < length rows
in_range rows b p h =
    ⊎_elim (λ lt. lt) (λ ge. absurd (none (ap (λ n. bit n b) (sym (past_end rows p 0 ge)) ∙ h))) (cases_lt p (length rows))
  where
    none : bit 0 b ≡ true → ⊥
    none e = let f : false ≡ true = sym (ap (λ n. nat_eq n 1) (bit_at-zero b)) ∙ e in cc
