-- Numbers of digits: those that are too large stay so.
use Rattle.std.proofs.Common.{◌≡◌, ap, ◌∙◌, arith, ℕ, ◌+◌, ◌-◌, ◌*◌, ◌^◌, ◌<◌, ◌≤◌, List, [], ◌∷◌, get_or, drop, length, Some, None, Option}
use Rattle.std.specs.Prelude.{nat_lt, if◌then◌else◌}
use Rattle.std.specs.List.{fold}
use Rattle.std.proofs.lemmas.Bool.{cond-true, cond-false, le-ltb, lt-ltb}
use Rattle.std.proofs.lemmas.List.{at_drop_more, drop_all}

-- the number of digits behind a number
abbrev pub number_on : ℕ → List ℕ → ℕ
number_on n digits = fold (λ m d. m * 10 + (d - 48)) n digits

abbrev pub if_fits : ℕ → Option ℕ
if_fits n = if nat_lt n (2 ^ 64) then Some n else None

number_grows : (n : ℕ) (digits : List ℕ) → n ≤ number_on n digits
number_grows n [] = omega arith
number_grows n (d ∷ ds) = omega (arith, number_grows (n * 10 + (d - 48)) ds)

-- one digit more makes it too large
pub overflows : (n : ℕ) (digits : List ℕ) (i : ℕ) → i < length digits → 2 ^ 64 ≤ n * 10 + (get_or digits i 0 - 48) → if_fits (number_on n (drop i digits)) ≡ None
overflows n digits i lt large =
    let next : number_on n (drop i digits) ≡ number_on (n * 10 + (get_or digits i 0 - 48)) (drop (i + 1) digits) = at_drop_more (number_on n) digits i 0 lt in
    let grown = number_grows (n * 10 + (get_or digits i 0 - 48)) (drop (i + 1) digits) in
    cond-false _ _ _ (le-ltb (number_on n (drop i digits)) (2 ^ 64) (omega arith))

pub fits : (n : ℕ) (digits : List ℕ) (i : ℕ) → length digits ≤ i → n < 2 ^ 64 → if_fits (number_on n (drop i digits)) ≡ Some n
fits n digits i le small = ap (λ l. if_fits (number_on n l)) (drop_all i digits le) ∙ cond-true (nat_lt n (2 ^ 64)) _ _ (lt-ltb n (2 ^ 64) small)
