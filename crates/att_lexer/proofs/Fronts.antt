-- The front of a label: blanks, and a symbol or a run of digits.
use Rattle.std.proofs.Common.{◌≡◌, ℕ, suc, ◌+◌, ◌<◌, length, get_or, Bool, true, false, ◌&&◌, cond, List, [], ◌∷◌, drop, refl, ap, sym, ◌∙◌, ⊎_elim, arith}
use Rattle.std.specs.List.{fold, prefix_len, list_all}
use Rattle.std.proofs.lemmas.Bool.{cond-true, cond-false, cases_Bool}
use Rattle.att_lexer.specs.Bytes.{is_blank, is_digit, is_symbol_byte, is_symbol_start}
use Rattle.att_lexer.specs.Scan.{lead_after, is_name, is_named, Lead, Blanks, Symbol, Digits, Other}
use Rattle.att_lexer.proofs.ScanLaws.{other_stays, blank_no_start, blank_no_digit}

-- a lead that goes on where a byte passes, and is lost where it doesn't
kept : (go : Lead) (t : Bool) (rest : Bool) (bs : List ℕ) → is_name (fold lead_after go bs) ≡ rest → is_name (fold lead_after (cond t go Other) bs) ≡ (t && rest)
kept go true rest bs e = e
kept go false rest bs e = ap is_name (other_stays bs)

symbol_named : (bs : List ℕ) → is_name (fold lead_after Symbol bs) ≡ list_all is_symbol_byte bs
symbol_named [] = refl
symbol_named (b ∷ bs) = kept Symbol (is_symbol_byte b) (list_all is_symbol_byte bs) bs (symbol_named bs)

digits_named : (bs : List ℕ) → is_name (fold lead_after Digits bs) ≡ list_all is_digit bs
digits_named [] = refl
digits_named (b ∷ bs) = kept Digits (is_digit b) (list_all is_digit bs) bs (digits_named bs)

-- by what the first byte is
by_first : (start digit blank : Bool) (bs : List ℕ) → blank ≡ false → is_name (fold lead_after (cond start Symbol (cond digit Digits (cond blank Blanks Other))) bs) ≡ cond start (list_all is_symbol_byte bs) (digit && list_all is_digit bs)
by_first true digit blank bs e = symbol_named bs
by_first false true blank bs e = digits_named bs
by_first false false true bs e = cc
by_first false false false bs e = ap is_name (other_stays bs)

pub front_named : (xs : List ℕ) → is_name (fold lead_after Blanks xs) ≡ is_named (drop (prefix_len is_blank xs) xs)
front_named [] = refl
front_named (b ∷ bs) =
    ⊎_elim
    (λ k. let one : 1 + prefix_len is_blank bs ≡ suc (prefix_len is_blank bs) = omega arith in
    ap (λ l. is_name (fold lead_after l bs)) (cond-false _ _ _ (blank_no_start b k) ∙ (cond-false _ _ _ (blank_no_digit b k) ∙ cond-true _ _ _ k))
    ∙ (front_named bs
    ∙ sym (ap (λ n. is_named (drop n (b ∷ bs))) (cond-true (is_blank b) (1 + prefix_len is_blank bs) 0 k ∙ one))))
    (λ k. by_first (is_symbol_start b) (is_digit b) (is_blank b) bs k
    ∙ sym (ap (λ n. is_named (drop n (b ∷ bs))) (cond-false (is_blank b) (1 + prefix_len is_blank bs) 0 k)))
    (cases_Bool (is_blank b))

pub named_by : (xs : List ℕ) → 0 < length xs → is_named xs ≡ cond (is_symbol_start (get_or xs 0 0)) (list_all is_symbol_byte (drop 1 xs)) (is_digit (get_or xs 0 0) && list_all is_digit (drop 1 xs))
named_by [] h = absurd (omega (arith, h))
named_by (b ∷ bs) h = refl

pub named_start : (xs : List ℕ) → 0 < length xs → is_symbol_start (get_or xs 0 0) ≡ true → is_named xs ≡ list_all is_symbol_byte (drop 1 xs)
named_start xs h e = named_by xs h ∙ cond-true _ _ _ e

pub named_digit : (xs : List ℕ) → 0 < length xs → is_symbol_start (get_or xs 0 0) ≡ false → is_named xs ≡ (is_digit (get_or xs 0 0) && list_all is_digit (drop 1 xs))
named_digit xs h e = named_by xs h ∙ cond-false _ _ _ e

pub named_none : (xs : List ℕ) → length xs ≡ 0 → is_named xs ≡ false
named_none [] h = refl
named_none (b ∷ bs) h = absurd (omega (arith, h))
