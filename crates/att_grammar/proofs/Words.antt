-- The words of a piece are symbols.
use Rattle.std.proofs.Common.{◌≡◌, ℕ, zero, suc, ◌+◌, ◌-◌, Bool, true, false, not, ◌&&◌, cond, List, [], ◌∷◌, ◌++◌, length, take, drop, Option, Some, None, refl, ap, sym, ◌∙◌, subst, ⊎_elim, append-nil, arith}
use Rattle.std.specs.Prelude.{◌==◌, ◌||◌, ◌<◌, ◌^◌, slice_index, nat_lt, IfSome, ⊤}
use Rattle.std.specs.List.{take_while, prefix_len}
use Rattle.std.proofs.lemmas.Bool.{cond-true, cond-false, cases_Bool, and_parts, and_from, not-true, ltb-true}
use Rattle.std.proofs.lemmas.List.{take-append-drop}
use Rattle.std.proofs.lemmas.List.Folds.{length-prefix_len}
use Rattle.att_lexer.specs.Bytes.{is_blank, is_digit, is_symbol_byte, is_symbol_start}
use Rattle.att_lexer.specs.Pieces.{AllBytes, IsSymbol}
use Rattle.att_lexer.specs.Tokens.{number_of, number_in, if_fits, value_from, numbered, run_token, text_len, token_of, ends_tokens, is_first_label, counted}
use Rattle.att_lexer.specs.declared.token.TokenKind.TheVariants.{Text, Mark, Word}
use Rattle.att_lexer.specs.declared.token.Token.{Token}
use Rattle.att_grammar.specs.Lexemes.{Lexeme, word, number, text, mark, odd, lexeme, lexemes_of}
use Rattle.att_grammar.proofs.Read.{lexeme_of, lexemes_from, lexemes_end, lexemes_blank, lexemes_one, lexemes_nil, contents}

abbrev pub IsWell : Lexeme → Type 0
IsWell (word bytes) = IsSymbol bytes
IsWell (number n) = n < 2 ^ 64
IsWell (text bytes) = ⊤
IsWell (mark m) = ⊤
IsWell (odd bytes) = ⊤

-- every word is a symbol, and every number has at most 64 bits
abbrev pub Words : List Lexeme → Type 0
Words [] = ⊤
Words (l ∷ ls) = IsWell l × Words ls

while_cons : (b : ℕ) (bs : List ℕ) → is_symbol_byte b ≡ true → take_while is_symbol_byte (b ∷ bs) ≡ b ∷ take_while is_symbol_byte bs
while_cons b bs e =
    let one : 1 + prefix_len is_symbol_byte bs ≡ suc (prefix_len is_symbol_byte bs) = omega arith in
    ap (λ n. take n (b ∷ bs)) (cond-true (is_symbol_byte b) _ _ e ∙ one)

while_stop : (b : ℕ) (bs : List ℕ) → is_symbol_byte b ≡ false → take_while is_symbol_byte (b ∷ bs) ≡ []
while_stop b bs e = ap (λ n. take n (b ∷ bs)) (cond-false (is_symbol_byte b) _ _ e)

all_symbol_bytes : (bs : List ℕ) → AllBytes is_symbol_byte (take_while is_symbol_byte bs)
all_symbol_bytes [] = tt
all_symbol_bytes (b ∷ bs) =
    ⊎_elim
    (λ e. subst (AllBytes is_symbol_byte) (sym (while_cons b bs e)) (e, all_symbol_bytes bs))
    (λ e. subst (AllBytes is_symbol_byte) (sym (while_stop b bs e)) tt)
    (cases_Bool (is_symbol_byte b))

starts_symbol : (b : ℕ) → is_symbol_byte b ≡ true → is_digit b ≡ false → (b == 36) ≡ false → is_symbol_start b ≡ true
unfolding is_symbol_start
starts_symbol b s d e = and_from _ _ (and_from _ _ s (ap not d)) (ap not e)

-- what a token says, by its parts
says : Token → List ℕ → Lexeme
says t bytes = lexeme t.kind (take t.len bytes) t.value

numbered_well : (len : ℕ) (n : Option ℕ) (bytes : List ℕ) → IfSome n (λ value. value < 2 ^ 64) → IsWell (says (numbered 0 len n) bytes)
unfolding says
numbered_well len (Some n) bytes h = h
numbered_well len None bytes h = tt

fitting : (n : ℕ) (t : Bool) → nat_lt n (2 ^ 64) ≡ t → IfSome (cond t (Some n) None) (λ value. value < 2 ^ 64)
fitting n true e = ltb-true n (2 ^ 64) e
fitting n false e = tt

if_fits_fits : (n : Option ℕ) → IfSome (if_fits n) (λ value. value < 2 ^ 64)
if_fits_fits None = tt
if_fits_fits (Some n) = fitting n (nat_lt n (2 ^ 64)) refl

number_in_fits : (base : ℕ) (ds : List ℕ) → IfSome (number_in base ds) (λ value. value < 2 ^ 64)
number_in_fits base [] = tt
number_in_fits base (d ∷ ds) = if_fits_fits (value_from base 0 (d ∷ ds))

fits_if : (t : Bool) (m n : Option ℕ) → IfSome m (λ value. value < 2 ^ 64) → IfSome n (λ value. value < 2 ^ 64) → IfSome (cond t m n) (λ value. value < 2 ^ 64)
fits_if true m n h k = h
fits_if false m n h k = k

number_of_fits : (run : List ℕ) → IfSome (number_of run) (λ value. value < 2 ^ 64)
unfolding number_of
number_of_fits [] = tt
number_of_fits (b ∷ []) = number_in_fits 10 (b ∷ [])
number_of_fits (b ∷ c ∷ ds) =
    fits_if (b == 48) _ _
    (fits_if (c == 120 || c == 88) _ _ (number_in_fits 16 ds) (fits_if (c == 98 || c == 66) _ _ (number_in_fits 2 ds) (number_in_fits 8 (c ∷ ds))))
    (number_in_fits 10 (b ∷ c ∷ ds))

run_is_first : (b : ℕ) (bs : List ℕ) → is_symbol_byte b ≡ true → slice_index (take_while is_symbol_byte (b ∷ bs)) 0 ≡ b
run_is_first b bs e = ap (λ l. slice_index l 0) (while_cons b bs e)

run_taken : (b : ℕ) (bs : List ℕ) → is_symbol_byte b ≡ true → take (length (take_while is_symbol_byte (b ∷ bs))) (b ∷ bs) ≡ b ∷ take_while is_symbol_byte bs
run_taken b bs e = ap (λ n. take n (b ∷ bs)) (length-prefix_len is_symbol_byte (b ∷ bs)) ∙ while_cons b bs e

word_well : (b : ℕ) (bs : List ℕ) → is_symbol_byte b ≡ true → (b == 36) ≡ false → is_digit b ≡ false → IsSymbol (take (length (take_while is_symbol_byte (b ∷ bs))) (b ∷ bs))
word_well b bs s d e = subst IsSymbol (sym (run_taken b bs s)) (starts_symbol b s e d, all_symbol_bytes bs)

run_well : (b : ℕ) (bs : List ℕ) → is_symbol_byte b ≡ true → (b == 36) ≡ false → IsWell (says (run_token 0 (take_while is_symbol_byte (b ∷ bs))) (b ∷ bs))
unfolding says
run_well b bs s d =
    let run = take_while is_symbol_byte (b ∷ bs) in
    let first : is_digit (slice_index run 0) ≡ is_digit b = ap is_digit (run_is_first b bs s) in
    ⊎_elim
    (λ e. subst (λ t. IsWell (says t (b ∷ bs))) (sym (cond-true (is_digit (slice_index run 0)) _ _ (first ∙ e))) (numbered_well (length run) (number_of run) (b ∷ bs) (number_of_fits run)))
    (λ e. subst (λ t. IsWell (says t (b ∷ bs))) (sym (cond-false (is_digit (slice_index run 0)) _ _ (first ∙ e))) (word_well b bs s d e))
    (cases_Bool (is_digit b))

token_well : (b : ℕ) (bs : List ℕ) → IsWell (says (token_of 0 b bs) (b ∷ bs))
unfolding says token_of
token_well b bs =
    ⊎_elim
    (λ e. subst (λ t. IsWell (says t (b ∷ bs))) (sym (cond-true (b == 34) _ _ e)) tt)
    (λ e. ⊎_elim
    (λ r. let parts = and_parts (is_symbol_byte b) (not (b == 36)) r in
    subst (λ t. IsWell (says t (b ∷ bs))) (sym (cond-false (b == 34) _ _ e ∙ cond-true (is_symbol_byte b && not (b == 36)) _ _ r)) (run_well b bs parts.0 (not-true (b == 36) parts.1)))
    (λ r. subst (λ t. IsWell (says t (b ∷ bs))) (sym (cond-false (b == 34) _ _ e ∙ cond-false (is_symbol_byte b && not (b == 36)) _ _ r)) tt)
    (cases_Bool (is_symbol_byte b && not (b == 36))))
    (cases_Bool (b == 34))

first_well : (b : ℕ) (bs : List ℕ) → IsWell (lexeme_of b bs)
unfolding says
first_well b bs = token_well b bs

well_from : (n : ℕ) (bs : List ℕ) → Words (lexemes_from n bs)
unfolding lexemes_from
well_from n [] = subst Words (sym (lexemes_nil n)) tt
well_from (suc n) (b ∷ bs) = well_from n bs
well_from zero (b ∷ bs) =
    ⊎_elim
    (λ e. subst Words (sym (lexemes_end b bs e)) tt)
    (λ e. ⊎_elim
    (λ k. subst Words (sym (lexemes_blank b bs e k)) (well_from 0 bs))
    (λ k. subst Words (sym (lexemes_one b bs e k)) (first_well b bs, well_from ((token_of 0 b bs).len - 1) bs))
    (cases_Bool (is_blank b)))
    (cases_Bool (ends_tokens b))

counted_well : (piece : List ℕ) → lexemes_of piece ≡ lexemes_from 0 (counted piece)
counted_well piece =
    ⊎_elim
    (λ e. let front : counted piece ≡ take (length piece - 1) piece = cond-true (is_first_label piece) _ _ e in
    contents piece (drop (length piece - 1) piece) 0 0 (counted piece) (sym (take-append-drop (length piece - 1) piece) ∙ ap (λ l. l ++ drop (length piece - 1) piece) (sym front)))
    (λ e. let front : counted piece ≡ piece = cond-false (is_first_label piece) _ _ e in
    contents piece [] 0 0 (counted piece) (sym front ∙ sym (append-nil (counted piece))))
    (cases_Bool (is_first_label piece))

-- the words of a piece are symbols
pub words_are_symbols : (piece : List ℕ) → Words (lexemes_of piece)
words_are_symbols piece = subst Words (sym (counted_well piece)) (well_from 0 (counted piece))
