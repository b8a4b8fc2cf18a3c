-- Text that is well spelled is read back.
use Rattle.std.proofs.Common.{◌≡◌, ℕ, suc, ◌+◌, ◌-◌, ◌<◌, Bool, true, false, not, ◌&&◌, ◌||◌, List, [], ◌∷◌, ◌++◌, length, take, refl, ap, sym, ◌∙◌, arith, append_assoc, append-nil}
use Rattle.std.specs.Prelude.{◌==◌, slice_index, ⊤}
use Rattle.std.specs.List.{take_while, prefix_len}
use Rattle.std.specs.Fmt.{decimal}
use Rattle.std.proofs.lemmas.Bool.{cond-true, cond-false, and_parts, and_left, and_from, not-true, false≢true}
use Rattle.std.proofs.lemmas.Bool.Decides.{nat_tests}
use Rattle.std.proofs.lemmas.List.{take_at, drop_at}
use Rattle.att_lexer.specs.Bytes.{is_blank, is_digit, is_letter, is_symbol_byte, is_symbol_start}
use Rattle.att_lexer.specs.Pieces.{AllBytes, IsSymbol}
use Rattle.att_lexer.specs.Tokens.{numbered, run_token, token_of, ends_tokens, is_first_label}
use Rattle.att_lexer.specs.declared.token.TokenKind.TheVariants.{Word, Mark, Number}
use Rattle.att_lexer.specs.declared.token.Token.{Token}
use Rattle.att_grammar.specs.Lexemes.{lexeme, lexemes_of, word, number, mark}
use Rattle.att_grammar.specs.Spelling.{Item, gap, name, digits, sign, render, said, IsMarkByte, IsApart, IsWellSpelled}
use Rattle.att_grammar.specs.Canonical.{line_of}
use Rattle.att_grammar.proofs.Read.{lexemes_from, lexemes_skip, lexemes_blank, lexemes_one, lexemes_nil, lexemes_end, lexemes_are}
use Rattle.att_grammar.proofs.Decimal.{IsDecimal, decimal_is}

-- a symbol byte is no blank, no quote, no colon and no end of the tokens
symbol_no_blank : (b : ℕ) → is_symbol_byte b ≡ true → is_blank b ≡ false
unfolding is_symbol_byte is_letter is_digit is_blank
symbol_no_blank b e = grind (arith, nat_tests)

symbol_no_end : (b : ℕ) → is_symbol_byte b ≡ true → ends_tokens b ≡ false
unfolding is_symbol_byte is_letter is_digit ends_tokens
symbol_no_end b e = grind (arith, nat_tests)

symbol_no_quote : (b : ℕ) → is_symbol_byte b ≡ true → (b == 34) ≡ false
unfolding is_symbol_byte is_letter is_digit
symbol_no_quote b e = grind (arith, nat_tests)

symbol_no_colon : (b : ℕ) → is_symbol_byte b ≡ true → (b == 58) ≡ false
unfolding is_symbol_byte is_letter is_digit
symbol_no_colon b e = grind (arith, nat_tests)

digit_is_symbol : (b : ℕ) → is_digit b ≡ true → is_symbol_byte b ≡ true
unfolding is_symbol_byte is_digit
digit_is_symbol b e = grind (arith, nat_tests)

digit_no_dollar : (b : ℕ) → is_digit b ≡ true → (b == 36) ≡ false
unfolding is_digit
digit_no_dollar b e = grind (arith, nat_tests)

start_parts : (b : ℕ) → is_symbol_start b ≡ true → (is_symbol_byte b ≡ true) × (is_digit b ≡ false) × ((b == 36) ≡ false)
unfolding is_symbol_start
start_parts b e =
    let outer = and_parts (is_symbol_byte b && not (is_digit b)) (not (b == 36)) e in
    let inner = and_parts (is_symbol_byte b) (not (is_digit b)) outer.0 in
    (inner.0, not-true (is_digit b) inner.1, not-true (b == 36) outer.1)

-- where a run of symbol bytes ends
abbrev NoSymbolFirst : List ℕ → Type 0
NoSymbolFirst [] = ⊤
NoSymbolFirst (b ∷ bs) = is_symbol_byte b ≡ false

run_len_is : (run rest : List ℕ) → AllBytes is_symbol_byte run → NoSymbolFirst rest → prefix_len is_symbol_byte (run ++ rest) ≡ length run
run_len_is [] [] all stops = refl
run_len_is [] (b ∷ bs) all stops = cond-false (is_symbol_byte b) _ _ stops
run_len_is (b ∷ bs) rest all stops =
    let one : 1 + length bs ≡ suc (length bs) = omega arith in
    cond-true (is_symbol_byte b) _ _ all.0 ∙ ap (λ n. 1 + n) (run_len_is bs rest all.1 stops) ∙ one

run_is : (run rest : List ℕ) → AllBytes is_symbol_byte run → NoSymbolFirst rest → take_while is_symbol_byte (run ++ rest) ≡ run
run_is run rest all stops = ap (λ n. take n (run ++ rest)) (run_len_is run rest all stops) ∙ take_at run rest (length run) refl

not_false : {t : Bool} → t ≡ false → not t ≡ true
not_false e = ap not e

-- the token that a run in front is
run_token_is : (b : ℕ) (bs rest : List ℕ) → AllBytes is_symbol_byte (b ∷ bs) → (b == 36) ≡ false → NoSymbolFirst rest → token_of 0 b (bs ++ rest) ≡ run_token 0 (b ∷ bs)
unfolding token_of
run_token_is b bs rest all dollar stops =
    cond-false (b == 34) _ _ (symbol_no_quote b all.0)
    ∙ cond-true (is_symbol_byte b && not (b == 36)) _ _ (and_from _ _ all.0 (not_false dollar))
    ∙ ap (run_token 0) (run_is (b ∷ bs) rest all stops)

mark_token_is : (b : ℕ) (rest : List ℕ) → (b == 34) ≡ false → (is_symbol_byte b && not (b == 36)) ≡ false → token_of 0 b rest ≡ record { kind = Mark; start = 0; len = 1; value = 0 }
unfolding token_of
mark_token_is b rest quote run = cond-false (b == 34) _ _ quote ∙ cond-false (is_symbol_byte b && not (b == 36)) _ _ run

-- a lexeme in front, whose token is known
lexeme_in_front : (b : ℕ) (bs rest : List ℕ) (t : Token) → ends_tokens b ≡ false → is_blank b ≡ false → token_of 0 b (bs ++ rest) ≡ t → t.len ≡ suc (length bs) → lexemes_from 0 (b ∷ bs ++ rest) ≡ lexeme t.kind (b ∷ bs) t.value ∷ lexemes_from 0 rest
lexeme_in_front b bs rest t ends blank token len =
    let one : t.len - 1 ≡ length bs = omega arith in
    lexemes_one b (bs ++ rest) ends blank
    ∙ ap (λ u. lexeme u.kind (take u.len (b ∷ bs ++ rest)) u.value ∷ lexemes_from (u.len - 1) (bs ++ rest)) token
    ∙ ap (λ l. lexeme t.kind l t.value ∷ lexemes_from (t.len - 1) (bs ++ rest)) (ap (λ n. take n (b ∷ bs ++ rest)) len ∙ take_at (b ∷ bs) rest (suc (length bs)) refl)
    ∙ ap (λ l. lexeme t.kind (b ∷ bs) t.value ∷ l) (ap (λ n. lexemes_from n (bs ++ rest)) one ∙ lexemes_skip (length bs) (bs ++ rest) ∙ ap (lexemes_from 0) (drop_at bs rest (length bs) refl))

word_in_front : (bytes rest : List ℕ) → IsSymbol bytes → NoSymbolFirst rest → lexemes_from 0 (bytes ++ rest) ≡ word bytes ∷ lexemes_from 0 rest
word_in_front [] rest symbol stops = absurd symbol
word_in_front (b ∷ bs) rest symbol stops =
    let parts = start_parts b symbol.0 in
    lexeme_in_front b bs rest (record { kind = Word; start = 0; len = suc (length bs); value = 0 }) (symbol_no_end b parts.0) (symbol_no_blank b parts.0)
    (run_token_is b bs rest (parts.0, symbol.1) parts.2 stops ∙ cond-false (is_digit b) _ _ parts.1) refl

digits_are_symbols : (bs : List ℕ) → AllBytes is_digit bs → AllBytes is_symbol_byte bs
digits_are_symbols [] h = tt
digits_are_symbols (b ∷ bs) h = (digit_is_symbol b h.0, digits_are_symbols bs h.1)

number_in_front : (bytes rest : List ℕ) (n : ℕ) → IsDecimal bytes n → NoSymbolFirst rest → lexemes_from 0 (bytes ++ rest) ≡ number n ∷ lexemes_from 0 rest
number_in_front [] rest n decimal stops = absurd (omega (arith, decimal.some))
number_in_front (b ∷ bs) rest n decimal stops =
    let digit = decimal.all.0 in
    lexeme_in_front b bs rest (record { kind = Number; start = 0; len = suc (length bs); value = n }) (symbol_no_end b (digit_is_symbol b digit)) (symbol_no_blank b (digit_is_symbol b digit))
    (run_token_is b bs rest (digits_are_symbols (b ∷ bs) decimal.all) (digit_no_dollar b digit) stops
    ∙ cond-true (is_digit b) _ _ digit ∙ ap (numbered 0 (suc (length bs))) decimal.read) refl

-- the tests that a mark passes
record IsPlainMark (b : ℕ) : Type 0 where
  blank : is_blank b ≡ false
  ends : ends_tokens b ≡ false
  quote : (b == 34) ≡ false
  run : (is_symbol_byte b && not (b == 36)) ≡ false

no_run : (s d : Bool) → (not s || d) ≡ true → (s && not d) ≡ false
no_run true true e = refl
no_run true false e = absurd (false≢true e)
no_run false d e = refl

plain_mark : (b : ℕ) → IsMarkByte b → IsPlainMark b
plain_mark b h =
    let p = and_parts _ (not (is_symbol_byte b) || b == 36) h in
    let r = and_parts _ (not (b == 34)) p.0 in
    let s = and_parts (not (is_blank b)) (not (ends_tokens b)) r.0 in
    record { blank = not-true _ s.0; ends = not-true _ s.1; quote = not-true _ r.1; run = no_run (is_symbol_byte b) (b == 36) p.1 }

mark_in_front : (b : ℕ) (rest : List ℕ) → IsPlainMark b → lexemes_from 0 (b ∷ rest) ≡ mark b ∷ lexemes_from 0 rest
mark_in_front b rest plain =
    lexeme_in_front b [] rest (record { kind = Mark; start = 0; len = 1; value = 0 }) plain.ends plain.blank (mark_token_is b rest plain.quote plain.run) refl

-- what may follow the text of a statement: nothing that would be a token, and no symbol byte
record IsTail (tail : List ℕ) : Type 0 where
  stops : NoSymbolFirst tail
  empty : lexemes_from 0 tail ≡ []

apart_stops : (items : List Item) (tail : List ℕ) → IsApart items → NoSymbolFirst tail → NoSymbolFirst (render items ++ tail)
unfolding is_symbol_byte is_letter is_digit
apart_stops [] tail h k = k
apart_stops (gap ∷ items) tail h k = refl
apart_stops (sign b ∷ items) tail h k = not-true _ h
apart_stops (name bytes ∷ items) tail h k = absurd h
apart_stops (digits n ∷ items) tail h k = absurd h

gap_in_front : (rest : List ℕ) → lexemes_from 0 (32 ∷ rest) ≡ lexemes_from 0 rest
unfolding ends_tokens is_blank
gap_in_front rest = lexemes_blank 32 rest refl refl

read_back : (items : List Item) (tail : List ℕ) → IsWellSpelled items → IsTail tail → lexemes_from 0 (render items ++ tail) ≡ said items
read_back [] tail h k = k.empty
read_back (gap ∷ items) tail h k = gap_in_front (render items ++ tail) ∙ read_back items tail h k
read_back (name bytes ∷ items) tail h k =
    ap (lexemes_from 0) (append_assoc bytes (render items) tail)
    ∙ word_in_front bytes (render items ++ tail) h.0 (apart_stops items tail h.1 k.stops) ∙ ap (λ l. word bytes ∷ l) (read_back items tail h.2 k)
read_back (digits n ∷ items) tail h k =
    ap (lexemes_from 0) (append_assoc (decimal n) (render items) tail)
    ∙ number_in_front (decimal n) (render items ++ tail) n (decimal_is n h.0) (apart_stops items tail h.1 k.stops) ∙ ap (λ l. number n ∷ l) (read_back items tail h.2 k)
read_back (sign b ∷ items) tail h k = mark_in_front b (render items ++ tail) (plain_mark b h.0) ∙ ap (λ l. mark b ∷ l) (read_back items tail h.2 k)

-- the last byte is no colon, so it is no first label
abbrev NoColonLast : List ℕ → Type 0
NoColonLast [] = ⊤
NoColonLast (b ∷ []) = (b == 58) ≡ false
NoColonLast (b ∷ c ∷ bs) = NoColonLast (c ∷ bs)

no_colon_last-append : (xs ys : List ℕ) → NoColonLast xs → NoColonLast ys → NoColonLast (xs ++ ys)
no_colon_last-append [] ys h k = k
no_colon_last-append (x ∷ []) [] h k = h
no_colon_last-append (x ∷ []) (y ∷ ys) h k = k
no_colon_last-append (x ∷ z ∷ xs) ys h k = no_colon_last-append (z ∷ xs) ys h k

no_colon_symbols : (bs : List ℕ) → AllBytes is_symbol_byte bs → NoColonLast bs
no_colon_symbols [] h = tt
no_colon_symbols (b ∷ []) h = symbol_no_colon b h.0
no_colon_symbols (b ∷ c ∷ bs) h = no_colon_symbols (c ∷ bs) h.1

symbol_bytes : (bytes : List ℕ) → IsSymbol bytes → AllBytes is_symbol_byte bytes
symbol_bytes [] h = absurd h
symbol_bytes (b ∷ bs) h = ((start_parts b h.0).0, h.1)

abbrev IsSome : List ℕ → Type 0
IsSome [] = ⊥
IsSome (b ∷ bs) = ⊤

some_bytes : (bs : List ℕ) → 0 < length bs → IsSome bs
some_bytes [] h = absurd (omega (arith, h))
some_bytes (b ∷ bs) h = tt

some-append : (xs ys : List ℕ) → IsSome xs → IsSome (xs ++ ys)
some-append [] ys h = absurd h
some-append (x ∷ xs) ys h = tt

some_symbol : (bytes : List ℕ) → IsSymbol bytes → IsSome bytes
some_symbol [] h = absurd h
some_symbol (b ∷ bs) h = tt

some_text : (item : Item) (items : List Item) → IsWellSpelled (item ∷ items) → IsSome (render (item ∷ items))
some_text gap items h = tt
some_text (name bytes) items h = some-append bytes (render items) (some_symbol bytes h.0)
some_text (digits n) items h = some-append (decimal n) (render items) (some_bytes (decimal n) (decimal_is n h.0).some)
some_text (sign b) items h = tt

behind_a_mark : (b : ℕ) (bs : List ℕ) → IsSome bs → NoColonLast bs → NoColonLast (b ∷ bs)
behind_a_mark b [] h k = absurd h
behind_a_mark b (c ∷ bs) h k = k

no_and_true : (s : Bool) → not (s && true) ≡ true → s ≡ false
no_and_true true e = absurd (false≢true e)
no_and_true false e = refl

no_colon_last : (items : List Item) → IsWellSpelled items → NoColonLast (render items)
no_colon_last [] h = tt
no_colon_last (gap ∷ items) h = no_colon_last-append (32 ∷ []) (render items) refl (no_colon_last items h)
no_colon_last (name bytes ∷ items) h = no_colon_last-append bytes (render items) (no_colon_symbols bytes (symbol_bytes bytes h.0)) (no_colon_last items h.2)
no_colon_last (digits n ∷ items) h = no_colon_last-append (decimal n) (render items) (no_colon_symbols (decimal n) (digits_are_symbols (decimal n) (decimal_is n h.0).all)) (no_colon_last items h.2)
no_colon_last (sign b ∷ []) h = no_and_true (b == 58) h.1
no_colon_last (sign b ∷ item ∷ items) h = behind_a_mark b (render (item ∷ items)) (some_text item items h.2) (no_colon_last (item ∷ items) h.2)

no_colon_at : (bytes : List ℕ) → NoColonLast bytes → (slice_index bytes (length bytes - 1) == 58) ≡ false
no_colon_at [] h = refl
no_colon_at (b ∷ []) h = h
no_colon_at (b ∷ c ∷ bs) h =
    let one : length (b ∷ c ∷ bs) - 1 ≡ suc (length (c ∷ bs) - 1) = omega arith in
    ap (λ k. slice_index (b ∷ c ∷ bs) k == 58) one ∙ no_colon_at (c ∷ bs) h

-- a piece that does not end with a colon is no first label
no_label : (bytes : List ℕ) → NoColonLast bytes → is_first_label bytes ≡ false
no_label bytes h = and_left (slice_index bytes (length bytes - 1) == 58) _ (no_colon_at bytes h)

pub text_no_label : (items : List Item) → IsWellSpelled items → is_first_label (render items) ≡ false
text_no_label items h = no_label (render items) (no_colon_last items h)

pub spelling_read : (items : List Item) → IsWellSpelled items → lexemes_of (render items) ≡ said items
spelling_read items h =
    lexemes_are (render items) (text_no_label items h)
    ∙ ap (lexemes_from 0) (sym (append-nil (render items))) ∙ read_back items [] h (record { stops = tt; empty = lexemes_nil 0 })

newline_ends : IsTail (10 ∷ [])
unfolding is_symbol_byte is_letter is_digit ends_tokens
newline_ends = record { stops = refl; empty = lexemes_end 10 [] refl }

behind_any : (xs : List ℕ) (b : ℕ) → (b == 58) ≡ false → NoColonLast (xs ++ b ∷ [])
behind_any [] b h = h
behind_any (x ∷ []) b h = h
behind_any (x ∷ y ∷ xs) b h = behind_any (y ∷ xs) b h

pub line_no_label : (text : List ℕ) → is_first_label (line_of text) ≡ false
line_no_label text = no_label (line_of text) (behind_any (9 ∷ text) 10 refl)

tab_in_front : (rest : List ℕ) → lexemes_from 0 (9 ∷ rest) ≡ lexemes_from 0 rest
unfolding ends_tokens is_blank
tab_in_front rest = lexemes_blank 9 rest refl refl

pub line_read : (items : List Item) → IsWellSpelled items → lexemes_of (line_of (render items)) ≡ said items
line_read items h =
    lexemes_are (line_of (render items)) (line_no_label (render items))
    ∙ tab_in_front (render items ++ 10 ∷ []) ∙ read_back items (10 ∷ []) h newline_ends
