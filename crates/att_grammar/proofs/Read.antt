-- Lexemes straight from bytes, without places.
use Rattle.std.proofs.Common.{◌≡◌, ℕ, zero, suc, ◌+◌, ◌-◌, Bool, true, false, not, ◌&&◌, cond, List, [], ◌∷◌, ◌++◌, length, take, drop, map, Option, Some, None, refl, ap, sym, ◌∙◌, ⊎_elim, append-nil}
use Rattle.std.specs.Prelude.{◌==◌, slice_index, if◌then◌else◌}
use Rattle.std.specs.List.{take_while}
use Rattle.std.proofs.lemmas.Bool.{cond-true, cond-false, cases_Bool}
use Rattle.std.proofs.lemmas.List.{drop-drop, take-append-le}
use Rattle.att_lexer.specs.Bytes.{is_blank, is_digit, is_symbol_byte}
use Rattle.att_lexer.specs.Tokens.{number_of, numbered, text_len, token_of, ends_tokens, tokens_from, is_first_label}
use Rattle.att_lexer.specs.declared.token.TokenKind.TheVariants.{Text}
use Rattle.att_lexer.specs.declared.token.Token.{Token}
use Rattle.att_lexer.proofs.TokensLaws.{from_end, from_blank, from_token, from_nil, IsAt, token_at}
use Rattle.att_grammar.specs.Lexemes.{Lexeme, lexeme, content, lexemes_of}

-- the lexeme that begins with b, where bs follows
abbrev pub lexeme_of : ℕ → List ℕ → Lexeme
lexeme_of b bs = lexeme (token_of 0 b bs).kind (take (token_of 0 b bs).len (b ∷ bs)) (token_of 0 b bs).value

unfoldable pub lexemes_from : ℕ → List ℕ → List Lexeme
lexemes_from taken [] = []
lexemes_from (suc taken) (b ∷ bs) = lexemes_from taken bs
lexemes_from zero (b ∷ bs) =
    if ends_tokens b then []
    else (if is_blank b then lexemes_from 0 bs
    else lexeme_of b bs ∷ lexemes_from ((token_of 0 b bs).len - 1) bs)

pub lexemes_skip : (n : ℕ) (bs : List ℕ) → lexemes_from n bs ≡ lexemes_from 0 (drop n bs)
unfolding lexemes_from
lexemes_skip zero bs = refl
lexemes_skip (suc n) [] = refl
lexemes_skip (suc n) (b ∷ bs) = lexemes_skip n bs

pub lexemes_end : (b : ℕ) (bs : List ℕ) → ends_tokens b ≡ true → lexemes_from 0 (b ∷ bs) ≡ []
unfolding lexemes_from
lexemes_end b bs e = cond-true (ends_tokens b) _ _ e

pub lexemes_blank : (b : ℕ) (bs : List ℕ) → ends_tokens b ≡ false → is_blank b ≡ true → lexemes_from 0 (b ∷ bs) ≡ lexemes_from 0 bs
unfolding lexemes_from
lexemes_blank b bs e k = cond-false (ends_tokens b) _ _ e ∙ cond-true (is_blank b) _ _ k

pub lexemes_one : (b : ℕ) (bs : List ℕ) → ends_tokens b ≡ false → is_blank b ≡ false → lexemes_from 0 (b ∷ bs) ≡ lexeme_of b bs ∷ lexemes_from ((token_of 0 b bs).len - 1) bs
unfolding lexemes_from
lexemes_one b bs e k = cond-false (ends_tokens b) _ _ e ∙ cond-false (is_blank b) _ _ k

pub lexemes_nil : (n : ℕ) → lexemes_from n [] ≡ []
unfolding lexemes_from
lexemes_nil zero = refl
lexemes_nil (suc n) = refl

-- a token is the same elsewhere
pub record IsMoved (t u : Token) (at : ℕ) : Type 0 where
  pub kind : t.kind ≡ u.kind
  pub len : t.len ≡ u.len
  pub value : t.value ≡ u.value
  pub start : t.start ≡ at

numbered_moved : (at len : ℕ) (n : Option ℕ) → IsMoved (numbered at len n) (numbered 0 len n) at
numbered_moved at len None = record { kind = refl; len = refl; value = refl; start = refl }
numbered_moved at len (Some n) = record { kind = refl; len = refl; value = refl; start = refl }

cond_moved : (b : Bool) (t t' u u' : Token) (at : ℕ) → IsMoved t u at → IsMoved t' u' at → IsMoved (cond b t t') (cond b u u') at
cond_moved true t t' u u' at h h' = h
cond_moved false t t' u u' at h h' = h'

token_moved : (at b : ℕ) (bs : List ℕ) → IsMoved (token_of at b bs) (token_of 0 b bs) at
unfolding token_of
token_moved at b bs =
    let same : IsMoved (record { kind = Text; start = at; len = 1 + text_len false bs; value = 0 }) (record { kind = Text; start = 0; len = 1 + text_len false bs; value = 0 }) at = record { kind = refl; len = refl; value = refl; start = refl } in
    let run = take_while is_symbol_byte (b ∷ bs) in
    cond_moved (b == 34) _ _ _ _ at same
    (cond_moved (is_symbol_byte b && not (b == 36)) _ _ _ _ at
    (cond_moved (is_digit (slice_index run 0)) _ _ _ _ at (numbered_moved at (length run) (number_of run)) (record { kind = refl; len = refl; value = refl; start = refl }))
    (record { kind = refl; len = refl; value = refl; start = refl }))

content_is : (piece behind bs : List ℕ) (at b : ℕ) → drop at piece ≡ (b ∷ bs) ++ behind → content piece (token_of at b bs) ≡ lexeme_of b bs
content_is piece behind bs at b here =
    let t = token_of at b bs in
    let u = token_of 0 b bs in
    let moved : IsMoved t u at = token_moved at b bs in
    let lies : IsAt u 0 (suc (length bs)) = token_at 0 b bs in
    ap (λ k. lexeme k (take t.len (drop t.start piece)) t.value) moved.kind
    ∙ ap (λ v. lexeme u.kind (take t.len (drop t.start piece)) v) moved.value
    ∙ ap (λ l. lexeme u.kind l u.value)
    (ap (λ n. take n (drop t.start piece)) moved.len ∙ ap (λ s. take u.len (drop s piece)) moved.start ∙ ap (take u.len) here
    ∙ take-append-le u.len (b ∷ bs) behind lies.within)

drop_one : (piece behind bs : List ℕ) (at b : ℕ) → drop at piece ≡ (b ∷ bs) ++ behind → drop (at + 1) piece ≡ bs ++ behind
drop_one piece behind bs at b here = sym (drop-drop 1 at piece) ∙ ap (drop 1) here

pub contents : (piece behind : List ℕ) (n at : ℕ) (bs : List ℕ) → drop at piece ≡ bs ++ behind → map (content piece) (tokens_from n at bs) ≡ lexemes_from n bs
unfolding tokens_from lexemes_from
contents piece behind n at [] here = ap (map (content piece)) (from_nil n at) ∙ sym (lexemes_nil n)
contents piece behind (suc n) at (b ∷ bs) here = contents piece behind n (at + 1) bs (drop_one piece behind bs at b here)
contents piece behind zero at (b ∷ bs) here =
    ⊎_elim
    (λ e. ap (map (content piece)) (from_end at b bs e) ∙ sym (lexemes_end b bs e))
    (λ e. ⊎_elim
    (λ k. ap (map (content piece)) (from_blank at b bs e k) ∙ contents piece behind 0 (at + 1) bs (drop_one piece behind bs at b here) ∙ sym (lexemes_blank b bs e k))
    (λ k. let moved : IsMoved (token_of at b bs) (token_of 0 b bs) at = token_moved at b bs in
    ap (map (content piece)) (from_token at b bs e k)
    ∙ ap (λ x. x ∷ map (content piece) (tokens_from ((token_of at b bs).len - 1) (at + 1) bs)) (content_is piece behind bs at b here)
    ∙ ap (λ l. lexeme_of b bs ∷ l) (contents piece behind ((token_of at b bs).len - 1) (at + 1) bs (drop_one piece behind bs at b here) ∙ ap (λ n. lexemes_from (n - 1) bs) moved.len)
    ∙ sym (lexemes_one b bs e k))
    (cases_Bool (is_blank b)))
    (cases_Bool (ends_tokens b))

-- the lexemes of a piece that is no first label
pub lexemes_are : (piece : List ℕ) → is_first_label piece ≡ false → lexemes_of piece ≡ lexemes_from 0 piece
lexemes_are piece e =
    ap (λ bs. map (content piece) (tokens_from 0 0 bs)) (cond-false (is_first_label piece) _ _ e) ∙ contents piece [] 0 0 piece (sym (append-nil piece))
