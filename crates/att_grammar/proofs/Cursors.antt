-- Cursors over the tokens of a piece.
use Rattle.std.proofs.Common.{◌≡◌, ℕ, zero, suc, ◌+◌, ◌^◌, ◌<◌, ◌≤◌, true, false, not, List, [], ◌∷◌, length, take, drop, refl, ap, sym, ◌∙◌, ⊎_elim, subst, arith, length-drop}
use Rattle.std.proofs.lemmas.List.{drop-drop}
use Rattle.std.specs.List.{prefix_len}
use Rattle.std.proofs.lemmas.Bool.{cond-true, cond-false, cases_Bool}
use Rattle.att_lexer.specs.Tokens.{AreInOrder, tokens_of}
use Rattle.att_lexer.proofs.TokensLaws.{tokens_of_in_order}
use Rattle.att_lexer.specs.declared.token.Token.{Token}
use Rattle.att_grammar.specs.Lexemes.{Lexeme, content, says_all, LieIn, AreReadable}
use Rattle.att_grammar.specs.Directives.{is_comma, onto_first, cut_at_commas}

pub says_length : (piece : List ℕ) (ts : List Token) → length (says_all piece ts) ≡ length ts
says_length piece [] = refl
says_length piece (t ∷ ts) = ap suc (says_length piece ts)

in_order_lie : (piece : List ℕ) (from : ℕ) (ts : List Token) → AreInOrder from (length piece) ts → LieIn piece ts
in_order_lie piece from [] h = tt
in_order_lie piece from (t ∷ ts) h = ((h.1, h.2), in_order_lie piece (t.start + t.len) ts h.3)

in_order_few : (from end : ℕ) (ts : List Token) → from ≤ end → AreInOrder from end ts → from + length ts ≤ end
in_order_few from end [] le h = omega arith
in_order_few from end (t ∷ ts) le h = let more = in_order_few (t.start + t.len) end ts h.2 h.3 in omega (arith, more, h.0, h.1)

-- the tokens of a piece can be read
pub in_order_readable : (piece : List ℕ) (ts : List Token) → length piece < 2 ^ 32 → AreInOrder 0 (length piece) ts → AreReadable piece ts
in_order_readable piece ts few h = record {
  within = in_order_lie piece 0 ts h;
  few = let count = in_order_few 0 (length piece) ts (omega arith) h in omega (arith, count, few);
}

pub tokens_readable : (piece : List ℕ) (ts : List Token) → length piece < 2 ^ 32 → ts ≡ tokens_of piece → AreReadable piece ts
tokens_readable piece ts few e = subst (AreReadable piece) (sym e) (in_order_readable piece (tokens_of piece) few (tokens_of_in_order piece))

drop_lie : (piece : List ℕ) (n : ℕ) (ts : List Token) → LieIn piece ts → LieIn piece (drop n ts)
drop_lie piece zero ts h = h
drop_lie piece (suc n) [] h = tt
drop_lie piece (suc n) (t ∷ ts) h = drop_lie piece n ts h.1

pub drop_readable : (piece : List ℕ) (n : ℕ) (ts : List Token) → AreReadable piece ts → AreReadable piece (drop n ts)
drop_readable piece n ts h = record { within = drop_lie piece n ts h.within; few = omega (arith, length-drop {A = Token}, h.few) }

-- how many tokens stand before the first comma
abbrev pub before_comma : List ℕ → List Token → ℕ
before_comma piece ts = prefix_len (λ t. not (is_comma (content piece t))) ts

cut_comma : (l : Lexeme) (ls : List Lexeme) → is_comma l ≡ true → cut_at_commas (l ∷ ls) ≡ [] ∷ cut_at_commas ls
unfolding cut_at_commas
cut_comma l ls e = cond-true (is_comma l) _ _ e

cut_on : (l : Lexeme) (ls : List Lexeme) → is_comma l ≡ false → cut_at_commas (l ∷ ls) ≡ onto_first l (cut_at_commas ls)
unfolding cut_at_commas
cut_on l ls e = cond-false (is_comma l) _ _ e

cut_nil : cut_at_commas [] ≡ [] ∷ []
unfolding cut_at_commas
cut_nil = refl

before_here : (piece : List ℕ) (t : Token) (ts : List Token) → is_comma (content piece t) ≡ true → before_comma piece (t ∷ ts) ≡ 0
before_here piece t ts e = cond-false (not (is_comma (content piece t))) _ _ (ap not e)

before_more : (piece : List ℕ) (t : Token) (ts : List Token) → is_comma (content piece t) ≡ false → before_comma piece (t ∷ ts) ≡ suc (before_comma piece ts)
before_more piece t ts e =
    let one : 1 + before_comma piece ts ≡ suc (before_comma piece ts) = omega arith in
    cond-true (not (is_comma (content piece t))) _ _ (ap not e) ∙ one

before_bound : (piece : List ℕ) (ts : List Token) → before_comma piece ts ≤ length ts
before_bound piece [] = omega arith
before_bound piece (t ∷ ts) =
    ⊎_elim
    (λ e. omega (arith, before_here piece t ts e))
    (λ e. omega (arith, before_more piece t ts e, before_bound piece ts))
    (cases_Bool (is_comma (content piece t)))

pub cut_whole : (piece : List ℕ) (ts : List Token) → before_comma piece ts ≡ length ts → cut_at_commas (says_all piece ts) ≡ says_all piece (take (before_comma piece ts) ts) ∷ []
cut_whole piece [] h = cut_nil
cut_whole piece (t ∷ ts) h =
    ⊎_elim
    (λ e. absurd (omega (arith, h, before_here piece t ts e)))
    (λ e. let less : before_comma piece ts ≡ length ts = omega (arith, h, before_more piece t ts e) in
    cut_on (content piece t) (says_all piece ts) e
    ∙ ap (onto_first (content piece t)) (cut_whole piece ts less)
    ∙ ap (λ n. says_all piece (take n (t ∷ ts)) ∷ []) (sym (before_more piece t ts e)))
    (cases_Bool (is_comma (content piece t)))

pub cut_first : (piece : List ℕ) (ts : List Token) → before_comma piece ts < length ts → cut_at_commas (says_all piece ts) ≡ says_all piece (take (before_comma piece ts) ts) ∷ cut_at_commas (says_all piece (drop (before_comma piece ts + 1) ts))
cut_first piece [] h = absurd (omega (arith, h))
cut_first piece (t ∷ ts) h =
    ⊎_elim
    (λ e. cut_comma (content piece t) (says_all piece ts) e
    ∙ ap (λ n. says_all piece (take n (t ∷ ts)) ∷ cut_at_commas (says_all piece (drop (n + 1) (t ∷ ts)))) (sym (before_here piece t ts e)))
    (λ e. let less : before_comma piece ts < length ts = omega (arith, h, before_more piece t ts e) in
    let next : suc (before_comma piece ts + 1) ≡ suc (before_comma piece ts) + 1 = omega arith in
    cut_on (content piece t) (says_all piece ts) e
    ∙ ap (onto_first (content piece t)) (cut_first piece ts less)
    ∙ ap (λ n. says_all piece (take (suc (before_comma piece ts)) (t ∷ ts)) ∷ cut_at_commas (says_all piece (drop n (t ∷ ts)))) next
    ∙ ap (λ n. says_all piece (take n (t ∷ ts)) ∷ cut_at_commas (says_all piece (drop (n + 1) (t ∷ ts)))) (sym (before_more piece t ts e)))
    (cases_Bool (is_comma (content piece t)))

-- the tokens before the first comma, and those from it on
pub cut_last : (piece : List ℕ) (ts front back : List Token) → front ≡ take (before_comma piece ts) ts → back ≡ drop (before_comma piece ts) ts → length back ≡ 0 → cut_at_commas (says_all piece ts) ≡ says_all piece front ∷ []
cut_last piece ts front back e f h =
    let all : before_comma piece ts ≡ length ts = omega (arith, h, ap length f, length-drop {A = Token}, before_bound piece ts) in
    cut_whole piece ts all ∙ ap (λ l. says_all piece l ∷ []) (sym e)

pub cut_more : (piece : List ℕ) (ts front back : List Token) → front ≡ take (before_comma piece ts) ts → back ≡ drop (before_comma piece ts) ts → 0 < length back → cut_at_commas (says_all piece ts) ≡ says_all piece front ∷ cut_at_commas (says_all piece (drop 1 back))
cut_more piece ts front back e f h =
    let less : before_comma piece ts < length ts = omega (arith, h, ap length f, length-drop {A = Token}) in
    let next : drop (before_comma piece ts + 1) ts ≡ drop 1 back = sym (drop-drop 1 (before_comma piece ts) ts) ∙ ap (drop 1) (sym f) in
    cut_first piece ts less ∙ ap (λ l. says_all piece l ∷ cut_at_commas (says_all piece (drop (before_comma piece ts + 1) ts))) (sym e)
    ∙ ap (λ l. says_all piece front ∷ cut_at_commas (says_all piece l)) next
