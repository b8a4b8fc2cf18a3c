-- Expressions: terms joined by `+` and `-` (GNU as manual, "Expressions" and "Infix Operators"). At most one term is a symbol, and it is
-- added. Numbers are of 64 bits: what is from 2^63 on stands for itself less 2^64.
use Rattle.std.specs.Prelude.{ℕ, ◌+◌, ◌-◌, ◌^◌, ℤ, pos, neg_ℤ, Bool, true, false, nat_lt, nat_le, List, [], ◌∷◌, Option, Some, None, codes, bytes_eq, if◌then◌else◌}
use Rattle.att_grammar.specs.Lexemes.{Lexeme}
use Rattle.att_grammar.specs.Notions.{◌>>=◌, or_else, expect, word_of, number_of}
use Rattle.att_grammar.specs.declared.syntax.Symbol.{Symbol}
use Rattle.att_grammar.specs.declared.syntax.Term.{Term}
use Rattle.att_grammar.specs.declared.syntax.Sum.{Sum}
use Rattle.att_grammar.specs.declared.syntax.Total.{Total}

abbrev pub is_dot : List ℕ → Bool
is_dot bytes = bytes_eq (codes ".") bytes

-- a name other than `.` (GNU as manual, "The Special Dot Symbol")
unfoldable pub name_of : List Lexeme → Option (List ℕ × List Lexeme)
name_of lexemes = word_of lexemes >>= λ w. if is_dot w.0 then None else Some w

-- `@` and a word (GNU as manual, "i386-Mnemonics", relocation types; psABI, "Relocation Types")
unfoldable pub specifier_of : List Lexeme → Option (List ℕ × List Lexeme)
specifier_of lexemes = expect 64 lexemes >>= word_of

-- a name, perhaps with a specifier
unfoldable pub symbol_of : List Lexeme → Option (Symbol × List Lexeme)
symbol_of lexemes = name_of lexemes >>= λ n. or_else
    (specifier_of n.1 >>= λ s. Some (record { name = n.0; spec = Some s.0 }, s.1))
    (Some (record { name = n.0; spec = None }, n.1))

unfoldable pub term_of : List Lexeme → Option (Term × List Lexeme)
term_of lexemes = or_else
    (number_of lexemes >>= λ n. Some (Term.Number n.0, n.1))
    (symbol_of lexemes >>= λ s. Some (Term.Symbol s.0, s.1))

-- whether a sign adds, and what follows it
unfoldable pub sign_of : List Lexeme → Option (Bool × List Lexeme)
sign_of lexemes = or_else
    (expect 43 lexemes >>= λ rest. Some (true, rest))
    (expect 45 lexemes >>= λ rest. Some (false, rest))

abbrev pub no_terms : Total
no_terms = record { symbol = None; plus = 0; minus = 0 }

abbrev pub with_symbol : Total → Option Symbol → Symbol → Option Total
with_symbol total None s = Some (record total { symbol = Some s })
with_symbol total (Some other) s = None

-- one more term
abbrev pub with_term : Total → Bool → Term → Option Total
with_term total true (Term.Number n) = Some (record total { plus = total.plus + n })
with_term total false (Term.Number n) = Some (record total { minus = total.minus + n })
with_term total true (Term.Symbol s) = with_symbol total total.symbol s
with_term total false (Term.Symbol s) = None

-- one more term behind its sign, and what follows it; without a sign there is none
abbrev pub with_next : (Total → List Lexeme → Option (Total × List Lexeme)) → Total → List Lexeme → Option (Bool × List Lexeme) → Option (Total × List Lexeme)
with_next more total lexemes None = Some (total, lexemes)
with_next more total lexemes (Some sign) = term_of sign.1 >>= λ t. with_term total sign.0 t.0 >>= λ all. more all t.1

-- The terms that follow, each behind its sign. The first list only bounds how many there can be.
unfoldable pub terms_within : List Lexeme → Total → List Lexeme → Option (Total × List Lexeme)
terms_within [] total lexemes = Some (total, lexemes)
terms_within (_ ∷ bound) total lexemes = with_next (λ all rest. terms_within bound all rest) total lexemes (sign_of lexemes)

abbrev pub terms_from : Total → List Lexeme → Option (Total × List Lexeme)
terms_from total lexemes = terms_within lexemes total lexemes

-- a sum from -2^63 to 2^64 - 1, as a signed number of 64 bits
abbrev pub signed_sum : ℕ → ℕ → Option ℤ
signed_sum plus minus =
    if nat_lt plus minus then (if nat_le (minus - plus) (2 ^ 63) then Some (neg_ℤ (pos (minus - plus))) else None)
    else (if nat_lt (plus - minus) (2 ^ 63) then Some (pos (plus - minus))
    else (if nat_lt (plus - minus) (2 ^ 64) then Some (neg_ℤ (pos (2 ^ 64 - (plus - minus)))) else None))

abbrev pub sum_of : Total → Option Sum
sum_of total = signed_sum total.plus total.minus >>= λ n. Some (record { symbol = total.symbol; number = n })

-- the terms behind a sign
unfoldable pub terms_behind : Bool → List Lexeme → Option (Sum × List Lexeme)
terms_behind adds lexemes =
    term_of lexemes >>= λ t. with_term no_terms adds t.0 >>= λ first. terms_from first t.1 >>= λ all. sum_of all.0 >>= λ sum. Some (sum, all.1)

abbrev pub terms_with : Option (Bool × List Lexeme) → List Lexeme → Option (Sum × List Lexeme)
terms_with None lexemes = terms_behind true lexemes
terms_with (Some sign) lexemes = terms_behind sign.0 sign.1

-- terms, the first perhaps behind a sign
unfoldable pub expression_of : List Lexeme → Option (Sum × List Lexeme)
expression_of lexemes = terms_with (sign_of lexemes) lexemes
