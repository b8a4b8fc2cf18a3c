-- The spelling of numbers and symbols is read as what they are.
use Rattle.std.proofs.Common.{◌≡◌, ℕ, zero, suc, ◌+◌, ◌-◌, ◌^◌, ◌<◌, false, List, [], ◌∷◌, ◌++◌, Option, Some, None, refl, ap, sym, ⊎_elim, arith}
use Rattle.std.specs.Prelude.{ℤ, pos, negsuc, codes}
use Rattle.std.proofs.lemmas.Bool.{cond-false, lt-ltb, le-ltb, le-leb, cases_Bool}
use Rattle.std.proofs.lemmas.Slice.Eq.{bytes_eq-Decides}
use Rattle.insn_ir.specs.Profile.{IsWithin, IsOperandName}
use Rattle.att_grammar.specs.Lexemes.{Lexeme, word, number, mark}
use Rattle.att_grammar.specs.Spelling.{Item, gap, name, digits, sign, said}
use Rattle.att_grammar.specs.Notions.{expect, word_of, number_of}
use Rattle.att_grammar.specs.Expressions.{is_dot, name_of, specifier_of, symbol_of, term_of, sign_of, terms_within, terms_from, signed_sum, terms_behind, expression_of}
use Rattle.att_grammar.specs.Canonical.{number_items, spec_items, offset_items}
use Rattle.att_grammar.specs.declared.syntax.Symbol.{Symbol}
use Rattle.att_grammar.specs.declared.syntax.Term.{Term}
use Rattle.att_grammar.specs.declared.syntax.Sum.{Sum}
use Rattle.att_grammar.specs.declared.syntax.Total.{Total}

pub said-append : (xs ys : List Item) → said (xs ++ ys) ≡ said xs ++ said ys
said-append [] ys = refl
said-append (gap ∷ xs) ys = said-append xs ys
said-append (name bytes ∷ xs) ys = ap (λ l. word bytes ∷ l) (said-append xs ys)
said-append (digits n ∷ xs) ys = ap (λ l. number n ∷ l) (said-append xs ys)
said-append (sign b ∷ xs) ys = ap (λ l. mark b ∷ l) (said-append xs ys)

-- lexemes with which no expression goes on: no sign and no `@`
pub record Stops (rest : List Lexeme) : Type 0 where
  pub sign : sign_of rest ≡ None
  pub specifier : expect 64 rest ≡ None

pub nothing_stops : Stops []
unfolding sign_of expect
nothing_stops = record { sign = refl; specifier = refl }

pub comma_stops : (rest : List Lexeme) → Stops (mark 44 ∷ rest)
unfolding sign_of expect
comma_stops rest = record { sign = refl; specifier = refl }

pub paren_stops : (rest : List Lexeme) → Stops (mark 40 ∷ rest)
unfolding sign_of expect
paren_stops rest = record { sign = refl; specifier = refl }

terms_stop : (bound : List Lexeme) (total : Total) (rest : List Lexeme) → Stops rest → terms_within bound total rest ≡ Some (total, rest)
unfolding terms_within
terms_stop [] total rest h = refl
terms_stop (l ∷ bound) total rest h = rw h.sign refl

not_dot : (bytes : List ℕ) → (bytes ≡ codes "." → ⊥) → is_dot bytes ≡ false
not_dot bytes h = ⊎_elim (λ e. absurd (h (sym ((bytes_eq-Decides (codes ".") bytes).0 e)))) (λ e. e) (cases_Bool (is_dot bytes))

named : (bytes : List ℕ) (rest : List Lexeme) → IsOperandName bytes → name_of (word bytes ∷ rest) ≡ Some (bytes, rest)
unfolding name_of word_of
named bytes rest h = cond-false (is_dot bytes) _ _ (not_dot bytes h.1)

-- a name, perhaps with a specifier
abbrev pub symbol : List ℕ → Option (List ℕ) → Symbol
symbol bytes spec = record { name = bytes; spec = spec }

pub symbol_read : (bytes : List ℕ) (spec : Option (List ℕ)) (rest : List Lexeme) → IsOperandName bytes → expect 64 rest ≡ None → symbol_of (word bytes ∷ (said (spec_items spec) ++ rest)) ≡ Some (symbol bytes spec, rest)
unfolding symbol_of specifier_of expect word_of
symbol_read bytes None rest h k = rw (named bytes rest h, k) refl
symbol_read bytes (Some spec) rest h k = rw (named bytes (mark 64 ∷ word spec ∷ rest) h) refl

symbol_term : (bytes : List ℕ) (spec : Option (List ℕ)) (rest : List Lexeme) → IsOperandName bytes → expect 64 rest ≡ None → term_of (word bytes ∷ (said (spec_items spec) ++ rest)) ≡ Some (Term.Symbol (symbol bytes spec), rest)
unfolding term_of number_of
symbol_term bytes spec rest h k = rw (symbol_read bytes spec rest h k) refl

-- `+n` and `-n` behind other terms
added : (total : Total) (n : ℕ) (rest : List Lexeme) → Stops rest → terms_from total (mark 43 ∷ number n ∷ rest) ≡ Some (record total { plus = total.plus + n }, rest)
unfolding terms_within sign_of expect term_of number_of
added total n rest h = terms_stop (number n ∷ rest) (record total { plus = total.plus + n }) rest h

subtracted : (total : Total) (n : ℕ) (rest : List Lexeme) → Stops rest → terms_from total (mark 45 ∷ number n ∷ rest) ≡ Some (record total { minus = total.minus + n }, rest)
unfolding terms_within sign_of expect term_of number_of
subtracted total n rest h = terms_stop (number n ∷ rest) (record total { minus = total.minus + n }) rest h

sum_added : (n : ℕ) → n < 2 ^ 63 → signed_sum (0 + n) 0 ≡ Some (pos n)
sum_added n h =
    let plus : 0 + n ≡ n = omega arith in
    let less : n - 0 ≡ n = omega arith in
    rw (plus, le-ltb n 0 (omega arith), less, lt-ltb n (2 ^ 63) h) refl

sum_subtracted : (n : ℕ) → n < 2 ^ 63 → signed_sum 0 (0 + suc n) ≡ Some (negsuc n)
sum_subtracted n h =
    let plus : 0 + suc n ≡ suc n = omega arith in
    let less : suc n - 0 ≡ suc n = omega arith in
    rw (plus, lt-ltb 0 (suc n) (omega arith), less, le-leb (suc n) (2 ^ 63) (omega (arith, h))) refl

abbrev pub sum : Option Symbol → ℤ → Sum
sum s n = record { symbol = s; number = n }

-- a number in front, where no expression goes on behind it
pub number_read : (n : ℤ) (rest : List Lexeme) → IsWithin (2 ^ 63) n → Stops rest → expression_of (said (number_items n) ++ rest) ≡ Some (sum None n, rest)
unfolding expression_of terms_behind sign_of expect term_of number_of
number_read (pos n) rest h k = rw (terms_stop rest (record { symbol = None; plus = 0 + n; minus = 0 }) rest k, sum_added n h) refl
number_read (negsuc n) rest h k = rw (terms_stop rest (record { symbol = None; plus = 0; minus = 0 + suc n }) rest k, sum_subtracted n h) refl

no_sign : (bytes : List ℕ) (rest : List Lexeme) → sign_of (word bytes ∷ rest) ≡ None
unfolding sign_of expect
no_sign bytes rest = refl

no_at_plus : (rest : List Lexeme) → expect 64 (mark 43 ∷ rest) ≡ None
unfolding expect
no_at_plus rest = refl

no_at_minus : (rest : List Lexeme) → expect 64 (mark 45 ∷ rest) ≡ None
unfolding expect
no_at_minus rest = refl

-- an atom in front
pub atom_read : (bytes : List ℕ) (spec : Option (List ℕ)) (offset : ℤ) (rest : List Lexeme) → IsOperandName bytes → IsWithin (2 ^ 63) offset → Stops rest
    → expression_of (word bytes ∷ (said (spec_items spec) ++ (said (offset_items offset) ++ rest))) ≡ Some (sum (Some (symbol bytes spec)) offset, rest)
unfolding expression_of terms_behind
atom_read bytes spec (pos zero) rest h small k =
    rw (no_sign bytes (said (spec_items spec) ++ rest), symbol_term bytes spec rest h k.specifier, terms_stop rest (record { symbol = Some (symbol bytes spec); plus = 0; minus = 0 }) rest k) refl
atom_read bytes spec (pos (suc n)) rest h small k =
    let more = mark 43 ∷ number (suc n) ∷ rest in
    rw (no_sign bytes (said (spec_items spec) ++ more), symbol_term bytes spec more h (no_at_plus (number (suc n) ∷ rest)), added (record { symbol = Some (symbol bytes spec); plus = 0; minus = 0 }) (suc n) rest k, sum_added (suc n) small) refl
atom_read bytes spec (negsuc n) rest h small k =
    let more = mark 45 ∷ number (suc n) ∷ rest in
    rw (no_sign bytes (said (spec_items spec) ++ more), symbol_term bytes spec more h (no_at_minus (number (suc n) ∷ rest)), subtracted (record { symbol = Some (symbol bytes spec); plus = 0; minus = 0 }) (suc n) rest k, sum_subtracted n small) refl
