-- Terms one after another.
use Rattle.std.proofs.Common.{◌≡◌, ℕ, ◌<◌, ◌≤◌, Bool, true, false, List, [], ◌∷◌, length, Option, Some, None, refl, ap, sym, ◌∙◌, subst, arith, cond}
use Rattle.std.specs.Prelude.{◌==◌, IfSome}
use Rattle.att_grammar.specs.Lexemes.{Lexeme, word, number, text, mark, odd}
use Rattle.att_grammar.specs.Notions.{◌>>=◌, or_else, expect, word_of, number_of}
use Rattle.att_grammar.specs.Expressions.{is_dot, name_of, specifier_of, symbol_of, term_of, sign_of, with_term, with_next, terms_within, terms_from}
use Rattle.att_grammar.specs.declared.syntax.Term.{Term}
use Rattle.att_grammar.specs.declared.syntax.Total.{Total}

-- what is read leaves fewer lexemes
abbrev pub LeavesLess : {A : Type 0} → List Lexeme → Option (A × List Lexeme) → Type 0
LeavesLess ls o = IfSome o (λ r. length r.1 < length ls)

abbrev pub LeavesFewer : List Lexeme → Option (List Lexeme) → Type 0
LeavesFewer ls o = IfSome o (λ rest. length rest < length ls)

fewer_if : (t : Bool) (l : Lexeme) (rest : List Lexeme) → LeavesFewer (l ∷ rest) (cond t (Some rest) None)
fewer_if true l rest = omega arith
fewer_if false l rest = tt

pub expect_less : (b : ℕ) (ls : List Lexeme) → LeavesFewer ls (expect b ls)
unfolding expect
expect_less b [] = tt
expect_less b (mark m ∷ rest) = fewer_if (m == b) (mark m) rest
expect_less b (word bytes ∷ rest) = tt
expect_less b (number n ∷ rest) = tt
expect_less b (text bytes ∷ rest) = tt
expect_less b (odd bytes ∷ rest) = tt

pub word_less : (ls : List Lexeme) → LeavesLess ls (word_of ls)
unfolding word_of
word_less [] = tt
word_less (mark m ∷ rest) = tt
word_less (word bytes ∷ rest) = omega arith
word_less (number n ∷ rest) = tt
word_less (text bytes ∷ rest) = tt
word_less (odd bytes ∷ rest) = tt

pub number_less : (ls : List Lexeme) → LeavesLess ls (number_of ls)
unfolding number_of
number_less [] = tt
number_less (mark m ∷ rest) = tt
number_less (word bytes ∷ rest) = tt
number_less (number n ∷ rest) = omega arith
number_less (text bytes ∷ rest) = tt
number_less (odd bytes ∷ rest) = tt

-- one reading after another
then_less : {A B : Type 0} (ls : List Lexeme) (o : Option (A × List Lexeme)) (f : A × List Lexeme → Option (B × List Lexeme)) → LeavesLess ls o → ((x : A × List Lexeme) → LeavesLess ls (Some x) → LeavesLess ls (f x)) → LeavesLess ls (o >>= f)
then_less ls None f h k = tt
then_less ls (Some x) f h k = k x h

behind_less : {B : Type 0} (ls : List Lexeme) (o : Option (List Lexeme)) (f : List Lexeme → Option (B × List Lexeme)) → LeavesFewer ls o → ((rest : List Lexeme) → length rest < length ls → LeavesLess ls (f rest)) → LeavesLess ls (o >>= f)
behind_less ls None f h k = tt
behind_less ls (Some x) f h k = k x h

else_less : {A : Type 0} (ls : List Lexeme) (o p : Option (A × List Lexeme)) → LeavesLess ls o → LeavesLess ls p → LeavesLess ls (or_else o p)
else_less ls None p h k = k
else_less ls (Some x) p h k = h

-- less than less
still_less : {A : Type 0} (ls rest : List Lexeme) (o : Option (A × List Lexeme)) → length rest < length ls → LeavesLess rest o → LeavesLess ls o
still_less ls rest None h k = tt
still_less ls rest (Some x) h k = omega (arith, h, k)

if_less : {A : Type 0} (t : Bool) (ls : List Lexeme) (o : Option (A × List Lexeme)) → LeavesLess ls o → LeavesLess ls (cond t None o)
if_less true ls o h = tt
if_less false ls o h = h

name_less : (ls : List Lexeme) → LeavesLess ls (name_of ls)
unfolding name_of
name_less ls = then_less ls (word_of ls) (λ w. cond (is_dot w.0) None (Some w)) (word_less ls) (λ w h. if_less (is_dot w.0) ls (Some w) h)

specifier_less : (ls : List Lexeme) → LeavesLess ls (specifier_of ls)
unfolding specifier_of
specifier_less ls = behind_less ls (expect 64 ls) word_of (expect_less 64 ls) (λ rest h. still_less ls rest (word_of rest) h (word_less rest))

symbol_less : (ls : List Lexeme) → LeavesLess ls (symbol_of ls)
unfolding symbol_of
symbol_less ls = then_less ls (name_of ls) _ (name_less ls) (λ n h. else_less ls _ _
    (then_less ls (specifier_of n.1) _ (still_less ls n.1 (specifier_of n.1) h (specifier_less n.1)) (λ s k. k)) h)

pub term_less : (ls : List Lexeme) → LeavesLess ls (term_of ls)
unfolding term_of
term_less ls = else_less ls _ _ (then_less ls (number_of ls) _ (number_less ls) (λ n h. h)) (then_less ls (symbol_of ls) _ (symbol_less ls) (λ s h. h))

pub sign_less : (ls : List Lexeme) → LeavesLess ls (sign_of ls)
unfolding sign_of
sign_less ls = else_less ls _ _ (behind_less ls (expect 43 ls) _ (expect_less 43 ls) (λ rest h. h)) (behind_less ls (expect 45 ls) _ (expect_less 45 ls) (λ rest h. h))

pub sign_none : sign_of [] ≡ None
unfolding sign_of expect
sign_none = refl

-- how many terms there can be makes no difference where it is enough
abbrev More : Type 0
More = Total → List Lexeme → Option (Total × List Lexeme)

AgreeBelow : More → More → List Lexeme → Type 0
AgreeBelow m n ls = (all : Total) (rest : List Lexeme) → length rest < length ls → m all rest ≡ n all rest

total_same : (m n : More) (ls rest : List Lexeme) (o : Option Total) → length rest < length ls → AgreeBelow m n ls → (o >>= λ all. m all rest) ≡ (o >>= λ all. n all rest)
unfolding AgreeBelow
total_same m n ls rest None h k = refl
total_same m n ls rest (Some all) h k = k all rest h

term_same : (m n : More) (total : Total) (adds : Bool) (ls : List Lexeme) (o : Option (Term × List Lexeme)) → LeavesLess ls o → AgreeBelow m n ls → (o >>= λ t. with_term total adds t.0 >>= λ all. m all t.1) ≡ (o >>= λ t. with_term total adds t.0 >>= λ all. n all t.1)
term_same m n total adds ls None h k = refl
term_same m n total adds ls (Some t) h k = total_same m n ls t.1 (with_term total adds t.0) h k

next_same : (m n : More) (total : Total) (ls : List Lexeme) (o : Option (Bool × List Lexeme)) → LeavesLess ls o → AgreeBelow m n ls → with_next m total ls o ≡ with_next n total ls o
next_same m n total ls None h k = refl
next_same m n total ls (Some sign) h k = term_same m n total sign.0 ls (term_of sign.1) (still_less ls sign.1 (term_of sign.1) h (term_less sign.1)) k

within_nil : (f : List Lexeme) (total : Total) → terms_within f total [] ≡ Some (total, [])
unfolding terms_within
within_nil [] total = refl
within_nil (l ∷ f) total = ap (with_next (λ all rest. terms_within f all rest) total []) sign_none

terms_same : (f g : List Lexeme) (total : Total) (ls : List Lexeme) → length ls ≤ length f → length ls ≤ length g → terms_within f total ls ≡ terms_within g total ls
unfolding terms_within AgreeBelow
terms_same f g total [] h k = within_nil f total ∙ sym (within_nil g total)
terms_same [] g total (l ∷ ls) h k = absurd (omega (arith, h))
terms_same (x ∷ f) [] total (l ∷ ls) h k = absurd (omega (arith, k))
terms_same (x ∷ f) (y ∷ g) total (l ∷ ls) h k =
    next_same (terms_within f) (terms_within g) total (l ∷ ls) (sign_of (l ∷ ls)) (sign_less (l ∷ ls))
    (λ all rest less. terms_same f g all rest (omega (arith, h, less)) (omega (arith, k, less)))

-- terms, one step further
pub terms_step : (total : Total) (ls : List Lexeme) → terms_from total ls ≡ with_next terms_from total ls (sign_of ls)
unfolding terms_within AgreeBelow
terms_step total [] = sym (ap (with_next terms_from total []) sign_none)
terms_step total (l ∷ ls) =
    next_same (terms_within ls) terms_from total (l ∷ ls) (sign_of (l ∷ ls)) (sign_less (l ∷ ls))
    (λ all rest less. terms_same ls rest all rest (omega (arith, less)) (omega arith))

pub terms_end : (total : Total) (ls : List Lexeme) → sign_of ls ≡ None → terms_from total ls ≡ Some (total, ls)
terms_end total ls e = terms_step total ls ∙ ap (with_next terms_from total ls) e

pub terms_more : (total : Total) (ls : List Lexeme) (adds : Bool) (behind : List Lexeme) → sign_of ls ≡ Some (adds, behind) → terms_from total ls ≡ (term_of behind >>= λ t. with_term total adds t.0 >>= λ all. terms_from all t.1)
terms_more total ls adds behind e = terms_step total ls ∙ ap (with_next terms_from total ls) e

pub terms_no_term : (total : Total) (ls : List Lexeme) (adds : Bool) (behind : List Lexeme) → sign_of ls ≡ Some (adds, behind) → term_of behind ≡ None → terms_from total ls ≡ None
terms_no_term total ls adds behind e f = terms_more total ls adds behind e ∙ ap (λ o. o >>= λ t. with_term total adds t.0 >>= λ all. terms_from all t.1) f

pub terms_one_more : (total : Total) (ls : List Lexeme) (adds : Bool) (behind : List Lexeme) (t : Term) (rest : List Lexeme) → sign_of ls ≡ Some (adds, behind) → term_of behind ≡ Some (t, rest) → terms_from total ls ≡ (with_term total adds t >>= λ all. terms_from all rest)
terms_one_more total ls adds behind t rest e f = terms_more total ls adds behind e ∙ ap (λ o. o >>= λ t. with_term total adds t.0 >>= λ all. terms_from all t.1) f

pub terms_no_total : (total : Total) (ls : List Lexeme) (adds : Bool) (behind : List Lexeme) (t : Term) (rest : List Lexeme) → sign_of ls ≡ Some (adds, behind) → term_of behind ≡ Some (t, rest) → with_term total adds t ≡ None → terms_from total ls ≡ None
terms_no_total total ls adds behind t rest e f g = terms_one_more total ls adds behind t rest e f ∙ ap (λ o. o >>= λ all. terms_from all rest) g

pub terms_one : (total : Total) (ls : List Lexeme) (adds : Bool) (behind : List Lexeme) (t : Term) (rest : List Lexeme) (all : Total) → sign_of ls ≡ Some (adds, behind) → term_of behind ≡ Some (t, rest) → with_term total adds t ≡ Some all → terms_from total ls ≡ terms_from all rest
terms_one total ls adds behind t rest all e f g = terms_one_more total ls adds behind t rest e f ∙ ap (λ o. o >>= λ all. terms_from all rest) g

pub behind_sign_fewer : (ls : List Lexeme) (adds : Bool) (behind : List Lexeme) → sign_of ls ≡ Some (adds, behind) → length behind < length ls
behind_sign_fewer ls adds behind e = subst (LeavesLess ls) e (sign_less ls)

pub behind_term_fewer : (ls : List Lexeme) (t : Term) (rest : List Lexeme) → term_of ls ≡ Some (t, rest) → length rest < length ls
behind_term_fewer ls t rest e = subst (LeavesLess ls) e (term_less ls)
