-- The parts of an instruction are read as the profile has them.
use Rattle.std.proofs.Common.{◌≡◌, ℕ, zero, suc, ◌+◌, ◌-◌, ◌^◌, ◌<◌, ◌≤◌, ◌⊎◌, inl, inr, Bool, true, false, not, ◌&&◌, ◌||◌, cond, List, [], ◌∷◌, length, Option, Some, None, refl, ap, sym, ◌∙◌, subst, ⊎_elim, arith, lit<}
use Rattle.std.specs.Prelude.{◌==◌, ⊤, ℤ, pos, negsuc, neg_ℤ, IfSome, codes, bytes_eq, nat_lt, nat_le, if◌then◌else◌}
use Rattle.std.proofs.lemmas.Bool.{cond-true, cond-false, cases_Bool, and_parts, or_cases, not-true, ltb-true, ltb-false, leb-true, eqb-true, false≢true}
use Rattle.att_lexer.specs.Pieces.{IsSymbol}
use Rattle.insn_ir.specs.declared.op.Reg.{Reg}
use Rattle.insn_ir.specs.declared.op.Reg.TheVariants.{Rsp}
use Rattle.insn_ir.specs.declared.op.Width.{Width}
use Rattle.insn_ir.specs.declared.op.Width.TheVariants.{Q}
use Rattle.insn_ir.specs.declared.insn.Base.{Base}
use Rattle.insn_ir.specs.Machine.{same_reg}
use Rattle.insn_ir.specs.Mnemonics.{same_width}
use Rattle.insn_ir.specs.Profile.{IsWithin, IsOperandName, IsSpecifier, IsScale, IsIndex, IsDisp, IsSymbolic, IsAddress, IsMem, IsAtom}
use Rattle.att_grammar.specs.Lexemes.{Lexeme, word, number, text, mark, odd}
use Rattle.att_grammar.specs.Notions.{◌>>=◌, or_else, expect, word_of, number_of, this_word, is_end}
use Rattle.att_grammar.specs.Expressions.{is_dot, name_of, specifier_of, symbol_of, term_of, sign_of, no_terms, with_symbol, with_term, with_next, terms_within, terms_from, signed_sum, sum_of, terms_behind, terms_with, expression_of}
use Rattle.att_grammar.specs.Registers.{register_named}
use Rattle.att_grammar.specs.Operands.{register_of, wide_of, index_of, is_scale, scale_of, paren, indexed_of, rip_of, based_of, paren_of, no_paren, is_within, displaced, displacement_of, place_of, is_symbolic, is_address, address_behind, segment_of, address_with, address_of, immediate_of, operand_of, next_of, operands_of}
use Rattle.att_grammar.specs.Instructions.{atom_of, disp_of, mem_of}
use Rattle.att_grammar.specs.declared.syntax.Symbol.{Symbol}
use Rattle.att_grammar.specs.declared.syntax.Term.{Term}
use Rattle.att_grammar.specs.declared.syntax.Total.{Total}
use Rattle.att_grammar.specs.declared.syntax.Sum.{Sum}
use Rattle.att_grammar.specs.declared.syntax.Displacement.{Displacement}
use Rattle.att_grammar.specs.declared.syntax.Paren.{Paren}
use Rattle.att_grammar.specs.declared.syntax.Address.{Address}
use Rattle.att_grammar.specs.declared.syntax.Operand.{Operand}
use Rattle.att_grammar.specs.declared.syntax.Operands.{Operands}
use Rattle.att_grammar.proofs.Words.{Words}

-- What is read has a property, and only symbols are among the words that are left.

abbrev pub Reads : {A : Type 0} → (A → Type 0) → Option (A × List Lexeme) → Type 0
Reads P o = IfSome o (λ r. P r.0 × Words r.1)

abbrev pub Leaves : Option (List Lexeme) → Type 0
Leaves o = IfSome o Words

reads_then : {A B : Type 0} (P : A → Type 0) (R : B → Type 0) (o : Option (A × List Lexeme)) (f : A × List Lexeme → Option (B × List Lexeme)) → Reads P o → ((x : A × List Lexeme) → P x.0 → Words x.1 → Reads R (f x)) → Reads R (o >>= f)
reads_then P R None f h k = tt
reads_then P R (Some x) f h k = k x h.0 h.1

leaves_then : {B : Type 0} (R : B → Type 0) (o : Option (List Lexeme)) (f : List Lexeme → Option (B × List Lexeme)) → Leaves o → ((rest : List Lexeme) → Words rest → Reads R (f rest)) → Reads R (o >>= f)
leaves_then R None f h k = tt
leaves_then R (Some x) f h k = k x h

reads_leaves : {A : Type 0} (P : A → Type 0) (o : Option (A × List Lexeme)) (f : A × List Lexeme → Option (List Lexeme)) → Reads P o → ((x : A × List Lexeme) → P x.0 → Words x.1 → Leaves (f x)) → Leaves (o >>= f)
reads_leaves P None f h k = tt
reads_leaves P (Some x) f h k = k x h.0 h.1

leaves_on : (o : Option (List Lexeme)) (f : List Lexeme → Option (List Lexeme)) → Leaves o → ((rest : List Lexeme) → Words rest → Leaves (f rest)) → Leaves (o >>= f)
leaves_on None f h k = tt
leaves_on (Some x) f h k = k x h

reads_else : {A : Type 0} (P : A → Type 0) (o p : Option (A × List Lexeme)) → Reads P o → Reads P p → Reads P (or_else o p)
reads_else P None p h k = k
reads_else P (Some x) p h k = h

reads_if : {A : Type 0} (P : A → Type 0) (t : Bool) (o p : Option (A × List Lexeme)) → (t ≡ true → Reads P o) → (t ≡ false → Reads P p) → Reads P (cond t o p)
reads_if P true o p h k = h refl
reads_if P false o p h k = k refl

leaves_if : (t : Bool) (rest : List Lexeme) → Words rest → Leaves (cond t (Some rest) None)
leaves_if true rest h = h
leaves_if false rest h = tt

-- Notions.

pub expect_leaves : (b : ℕ) (ls : List Lexeme) → Words ls → Leaves (expect b ls)
unfolding expect
expect_leaves b [] h = tt
expect_leaves b (mark m ∷ rest) h = leaves_if (m == b) rest h.1
expect_leaves b (word bytes ∷ rest) h = tt
expect_leaves b (number n ∷ rest) h = tt
expect_leaves b (text bytes ∷ rest) h = tt
expect_leaves b (odd bytes ∷ rest) h = tt

pub word_reads : (ls : List Lexeme) → Words ls → Reads IsSymbol (word_of ls)
unfolding word_of
word_reads [] h = tt
word_reads (mark m ∷ rest) h = tt
word_reads (word bytes ∷ rest) h = h
word_reads (number n ∷ rest) h = tt
word_reads (text bytes ∷ rest) h = tt
word_reads (odd bytes ∷ rest) h = tt

abbrev pub AnyAtAll : {A : Type 0} → A → Type 0
AnyAtAll x = ⊤

pub number_reads : (ls : List Lexeme) → Words ls → Reads AnyAtAll (number_of ls)
unfolding number_of
number_reads [] h = tt
number_reads (mark m ∷ rest) h = tt
number_reads (word bytes ∷ rest) h = tt
number_reads (number n ∷ rest) h = (tt, h.1)
number_reads (text bytes ∷ rest) h = tt
number_reads (odd bytes ∷ rest) h = tt

pub number_fits : (ls : List Lexeme) → Words ls → Reads (λ n. n < 2 ^ 64) (number_of ls)
unfolding number_of
number_fits [] h = tt
number_fits (mark m ∷ rest) h = tt
number_fits (word bytes ∷ rest) h = tt
number_fits (number n ∷ rest) h = h
number_fits (text bytes ∷ rest) h = tt
number_fits (odd bytes ∷ rest) h = tt

pub this_word_leaves : (bytes : List ℕ) (ls : List Lexeme) → Words ls → Leaves (this_word bytes ls)
unfolding this_word
this_word_leaves bytes ls h = reads_leaves IsSymbol (word_of ls) _ (word_reads ls h) (λ w s rest. leaves_if (bytes_eq bytes w.0) w.1 rest)

-- Expressions.

no_dot : (name : List ℕ) → is_dot name ≡ false → name ≡ codes "." → ⊥
no_dot name e same = false≢true (sym e ∙ ap is_dot same)

name_reads : (ls : List Lexeme) → Words ls → Reads IsOperandName (name_of ls)
unfolding name_of
name_reads ls h =
    reads_then IsSymbol IsOperandName (word_of ls) _ (word_reads ls h)
    (λ w s rest. reads_if IsOperandName (is_dot w.0) None (Some w) (λ e. tt) (λ e. ((s, no_dot w.0 e), rest)))

specifier_reads : (ls : List Lexeme) → Words ls → Reads IsSymbol (specifier_of ls)
unfolding specifier_of
specifier_reads ls h = leaves_then IsSymbol (expect 64 ls) word_of (expect_leaves 64 ls h) word_reads

abbrev pub IsNamed : Symbol → Type 0
IsNamed s = IsOperandName s.name × IsSpecifier s.spec

pub symbol_reads : (ls : List Lexeme) → Words ls → Reads IsNamed (symbol_of ls)
unfolding symbol_of
symbol_reads ls h =
    reads_then IsOperandName IsNamed (name_of ls) _ (name_reads ls h)
    (λ n named rest. reads_else IsNamed _ _
    (reads_then IsSymbol IsNamed (specifier_of n.1) _ (specifier_reads n.1 rest) (λ s spec left. ((named, spec), left)))
    ((named, tt), rest))

abbrev IsTermNamed : Term → Type 0
IsTermNamed (Term.Number n) = ⊤
IsTermNamed (Term.Symbol s) = IsNamed s

term_reads : (ls : List Lexeme) → Words ls → Reads IsTermNamed (term_of ls)
unfolding term_of
term_reads ls h = reads_else IsTermNamed _ _
    (reads_then AnyAtAll IsTermNamed (number_of ls) _ (number_reads ls h) (λ n any rest. (tt, rest)))
    (reads_then IsNamed IsTermNamed (symbol_of ls) _ (symbol_reads ls h) (λ s named rest. (named, rest)))

sign_reads : (ls : List Lexeme) → Words ls → Reads AnyAtAll (sign_of ls)
unfolding sign_of
sign_reads ls h = reads_else AnyAtAll _ _
    (leaves_then AnyAtAll (expect 43 ls) _ (expect_leaves 43 ls h) (λ rest left. (tt, left)))
    (leaves_then AnyAtAll (expect 45 ls) _ (expect_leaves 45 ls h) (λ rest left. (tt, left)))

abbrev pub IsNamedIf : Option Symbol → Type 0
IsNamedIf None = ⊤
IsNamedIf (Some s) = IsNamed s

abbrev IsTotal : Total → Type 0
IsTotal total = IsNamedIf total.symbol

symbol_kept : (total : Total) (o : Option Symbol) (s : Symbol) → IsNamed s → IfSome (with_symbol total o s) IsTotal
symbol_kept total None s h = h
symbol_kept total (Some other) s h = tt

total_kept : (total : Total) (adds : Bool) (t : Term) → IsTotal total → IsTermNamed t → IfSome (with_term total adds t) IsTotal
total_kept total true (Term.Number n) h k = h
total_kept total false (Term.Number n) h k = h
total_kept total true (Term.Symbol s) h k = symbol_kept total total.symbol s k
total_kept total false (Term.Symbol s) h k = tt

abbrev More : Type 0
More = Total → List Lexeme → Option (Total × List Lexeme)

ReadsOn : More → Type 0
ReadsOn more = (all : Total) (rest : List Lexeme) → IsTotal all → Words rest → Reads IsTotal (more all rest)

total_reads : (more : More) (o : Option Total) (rest : List Lexeme) → IfSome o IsTotal → Words rest → ReadsOn more → Reads IsTotal (o >>= λ all. more all rest)
unfolding ReadsOn
total_reads more None rest h k go = tt
total_reads more (Some all) rest h k go = go all rest h k

next_reads : (more : More) (total : Total) (ls : List Lexeme) (o : Option (Bool × List Lexeme)) → IsTotal total → Words ls → Reads AnyAtAll o → ReadsOn more → Reads IsTotal (with_next more total ls o)
next_reads more total ls None h k o go = (h, k)
next_reads more total ls (Some sign) h k o go =
    reads_then IsTermNamed IsTotal (term_of sign.1) _ (term_reads sign.1 o.1)
    (λ t named rest. total_reads more (with_term total sign.0 t.0) t.1 (total_kept total sign.0 t.0 h named) rest go)

within_reads : (bound : List Lexeme) (total : Total) (ls : List Lexeme) → IsTotal total → Words ls → Reads IsTotal (terms_within bound total ls)
unfolding terms_within ReadsOn
within_reads [] total ls h k = (h, k)
within_reads (l ∷ bound) total ls h k = next_reads (terms_within bound) total ls (sign_of ls) h k (sign_reads ls k) (λ all rest named left. within_reads bound all rest named left)

terms_reads : (total : Total) (ls : List Lexeme) → IsTotal total → Words ls → Reads IsTotal (terms_from total ls)
terms_reads total ls h k = within_reads ls total ls h k

-- a sum is a signed number of 64 bits
negative_within : (n : ℕ) → n ≤ 2 ^ 63 → IsWithin (2 ^ 63) (neg_ℤ (pos n))
negative_within zero h = lit< tt
negative_within (suc n) h = omega (arith, h)

sum_if : (t : Bool) (n : ℤ) (o : Option ℤ) → (t ≡ true → IsWithin (2 ^ 63) n) → (t ≡ false → IfSome o (IsWithin (2 ^ 63))) → IfSome (cond t (Some n) o) (IsWithin (2 ^ 63))
sum_if true n o h k = h refl
sum_if false n o h k = k refl

sum_either : (t : Bool) (o p : Option ℤ) → (t ≡ true → IfSome o (IsWithin (2 ^ 63))) → (t ≡ false → IfSome p (IsWithin (2 ^ 63))) → IfSome (cond t o p) (IsWithin (2 ^ 63))
sum_either true o p h k = h refl
sum_either false o p h k = k refl

sum_within : (plus minus : ℕ) → IfSome (signed_sum plus minus) (IsWithin (2 ^ 63))
sum_within plus minus =
    sum_either (nat_lt plus minus) _ _
    (λ e. sum_if (nat_le (minus - plus) (2 ^ 63)) _ None (λ k. negative_within (minus - plus) (leb-true _ _ k)) (λ k. tt))
    (λ e. sum_if (nat_lt (plus - minus) (2 ^ 63)) _ _ (λ k. ltb-true _ _ k)
    (λ k. let large : 2 ^ 63 ≤ plus - minus = ltb-false _ _ k in
    sum_if (nat_lt (plus - minus) (2 ^ 64)) _ None (λ j. negative_within (2 ^ 64 - (plus - minus)) (omega (arith, large))) (λ j. tt)))

abbrev pub IsSum : Sum → Type 0
IsSum sum = IsNamedIf sum.symbol × IsWithin (2 ^ 63) sum.number

all_made : (total : Total) (rest : List Lexeme) → IsTotal total → Words rest → Reads IsSum (sum_of total >>= λ sum. Some (sum, rest))
all_made total rest h k = by_number (signed_sum total.plus total.minus) (sum_within total.plus total.minus)
  where
    by_number : (o : Option ℤ) → IfSome o (IsWithin (2 ^ 63)) → Reads IsSum ((o >>= λ n. Some (record { symbol = total.symbol; number = n })) >>= λ sum. Some (sum, rest))
    by_number None w = tt
    by_number (Some n) w = ((h, w), k)

first_reads : (o : Option Total) (rest : List Lexeme) → IfSome o IsTotal → Words rest → Reads IsSum (o >>= λ first. terms_from first rest >>= λ all. sum_of all.0 >>= λ sum. Some (sum, all.1))
first_reads None rest h k = tt
first_reads (Some first) rest h k = reads_then IsTotal IsSum (terms_from first rest) _ (terms_reads first rest h k) (λ all named left. all_made all.0 all.1 named left)

behind_reads : (adds : Bool) (ls : List Lexeme) → Words ls → Reads IsSum (terms_behind adds ls)
unfolding terms_behind
behind_reads adds ls h = reads_then IsTermNamed IsSum (term_of ls) _ (term_reads ls h) (λ t named rest. first_reads (with_term no_terms adds t.0) t.1 (total_kept no_terms adds t.0 tt named) rest)

with_reads : (o : Option (Bool × List Lexeme)) (ls : List Lexeme) → Reads AnyAtAll o → Words ls → Reads IsSum (terms_with o ls)
with_reads None ls h k = behind_reads true ls k
with_reads (Some sign) ls h k = behind_reads sign.0 sign.1 h.1

pub expression_reads : (ls : List Lexeme) → Words ls → Reads IsSum (expression_of ls)
unfolding expression_of
expression_reads ls h = with_reads (sign_of ls) ls (sign_reads ls h) h

-- Registers and parentheses.

found_reads : {A : Type 0} (o : Option A) (rest : List Lexeme) → Words rest → Reads AnyAtAll (o >>= λ x. Some (x, rest))
found_reads None rest h = tt
found_reads (Some x) rest h = (tt, h)

register_reads : (ls : List Lexeme) → Words ls → Reads AnyAtAll (register_of ls)
unfolding register_of
register_reads ls h =
    reads_then IsSymbol AnyAtAll (expect 37 ls >>= word_of) _ (leaves_then IsSymbol (expect 37 ls) word_of (expect_leaves 37 ls h) word_reads)
    (λ w s rest. found_reads (register_named w.0) w.1 rest)

wide_reads : (ls : List Lexeme) → Words ls → Reads AnyAtAll (wide_of ls)
unfolding wide_of
wide_reads ls h =
    reads_then AnyAtAll AnyAtAll (register_of ls) _ (register_reads ls h)
    (λ r any rest. reads_if AnyAtAll (same_width r.0.1 Q) (Some (r.0.0, r.1)) None (λ e. (tt, rest)) (λ e. tt))

abbrev pub IsIndexReg : Reg → Type 0
IsIndexReg r = r ≡ Rsp → ⊥

no_rsp : (r : Reg) → same_reg r Rsp ≡ false → IsIndexReg r
no_rsp r e same = false≢true (sym e ∙ ap (λ q. same_reg q Rsp) same)

index_reads : (ls : List Lexeme) → Words ls → Reads IsIndexReg (index_of ls)
unfolding index_of
index_reads ls h =
    reads_then AnyAtAll IsIndexReg (wide_of ls) _ (wide_reads ls h)
    (λ r any rest. reads_if IsIndexReg (same_reg r.0 Rsp) None (Some r) (λ e. tt) (λ e. (no_rsp r.0 e, rest)))

scale_is : (n : ℕ) → is_scale n ≡ true → IsScale n
scale_is n e =
    ⊎_elim
    (λ a. ⊎_elim
    (λ b. ⊎_elim (λ c. inl (eqb-true n 1 c)) (λ c. inr (inl (eqb-true n 2 c))) (or_cases (n == 1) (n == 2) b))
    (λ b. inr (inr (inl (eqb-true n 4 b))))
    (or_cases (n == 1 || n == 2) (n == 4) a))
    (λ a. inr (inr (inr (eqb-true n 8 a))))
    (or_cases (n == 1 || n == 2 || n == 4) (n == 8) e)

scale_reads : (ls : List Lexeme) → Words ls → Reads IsScale (scale_of ls)
unfolding scale_of
scale_reads ls h = reads_else IsScale _ _
    (leaves_then IsScale (expect 41 ls) _ (expect_leaves 41 ls h) (λ rest left. (inl refl, left)))
    (reads_then AnyAtAll IsScale (expect 44 ls >>= number_of) _ (leaves_then AnyAtAll (expect 44 ls) number_of (expect_leaves 44 ls h) number_reads)
    (λ n any rest. reads_if IsScale (is_scale n.0) _ None
    (λ e. leaves_then IsScale (expect 41 n.1) _ (expect_leaves 41 n.1 rest) (λ behind left. (scale_is n.0 e, left))) (λ e. tt)))

indexed_reads : (P : Paren → Type 0) (base : Base) (ls : List Lexeme) → ((i : Reg) (s : ℕ) → IsIndexReg i → IsScale s → P (paren base (Some i) s)) → Words ls → Reads P (indexed_of base ls)
unfolding indexed_of
indexed_reads P base ls make h =
    reads_then IsIndexReg P (expect 44 ls >>= index_of) _ (leaves_then IsIndexReg (expect 44 ls) index_of (expect_leaves 44 ls h) index_reads)
    (λ i ok rest. reads_then IsScale P (scale_of i.1) _ (scale_reads i.1 rest) (λ s fine left. (make i.0 s.0 ok fine, left)))

abbrev pub IsBased : Base → Option Reg → ℕ → Type 0
IsBased Base.Absent index scale = IsIndex index scale
IsBased Base.Rip index scale = (index ≡ None) × (scale ≡ 1)
IsBased (Base.Reg r) index scale = IsIndex index scale

abbrev pub IsParen : Paren → Type 0
IsParen p = IsBased p.base p.index p.scale

rip_reads : (ls : List Lexeme) → Words ls → Reads IsParen (rip_of ls)
unfolding rip_of
rip_reads ls h =
    leaves_then IsParen (expect 37 ls >>= this_word (codes "rip") >>= expect 41) _
    (leaves_on (expect 37 ls >>= this_word (codes "rip")) (expect 41)
    (leaves_on (expect 37 ls) (this_word (codes "rip")) (expect_leaves 37 ls h) (this_word_leaves (codes "rip"))) (expect_leaves 41))
    (λ rest left. ((refl, refl), left))

based_reads : (ls : List Lexeme) → Words ls → Reads IsParen (based_of ls)
unfolding based_of
based_reads ls h =
    reads_then AnyAtAll IsParen (wide_of ls) _ (wide_reads ls h)
    (λ b any rest. reads_else IsParen _ _
    (leaves_then IsParen (expect 41 b.1) _ (expect_leaves 41 b.1 rest) (λ behind left. (refl, left)))
    (indexed_reads IsParen (Base.Reg b.0) b.1 (λ i s ok fine. (ok, fine)) rest))

paren_reads : (ls : List Lexeme) → Words ls → Reads IsParen (paren_of ls)
unfolding paren_of
paren_reads ls h =
    leaves_then IsParen (expect 40 ls) _ (expect_leaves 40 ls h)
    (λ inner left. reads_else IsParen _ _ (rip_reads inner left)
    (reads_else IsParen _ _ (based_reads inner left) (indexed_reads IsParen Base.Absent inner (λ i s ok fine. (ok, fine)) left)))

-- Memory.

within_is : (n : ℤ) → is_within (2 ^ 31) (2 ^ 31) n ≡ true → IsWithin (2 ^ 31) n
within_is (pos n) e = ltb-true _ _ e
within_is (negsuc n) e = ltb-true _ _ e

abbrev pub IsDisplacement : Displacement → Type 0
IsDisplacement d = IsDisp (disp_of d)

displaced_is : (o : Option Symbol) (n : ℤ) (rest : List Lexeme) → IsNamedIf o → IsWithin (2 ^ 63) n → Words rest → Reads IsDisplacement (displaced o n >>= λ d. Some (d, rest))
displaced_is None n rest h k left = number_if (is_within (2 ^ 31) (2 ^ 31) n) (within_is n)
  where
    number_if : (t : Bool) → (t ≡ true → IsWithin (2 ^ 31) n) → Reads IsDisplacement (cond t (Some (Displacement.Number n)) None >>= λ d. Some (d, rest))
    number_if true w = (w refl, left)
    number_if false w = tt
displaced_is (Some s) n rest h k left = (record { name = h.0; spec = h.1; offset = k }, left)

displacement_reads : (ls : List Lexeme) → Words ls → Reads IsDisplacement (displacement_of ls)
unfolding displacement_of
displacement_reads ls h =
    reads_then IsSum IsDisplacement (expression_of ls) _ (expression_reads ls h)
    (λ e sum rest. displaced_is e.0.symbol e.0.number e.1 sum.0 sum.1 rest)

abbrev ReadsPlace : Option (Displacement × Paren × List Lexeme) → Type 0
ReadsPlace o = IfSome o (λ p. IsDisplacement p.0 × IsParen p.1 × Words p.2)

place_by_paren : (o : Option (Paren × List Lexeme)) (d : Displacement) → IsDisplacement d → Reads IsParen o → ReadsPlace (o >>= λ p. Some (d, p.0, p.1))
place_by_paren None d h k = tt
place_by_paren (Some p) d h k = (h, k.0, k.1)

place_else : (o p : Option (Displacement × Paren × List Lexeme)) → ReadsPlace o → ReadsPlace p → ReadsPlace (or_else o p)
place_else None p h k = k
place_else (Some x) p h k = h

place_then : (o : Option (Displacement × List Lexeme)) (f : Displacement × List Lexeme → Option (Displacement × Paren × List Lexeme)) → Reads IsDisplacement o → ((x : Displacement × List Lexeme) → IsDisplacement x.0 → Words x.1 → ReadsPlace (f x)) → ReadsPlace (o >>= f)
place_then None f h k = tt
place_then (Some x) f h k = k x h.0 h.1

place_reads : (ls : List Lexeme) → Words ls → ReadsPlace (place_of ls)
unfolding place_of
place_reads ls h = place_else _ _
    (place_by_paren (paren_of ls) (Displacement.Number (pos 0)) (lit< tt) (paren_reads ls h))
    (place_then (displacement_of ls) _ (displacement_reads ls h)
    (λ d ok rest. place_else _ _ (place_by_paren (paren_of d.1) d.0 ok (paren_reads d.1 rest)) (ok, refl, rest)))

abbrev pub IsPlainMem : Address → Type 0
IsPlainMem m = IsMem (mem_of m)

symbolic_is : (d : Displacement) → is_symbolic d ≡ true → IsSymbolic (disp_of d)
symbolic_is (Displacement.Number n) e = absurd (false≢true e)
symbolic_is (Displacement.Symbol s n) e = tt

address_is : (fs : Bool) (d : Displacement) (base : Base) (index : Option Reg) (scale : ℕ) → is_address fs d base ≡ true → IsBased base index scale
    → IsAddress base (mem_of (record { fs = fs; disp = d; paren = paren base index scale }))
address_is fs d Base.Absent index scale e h = h
address_is fs d Base.Rip index scale e h = let parts = and_parts (is_symbolic d) (not fs) e in (symbolic_is d parts.0, h.0, h.1, not-true fs parts.1)
address_is fs d (Base.Reg r) index scale e h = h

address_then : (fs : Bool) (o : Option (Displacement × Paren × List Lexeme)) → ReadsPlace o
    → Reads IsPlainMem (o >>= λ p. if is_address fs p.0 p.1.base then Some (record { fs = fs; disp = p.0; paren = p.1 }, p.2) else None)
address_then fs None h = tt
address_then fs (Some p) h =
    reads_if IsPlainMem (is_address fs p.0 p.1.base) _ None
    (λ e. (record { disp = h.0; address = address_is fs p.0 p.1.base p.1.index p.1.scale e h.1 }, h.2)) (λ e. tt)

behind_segment_reads : (fs : Bool) (ls : List Lexeme) → Words ls → Reads IsPlainMem (address_behind fs ls)
unfolding address_behind
behind_segment_reads fs ls h = address_then fs (place_of ls) (place_reads ls h)

segment_leaves : (ls : List Lexeme) → Words ls → Leaves (segment_of ls)
unfolding segment_of
segment_leaves ls h =
    leaves_on (expect 37 ls >>= this_word (codes "fs")) (expect 58)
    (leaves_on (expect 37 ls) (this_word (codes "fs")) (expect_leaves 37 ls h) (this_word_leaves (codes "fs"))) (expect_leaves 58)

address_by : (o : Option (List Lexeme)) (ls : List Lexeme) → Leaves o → Words ls → Reads IsPlainMem (address_with o ls)
address_by None ls h k = behind_segment_reads false ls k
address_by (Some rest) ls h k = behind_segment_reads true rest h

address_reads : (ls : List Lexeme) → Words ls → Reads IsPlainMem (address_of ls)
unfolding address_of
address_reads ls h = address_by (segment_of ls) ls (segment_leaves ls h) h

-- Operands.

abbrev pub IsOperand : Operand → Type 0
IsOperand (Operand.Register r w) = ⊤
IsOperand (Operand.Immediate s) = IsSum s
IsOperand (Operand.Memory m) = IsMem (mem_of m)

immediate_reads : (ls : List Lexeme) → Words ls → Reads IsSum (immediate_of ls)
unfolding immediate_of
immediate_reads ls h = leaves_then IsSum (expect 36 ls) expression_of (expect_leaves 36 ls h) expression_reads

pub operand_reads : (ls : List Lexeme) → Words ls → Reads IsOperand (operand_of ls)
unfolding operand_of
operand_reads ls h = reads_else IsOperand _ _
    (reads_then AnyAtAll IsOperand (register_of ls) _ (register_reads ls h) (λ r any rest. (tt, rest)))
    (reads_else IsOperand _ _
    (reads_then IsSum IsOperand (immediate_of ls) _ (immediate_reads ls h) (λ s sum rest. (sum, rest)))
    (reads_then IsPlainMem IsOperand (address_of ls) _ (address_reads ls h) (λ a mem rest. (mem, rest))))

next_operand_reads : (ls : List Lexeme) → Words ls → Reads IsOperand (next_of ls)
unfolding next_of
next_operand_reads ls h = leaves_then IsOperand (expect 44 ls) operand_of (expect_leaves 44 ls h) operand_reads

abbrev pub AreOperands : Operands → Type 0
AreOperands Operands.Nothing = ⊤
AreOperands (Operands.One a) = IsOperand a
AreOperands (Operands.Two a b) = IsOperand a × IsOperand b
AreOperands (Operands.Three a b c) = IsOperand a × IsOperand b × IsOperand c

abbrev pub ReadsAll : Option Operands → Type 0
ReadsAll o = IfSome o AreOperands

all_if : (t : Bool) (o p : Option Operands) → ReadsAll o → ReadsAll p → ReadsAll (cond t o p)
all_if true o p h k = h
all_if false o p h k = k

all_then : (o : Option (Operand × List Lexeme)) (f : Operand × List Lexeme → Option Operands) → Reads IsOperand o → ((x : Operand × List Lexeme) → IsOperand x.0 → Words x.1 → ReadsAll (f x)) → ReadsAll (o >>= f)
all_then None f h k = tt
all_then (Some x) f h k = k x h.0 h.1

pub operands_read : (ls : List Lexeme) → Words ls → ReadsAll (operands_of ls)
unfolding operands_of
operands_read ls h =
    all_if (is_end ls) _ _ tt
    (all_then (operand_of ls) _ (operand_reads ls h)
    (λ a ok rest. all_if (is_end a.1) _ _ ok
    (all_then (next_of a.1) _ (next_operand_reads a.1 rest)
    (λ b fine left. all_if (is_end b.1) _ _ (ok, fine)
    (all_then (next_of b.1) _ (next_operand_reads b.1 left)
    (λ c good more. all_if (is_end c.1) _ None (ok, fine, good) tt))))))
