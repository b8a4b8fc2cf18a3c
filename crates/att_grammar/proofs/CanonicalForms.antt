-- The operands of the forms of the profile pass the tests of the grammar, and stand for themselves.
use Rattle.std.proofs.Common.{◌≡◌, ℕ, zero, suc, ◌^◌, ◌<◌, ◌%◌, Bool, true, false, not, ◌&&◌, ◌||◌, List, [], ◌∷◌, ◌++◌, Some, None, refl, ap, sym, ◌∙◌, arith, append-nil}
use Rattle.std.specs.Prelude.{ℤ, pos, negsuc, nat_lt}
use Rattle.std.proofs.lemmas.Bool.{cond-true, lt-ltb, ne_eqb, false≢true}
use Rattle.insn_ir.specs.declared.op.Reg.{Reg}
use Rattle.insn_ir.specs.declared.op.Reg.TheVariants.{Rax, Rcx, Rdx, Rbx, Rsp, Rbp, Rsi, Rdi, R8, R9, R10, R11, R12, R13, R14, R15}
use Rattle.insn_ir.specs.declared.op.Width.{Width}
use Rattle.insn_ir.specs.declared.op.Width.TheVariants.{B, W, L, Q}
use Rattle.insn_ir.specs.declared.op.Op.{Op}
use Rattle.insn_ir.specs.declared.insn.Atom.{Atom}
use Rattle.insn_ir.specs.declared.insn.Disp.{Disp}
use Rattle.insn_ir.specs.declared.insn.Mem.{Mem}
use Rattle.insn_ir.specs.declared.insn.Imm.{Imm}
use Rattle.insn_ir.specs.declared.insn.Arg.{Arg}
use Rattle.insn_ir.specs.Machine.{reg_number, same_reg}
use Rattle.insn_ir.specs.Mnemonics.{same_width, has_width}
use Rattle.insn_ir.specs.Profile.{IsWithin, imm_bound, IsImm, IsReg, IsRegMem, IsImmediate, IsNumber, IsMove, IsTested, IsPlainMemory, IsPushed, IsPopped, IsOtherReg, IsExchange, count_modulus, IsCount}
use Rattle.att_grammar.specs.Lexemes.{Lexeme, mark}
use Rattle.att_grammar.specs.Spelling.{said}
use Rattle.att_grammar.specs.Notions.{expect, word_of, number_of, is_end}
use Rattle.att_grammar.specs.Expressions.{name_of, symbol_of, term_of, sign_of, terms_behind, expression_of}
use Rattle.att_grammar.specs.Operands.{register_of, paren_of, displacement_of, place_of, address_behind, segment_of, address_of, immediate_of, operand_of, next_of, operands_of}
use Rattle.att_grammar.specs.Instructions.{is_register, is_place, half, fits_number, is_immediate, is_number, is_plain_memory, is_popped, is_exchange, is_count, is_move, is_tested, disp_of, mem_of, kept, arg_of}
use Rattle.att_grammar.specs.Canonical.{arg_items}
use Rattle.att_grammar.specs.declared.syntax.Operand.{Operand}
use Rattle.att_grammar.specs.declared.syntax.Operands.{Operands}
use Rattle.att_grammar.proofs.CanonicalOperands.{IsOperand, operand, displacement, address, operand_read, Ends, nothing_ends, comma_ends}

-- Lists of operands.

not_end : (lexemes : List Lexeme) (x : Operand × List Lexeme) → operand_of lexemes ≡ Some x → is_end lexemes ≡ false
unfolding operand_of register_of immediate_of address_of segment_of address_behind place_of paren_of displacement_of expression_of terms_behind sign_of term_of symbol_of name_of expect word_of number_of
not_end [] x e = absurd (none_some e)
  where
    none_some : {y : Operand × List Lexeme} → None ≡ Some y → ⊥
    none_some e = cc
not_end (l ∷ ls) x e = refl

pub alone_read : (width : Width) (a : Arg) → IsOperand a → operand_of (said (arg_items width a)) ≡ Some (operand width a, [])
alone_read width a h = ap operand_of (sym (append-nil (said (arg_items width a)))) ∙ operand_read width a [] h nothing_ends

pub one_read : (width : Width) (a : Arg) → IsOperand a → operands_of (said (arg_items width a)) ≡ Some (Operands.One (operand width a))
unfolding operands_of
one_read width a h = rw (not_end (said (arg_items width a)) _ (alone_read width a h), alone_read width a h) refl

comma_read : (width : Width) (a : Arg) → IsOperand a → next_of (mark 44 ∷ said (arg_items width a)) ≡ Some (operand width a, [])
unfolding next_of expect
comma_read width a h = alone_read width a h

next_read : (width : Width) (a : Arg) (rest : List Lexeme) → IsOperand a → Ends rest → next_of (mark 44 ∷ (said (arg_items width a) ++ rest)) ≡ Some (operand width a, rest)
unfolding next_of expect
next_read width a rest h k = operand_read width a rest h k

pub two_read : (source width : Width) (a b : Arg) → IsOperand a → IsOperand b
    → operands_of (said (arg_items source a) ++ mark 44 ∷ said (arg_items width b)) ≡ Some (Operands.Two (operand source a) (operand width b))
unfolding operands_of
two_read source width a b h k =
    let more = mark 44 ∷ said (arg_items width b) in
    let first = operand_read source a more h (comma_ends (said (arg_items width b))) in
    rw (not_end (said (arg_items source a) ++ more) _ first, first, comma_read width b k) refl

pub three_read : (source width : Width) (a b c : Arg) → IsOperand a → IsOperand b → IsOperand c
    → operands_of (said (arg_items source a) ++ mark 44 ∷ (said (arg_items width b) ++ mark 44 ∷ said (arg_items width c)))
    ≡ Some (Operands.Three (operand source a) (operand width b) (operand width c))
unfolding operands_of
three_read source width a b c h k m =
    let last = mark 44 ∷ said (arg_items width c) in
    let more = mark 44 ∷ (said (arg_items width b) ++ last) in
    let first = operand_read source a more h (comma_ends (said (arg_items width b) ++ last)) in
    rw (not_end (said (arg_items source a) ++ more) _ first, first, next_read width b last k (comma_ends (said (arg_items width c))), comma_read width c m) refl

-- What operands are, and pass: as written at a width, an operand stands for itself.

pub record Fits (width source : Width) (a : Arg) (test : Operand → Bool) : Type 0 where
  pub is : IsOperand a
  pub back : arg_of width (operand source a) ≡ a
  pub passes : test (operand source a) ≡ true

same_width-refl : (width : Width) → same_width width width ≡ true
same_width-refl B = refl
same_width-refl W = refl
same_width-refl L = refl
same_width-refl Q = refl

disp_back : (disp : Disp) → disp_of (displacement disp) ≡ disp
disp_back (Disp.Num n) = refl
disp_back (Disp.Sym atom) = refl

mem_back : (mem : Mem) → mem_of (address mem) ≡ mem
mem_back mem = ap (λ d. record mem { disp = d }) (disp_back mem.disp)

kept_is : (width : Width) (n : ℤ) → IsWithin (half width) n → kept width n ≡ n
kept_is width (pos n) h = cond-true (nat_lt n (half width)) _ _ (lt-ltb n (half width) h)
kept_is width (negsuc n) h = refl

bound_half : (width : Width) (n : ℕ) → n < imm_bound width → n < half width
bound_half B n h = h
bound_half W n h = h
bound_half L n h = h
bound_half Q n h = omega (arith, h)

within_half : (width : Width) (n : ℤ) → IsWithin (imm_bound width) n → IsWithin (half width) n
within_half width (pos n) h = bound_half width n h
within_half width (negsuc n) h = bound_half width n h

half_wide : (width : Width) (n : ℕ) → n < half width → n < 2 ^ 63
half_wide B n h = omega (arith, h)
half_wide W n h = omega (arith, h)
half_wide L n h = omega (arith, h)
half_wide Q n h = h

within_wide : (width : Width) (n : ℤ) → IsWithin (half width) n → IsWithin (2 ^ 63) n
within_wide width (pos n) h = half_wide width n h
within_wide width (negsuc n) h = half_wide width n h

fits_number_true : (width : Width) (n : ℤ) → IsWithin (imm_bound width) n → fits_number width n ≡ true
fits_number_true B (pos n) h = lt-ltb n (2 ^ 8) (omega (arith, h))
fits_number_true W (pos n) h = lt-ltb n (2 ^ 16) (omega (arith, h))
fits_number_true L (pos n) h = lt-ltb n (2 ^ 32) (omega (arith, h))
fits_number_true Q (pos n) h = lt-ltb n (2 ^ 31) h
fits_number_true B (negsuc n) h = lt-ltb n (2 ^ 7) h
fits_number_true W (negsuc n) h = lt-ltb n (2 ^ 15) h
fits_number_true L (negsuc n) h = lt-ltb n (2 ^ 31) h
fits_number_true Q (negsuc n) h = lt-ltb n (2 ^ 31) h

register_fits : (width source : Width) (r : Reg) → Fits width source (Arg.Reg r) (is_register source)
register_fits width source r = record { is = tt; back = refl; passes = same_width-refl source }

pub reg_fits : (width source : Width) (a : Arg) → IsReg a → Fits width source a (is_register source)
reg_fits width source Arg.Absent h = absurd h
reg_fits width source (Arg.Reg r) h = register_fits width source r
reg_fits width source (Arg.Imm imm) h = absurd h
reg_fits width source (Arg.Mem mem) h = absurd h
reg_fits width source (Arg.Code atom) h = absurd h

pub place_fits : (width source : Width) (a : Arg) → IsRegMem a → Fits width source a (is_place source)
place_fits width source Arg.Absent h = absurd h
place_fits width source (Arg.Reg r) h = record { is = tt; back = refl; passes = rw (same_width-refl source) refl }
place_fits width source (Arg.Imm imm) h = absurd h
place_fits width source (Arg.Mem mem) h = record { is = h; back = ap Arg.Mem (mem_back mem); passes = refl }
place_fits width source (Arg.Code atom) h = absurd h

symbol_fits : (width : Width) (atom : Atom) → IsImm width (Imm.Sym atom) → Fits width width (Arg.Imm (Imm.Sym atom)) (is_immediate width)
symbol_fits B atom h = absurd h.0
symbol_fits W atom h = absurd h.0
symbol_fits L atom h = record { is = h.1; back = refl; passes = refl }
symbol_fits Q atom h = record { is = h.1; back = refl; passes = refl }

imm_fits : (width : Width) (imm : Imm) → IsImm width imm → Fits width width (Arg.Imm imm) (is_immediate width)
imm_fits width (Imm.Num n) h = record {
  is = within_wide width n (within_half width n h);
  back = ap (λ k. Arg.Imm (Imm.Num k)) (kept_is width n (within_half width n h));
  passes = fits_number_true width n h;
}
imm_fits width (Imm.Sym atom) h = symbol_fits width atom h

pub immediate_fits : (width : Width) (a : Arg) → IsImmediate width a → Fits width width a (is_immediate width)
immediate_fits width Arg.Absent h = absurd h
immediate_fits width (Arg.Reg r) h = absurd h
immediate_fits width (Arg.Imm imm) h = imm_fits width imm h
immediate_fits width (Arg.Mem mem) h = absurd h
immediate_fits width (Arg.Code atom) h = absurd h

pub number_fits : (a : Arg) → IsNumber a → Fits Q Q a is_number
number_fits Arg.Absent h = absurd h
number_fits (Arg.Reg r) h = absurd h
number_fits (Arg.Imm (Imm.Num n)) h = record { is = h; back = ap (λ k. Arg.Imm (Imm.Num k)) (kept_is Q n h); passes = refl }
number_fits (Arg.Imm (Imm.Sym atom)) h = absurd h
number_fits (Arg.Mem mem) h = absurd h
number_fits (Arg.Code atom) h = absurd h

pub plain_memory_fits : (width source : Width) (a : Arg) → IsPlainMemory a → Fits width source a is_plain_memory
plain_memory_fits width source Arg.Absent h = absurd h
plain_memory_fits width source (Arg.Reg r) h = absurd h
plain_memory_fits width source (Arg.Imm imm) h = absurd h
plain_memory_fits width source (Arg.Mem mem) h = record { is = h.0; back = ap Arg.Mem (mem_back mem); passes = ap not h.1 }
plain_memory_fits width source (Arg.Code atom) h = absurd h

pub pushed_fits : (a : Arg) → IsPushed a → Fits Q Q a (λ v. is_place Q v || is_immediate Q v)
pushed_fits Arg.Absent h = absurd h
pushed_fits (Arg.Reg r) h = record { is = tt; back = refl; passes = refl }
pushed_fits (Arg.Imm imm) h = let fits = imm_fits Q imm h in record { is = fits.is; back = fits.back; passes = fits.passes }
pushed_fits (Arg.Mem mem) h = record { is = h; back = ap Arg.Mem (mem_back mem); passes = refl }
pushed_fits (Arg.Code atom) h = absurd h

abbrev register_of_number : List Reg → ℕ → Reg
register_of_number [] n = Rax
register_of_number (r ∷ rs) zero = r
register_of_number (r ∷ rs) (suc n) = register_of_number rs n

numbered : (r : Reg) → register_of_number (Rax ∷ Rcx ∷ Rdx ∷ Rbx ∷ Rsp ∷ Rbp ∷ Rsi ∷ Rdi ∷ R8 ∷ R9 ∷ R10 ∷ R11 ∷ R12 ∷ R13 ∷ R14 ∷ R15 ∷ []) (reg_number r) ≡ r
numbered Rax = refl
numbered Rcx = refl
numbered Rdx = refl
numbered Rbx = refl
numbered Rsp = refl
numbered Rbp = refl
numbered Rsi = refl
numbered Rdi = refl
numbered R8 = refl
numbered R9 = refl
numbered R10 = refl
numbered R11 = refl
numbered R12 = refl
numbered R13 = refl
numbered R14 = refl
numbered R15 = refl

numbers_differ : (r q : Reg) → (r ≡ q → ⊥) → same_reg r q ≡ false
numbers_differ r q h = ne_eqb (reg_number r) (reg_number q) (λ e. h (sym (numbered r) ∙ ap (register_of_number (Rax ∷ Rcx ∷ Rdx ∷ Rbx ∷ Rsp ∷ Rbp ∷ Rsi ∷ Rdi ∷ R8 ∷ R9 ∷ R10 ∷ R11 ∷ R12 ∷ R13 ∷ R14 ∷ R15 ∷ [])) e ∙ numbered q))

pub popped_fits : (a : Arg) → IsPopped a → Fits Q Q a is_popped
popped_fits Arg.Absent h = absurd h
popped_fits (Arg.Reg r) h = record { is = tt; back = refl; passes = rw (numbers_differ r Rsp h) refl }
popped_fits (Arg.Imm imm) h = absurd h
popped_fits (Arg.Mem mem) h = absurd h
popped_fits (Arg.Code atom) h = absurd h

small_kept : (width : Width) (n : ℕ) → n < 256 → has_width Op.Shl width ≡ true → IsWithin (half width) (pos n)
small_kept B n h e = absurd (false≢true e)
small_kept W n h e = absurd (false≢true e)
small_kept L n h e = omega (arith, h)
small_kept Q n h e = omega (arith, h)

pub count_fits : (width : Width) (a : Arg) → has_width Op.Shl width ≡ true → IsCount width a → Fits width B a (is_count width)
count_fits width Arg.Absent e h = absurd h
count_fits width (Arg.Reg r) e h = record { is = tt; back = refl; passes = ap (λ q. same_reg q Rcx) h }
count_fits width (Arg.Imm (Imm.Num (pos n))) e h =
    let within = small_kept width n h.0 e in
    record {
      is = within_wide width (pos n) within;
      back = ap (λ k. Arg.Imm (Imm.Num k)) (kept_is width (pos n) within);
      passes = rw (lt-ltb n 256 h.0, ne_eqb (n % count_modulus width) 0 h.1) refl;
    }
count_fits width (Arg.Imm (Imm.Num (negsuc n))) e h = absurd h
count_fits width (Arg.Imm (Imm.Sym atom)) e h = absurd h
count_fits width (Arg.Mem mem) e h = absurd h
count_fits width (Arg.Code atom) e h = absurd h

-- two operands that depend on each other
pub record FitTwo (width : Width) (a b : Arg) (test : Operand → Operand → Bool) : Type 0 where
  pub a_is : IsOperand a
  pub b_is : IsOperand b
  pub a_back : arg_of width (operand width a) ≡ a
  pub b_back : arg_of width (operand width b) ≡ b
  pub passes : test (operand width a) (operand width b) ≡ true

or_first : (s t : Bool) → s ≡ true → (s || t) ≡ true
or_first s t e = ap (λ x. x || t) e

or_last : (s t : Bool) → t ≡ true → (s || t) ≡ true
or_last true t e = refl
or_last false t e = e

pub and_both : (s t : Bool) → s ≡ true → t ≡ true → (s && t) ≡ true
and_both s t e k = ap (λ x. x && t) e ∙ k

pub move_fits : (width : Width) (a b : Arg) → IsMove width a b → FitTwo width a b (is_move width)
move_fits width Arg.Absent b h = absurd h
move_fits width (Arg.Reg r) b h =
    let second = place_fits width width b h in
    record { a_is = tt; b_is = second.is; a_back = refl; b_back = second.back; passes = or_first _ _ (or_first _ _ (and_both _ _ (same_width-refl width) second.passes)) }
move_fits width (Arg.Imm imm) b h =
    let first = imm_fits width imm h.0 in
    let second = place_fits width width b h.1 in
    record { a_is = first.is; b_is = second.is; a_back = first.back; b_back = second.back; passes = and_both _ _ first.passes second.passes }
move_fits width (Arg.Mem mem) b h =
    let second = reg_fits width width b h.1 in
    record { a_is = h.0; b_is = second.is; a_back = ap Arg.Mem (mem_back mem); b_back = second.back; passes = or_first _ false second.passes }
move_fits width (Arg.Code atom) b h = absurd h

pub tested_fits : (width : Width) (a b : Arg) → IsTested width a b → FitTwo width a b (is_tested width)
tested_fits width Arg.Absent b h = absurd h
tested_fits width (Arg.Reg r) b h =
    let second = place_fits width width b h in
    record { a_is = tt; b_is = second.is; a_back = refl; b_back = second.back; passes = and_both _ _ (or_first _ _ (same_width-refl width)) second.passes }
tested_fits width (Arg.Imm imm) b h =
    let first = imm_fits width imm h.0 in
    let second = place_fits width width b h.1 in
    record { a_is = first.is; b_is = second.is; a_back = first.back; b_back = second.back; passes = and_both _ _ first.passes second.passes }
tested_fits width (Arg.Mem mem) b h = absurd h
tested_fits width (Arg.Code atom) b h = absurd h

other_fits : (width : Width) (r : Reg) (b : Arg) → IsOtherReg r b → FitTwo width (Arg.Reg r) b (is_exchange width)
other_fits width r Arg.Absent h = absurd h
other_fits width r (Arg.Reg q) h =
    record { a_is = tt; b_is = tt; a_back = refl; b_back = refl; passes = and_both _ _ (and_both _ _ (same_width-refl width) (same_width-refl width)) (ap not (numbers_differ r q h)) }
other_fits width r (Arg.Imm imm) h = absurd h
other_fits width r (Arg.Mem mem) h = absurd h
other_fits width r (Arg.Code atom) h = absurd h

pub exchange_fits : (width : Width) (a b : Arg) → IsExchange a b → FitTwo width a b (is_exchange width)
exchange_fits width Arg.Absent b h = absurd h
exchange_fits width (Arg.Reg r) b h = other_fits width r b h
exchange_fits width (Arg.Imm imm) b h = absurd h
exchange_fits width (Arg.Mem mem) b h = absurd h
exchange_fits width (Arg.Code atom) b h = absurd h
