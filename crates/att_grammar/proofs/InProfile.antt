-- Instructions that are read are instructions of the profile.
use Rattle.std.proofs.Common.{◌≡◌, ℕ, zero, suc, ◌+◌, ◌-◌, ◌*◌, ◌%◌, ◌^◌, ◌<◌, ◌≤◌, ◌⊎◌, Bool, true, false, not, ◌&&◌, ◌||◌, cond, List, [], ◌∷◌, drop, Option, Some, None, refl, ap, sym, ◌∙◌, subst, ⊎_elim, arith, lit<, lit≤}
use Rattle.std.specs.Prelude.{◌==◌, ⊤, ℤ, pos, negsuc, ◌-ℤ◌, IfSome, nat_lt, nat_le, is_none, codes, bytes_eq}
use Rattle.std.specs.List.{AllByRecursion}
use Rattle.std.proofs.lemmas.Bool.{cond-true, cond-false, cases_Bool, and_parts, or_cases, not-true, ltb-true, ltb-false, leb-true, false≢true, lt-ltb}
use Rattle.std.proofs.lemmas.Int.{ints}
use Rattle.insn_ir.specs.declared.op.Reg.{Reg}
use Rattle.insn_ir.specs.declared.op.Reg.TheVariants.{Rax, Rcx, Rdx, Rbx, Rsp, Rbp, Rsi, Rdi, R8, R9, R10, R11, R12, R13, R14, R15}
use Rattle.insn_ir.specs.declared.op.Width.{Width}
use Rattle.insn_ir.specs.declared.op.Width.TheVariants.{B, W, L, Q}
use Rattle.insn_ir.specs.declared.op.Op.{Op}
use Rattle.insn_ir.specs.declared.insn.Imm.{Imm}
use Rattle.insn_ir.specs.declared.insn.Arg.{Arg}
use Rattle.insn_ir.specs.declared.insn.Insn.{Insn}
use Rattle.insn_ir.specs.declared.mnemonics.MnemonicHit.{MnemonicHit}
use Rattle.insn_ir.specs.declared.entry.DirectiveKind.{DirectiveKind}
use Rattle.insn_ir.specs.declared.entry.EntryKind.{EntryKind}
use Rattle.insn_ir.specs.Machine.{same_reg}
use Rattle.insn_ir.specs.Mnemonics.{same_width, has_width, hit_of}
use Rattle.insn_ir.specs.Profile.{IsWithin, imm_bound, HoldsSymbol, IsImm, IsReg, IsRegMem, IsImmediate, IsNumber, IsMove, IsTested, IsPlainMemory, IsPushed, IsPopped, IsOtherReg, IsExchange, count_modulus, IsCountNumber, IsCount, HasOperands, IsInstruction}
use Rattle.att_lexer.specs.Pieces.{IsSymbol}
use Rattle.att_lexer.specs.Tokens.{tokens_of, is_first_label}
use Rattle.att_lexer.specs.declared.token.Token.{Token}
use Rattle.att_grammar.specs.Lexemes.{Lexeme, says_all, lexemes_of}
use Rattle.att_grammar.specs.Notions.{◌>>=◌, or_else, expect, word_of, number_of, this_word, is_among, begins_with, is_end, whole, only_word}
use Rattle.att_grammar.specs.Expressions.{symbol_of}
use Rattle.att_grammar.specs.Operands.{is_within, operand_of, operands_of}
use Rattle.att_grammar.specs.Directives.{inert_words, table_words, export_words, set_words, section_words, align_words, string_words, number_words, cell_width, typed_of, func_type, sized_of, func_end, alias_of, constant_of, inert_if, set_by, section, flagged_section, named_section, section_of, small_power, power_among, power_of, power_by, max_of, fill_of, padding_by, padding_of, aligned_of, IsBelow, IsInRange, or_breaking, data_by, data_of, filled_of, placed_of, bound_of, named_of, is_assignment, directive_behind, directive_of}
use Rattle.att_grammar.specs.Instructions.{is_register, is_memory, is_place, half, fits_number, fits_symbol, fits_sum, is_immediate, is_number, is_plain_memory, is_popped, is_other, is_exchange, is_count_number, is_count, is_move, is_tested, is_wide, is_address_to, is_pushed, none, one, two, three, has_place, has_operands, atom_of, mem_of, kept, imm_of, arg_of, insn, insn_of, read_as, read_by, last_width, width_of, plain_of, is_direct, lone_symbol, lone_operand, target_of, starred_of, star_op, jump_with, jump_of, behind_notrack, notrack_of, rep_of, prefixed_of, behind, instruction_of}
use Rattle.att_grammar.specs.Entries.{opaque, label_by, label_of, is_inline_mark, is_directive, insn_or_opaque, statement_of, unlabelled, kind_of_piece, IsOfProfile}
use Rattle.att_grammar.specs.declared.syntax.Symbol.{Symbol}
use Rattle.att_grammar.specs.declared.syntax.Sum.{Sum}
use Rattle.att_grammar.specs.declared.syntax.Address.{Address}
use Rattle.att_grammar.specs.declared.syntax.Operand.{Operand}
use Rattle.att_grammar.specs.declared.syntax.Operands.{Operands}
use Rattle.att_grammar.proofs.Words.{Words, words_are_symbols}
use Rattle.att_grammar.proofs.Parts.{Reads, Leaves, IsNamed, IsNamedIf, IsSum, IsOperand, AreOperands, ReadsAll, expect_leaves, word_reads, number_fits, this_word_leaves, symbol_reads, operand_reads, operands_read}

-- What an operand becomes.

no : {A : Type 0} → false ≡ true → A
no e = absurd (false≢true e)

reg_arg : (w : Width) (a : Operand) → is_register w a ≡ true → IsReg (arg_of w a)
reg_arg w (Operand.Register r v) e = tt
reg_arg w (Operand.Immediate s) e = no e
reg_arg w (Operand.Memory m) e = no e

reg_place : (w : Width) (a : Operand) → is_register w a ≡ true → IsRegMem (arg_of w a)
reg_place w (Operand.Register r v) e = tt
reg_place w (Operand.Immediate s) e = no e
reg_place w (Operand.Memory m) e = no e

-- a place at one width is one at any other
place_arg : (v w : Width) (a : Operand) → is_place v a ≡ true → IsOperand a → IsRegMem (arg_of w a)
place_arg v w (Operand.Register r u) e h = tt
place_arg v w (Operand.Immediate s) e h = no e
place_arg v w (Operand.Memory m) e h = h

-- a number that has more than half its range is kept as a negative one
kept_low : (n bound : ℕ) → bound ≤ n → n < 2 * bound → IsWithin bound (pos n -ℤ pos (2 * bound))
kept_low n bound h k =
    let same : pos n -ℤ pos (2 * bound) ≡ negsuc (2 * bound - n - 1) = omega (arith, ints, h, k) in
    subst (IsWithin bound) (sym same) (omega (arith, h, k))

kept_by : (t : Bool) (n bound : ℕ) → (t ≡ true → n < bound) → (t ≡ false → bound ≤ n) → n < 2 * bound → IsWithin bound (cond t (pos n) (pos n -ℤ pos (2 * bound)))
kept_by true n bound h k small = h refl
kept_by false n bound h k small = kept_low n bound (k refl) small

kept_within : (n bound : ℕ) → n < 2 * bound → IsWithin bound (cond (nat_lt n bound) (pos n) (pos n -ℤ pos (2 * bound)))
kept_within n bound small = kept_by (nat_lt n bound) n bound (ltb-true n bound) (ltb-false n bound) small

-- a number that needs not be changed
kept_same : (n bound : ℕ) (z : ℤ) → n < bound → cond (nat_lt n bound) (pos n) z ≡ pos n
kept_same n bound z h = cond-true (nat_lt n bound) _ _ (lt-ltb n bound h)

number_is : (w : Width) (n : ℤ) → fits_number w n ≡ true → IsWithin (imm_bound w) (kept w n)
number_is B (pos n) e = kept_within n (2 ^ 7) (ltb-true n (2 ^ 8) e)
number_is W (pos n) e = kept_within n (2 ^ 15) (ltb-true n (2 ^ 16) e)
number_is L (pos n) e = kept_within n (2 ^ 31) (ltb-true n (2 ^ 32) e)
number_is Q (pos n) e = let small : n < 2 ^ 31 = ltb-true n (2 ^ 31) e in subst (IsWithin (2 ^ 31)) (sym (kept_same n (2 ^ 63) _ (omega (arith, small)))) small
number_is B (negsuc n) e = ltb-true n (2 ^ 7) e
number_is W (negsuc n) e = ltb-true n (2 ^ 15) e
number_is L (negsuc n) e = ltb-true n (2 ^ 31) e
number_is Q (negsuc n) e = ltb-true n (2 ^ 31) e

symbol_is : (w : Width) → fits_symbol w ≡ true → HoldsSymbol w
symbol_is B e = no e
symbol_is W e = no e
symbol_is L e = tt
symbol_is Q e = tt

imm_is : (w : Width) (o : Option Symbol) (n : ℤ) → fits_sum w o n ≡ true → IsNamedIf o → IsWithin (2 ^ 63) n → IsImm w (imm_of w o n)
imm_is w None n e h k = number_is w n e
imm_is w (Some s) n e h k = (symbol_is w e, record { name = h.0; spec = h.1; offset = k })

imm_arg : (w : Width) (a : Operand) → is_immediate w a ≡ true → IsOperand a → IsImmediate w (arg_of w a)
imm_arg w (Operand.Register r v) e h = no e
imm_arg w (Operand.Immediate s) e h = imm_is w s.symbol s.number e h.0 h.1
imm_arg w (Operand.Memory m) e h = no e

-- a number of 64 bits stays so
wide_is : (n : ℤ) → IsWithin (2 ^ 63) n → IsWithin (2 ^ 63) (kept Q n)
wide_is (pos n) h = subst (IsWithin (2 ^ 63)) (sym (kept_same n (2 ^ 63) _ h)) h
wide_is (negsuc n) h = h

number_by : (o : Option Symbol) (n : ℤ) → is_none o ≡ true → IsWithin (2 ^ 63) n → IsNumber (Arg.Imm (imm_of Q o n))
number_by None n e h = wide_is n h
number_by (Some s) n e h = no e

number_quad : (a : Operand) → is_number a ≡ true → IsOperand a → IsNumber (arg_of Q a)
number_quad (Operand.Register r v) e h = no e
number_quad (Operand.Immediate s) e h = number_by s.symbol s.number e h.1
number_quad (Operand.Memory m) e h = no e

number_arg : (w : Width) (a : Operand) → has_width Op.Movabs w ≡ true → is_number a ≡ true → IsOperand a → IsNumber (arg_of w a)
number_arg B a v e h = no v
number_arg W a v e h = no v
number_arg L a v e h = no v
number_arg Q a v e h = number_quad a e h

plain_arg : (w : Width) (a : Operand) → is_plain_memory a ≡ true → IsOperand a → IsPlainMemory (arg_of w a)
plain_arg w (Operand.Register r v) e h = no e
plain_arg w (Operand.Immediate s) e h = no e
plain_arg w (Operand.Memory m) e h = (h, not-true m.fs e)

-- Moves and tests.

move_reg : (w : Width) (a : Operand) (b : Arg) → is_register w a ≡ true → IsRegMem b → IsMove w (arg_of w a) b
move_reg w (Operand.Register r v) b e h = h
move_reg w (Operand.Immediate s) b e h = no e
move_reg w (Operand.Memory m) b e h = no e

move_mem : (w : Width) (a : Operand) (b : Arg) → is_memory a ≡ true → IsOperand a → IsReg b → IsMove w (arg_of w a) b
move_mem w (Operand.Register r v) b e h k = no e
move_mem w (Operand.Immediate s) b e h k = no e
move_mem w (Operand.Memory m) b e h k = (h, k)

move_imm : (w : Width) (a : Operand) (b : Arg) → is_immediate w a ≡ true → IsOperand a → IsRegMem b → IsMove w (arg_of w a) b
move_imm w (Operand.Register r v) b e h k = no e
move_imm w (Operand.Immediate s) b e h k = (imm_is w s.symbol s.number e h.0 h.1, k)
move_imm w (Operand.Memory m) b e h k = no e

move_args : (w : Width) (a b : Operand) → is_move w a b ≡ true → IsOperand a → IsOperand b → IsMove w (arg_of w a) (arg_of w b)
move_args w a b e h k =
    ⊎_elim
    (λ p. ⊎_elim
    (λ q. let parts = and_parts (is_register w a) (is_place w b) q in move_reg w a (arg_of w b) parts.0 (place_arg w w b parts.1 k))
    (λ q. let parts = and_parts (is_memory a) (is_register w b) q in move_mem w a (arg_of w b) parts.0 h (reg_arg w b parts.1))
    (or_cases (is_register w a && is_place w b) (is_memory a && is_register w b) p))
    (λ p. let parts = and_parts (is_immediate w a) (is_place w b) p in move_imm w a (arg_of w b) parts.0 h (place_arg w w b parts.1 k))
    (or_cases (is_register w a && is_place w b || is_memory a && is_register w b) (is_immediate w a && is_place w b) e)

tested_reg : (w : Width) (a : Operand) (b : Arg) → is_register w a ≡ true → IsRegMem b → IsTested w (arg_of w a) b
tested_reg w (Operand.Register r v) b e h = h
tested_reg w (Operand.Immediate s) b e h = no e
tested_reg w (Operand.Memory m) b e h = no e

tested_imm : (w : Width) (a : Operand) (b : Arg) → is_immediate w a ≡ true → IsOperand a → IsRegMem b → IsTested w (arg_of w a) b
tested_imm w (Operand.Register r v) b e h k = no e
tested_imm w (Operand.Immediate s) b e h k = (imm_is w s.symbol s.number e h.0 h.1, k)
tested_imm w (Operand.Memory m) b e h k = no e

tested_args : (w : Width) (a b : Operand) → is_tested w a b ≡ true → IsOperand a → IsOperand b → IsTested w (arg_of w a) (arg_of w b)
tested_args w a b e h k =
    let parts = and_parts (is_register w a || is_immediate w a) (is_place w b) e in
    let second = place_arg w w b parts.1 k in
    ⊎_elim
    (λ p. tested_reg w a (arg_of w b) p second)
    (λ p. tested_imm w a (arg_of w b) p h second)
    (or_cases (is_register w a) (is_immediate w a) parts.0)

load_args : (v w : Width) (a b : Operand) → (is_place v a && is_register w b) ≡ true → IsOperand a → IsRegMem (arg_of w a) × IsReg (arg_of w b)
load_args v w a b e h = let parts = and_parts (is_place v a) (is_register w b) e in (place_arg v w a parts.0 h, reg_arg w b parts.1)

-- The stack.

pushed_place : (w : Width) (a : Operand) → is_place w a ≡ true → IsOperand a → IsPushed (arg_of w a)
pushed_place w (Operand.Register r v) e h = tt
pushed_place w (Operand.Immediate s) e h = no e
pushed_place w (Operand.Memory m) e h = h

pushed_imm : (a : Operand) → is_immediate Q a ≡ true → IsOperand a → IsPushed (arg_of Q a)
pushed_imm (Operand.Register r v) e h = no e
pushed_imm (Operand.Immediate s) e h = imm_is Q s.symbol s.number e h.0 h.1
pushed_imm (Operand.Memory m) e h = no e

pushed_arg : (w : Width) (a : Operand) → has_width Op.Push w ≡ true → is_pushed w a ≡ true → IsOperand a → IsPushed (arg_of w a)
pushed_arg B a v e h = no v
pushed_arg W a v e h = no v
pushed_arg L a v e h = no v
pushed_arg Q a v e h = ⊎_elim (λ p. pushed_place Q a p h) (λ p. pushed_imm a p h) (or_cases (is_place Q a) (is_immediate Q a) e)

differs : (r q : Reg) → not (same_reg r q) ≡ true → r ≡ q → ⊥
differs r q e same = false≢true (sym (not-true (same_reg r q) e) ∙ ap (same_reg r) (sym same) ∙ itself r)
  where
    itself : (r : Reg) → same_reg r r ≡ true
    itself Rax = refl
    itself Rcx = refl
    itself Rdx = refl
    itself Rbx = refl
    itself Rsp = refl
    itself Rbp = refl
    itself Rsi = refl
    itself Rdi = refl
    itself R8 = refl
    itself R9 = refl
    itself R10 = refl
    itself R11 = refl
    itself R12 = refl
    itself R13 = refl
    itself R14 = refl
    itself R15 = refl

popped_arg : (w : Width) (a : Operand) → is_popped a ≡ true → IsPopped (arg_of w a)
popped_arg w (Operand.Register r v) e = differs r Rsp (and_parts (same_width v Q) (not (same_reg r Rsp)) e).1
popped_arg w (Operand.Immediate s) e = no e
popped_arg w (Operand.Memory m) e = no e

other_arg : (w : Width) (r : Reg) (b : Operand) → is_other r b ≡ true → IsOtherReg r (arg_of w b)
other_arg w r (Operand.Register q v) e = differs r q e
other_arg w r (Operand.Immediate s) e = no e
other_arg w r (Operand.Memory m) e = no e

exchange_args : (w : Width) (a b : Operand) → is_exchange w a b ≡ true → IsExchange (arg_of w a) (arg_of w b)
exchange_args w (Operand.Register r v) b e = other_arg w r b (and_parts (same_width v w && is_register w b) (is_other r b) e).1
exchange_args w (Operand.Immediate s) b e = no e
exchange_args w (Operand.Memory m) b e = no e

-- Shifts.

abbrev is_shifted : Width → Operand → Operand → Bool
is_shifted w a b = is_count w a && is_place w b

one_count : (w : Width) → IsCount w (Arg.Imm (Imm.Num (pos 1)))
one_count B = (lit< tt, λ e. absurd (omega (arith, e)))
one_count W = (lit< tt, λ e. absurd (omega (arith, e)))
one_count L = (lit< tt, λ e. absurd (omega (arith, e)))
one_count Q = (lit< tt, λ e. absurd (omega (arith, e)))

is_rcx : (r : Reg) → same_reg r Rcx ≡ true → r ≡ Rcx
is_rcx Rcx e = refl
is_rcx Rax e = no e
is_rcx Rdx e = no e
is_rcx Rbx e = no e
is_rcx Rsp e = no e
is_rcx Rbp e = no e
is_rcx Rsi e = no e
is_rcx Rdi e = no e
is_rcx R8 e = no e
is_rcx R9 e = no e
is_rcx R10 e = no e
is_rcx R11 e = no e
is_rcx R12 e = no e
is_rcx R13 e = no e
is_rcx R14 e = no e
is_rcx R15 e = no e

not_zero : (n : ℕ) → not (n == 0) ≡ true → n ≡ 0 → ⊥
not_zero n e z = false≢true (sym (not-true (n == 0) e) ∙ ap (λ k. k == 0) z)

count_by : (w : Width) (o : Option Symbol) (n : ℤ) → 256 ≤ half w → is_count_number w o n ≡ true → IsCount w (Arg.Imm (imm_of w o n))
count_by w None (pos n) large e =
    let parts = and_parts (nat_lt n 256) (not (n % count_modulus w == 0)) e in
    let small : n < 256 = ltb-true n 256 parts.0 in
    subst (IsCountNumber w) (sym (kept_same n (half w) _ (omega (arith, small, large)))) (small, not_zero (n % count_modulus w) parts.1)
count_by w None (negsuc n) large e = no e
count_by w (Some s) n large e = no e

count_arg : (w : Width) (a : Operand) → 256 ≤ half w → is_count w a ≡ true → IsCount w (arg_of w a)
count_arg w (Operand.Register r v) large e = is_rcx r (and_parts (same_width v B) (same_reg r Rcx) e).1
count_arg w (Operand.Immediate s) large e = count_by w s.symbol s.number large e
count_arg w (Operand.Memory m) large e = no e

shifted_at : (w : Width) (a b : Operand) → 256 ≤ half w → is_shifted w a b ≡ true → IsOperand b → IsCount w (arg_of w a) × IsRegMem (arg_of w b)
shifted_at w a b large e h = let parts = and_parts (is_count w a) (is_place w b) e in (count_arg w a large parts.0, place_arg w w b parts.1 h)

shifted_args : (w : Width) (a b : Operand) → has_width Op.Shl w ≡ true → is_shifted w a b ≡ true → IsOperand b → IsCount w (arg_of w a) × IsRegMem (arg_of w b)
shifted_args B a b v e h = no v
shifted_args W a b v e h = no v
shifted_args L a b v e h = shifted_at L a b (lit≤ tt) e h
shifted_args Q a b v e h = shifted_at Q a b (lit≤ tt) e h

-- Products.

abbrev is_short_product : Width → Operand → Operand → Bool
is_short_product w a b = is_immediate w a && is_register w b

abbrev is_long_product : Width → Operand → Operand → Operand → Bool
is_long_product w a b c = is_immediate w a && is_place w b && is_register w c

product_args : (w : Width) (a b c : Operand) → is_long_product w a b c ≡ true → IsOperand a → IsOperand b → IsImmediate w (arg_of w a) × IsRegMem (arg_of w b) × IsReg (arg_of w c)
product_args w a b c e h k =
    let parts = and_parts (is_immediate w a && is_place w b) (is_register w c) e in
    let front = and_parts (is_immediate w a) (is_place w b) parts.0 in
    (imm_arg w a front.0 h, place_arg w w b front.1 k, reg_arg w c parts.1)

-- How many operands there are.

abbrev Meets : Op → Width → Operands → Type 0
Meets op w o = HasOperands op w (insn_of op w o).a (insn_of op w o).b (insn_of op w o).c

none_case : (P : Operands → Type 0) → P Operands.Nothing → (ops : Operands) → none ops ≡ true → P ops
none_case P h Operands.Nothing e = h
none_case P h (Operands.One a) e = no e
none_case P h (Operands.Two a b) e = no e
none_case P h (Operands.Three a b c) e = no e

one_case : (p : Operand → Bool) (P : Operands → Type 0) → ((a : Operand) → p a ≡ true → IsOperand a → P (Operands.One a)) → (ops : Operands) → one p ops ≡ true → AreOperands ops → P ops
one_case p P h Operands.Nothing e g = no e
one_case p P h (Operands.One a) e g = h a e g
one_case p P h (Operands.Two a b) e g = no e
one_case p P h (Operands.Three a b c) e g = no e

two_case : (p : Operand → Operand → Bool) (P : Operands → Type 0) → ((a b : Operand) → p a b ≡ true → IsOperand a → IsOperand b → P (Operands.Two a b)) → (ops : Operands) → two p ops ≡ true → AreOperands ops → P ops
two_case p P h Operands.Nothing e g = no e
two_case p P h (Operands.One a) e g = no e
two_case p P h (Operands.Two a b) e g = h a b e g.0 g.1
two_case p P h (Operands.Three a b c) e g = no e

three_case : (p : Operand → Operand → Operand → Bool) (P : Operands → Type 0) → ((a b c : Operand) → p a b c ≡ true → IsOperand a → IsOperand b → IsOperand c → P (Operands.Three a b c)) → (ops : Operands) → three p ops ≡ true → AreOperands ops → P ops
three_case p P h Operands.Nothing e g = no e
three_case p P h (Operands.One a) e g = no e
three_case p P h (Operands.Two a b) e g = no e
three_case p P h (Operands.Three a b c) e g = h a b c e g.0 g.1 g.2

-- which operands an operation is written with, and which it has
has_op : (op : Op) (w : Width) (ops : Operands) → has_width op w ≡ true → has_operands op w ops ≡ true → AreOperands ops → Meets op w ops
has_op Op.Mov w ops v h g = two_case (is_move w) (Meets Op.Mov w) (λ a b e j k. (move_args w a b e j k, tt)) ops h g
has_op Op.Movabs w ops v h g = two_case (is_wide w) (Meets Op.Movabs w) (λ a b e j k. let parts = and_parts (is_number a) (is_register w b) e in ((number_arg w a v parts.0 j, reg_arg w b parts.1), tt)) ops h g
has_op (Op.Movz source) w ops v h g = two_case (λ a b. is_place source a && is_register w b) (Meets (Op.Movz source) w) (λ a b e j k. (load_args source w a b e j, tt)) ops h g
has_op (Op.Movs source) w ops v h g = two_case (λ a b. is_place source a && is_register w b) (Meets (Op.Movs source) w) (λ a b e j k. (load_args source w a b e j, tt)) ops h g
has_op Op.Lea w ops v h g = two_case (is_address_to w) (Meets Op.Lea w) (λ a b e j k. let parts = and_parts (is_plain_memory a) (is_register w b) e in ((plain_arg w a parts.0 j, reg_arg w b parts.1), tt)) ops h g
has_op Op.Push w ops v h g = one_case (is_pushed w) (Meets Op.Push w) (λ a e j. (pushed_arg w a v e j, tt, tt)) ops h g
has_op Op.Pop w ops v h g = one_case is_popped (Meets Op.Pop w) (λ a e j. (popped_arg w a e, tt, tt)) ops h g
has_op Op.Leave w ops v h g = none_case (Meets Op.Leave w) (tt, tt, tt) ops h
has_op Op.Xchg w ops v h g = two_case (is_exchange w) (Meets Op.Xchg w) (λ a b e j k. (exchange_args w a b e, tt)) ops h g
has_op Op.Bswap w ops v h g = one_case (is_register w) (Meets Op.Bswap w) (λ a e j. (reg_arg w a e, tt, tt)) ops h g
has_op Op.Not w ops v h g = one_case (is_place w) (Meets Op.Not w) (λ a e j. (place_arg w w a e j, tt, tt)) ops h g
has_op Op.Neg w ops v h g = one_case (is_place w) (Meets Op.Neg w) (λ a e j. (place_arg w w a e j, tt, tt)) ops h g
has_op Op.Inc w ops v h g = one_case (is_place w) (Meets Op.Inc w) (λ a e j. (place_arg w w a e j, tt, tt)) ops h g
has_op Op.Dec w ops v h g = one_case (is_place w) (Meets Op.Dec w) (λ a e j. (place_arg w w a e j, tt, tt)) ops h g
has_op Op.Add w ops v h g = two_case (is_move w) (Meets Op.Add w) (λ a b e j k. (move_args w a b e j k, tt)) ops h g
has_op Op.Adc w ops v h g = two_case (is_move w) (Meets Op.Adc w) (λ a b e j k. (move_args w a b e j k, tt)) ops h g
has_op Op.Sub w ops v h g = two_case (is_move w) (Meets Op.Sub w) (λ a b e j k. (move_args w a b e j k, tt)) ops h g
has_op Op.Sbb w ops v h g = two_case (is_move w) (Meets Op.Sbb w) (λ a b e j k. (move_args w a b e j k, tt)) ops h g
has_op Op.Cmp w ops v h g = two_case (is_move w) (Meets Op.Cmp w) (λ a b e j k. (move_args w a b e j k, tt)) ops h g
has_op Op.And w ops v h g = two_case (is_move w) (Meets Op.And w) (λ a b e j k. (move_args w a b e j k, tt)) ops h g
has_op Op.Or w ops v h g = two_case (is_move w) (Meets Op.Or w) (λ a b e j k. (move_args w a b e j k, tt)) ops h g
has_op Op.Xor w ops v h g = two_case (is_move w) (Meets Op.Xor w) (λ a b e j k. (move_args w a b e j k, tt)) ops h g
has_op Op.Test w ops v h g = two_case (is_tested w) (Meets Op.Test w) (λ a b e j k. (tested_args w a b e j k, tt)) ops h g
has_op Op.Shl w ops v h g = ⊎_elim (λ p. one_case (is_place w) (Meets Op.Shl w) (λ a e j. ((one_count w, place_arg w w a e j), tt)) ops p g) (λ p. two_case (is_shifted w) (Meets Op.Shl w) (λ a b e j k. (shifted_args w a b v e k, tt)) ops p g) (or_cases (has_place w ops) (two (is_shifted w) ops) h)
has_op Op.Shr w ops v h g = ⊎_elim (λ p. one_case (is_place w) (Meets Op.Shr w) (λ a e j. ((one_count w, place_arg w w a e j), tt)) ops p g) (λ p. two_case (is_shifted w) (Meets Op.Shr w) (λ a b e j k. (shifted_args w a b v e k, tt)) ops p g) (or_cases (has_place w ops) (two (is_shifted w) ops) h)
has_op Op.Sar w ops v h g = ⊎_elim (λ p. one_case (is_place w) (Meets Op.Sar w) (λ a e j. ((one_count w, place_arg w w a e j), tt)) ops p g) (λ p. two_case (is_shifted w) (Meets Op.Sar w) (λ a b e j k. (shifted_args w a b v e k, tt)) ops p g) (or_cases (has_place w ops) (two (is_shifted w) ops) h)
has_op Op.Imul1 w ops v h g = one_case (is_place w) (Meets Op.Imul1 w) (λ a e j. (place_arg w w a e j, tt, tt)) ops h g
has_op Op.Mul w ops v h g = one_case (is_place w) (Meets Op.Mul w) (λ a e j. (place_arg w w a e j, tt, tt)) ops h g
has_op Op.Div w ops v h g = one_case (is_place w) (Meets Op.Div w) (λ a e j. (place_arg w w a e j, tt, tt)) ops h g
has_op Op.Idiv w ops v h g = one_case (is_place w) (Meets Op.Idiv w) (λ a e j. (place_arg w w a e j, tt, tt)) ops h g
has_op Op.Imul2 w ops v h g = two_case (λ a b. is_place w a && is_register w b) (Meets Op.Imul2 w) (λ a b e j k. (load_args w w a b e j, tt)) ops h g
has_op Op.Imul3 w ops v h g = ⊎_elim (λ p. two_case (is_short_product w) (Meets Op.Imul3 w) (λ a b e j k. let parts = and_parts (is_immediate w a) (is_register w b) e in (imm_arg w a parts.0 j, reg_place w b parts.1, reg_arg w b parts.1)) ops p g) (λ p. three_case (is_long_product w) (Meets Op.Imul3 w) (λ a b c e j k l. product_args w a b c e j k) ops p g) (or_cases (two (is_short_product w) ops) (three (is_long_product w) ops) h)
has_op (Op.Setcc cond) w ops v h g = one_case (is_place w) (Meets (Op.Setcc cond) w) (λ a e j. (place_arg w w a e j, tt, tt)) ops h g
has_op (Op.Cmov cond) w ops v h g = two_case (λ a b. is_place w a && is_register w b) (Meets (Op.Cmov cond) w) (λ a b e j k. (load_args w w a b e j, tt)) ops h g
has_op Op.Cwtl w ops v h g = none_case (Meets Op.Cwtl w) (tt, tt, tt) ops h
has_op Op.Cltq w ops v h g = none_case (Meets Op.Cltq w) (tt, tt, tt) ops h
has_op Op.Cltd w ops v h g = none_case (Meets Op.Cltd w) (tt, tt, tt) ops h
has_op Op.Cqto w ops v h g = none_case (Meets Op.Cqto w) (tt, tt, tt) ops h
has_op Op.Jmp w ops v h g = absurd (false≢true h)
has_op (Op.Jcc cond) w ops v h g = absurd (false≢true h)
has_op Op.JmpStar w ops v h g = one_case (is_place w) (Meets Op.JmpStar w) (λ a e j. (place_arg w w a e j, tt, tt)) ops h g
has_op Op.JmpStarNotrack w ops v h g = one_case (is_place w) (Meets Op.JmpStarNotrack w) (λ a e j. (place_arg w w a e j, tt, tt)) ops h g
has_op Op.Call w ops v h g = absurd (false≢true h)
has_op Op.CallStar w ops v h g = one_case (is_place w) (Meets Op.CallStar w) (λ a e j. (place_arg w w a e j, tt, tt)) ops h g
has_op Op.Ret w ops v h g = none_case (Meets Op.Ret w) (tt, tt, tt) ops h
has_op Op.RepRet w ops v h g = none_case (Meets Op.RepRet w) (tt, tt, tt) ops h
has_op Op.Nop w ops v h g = none_case (Meets Op.Nop w) (tt, tt, tt) ops h
has_op Op.Endbr64 w ops v h g = none_case (Meets Op.Endbr64 w) (tt, tt, tt) ops h
has_op Op.Ud2 w ops v h g = none_case (Meets Op.Ud2 w) (tt, tt, tt) ops h

-- One instruction.

is_if : (t : Bool) (i : Insn) → (t ≡ true → IsInstruction i) → IfSome (cond t (Some i) None) IsInstruction
is_if true i h = h refl
is_if false i h = tt

picked_op : (op : Op) (t : Bool) (i j : Insn) → i.op ≡ op → j.op ≡ op → (cond t i j).op ≡ op
picked_op op true i j h k = h
picked_op op false i j h k = k

picked_width : (w : Width) (t : Bool) (i j : Insn) → i.width ≡ w → j.width ≡ w → (cond t i j).width ≡ w
picked_width w true i j h k = h
picked_width w false i j h k = k

op_kept : (op : Op) (w : Width) (ops : Operands) → (insn_of op w ops).op ≡ op
op_kept op w Operands.Nothing = refl
op_kept op w (Operands.One a) = picked_op op _ _ _ refl refl
op_kept op w (Operands.Two a b) = picked_op op _ _ _ refl refl
op_kept op w (Operands.Three a b c) = refl

width_kept : (op : Op) (w : Width) (ops : Operands) → (insn_of op w ops).width ≡ w
width_kept op w Operands.Nothing = refl
width_kept op w (Operands.One a) = picked_width w _ _ _ refl refl
width_kept op w (Operands.Two a b) = picked_width w _ _ _ refl refl
width_kept op w (Operands.Three a b c) = refl

made_is : (i : Insn) (op : Op) (w : Width) → i.op ≡ op → i.width ≡ w → has_width op w ≡ true → HasOperands op w i.a i.b i.c → IsInstruction i
made_is i op w e f h k = record {
  width = ap (λ o. has_width o i.width) e ∙ ap (has_width op) f ∙ h;
  operands = subst (λ o. HasOperands o i.width i.a i.b i.c) (sym e) (subst (λ v. HasOperands op v i.a i.b i.c) (sym f) k);
}

pub read_as_is : (op : Op) (w : Width) (ops : Operands) → AreOperands ops → IfSome (read_as op w ops) IsInstruction
read_as_is op w ops g =
    is_if (has_width op w && has_operands op w ops) (insn_of op w ops)
    (λ e. let parts = and_parts (has_width op w) (has_operands op w ops) e in
    made_is (insn_of op w ops) op w (op_kept op w ops) (width_kept op w ops) parts.0 (has_op op w ops parts.0 parts.1 g))

or_is : (o p : Option Insn) → IfSome o IsInstruction → IfSome p IsInstruction → IfSome (or_else o p) IsInstruction
or_is None p h k = k
or_is (Some i) p h k = h

read_by_is : (op : Op) (w : Width) (ops : Operands) → AreOperands ops → IfSome (read_by op w ops) IsInstruction
read_by_is Op.Mov w ops g = or_is _ _ (read_as_is Op.Mov w ops g) (read_as_is Op.Movabs w ops g)
read_by_is Op.Imul1 w ops g = or_is _ _ (read_as_is Op.Imul1 w ops g) (or_is _ _ (read_as_is Op.Imul2 w ops g) (read_as_is Op.Imul3 w ops g))
read_by_is op w ops g = read_as_is op w ops g

width_then : (op : Op) (o : Option Width) (ops : Operands) → AreOperands ops → IfSome (o >>= λ w. read_by op w ops) IsInstruction
width_then op None ops g = tt
width_then op (Some w) ops g = read_by_is op w ops g

operands_then : (hit : MnemonicHit) (o : Option Operands) → ReadsAll o → IfSome (o >>= λ ops. width_of hit ops >>= λ w. read_by hit.op w ops) IsInstruction
operands_then hit None g = tt
operands_then hit (Some ops) g = width_then hit.op (width_of hit ops) ops g

plain_is : (hit : MnemonicHit) (ls : List Lexeme) → Words ls → IfSome (plain_of hit ls) IsInstruction
unfolding plain_of
plain_is hit ls h = operands_then hit (operands_of ls) (operands_read ls h)

-- Jumps and calls.

whole_is : {A : Type 0} (P : A → Type 0) (o : Option (A × List Lexeme)) → Reads P o → IfSome (o >>= whole) P
whole_is P None h = tt
whole_is P (Some x) h = end_is (is_end x.1)
  where
    end_is : (t : Bool) → IfSome (cond t (Some x.0) None) P
    end_is true = h.0
    end_is false = tt

direct_is : (op : Op) (s : Symbol) → is_direct op ≡ true → IsNamed s → IsInstruction (insn op Q (Arg.Code (atom_of s (pos 0))) Arg.Absent Arg.Absent)
direct_is Op.Jmp s e h = record { width = refl; operands = ((record { name = h.0; spec = h.1; offset = lit< tt }, refl), tt, tt) }
direct_is (Op.Jcc cond) s e h = record { width = refl; operands = ((record { name = h.0; spec = h.1; offset = lit< tt }, refl), tt, tt) }
direct_is Op.Call s e h = record { width = refl; operands = ((record { name = h.0; spec = h.1; offset = lit< tt }, refl), tt, tt) }
direct_is _ s e h = no e

symbol_then : (op : Op) (o : Option Symbol) → is_direct op ≡ true → IfSome o IsNamed → IfSome (o >>= λ s. Some (insn op Q (Arg.Code (atom_of s (pos 0))) Arg.Absent Arg.Absent)) IsInstruction
symbol_then op None e h = tt
symbol_then op (Some s) e h = direct_is op s e h

target_is : (op : Op) (ls : List Lexeme) → is_direct op ≡ true → Words ls → IfSome (target_of op ls) IsInstruction
unfolding target_of
target_is op ls e h = symbol_then op (lone_symbol ls) e (whole_is IsNamed (symbol_of ls) (symbol_reads ls h))

operand_then : (op : Op) (o : Option Operand) → IfSome o IsOperand → IfSome (o >>= λ a. read_as op Q (Operands.One a)) IsInstruction
operand_then op None h = tt
operand_then op (Some a) h = read_as_is op Q (Operands.One a) h

starred_is : (op : Op) (ls : List Lexeme) → Words ls → IfSome (starred_of op ls) IsInstruction
unfolding starred_of
starred_is op ls h = operand_then op (lone_operand ls) (whole_is IsOperand (operand_of ls) (operand_reads ls h))

star_then : (o : Option Op) (ls : List Lexeme) → Words ls → IfSome (o >>= λ star. starred_of star ls) IsInstruction
star_then None ls h = tt
star_then (Some star) ls h = starred_is star ls h

jump_by : (o : Option (List Lexeme)) (op : Op) (name : List ℕ) (ls : List Lexeme) → is_direct op ≡ true → Leaves o → Words ls → IfSome (jump_with o op name ls) IsInstruction
jump_by None op name ls e h k = target_is op ls e k
jump_by (Some rest) op name ls e h k = star_then (star_op name) rest h

jump_is : (op : Op) (name : List ℕ) (ls : List Lexeme) → is_direct op ≡ true → Words ls → IfSome (jump_of op name ls) IsInstruction
unfolding jump_of
jump_is op name ls e h = jump_by (expect 42 ls) op name ls e (expect_leaves 42 ls h) h

leaves_next : (o : Option (List Lexeme)) (f : List Lexeme → Option (List Lexeme)) → Leaves o → ((rest : List Lexeme) → Words rest → Leaves (f rest)) → Leaves (o >>= f)
leaves_next None f h k = tt
leaves_next (Some rest) f h k = k rest h

rest_then : (o : Option (List Lexeme)) (f : List Lexeme → Option Insn) → Leaves o → ((rest : List Lexeme) → Words rest → IfSome (f rest) IsInstruction) → IfSome (o >>= f) IsInstruction
rest_then None f h k = tt
rest_then (Some rest) f h k = k rest h

notrack_is : (ls : List Lexeme) → Words ls → IfSome (notrack_of ls) IsInstruction
unfolding notrack_of
notrack_is ls h =
    rest_then (behind_notrack ls) (starred_of Op.JmpStarNotrack)
    (leaves_next (this_word (codes "jmp") ls) (expect 42) (this_word_leaves (codes "jmp") ls h) (expect_leaves 42)) (starred_is Op.JmpStarNotrack)

rep_is : (ls : List Lexeme) → Words ls → IfSome (rep_of ls) IsInstruction
unfolding rep_of
rep_is ls h =
    rest_then (this_word (codes "ret") ls) _ (this_word_leaves (codes "ret") ls h)
    (λ rest left. is_if (is_end rest) (insn_of Op.RepRet Q Operands.Nothing) (λ e. record { width = refl; operands = (tt, tt, tt) }))

either_is : (t : Bool) (o p : Option Insn) → IfSome o IsInstruction → IfSome p IsInstruction → IfSome (cond t o p) IsInstruction
either_is true o p h k = h
either_is false o p h k = k

prefixed_is : (name : List ℕ) (ls : List Lexeme) → Words ls → IfSome (prefixed_of name ls) IsInstruction
unfolding prefixed_of
prefixed_is name ls h =
    let other = is_among (codes "rep" ∷ codes "repz" ∷ []) name in
    either_is (bytes_eq (codes "notrack") name) (notrack_of ls) (cond other (rep_of ls) None) (notrack_is ls h) (either_is other (rep_of ls) None (rep_is ls h) tt)

direct_then : (hit : MnemonicHit) (name : List ℕ) (ls : List Lexeme) → Words ls → (t : Bool) → is_direct hit.op ≡ t → IfSome (cond t (jump_of hit.op name ls) (plain_of hit ls)) IsInstruction
direct_then hit name ls h true e = jump_is hit.op name ls e h
direct_then hit name ls h false e = plain_is hit ls h

behind_is : (o : Option MnemonicHit) (name : List ℕ) (ls : List Lexeme) → Words ls → IfSome (behind o name ls) IsInstruction
behind_is None name ls h = prefixed_is name ls h
behind_is (Some hit) name ls h = direct_then hit name ls h (is_direct hit.op) refl

name_then : (o : Option (List ℕ × List Lexeme)) → Reads IsSymbol o → IfSome (o >>= λ name. behind (hit_of name.0) name.0 name.1) IsInstruction
name_then None h = tt
name_then (Some name) h = behind_is (hit_of name.0) name.0 name.1 h.1

pub instruction_is : (ls : List Lexeme) → Words ls → IfSome (instruction_of ls) IsInstruction
unfolding instruction_of
instruction_is ls h = name_then (word_of ls) (word_reads ls h)

-- Directives.

abbrev AreInRange : Option ℕ × Option ℕ → Type 0
AreInRange p = IsBelow (2 ^ 64) p.0 × IsBelow (2 ^ 32) p.1

some_in_range : (fill max : Option ℕ) → IsBelow (2 ^ 64) fill → IsBelow (2 ^ 32) max → IfSome (Some (fill, max)) AreInRange
some_in_range fill max f m = (f, m)

range_if : (t : Bool) (k l : DirectiveKind) → IsInRange k → IsInRange l → IsInRange (cond t k l)
range_if true k l h j = h
range_if false k l h j = j

align_in_range : (power : ℕ) (fill max : Option ℕ) → power ≤ 12 → IsBelow (2 ^ 64) fill → IsBelow (2 ^ 32) max → IfSome (Some (DirectiveKind.Align power fill max)) IsInRange
align_in_range power fill max p f m = (p, f, m)

some_if : {A : Type 0} (P : A → Type 0) (t : Bool) (o p : Option A) → (t ≡ true → IfSome o P) → (t ≡ false → IfSome p P) → IfSome (cond t o p) P
some_if P true o p h k = h refl
some_if P false o p h k = k refl

some_then : {A C : Type 0} (P : C → Type 0) (o : Option A) (f : A → Option C) → ((x : A) → IfSome (f x) P) → IfSome (o >>= f) P
some_then P None f h = tt
some_then P (Some x) f h = h x

some_with : {A C : Type 0} (R : A → Type 0) (P : C → Type 0) (o : Option A) (f : A → Option C) → IfSome o R → ((x : A) → R x → IfSome (f x) P) → IfSome (o >>= f) P
some_with R P None f h k = tt
some_with R P (Some x) f h k = k x h

small_is : (n : ℕ) → IfSome (small_power n) (λ p. p ≤ 12)
small_is n = some_if (λ p. p ≤ 12) (nat_le n 12) (Some n) None (λ e. leb-true n 12 e) (λ e. tt)

abbrev AllSmall : List ℕ → Type 0
AllSmall ks = AllByRecursion (λ k. k ≤ 12) ks

among_is : (ks : List ℕ) (n : ℕ) → AllSmall ks → IfSome (power_among ks n) (λ p. p ≤ 12)
among_is [] n h = tt
among_is (k ∷ ks) n h = some_if (λ p. p ≤ 12) (n == 2 ^ k) (Some k) (power_among ks n) (λ e. h.0) (λ e. among_is ks n h.1)

power_is : (n : ℕ) → IfSome (power_of n) (λ p. p ≤ 12)
unfolding power_of
power_is n =
    let ks : List ℕ = 0 ∷ 1 ∷ 2 ∷ 3 ∷ 4 ∷ 5 ∷ 6 ∷ 7 ∷ 8 ∷ 9 ∷ 10 ∷ 11 ∷ 12 ∷ [] in
    let all : AllSmall ks =
    (lit≤ tt, (lit≤ tt, (lit≤ tt, (lit≤ tt, (lit≤ tt, (lit≤ tt, (lit≤ tt, (lit≤ tt, (lit≤ tt, (lit≤ tt, (lit≤ tt, (lit≤ tt, (lit≤ tt, tt))))))))))))) in
    among_is ks n all

power_by_is : (t : Bool) (n : ℕ) → IfSome (power_by t n) (λ p. p ≤ 12)
power_by_is true n = small_is n
power_by_is false n = power_is n

max_is : (ls : List Lexeme) → IfSome (max_of ls) (λ n. n < 2 ^ 32)
unfolding max_of
max_is ls =
    some_then (λ n. n < 2 ^ 32) (number_of ls >>= whole) _ (λ n. some_if (λ m. m < 2 ^ 32) (nat_lt n (2 ^ 32)) (Some n) None (λ e. ltb-true n (2 ^ 32) e) (λ e. tt))

fill_is : (ls : List Lexeme) → Words ls → IfSome (fill_of ls) AreInRange
unfolding fill_of
fill_is ls h =
    some_with (λ r. (r.0 < 2 ^ 64) × Words r.1) AreInRange (number_of ls) _ (number_fits ls h)
    (λ fill fits. some_if AreInRange (is_end fill.1) _ _ (λ e. some_in_range (Some fill.0) None fits.0 tt)
    (λ e. some_with (λ n. n < 2 ^ 32) AreInRange (expect 44 fill.1 >>= max_of) (λ max. Some (Some fill.0, Some max)) (some_then (λ n. n < 2 ^ 32) (expect 44 fill.1) max_of (λ rest. max_is rest)) (λ max few. some_in_range (Some fill.0) (Some max) fits.0 few)))

padded_is : (o : Option (List Lexeme)) (ls : List Lexeme) → Words ls → IfSome (padding_by o ls) AreInRange
padded_is (Some behind) ls h = some_with (λ n. n < 2 ^ 32) AreInRange (max_of behind) _ (max_is behind) (λ max few. some_in_range None (Some max) tt few)
padded_is None ls h = fill_is ls h

padding_is : (ls : List Lexeme) → Words ls → IfSome (padding_of ls) AreInRange
unfolding padding_of
padding_is ls h =
    some_if AreInRange (is_end ls) _ _ (λ e. some_in_range None None tt tt)
    (λ e. some_with Words AreInRange (expect 44 ls) _ (expect_leaves 44 ls h) (λ rest words. padded_is (expect 44 rest) rest words))

aligned_is : (t : Bool) (ls : List Lexeme) → Words ls → IfSome (aligned_of t ls) IsInRange
unfolding aligned_of
aligned_is t ls h =
    some_with (λ r. (r.0 < 2 ^ 64) × Words r.1) IsInRange (number_of ls) _ (number_fits ls h)
    (λ n fits. some_with (λ p. p ≤ 12) IsInRange (power_by t n.0) _ (power_by_is t n.0)
    (λ power small. some_with AreInRange IsInRange (padding_of n.1) _ (padding_is n.1 fits.1) (λ p ranges. align_in_range power p.0 p.1 small ranges.0 ranges.1)))

or_breaking_is : (o : Option DirectiveKind) → IfSome o IsInRange → IsInRange (or_breaking o)
or_breaking_is None h = tt
or_breaking_is (Some k) h = h

data_is : (o : Option Width) (name : List ℕ) (ls : List Lexeme) → IsInRange (data_by o name ls)
data_is (Some width) name ls = tt
data_is None name ls = range_if (is_among string_words name || is_among number_words name) _ _ tt tt

filled_is : (name : List ℕ) (ls : List Lexeme) → Words ls → IsInRange (filled_of name ls)
unfolding filled_of data_of
filled_is name ls h =
    range_if (bytes_eq (codes ".p2align") name) _ _ (or_breaking_is (aligned_of true ls) (aligned_is true ls h))
    (range_if (is_among align_words name) _ _ (or_breaking_is (aligned_of false ls) (aligned_is false ls h)) (data_is (cell_width name) name ls))

flagged_is : (name : List ℕ) (o : Option Bool) → IsInRange (flagged_section name o)
flagged_is name None = tt
flagged_is name (Some flagged) = tt

named_section_is : (piece : List ℕ) (tokens : List Token) (name : List ℕ) (start : ℕ) → IsInRange (named_section piece tokens name start)
named_section_is piece tokens [] start = tt
named_section_is piece tokens (b ∷ bs) start = flagged_is (b ∷ bs) _

section_is : (piece : List ℕ) (tokens : List Token) → IsInRange (section_of piece tokens)
unfolding section_of
section_is piece [] = tt
section_is piece (t ∷ ts) = named_section_is piece (t ∷ ts) _ t.start

placed_is : (piece : List ℕ) (tokens : List Token) (name : List ℕ) (ls : List Lexeme) → Words ls → IsInRange (placed_of piece tokens name ls)
unfolding placed_of
placed_is piece tokens name ls h =
    range_if (is_among section_words name) _ _ (range_if (is_end ls) (section name false) DirectiveKind.Breaking tt tt)
    (range_if (bytes_eq (codes ".section") name) _ _ (section_is piece tokens) (filled_is name ls h))

type_is : (o : Option (List ℕ)) → IsInRange (func_type o)
type_is None = tt
type_is (Some f) = tt

end_is : (o : Option (List ℕ)) → IsInRange (func_end o)
end_is None = tt
end_is (Some f) = tt

inert_is : (o : Option (List ℕ)) → IsInRange (inert_if o)
inert_is None = tt
inert_is (Some a) = tt

set_is : (o : Option (List ℕ × List ℕ)) (ls : List Lexeme) → IsInRange (set_by o ls)
set_is None ls = inert_is (constant_of ls)
set_is (Some names) ls = tt

bound_is : (piece : List ℕ) (tokens : List Token) (name : List ℕ) (ls : List Lexeme) → Words ls → IsInRange (bound_of piece tokens name ls)
unfolding bound_of
bound_is piece tokens name ls h =
    range_if (bytes_eq (codes ".type") name) _ _ (type_is (typed_of ls))
    (range_if (bytes_eq (codes ".size") name) _ _ (end_is (sized_of ls))
    (range_if (is_among set_words name) _ _ (set_is (alias_of ls) ls) (placed_is piece tokens name ls h)))

named_is : (piece : List ℕ) (tokens : List Token) (name : List ℕ) (ls : List Lexeme) → Words ls → IsInRange (named_of piece tokens name ls)
unfolding named_of
named_is piece tokens name ls h =
    range_if (is_among inert_words name) _ _ tt
    (range_if (is_among table_words name) _ _ tt
    (range_if (begins_with (codes ".cfi_") name) _ _ tt (range_if (is_among export_words name) _ _ tt (bound_is piece tokens name ls h))))

behind_name : (piece : List ℕ) (tokens : List Token) (o : Option (List ℕ × List Lexeme)) → Reads IsSymbol o → IsInRange (directive_behind piece tokens o)
behind_name piece tokens None h = tt
behind_name piece tokens (Some name) h = named_is piece (drop 1 tokens) name.0 name.1 h.1

directive_is : (piece : List ℕ) (tokens : List Token) → Words (says_all piece tokens) → IsInRange (directive_of piece tokens)
unfolding directive_of
directive_is piece tokens h =
    range_if (is_assignment (says_all piece tokens)) _ _ tt (behind_name piece tokens (word_of (says_all piece tokens)) (word_reads (says_all piece tokens) h))

-- Entries.

kind_if : (t : Bool) (k l : EntryKind) → IsOfProfile k → IsOfProfile l → IsOfProfile (cond t k l)
kind_if true k l h j = h
kind_if false k l h j = j

label_is : (o : Option (List ℕ)) (ls : List Lexeme) → IsOfProfile (label_by o ls)
label_is None ls = tt
label_is (Some name) ls = tt

insn_is : (o : Option Insn) (ls : List Lexeme) → IfSome o IsInstruction → IsOfProfile (insn_or_opaque o ls)
insn_is None ls h = tt
insn_is (Some i) ls h = h

statement_is : (piece : List ℕ) (ts : List Token) → Words (says_all piece ts) → IsOfProfile (statement_of piece ts)
unfolding statement_of
statement_is piece ts h =
    let ls = says_all piece ts in
    kind_if (is_assignment ls || is_directive ls) (EntryKind.Directive (directive_of piece ts)) (insn_or_opaque (instruction_of ls) ls) (directive_is piece ts h)
    (insn_is (instruction_of ls) ls (instruction_is ls h))

unlabelled_is : (piece : List ℕ) (ts : List Token) → Words (says_all piece ts) → IsOfProfile (unlabelled piece ts)
unlabelled_is piece [] h = kind_if (is_inline_mark piece) EntryKind.InlineMark EntryKind.Blank tt tt
unlabelled_is piece (t ∷ ts) h = statement_is piece (t ∷ ts) h

-- an instruction that a piece is, is one of the profile, and an alignment has its ranges
pub kind_is : (piece : List ℕ) → IsOfProfile (kind_of_piece piece)
unfolding kind_of_piece
kind_is piece =
    kind_if (is_first_label piece) _ _ (label_is (only_word (lexemes_of piece)) (lexemes_of piece)) (unlabelled_is piece (tokens_of piece) (words_are_symbols piece))
