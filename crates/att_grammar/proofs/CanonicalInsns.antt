-- Canonical text is read as the instruction that it was made of: a law for each form, and then each operation.
use Rattle.std.proofs.Common.{◌≡◌, ℕ, true, false, ◌&&◌, List, [], ◌∷◌, ◌++◌, Option, Some, None, refl, ap, sym, ◌∙◌, subst, append-nil}
use Rattle.std.specs.Prelude.{pos, codes}
use Rattle.std.proofs.lemmas.Bool.{cond-true, cond-false, false≢true}
use Rattle.insn_ir.specs.declared.op.Width.{Width}
use Rattle.insn_ir.specs.declared.op.Width.TheVariants.{B, W, L, Q}
use Rattle.insn_ir.specs.declared.op.Op.{Op}
use Rattle.insn_ir.specs.declared.insn.Arg.{Arg}
use Rattle.insn_ir.specs.declared.insn.Insn.{Insn}
use Rattle.insn_ir.specs.declared.mnemonics.MnemonicHit.{MnemonicHit}
use Rattle.insn_ir.specs.Mnemonics.{has_width, written_mnemonic, op_named, lettered_hit, hit_of}
use Rattle.insn_ir.specs.Profile.{IsAtom, IsAbsent, IsRegMem, IsCode, HasNone, HasOne, HasOperands}
use Rattle.att_grammar.specs.Lexemes.{Lexeme, word, mark}
use Rattle.att_grammar.specs.Spelling.{Item, gap, name, sign, said}
use Rattle.att_grammar.specs.Notions.{or_else, expect, word_of, this_word}
use Rattle.att_grammar.specs.Operands.{operands_of}
use Rattle.att_grammar.specs.Instructions.{is_place, has_operands, insn, insn_of, read_as, read_by, plain_of, is_direct, target_of, starred_of, star_op, jump_of, notrack_of, rep_of, prefixed_of, instruction_of}
use Rattle.att_grammar.specs.Canonical.{spec_items, arg_items, first_width, star_items, first_items, next_items, mnemonic_items, insn_items}
use Rattle.att_grammar.specs.declared.syntax.Operands.{Operands}
use Rattle.att_grammar.proofs.CanonicalExpressions.{said-append, symbol_read}
use Rattle.att_grammar.proofs.CanonicalOperands.{IsOperand, operand}
use Rattle.att_grammar.proofs.CanonicalSpelling.{IsAnyArg}
use Rattle.att_grammar.proofs.CanonicalMnemonics.{first_op, IsRead, mnemonic_read}
use Rattle.std.proofs.lemmas.Bool.{and_right}
use Rattle.att_grammar.proofs.CanonicalForms.{alone_read, one_read, two_read, three_read, Fits, reg_fits, place_fits, immediate_fits, number_fits, plain_memory_fits, pushed_fits, popped_fits, count_fits, move_fits, tested_fits, exchange_fits, and_both}

any_operand : (a : Arg) → IsOperand a → IsAnyArg a
any_operand Arg.Absent h = absurd h
any_operand (Arg.Reg r) h = tt
any_operand (Arg.Imm imm) h = h
any_operand (Arg.Mem mem) h = h
any_operand (Arg.Code atom) h = absurd h

absent_is : (a : Arg) → IsAbsent a → a ≡ Arg.Absent
absent_is Arg.Absent h = refl
absent_is (Arg.Reg r) h = absurd h
absent_is (Arg.Imm imm) h = absurd h
absent_is (Arg.Mem mem) h = absurd h
absent_is (Arg.Code atom) h = absurd h

-- an instruction whose canonical text is read as it
pub record IsBack (i : Insn) : Type 0 where
  pub read : instruction_of (said (insn_items i)) ≡ Some i
  pub a : IsAnyArg i.a
  pub b : IsAnyArg i.b
  pub c : IsAnyArg i.c

back_one : (op : Op) (width : Width) (a b c : Arg) → IsAbsent b → IsAbsent c → IsBack (insn op width a Arg.Absent Arg.Absent) → IsBack (insn op width a b c)
back_one op width a b c h k back =
    subst (λ d. IsBack (insn op width a d c)) (sym (absent_is b h)) (subst (λ d. IsBack (insn op width a Arg.Absent d)) (sym (absent_is c k)) back)

back_two : (op : Op) (width : Width) (a b c : Arg) → IsAbsent c → IsBack (insn op width a b Arg.Absent) → IsBack (insn op width a b c)
back_two op width a b c k back = subst (λ d. IsBack (insn op width a b d)) (sym (absent_is c k)) back

-- how an operation with plain operands is written and read
record IsPlainOp (op : Op) (width : Width) : Type 0 where
  words : mnemonic_items op width ≡ name (written_mnemonic op width) ∷ []
  star : star_items op ≡ []
  direct : is_direct (first_op op) ≡ false
  read : IsRead op width

abbrev hit : Op → Width → MnemonicHit
hit op width = record { op = first_op op; width = Some width }

plain_start : (op : Op) (width : Width) (rest : List Lexeme) → IsPlainOp op width → instruction_of (word (written_mnemonic op width) ∷ rest) ≡ plain_of (hit op width) rest
unfolding instruction_of word_of
plain_start op width rest h = rw (h.read.hit, h.direct) refl

plain_by : (op : Op) (width : Width) (rest : List Lexeme) (operands : Operands) → operands_of rest ≡ Some operands → plain_of (hit op width) rest ≡ read_by (first_op op) width operands
unfolding plain_of
plain_by op width rest operands e = rw e refl

said_words : (op : Op) (width : Width) (items : List Item) → IsPlainOp op width → said (mnemonic_items op width ++ items) ≡ word (written_mnemonic op width) ∷ said items
said_words op width items h = ap (λ l. said (l ++ items)) h.words

-- The lexemes of operands.

first_said : (op : Op) (width : Width) (a : Arg) (items : List Item) → IsOperand a → star_items op ≡ [] → said (first_items op width a ++ items) ≡ said (arg_items (first_width op width) a) ++ said items
first_said op width Arg.Absent items h e = absurd h
first_said op width (Arg.Reg r) items h e = ap (λ s. said ((s ++ arg_items (first_width op width) (Arg.Reg r)) ++ items)) e ∙ said-append (arg_items (first_width op width) (Arg.Reg r)) items
first_said op width (Arg.Imm imm) items h e = ap (λ s. said ((s ++ arg_items (first_width op width) (Arg.Imm imm)) ++ items)) e ∙ said-append (arg_items (first_width op width) (Arg.Imm imm)) items
first_said op width (Arg.Mem mem) items h e = ap (λ s. said ((s ++ arg_items (first_width op width) (Arg.Mem mem)) ++ items)) e ∙ said-append (arg_items (first_width op width) (Arg.Mem mem)) items
first_said op width (Arg.Code atom) items h e = absurd h

starred_said : (op : Op) (width : Width) (a : Arg) (items : List Item) → IsOperand a → star_items op ≡ sign 42 ∷ [] → said (first_items op width a ++ items) ≡ mark 42 ∷ (said (arg_items (first_width op width) a) ++ said items)
starred_said op width Arg.Absent items h e = absurd h
starred_said op width (Arg.Reg r) items h e = ap (λ s. said ((s ++ arg_items (first_width op width) (Arg.Reg r)) ++ items)) e ∙ ap (λ l. mark 42 ∷ l) (said-append (arg_items (first_width op width) (Arg.Reg r)) items)
starred_said op width (Arg.Imm imm) items h e = ap (λ s. said ((s ++ arg_items (first_width op width) (Arg.Imm imm)) ++ items)) e ∙ ap (λ l. mark 42 ∷ l) (said-append (arg_items (first_width op width) (Arg.Imm imm)) items)
starred_said op width (Arg.Mem mem) items h e = ap (λ s. said ((s ++ arg_items (first_width op width) (Arg.Mem mem)) ++ items)) e ∙ ap (λ l. mark 42 ∷ l) (said-append (arg_items (first_width op width) (Arg.Mem mem)) items)
starred_said op width (Arg.Code atom) items h e = absurd h

next_said : (width : Width) (a : Arg) (items : List Item) → IsOperand a → said (next_items width a ++ items) ≡ mark 44 ∷ (said (arg_items width a) ++ said items)
next_said width Arg.Absent items h = absurd h
next_said width (Arg.Reg r) items h = ap (λ l. mark 44 ∷ l) (said-append (arg_items width (Arg.Reg r)) items)
next_said width (Arg.Imm imm) items h = ap (λ l. mark 44 ∷ l) (said-append (arg_items width (Arg.Imm imm)) items)
next_said width (Arg.Mem mem) items h = ap (λ l. mark 44 ∷ l) (said-append (arg_items width (Arg.Mem mem)) items)
next_said width (Arg.Code atom) items h = absurd h

last_said : (width : Width) (a : Arg) → IsOperand a → said (next_items width a ++ []) ≡ mark 44 ∷ said (arg_items width a)
last_said width a h = next_said width a [] h ∙ ap (λ l. mark 44 ∷ l) (append-nil (said (arg_items width a)))

lexemes_none : (op : Op) (width : Width) → IsPlainOp op width → said (insn_items (insn op width Arg.Absent Arg.Absent Arg.Absent)) ≡ word (written_mnemonic op width) ∷ []
lexemes_none op width h = said_words op width [] h

lexemes_one : (op : Op) (width : Width) (a : Arg) → IsPlainOp op width → IsOperand a → said (insn_items (insn op width a Arg.Absent Arg.Absent)) ≡ word (written_mnemonic op width) ∷ said (arg_items (first_width op width) a)
lexemes_one op width a h k =
    said_words op width (first_items op width a ++ []) h
    ∙ ap (λ l. word (written_mnemonic op width) ∷ l) (first_said op width a [] k h.star ∙ append-nil (said (arg_items (first_width op width) a)))

lexemes_two : (op : Op) (width : Width) (a b : Arg) → IsPlainOp op width → IsOperand a → IsOperand b
    → said (insn_items (insn op width a b Arg.Absent)) ≡ word (written_mnemonic op width) ∷ (said (arg_items (first_width op width) a) ++ mark 44 ∷ said (arg_items width b))
lexemes_two op width a b h k m =
    said_words op width (first_items op width a ++ (next_items width b ++ [])) h
    ∙ ap (λ l. word (written_mnemonic op width) ∷ l) (first_said op width a (next_items width b ++ []) k h.star
    ∙ ap (λ l. said (arg_items (first_width op width) a) ++ l) (last_said width b m))

lexemes_three : (op : Op) (width : Width) (a b c : Arg) → IsPlainOp op width → IsOperand a → IsOperand b → IsOperand c
    → said (insn_items (insn op width a b c)) ≡ word (written_mnemonic op width) ∷ (said (arg_items (first_width op width) a) ++ mark 44 ∷ (said (arg_items width b) ++ mark 44 ∷ said (arg_items width c)))
lexemes_three op width a b c h k m n =
    said_words op width (first_items op width a ++ (next_items width b ++ next_items width c)) h
    ∙ ap (λ l. word (written_mnemonic op width) ∷ l) (first_said op width a (next_items width b ++ next_items width c) k h.star
    ∙ ap (λ l. said (arg_items (first_width op width) a) ++ l) (next_said width b (next_items width c) m
    ∙ ap (λ l. mark 44 ∷ (said (arg_items width b) ++ l)) (ap said (sym (append-nil (next_items width c))) ∙ last_said width c n)))

-- A law for each number of operands.

none_law : (op : Op) (width : Width) (a b c : Arg) → IsPlainOp op width → HasNone a b c → read_by (first_op op) width Operands.Nothing ≡ Some (insn op width Arg.Absent Arg.Absent Arg.Absent) → IsBack (insn op width a b c)
unfolding operands_of
none_law op width a b c h absent e =
    back_one op width a b c absent.1 absent.2
    (subst (λ d. IsBack (insn op width d Arg.Absent Arg.Absent)) (sym (absent_is a absent.0)) (record {
      read = ap instruction_of (lexemes_none op width h) ∙ plain_start op width [] h ∙ plain_by op width [] Operands.Nothing refl ∙ e;
      a = tt;
      b = tt;
      c = tt;
    }))

one_law : (op : Op) (width : Width) (a b c : Arg) → IsPlainOp op width → IsAbsent b → IsAbsent c → IsOperand a
    → read_by (first_op op) width (Operands.One (operand (first_width op width) a)) ≡ Some (insn op width a Arg.Absent Arg.Absent) → IsBack (insn op width a b c)
one_law op width a b c h kb kc k e =
    back_one op width a b c kb kc (record {
      read = ap instruction_of (lexemes_one op width a h k) ∙ plain_start op width _ h ∙ plain_by op width _ _ (one_read (first_width op width) a k) ∙ e;
      a = any_operand a k;
      b = tt;
      c = tt;
    })

two_law : (op : Op) (width : Width) (a b c : Arg) → IsPlainOp op width → IsAbsent c → IsOperand a → IsOperand b
    → read_by (first_op op) width (Operands.Two (operand (first_width op width) a) (operand width b)) ≡ Some (insn op width a b Arg.Absent) → IsBack (insn op width a b c)
two_law op width a b c h kc k m e =
    back_two op width a b c kc (record {
      read = ap instruction_of (lexemes_two op width a b h k m) ∙ plain_start op width _ h ∙ plain_by op width _ _ (two_read (first_width op width) width a b k m) ∙ e;
      a = any_operand a k;
      b = any_operand b m;
      c = tt;
    })

three_law : (op : Op) (width : Width) (a b c : Arg) → IsPlainOp op width → IsOperand a → IsOperand b → IsOperand c
    → read_by (first_op op) width (Operands.Three (operand (first_width op width) a) (operand width b) (operand width c)) ≡ Some (insn op width a b c) → IsBack (insn op width a b c)
three_law op width a b c h k m n e = record {
  read = ap instruction_of (lexemes_three op width a b c h k m n) ∙ plain_start op width _ h ∙ plain_by op width _ _ (three_read (first_width op width) width a b c k m n) ∙ e;
  a = any_operand a k;
  b = any_operand b m;
  c = any_operand c n;
}

-- An operation that has the width and the operands is read, and one that has not is passed over.

read_as_is : (op : Op) (width : Width) (operands : Operands) → has_width op width ≡ true → has_operands op width operands ≡ true → read_as op width operands ≡ Some (insn_of op width operands)
read_as_is op width operands h k = cond-true (has_width op width && has_operands op width operands) _ _ (and_both _ _ h k)

read_as_not : (op : Op) (width : Width) (operands : Operands) → has_operands op width operands ≡ false → read_as op width operands ≡ None
read_as_not op width operands h = cond-false (has_width op width && has_operands op width operands) _ _ (and_right _ _ h)

else_first : (o p : Option Insn) (i : Insn) → o ≡ Some i → or_else o p ≡ Some i
else_first o p i e = ap (λ x. or_else x p) e

else_last : (o p : Option Insn) (i : Insn) → o ≡ None → p ≡ Some i → or_else o p ≡ Some i
else_last o p i e k = ap (λ x. or_else x p) e ∙ k

one_is : (op : Op) (width : Width) (x a : Arg) → x ≡ a → Some (insn op width x Arg.Absent Arg.Absent) ≡ Some (insn op width a Arg.Absent Arg.Absent)
one_is op width x a e = ap (λ y. Some (insn op width y Arg.Absent Arg.Absent)) e

two_are : (op : Op) (width : Width) (x a y b : Arg) → x ≡ a → y ≡ b → Some (insn op width x y Arg.Absent) ≡ Some (insn op width a b Arg.Absent)
two_are op width x a y b e k = ap (λ z. Some (insn op width z y Arg.Absent)) e ∙ ap (λ z. Some (insn op width a z Arg.Absent)) k

three_are : (op : Op) (width : Width) (x a y b z c : Arg) → x ≡ a → y ≡ b → z ≡ c → Some (insn op width x y z) ≡ Some (insn op width a b c)
three_are op width x a y b z c e k m = ap (λ v. Some (insn op width v y z)) e ∙ ap (λ v. Some (insn op width a v z)) k ∙ ap (λ v. Some (insn op width a b v)) m

-- Jumps and calls.

code_read : (op : Op) (bytes : List ℕ) (spec : Option (List ℕ)) → IsAtom (record { name = bytes; spec = spec; offset = pos 0 })
    → target_of op (word bytes ∷ (said (spec_items spec) ++ [])) ≡ Some (insn op Q (Arg.Code (record { name = bytes; spec = spec; offset = pos 0 })) Arg.Absent Arg.Absent)
unfolding target_of expect
code_read op bytes spec h = rw (symbol_read bytes spec [] h.name refl) refl

direct_start : (op : Op) (bytes : List ℕ) (rest : List Lexeme) → IsRead op Q → is_direct (first_op op) ≡ true → instruction_of (word (written_mnemonic op Q) ∷ word bytes ∷ rest) ≡ target_of (first_op op) (word bytes ∷ rest)
unfolding instruction_of word_of jump_of expect
direct_start op bytes rest h k = rw (h.hit, k) refl

record IsDirectOp (op : Op) : Type 0 where
  words : mnemonic_items op Q ≡ name (written_mnemonic op Q) ∷ []
  star : star_items op ≡ []
  direct : is_direct (first_op op) ≡ true
  itself : first_op op ≡ op
  read : IsRead op Q

direct_said : (op : Op) (bytes : List ℕ) (spec : Option (List ℕ)) → IsDirectOp op
    → said (insn_items (insn op Q (Arg.Code (record { name = bytes; spec = spec; offset = pos 0 })) Arg.Absent Arg.Absent)) ≡ word (written_mnemonic op Q) ∷ word bytes ∷ (said (spec_items spec) ++ [])
direct_said op bytes spec h =
    ap (λ l. said (l ++ ((gap ∷ (star_items op ++ (name bytes ∷ (spec_items spec ++ [])))) ++ []))) h.words
    ∙ ap (λ s. word (written_mnemonic op Q) ∷ said ((s ++ (name bytes ∷ (spec_items spec ++ []))) ++ [])) h.star
    ∙ ap (λ l. word (written_mnemonic op Q) ∷ word bytes ∷ said l) (append-nil (spec_items spec ++ []))
    ∙ ap (λ l. word (written_mnemonic op Q) ∷ word bytes ∷ l) (said-append (spec_items spec) [])

direct_at : (op : Op) (bytes : List ℕ) (spec : Option (List ℕ)) → IsDirectOp op → IsAtom (record { name = bytes; spec = spec; offset = pos 0 })
    → IsBack (insn op Q (Arg.Code (record { name = bytes; spec = spec; offset = pos 0 })) Arg.Absent Arg.Absent)
direct_at op bytes spec h k = record {
  read = ap instruction_of (direct_said op bytes spec h) ∙ direct_start op bytes _ h.read h.direct ∙ ap (λ o. target_of o (word bytes ∷ (said (spec_items spec) ++ []))) h.itself ∙ code_read op bytes spec k;
  a = k;
  b = tt;
  c = tt;
}

code_law : (op : Op) (a b c : Arg) → IsDirectOp op → HasOne IsCode a b c → IsBack (insn op Q a b c)
code_law op Arg.Absent b c h k = absurd k.0
code_law op (Arg.Reg r) b c h k = absurd k.0
code_law op (Arg.Imm imm) b c h k = absurd k.0
code_law op (Arg.Mem mem) b c h k = absurd k.0
code_law op (Arg.Code atom) b c h k =
    back_one op Q (Arg.Code atom) b c k.1 k.2
    (subst (λ o. IsAtom (record { name = atom.name; spec = atom.spec; offset = o }) → IsBack (insn op Q (Arg.Code (record { name = atom.name; spec = atom.spec; offset = o })) Arg.Absent Arg.Absent))
    (sym k.0.1) (direct_at op atom.name atom.spec h) k.0.0)

starred_read : (op : Op) (a : Arg) → Fits Q Q a (is_place Q) → read_as op Q (Operands.One (operand Q a)) ≡ Some (insn op Q a Arg.Absent Arg.Absent) → starred_of op (said (arg_items Q a)) ≡ Some (insn op Q a Arg.Absent Arg.Absent)
unfolding starred_of
starred_read op a fits e = rw (alone_read Q a fits.is) e

star_lexemes : (op : Op) (a : Arg) → first_width op Q ≡ Q → star_items op ≡ sign 42 ∷ [] → IsOperand a → said (first_items op Q a ++ []) ≡ mark 42 ∷ said (arg_items Q a)
star_lexemes op a w e h =
    starred_said op Q a [] h e ∙ ap (λ v. mark 42 ∷ (said (arg_items v a) ++ [])) w ∙ ap (λ l. mark 42 ∷ l) (append-nil (said (arg_items Q a)))

jmp_star : star_op (written_mnemonic Op.JmpStar Q) ≡ Some Op.JmpStar
unfolding written_mnemonic
jmp_star = refl

call_star : star_op (written_mnemonic Op.CallStar Q) ≡ Some Op.CallStar
unfolding written_mnemonic
call_star = refl

star_start : (op : Op) (rest : List Lexeme) → IsRead op Q → is_direct (first_op op) ≡ true → star_op (written_mnemonic op Q) ≡ Some op → (i : Insn) → starred_of op rest ≡ Some i → instruction_of (word (written_mnemonic op Q) ∷ mark 42 ∷ rest) ≡ Some i
unfolding instruction_of word_of jump_of expect
star_start op rest h k s i e = rw (h.hit, k, s, e) refl

record IsStarOp (op : Op) : Type 0 where
  words : mnemonic_items op Q ≡ name (written_mnemonic op Q) ∷ []
  width : first_width op Q ≡ Q
  star : star_items op ≡ sign 42 ∷ []
  direct : is_direct (first_op op) ≡ true
  starred : star_op (written_mnemonic op Q) ≡ Some op
  read : IsRead op Q

star_law : (op : Op) (a b c : Arg) → IsStarOp op → HasOne IsRegMem a b c → read_as op Q (Operands.One (operand Q a)) ≡ Some (insn op Q a Arg.Absent Arg.Absent) → IsBack (insn op Q a b c)
star_law op a b c h k e =
    let fits = place_fits Q Q a k.0 in
    back_one op Q a b c k.1 k.2 (record {
      read = ap (λ l. instruction_of (said (l ++ (first_items op Q a ++ [])))) h.words
          ∙ ap (λ l. instruction_of (word (written_mnemonic op Q) ∷ l)) (star_lexemes op a h.width h.star fits.is)
          ∙ star_start op _ h.read h.direct h.starred _ (starred_read op a fits e);
      a = any_operand a fits.is;
      b = tt;
      c = tt;
    })

notrack_start : (rest : List Lexeme) → instruction_of (word (codes "notrack") ∷ word (codes "jmp") ∷ mark 42 ∷ rest) ≡ starred_of Op.JmpStarNotrack rest
unfolding instruction_of word_of hit_of lettered_hit op_named prefixed_of notrack_of this_word expect
notrack_start rest = refl

notrack_law : (a b c : Arg) → HasOne IsRegMem a b c → read_as Op.JmpStarNotrack Q (Operands.One (operand Q a)) ≡ Some (insn Op.JmpStarNotrack Q a Arg.Absent Arg.Absent) → IsBack (insn Op.JmpStarNotrack Q a b c)
notrack_law a b c k e =
    let fits = place_fits Q Q a k.0 in
    back_one Op.JmpStarNotrack Q a b c k.1 k.2 (record {
      read = ap (λ l. instruction_of (word (codes "notrack") ∷ word (codes "jmp") ∷ l)) (star_lexemes Op.JmpStarNotrack a refl refl fits.is) ∙ notrack_start _ ∙ starred_read Op.JmpStarNotrack a fits e;
      a = any_operand a fits.is;
      b = tt;
      c = tt;
    })

rep_ret_read : instruction_of (word (codes "rep") ∷ word (codes "ret") ∷ []) ≡ Some (insn Op.RepRet Q Arg.Absent Arg.Absent Arg.Absent)
unfolding instruction_of word_of hit_of lettered_hit op_named prefixed_of rep_of this_word
rep_ret_read = refl

rep_ret_law : (a b c : Arg) → HasNone a b c → IsBack (insn Op.RepRet Q a b c)
rep_ret_law a b c h =
    back_one Op.RepRet Q a b c h.1 h.2 (subst (λ d. IsBack (insn Op.RepRet Q d Arg.Absent Arg.Absent)) (sym (absent_is a h.0)) (record { read = rep_ret_read; a = tt; b = tt; c = tt }))

-- Each operation.

pub is_back : (op : Op) (width : Width) (a b c : Arg) → has_width op width ≡ true → HasOperands op width a b c → IsBack (insn op width a b c)
is_back Op.Mov width a b c h k = let f = move_fits width a b k.0 in two_law Op.Mov width a b c (record { words = refl; star = refl; direct = refl; read = mnemonic_read Op.Mov width h tt }) k.1 f.a_is f.b_is (else_first _ _ _ (read_as_is Op.Mov width (Operands.Two _ _) h f.passes ∙ two_are Op.Mov width _ a _ b f.a_back f.b_back))
is_back Op.Movabs B a b c h k = absurd (false≢true h)
is_back Op.Movabs W a b c h k = absurd (false≢true h)
is_back Op.Movabs L a b c h k = absurd (false≢true h)
is_back Op.Movabs Q a b c h k = let f = number_fits a k.0.0 in let g = reg_fits Q Q b k.0.1 in two_law Op.Movabs Q a b c (record { words = refl; star = refl; direct = refl; read = mnemonic_read Op.Movabs Q h tt }) k.1 f.is g.is (read_as_is Op.Movabs Q (Operands.Two _ _) h (and_both _ _ f.passes g.passes) ∙ two_are Op.Movabs Q _ a _ b f.back g.back)
is_back (Op.Movz source) width a b c h k = let f = place_fits width source a k.0.0 in let g = reg_fits width width b k.0.1 in two_law (Op.Movz source) width a b c (record { words = refl; star = refl; direct = refl; read = mnemonic_read (Op.Movz source) width h tt }) k.1 f.is g.is (read_as_is (Op.Movz source) width (Operands.Two _ _) h (and_both _ _ f.passes g.passes) ∙ two_are (Op.Movz source) width _ a _ b f.back g.back)
is_back (Op.Movs source) width a b c h k = let f = place_fits width source a k.0.0 in let g = reg_fits width width b k.0.1 in two_law (Op.Movs source) width a b c (record { words = refl; star = refl; direct = refl; read = mnemonic_read (Op.Movs source) width h tt }) k.1 f.is g.is (read_as_is (Op.Movs source) width (Operands.Two _ _) h (and_both _ _ f.passes g.passes) ∙ two_are (Op.Movs source) width _ a _ b f.back g.back)
is_back Op.Lea width a b c h k = let f = plain_memory_fits width width a k.0.0 in let g = reg_fits width width b k.0.1 in two_law Op.Lea width a b c (record { words = refl; star = refl; direct = refl; read = mnemonic_read Op.Lea width h tt }) k.1 f.is g.is (read_as_is Op.Lea width (Operands.Two _ _) h (and_both _ _ f.passes g.passes) ∙ two_are Op.Lea width _ a _ b f.back g.back)
is_back Op.Push B a b c h k = absurd (false≢true h)
is_back Op.Push W a b c h k = absurd (false≢true h)
is_back Op.Push L a b c h k = absurd (false≢true h)
is_back Op.Push Q a b c h k = let f = pushed_fits a k.0 in one_law Op.Push Q a b c (record { words = refl; star = refl; direct = refl; read = mnemonic_read Op.Push Q h tt }) k.1 k.2 f.is (read_as_is Op.Push Q (Operands.One _) h f.passes ∙ one_is Op.Push Q _ a f.back)
is_back Op.Pop B a b c h k = absurd (false≢true h)
is_back Op.Pop W a b c h k = absurd (false≢true h)
is_back Op.Pop L a b c h k = absurd (false≢true h)
is_back Op.Pop Q a b c h k = let f = popped_fits a k.0 in one_law Op.Pop Q a b c (record { words = refl; star = refl; direct = refl; read = mnemonic_read Op.Pop Q h tt }) k.1 k.2 f.is (read_as_is Op.Pop Q (Operands.One _) h f.passes ∙ one_is Op.Pop Q _ a f.back)
is_back Op.Leave width a b c h k = none_law Op.Leave width a b c (record { words = refl; star = refl; direct = refl; read = mnemonic_read Op.Leave width h tt }) k (read_as_is Op.Leave width Operands.Nothing h refl)
is_back Op.Xchg width a b c h k = let f = exchange_fits width a b k.0 in two_law Op.Xchg width a b c (record { words = refl; star = refl; direct = refl; read = mnemonic_read Op.Xchg width h tt }) k.1 f.a_is f.b_is (read_as_is Op.Xchg width (Operands.Two _ _) h f.passes ∙ two_are Op.Xchg width _ a _ b f.a_back f.b_back)
is_back Op.Bswap width a b c h k = let f = reg_fits width width a k.0 in one_law Op.Bswap width a b c (record { words = refl; star = refl; direct = refl; read = mnemonic_read Op.Bswap width h tt }) k.1 k.2 f.is (read_as_is Op.Bswap width (Operands.One _) h f.passes ∙ one_is Op.Bswap width _ a f.back)
is_back Op.Not width a b c h k = let f = place_fits width width a k.0 in one_law Op.Not width a b c (record { words = refl; star = refl; direct = refl; read = mnemonic_read Op.Not width h tt }) k.1 k.2 f.is (read_as_is Op.Not width (Operands.One _) h f.passes ∙ one_is Op.Not width _ a f.back)
is_back Op.Neg width a b c h k = let f = place_fits width width a k.0 in one_law Op.Neg width a b c (record { words = refl; star = refl; direct = refl; read = mnemonic_read Op.Neg width h tt }) k.1 k.2 f.is (read_as_is Op.Neg width (Operands.One _) h f.passes ∙ one_is Op.Neg width _ a f.back)
is_back Op.Inc width a b c h k = let f = place_fits width width a k.0 in one_law Op.Inc width a b c (record { words = refl; star = refl; direct = refl; read = mnemonic_read Op.Inc width h tt }) k.1 k.2 f.is (read_as_is Op.Inc width (Operands.One _) h f.passes ∙ one_is Op.Inc width _ a f.back)
is_back Op.Dec width a b c h k = let f = place_fits width width a k.0 in one_law Op.Dec width a b c (record { words = refl; star = refl; direct = refl; read = mnemonic_read Op.Dec width h tt }) k.1 k.2 f.is (read_as_is Op.Dec width (Operands.One _) h f.passes ∙ one_is Op.Dec width _ a f.back)
is_back Op.Add width a b c h k = let f = move_fits width a b k.0 in two_law Op.Add width a b c (record { words = refl; star = refl; direct = refl; read = mnemonic_read Op.Add width h tt }) k.1 f.a_is f.b_is (read_as_is Op.Add width (Operands.Two _ _) h f.passes ∙ two_are Op.Add width _ a _ b f.a_back f.b_back)
is_back Op.Adc width a b c h k = let f = move_fits width a b k.0 in two_law Op.Adc width a b c (record { words = refl; star = refl; direct = refl; read = mnemonic_read Op.Adc width h tt }) k.1 f.a_is f.b_is (read_as_is Op.Adc width (Operands.Two _ _) h f.passes ∙ two_are Op.Adc width _ a _ b f.a_back f.b_back)
is_back Op.Sub width a b c h k = let f = move_fits width a b k.0 in two_law Op.Sub width a b c (record { words = refl; star = refl; direct = refl; read = mnemonic_read Op.Sub width h tt }) k.1 f.a_is f.b_is (read_as_is Op.Sub width (Operands.Two _ _) h f.passes ∙ two_are Op.Sub width _ a _ b f.a_back f.b_back)
is_back Op.Sbb width a b c h k = let f = move_fits width a b k.0 in two_law Op.Sbb width a b c (record { words = refl; star = refl; direct = refl; read = mnemonic_read Op.Sbb width h tt }) k.1 f.a_is f.b_is (read_as_is Op.Sbb width (Operands.Two _ _) h f.passes ∙ two_are Op.Sbb width _ a _ b f.a_back f.b_back)
is_back Op.Cmp width a b c h k = let f = move_fits width a b k.0 in two_law Op.Cmp width a b c (record { words = refl; star = refl; direct = refl; read = mnemonic_read Op.Cmp width h tt }) k.1 f.a_is f.b_is (read_as_is Op.Cmp width (Operands.Two _ _) h f.passes ∙ two_are Op.Cmp width _ a _ b f.a_back f.b_back)
is_back Op.And width a b c h k = let f = move_fits width a b k.0 in two_law Op.And width a b c (record { words = refl; star = refl; direct = refl; read = mnemonic_read Op.And width h tt }) k.1 f.a_is f.b_is (read_as_is Op.And width (Operands.Two _ _) h f.passes ∙ two_are Op.And width _ a _ b f.a_back f.b_back)
is_back Op.Or width a b c h k = let f = move_fits width a b k.0 in two_law Op.Or width a b c (record { words = refl; star = refl; direct = refl; read = mnemonic_read Op.Or width h tt }) k.1 f.a_is f.b_is (read_as_is Op.Or width (Operands.Two _ _) h f.passes ∙ two_are Op.Or width _ a _ b f.a_back f.b_back)
is_back Op.Xor width a b c h k = let f = move_fits width a b k.0 in two_law Op.Xor width a b c (record { words = refl; star = refl; direct = refl; read = mnemonic_read Op.Xor width h tt }) k.1 f.a_is f.b_is (read_as_is Op.Xor width (Operands.Two _ _) h f.passes ∙ two_are Op.Xor width _ a _ b f.a_back f.b_back)
is_back Op.Test width a b c h k = let f = tested_fits width a b k.0 in two_law Op.Test width a b c (record { words = refl; star = refl; direct = refl; read = mnemonic_read Op.Test width h tt }) k.1 f.a_is f.b_is (read_as_is Op.Test width (Operands.Two _ _) h f.passes ∙ two_are Op.Test width _ a _ b f.a_back f.b_back)
is_back Op.Shl width a b c h k = let f = count_fits width a h k.0.0 in let g = place_fits width width b k.0.1 in two_law Op.Shl width a b c (record { words = refl; star = refl; direct = refl; read = mnemonic_read Op.Shl width h tt }) k.1 f.is g.is (read_as_is Op.Shl width (Operands.Two _ _) h (and_both _ _ f.passes g.passes) ∙ two_are Op.Shl width _ a _ b f.back g.back)
is_back Op.Shr width a b c h k = let f = count_fits width a h k.0.0 in let g = place_fits width width b k.0.1 in two_law Op.Shr width a b c (record { words = refl; star = refl; direct = refl; read = mnemonic_read Op.Shr width h tt }) k.1 f.is g.is (read_as_is Op.Shr width (Operands.Two _ _) h (and_both _ _ f.passes g.passes) ∙ two_are Op.Shr width _ a _ b f.back g.back)
is_back Op.Sar width a b c h k = let f = count_fits width a h k.0.0 in let g = place_fits width width b k.0.1 in two_law Op.Sar width a b c (record { words = refl; star = refl; direct = refl; read = mnemonic_read Op.Sar width h tt }) k.1 f.is g.is (read_as_is Op.Sar width (Operands.Two _ _) h (and_both _ _ f.passes g.passes) ∙ two_are Op.Sar width _ a _ b f.back g.back)
is_back Op.Imul1 width a b c h k = let f = place_fits width width a k.0 in one_law Op.Imul1 width a b c (record { words = refl; star = refl; direct = refl; read = mnemonic_read Op.Imul1 width h tt }) k.1 k.2 f.is (else_first _ _ _ (read_as_is Op.Imul1 width (Operands.One _) h f.passes ∙ one_is Op.Imul1 width _ a f.back))
is_back Op.Mul width a b c h k = let f = place_fits width width a k.0 in one_law Op.Mul width a b c (record { words = refl; star = refl; direct = refl; read = mnemonic_read Op.Mul width h tt }) k.1 k.2 f.is (read_as_is Op.Mul width (Operands.One _) h f.passes ∙ one_is Op.Mul width _ a f.back)
is_back Op.Div width a b c h k = let f = place_fits width width a k.0 in one_law Op.Div width a b c (record { words = refl; star = refl; direct = refl; read = mnemonic_read Op.Div width h tt }) k.1 k.2 f.is (read_as_is Op.Div width (Operands.One _) h f.passes ∙ one_is Op.Div width _ a f.back)
is_back Op.Idiv width a b c h k = let f = place_fits width width a k.0 in one_law Op.Idiv width a b c (record { words = refl; star = refl; direct = refl; read = mnemonic_read Op.Idiv width h tt }) k.1 k.2 f.is (read_as_is Op.Idiv width (Operands.One _) h f.passes ∙ one_is Op.Idiv width _ a f.back)
is_back Op.Imul2 width a b c h k = let f = place_fits width width a k.0.0 in let g = reg_fits width width b k.0.1 in two_law Op.Imul2 width a b c (record { words = refl; star = refl; direct = refl; read = mnemonic_read Op.Imul2 width h tt }) k.1 f.is g.is (else_last _ _ _ (read_as_not Op.Imul1 width (Operands.Two _ _) refl) (else_first _ _ _ (read_as_is Op.Imul2 width (Operands.Two _ _) h (and_both _ _ f.passes g.passes) ∙ two_are Op.Imul2 width _ a _ b f.back g.back)))
is_back Op.Imul3 width a b c h k = let f = immediate_fits width a k.0 in let g = place_fits width width b k.1 in let e = reg_fits width width c k.2 in
    three_law Op.Imul3 width a b c (record { words = refl; star = refl; direct = refl; read = mnemonic_read Op.Imul3 width h tt }) f.is g.is e.is
    (else_last _ _ _ (read_as_not Op.Imul1 width (Operands.Three _ _ _) refl) (else_last _ _ _ (read_as_not Op.Imul2 width (Operands.Three _ _ _) refl)
    (read_as_is Op.Imul3 width (Operands.Three _ _ _) h (and_both _ _ (and_both _ _ f.passes g.passes) e.passes) ∙ three_are Op.Imul3 width _ a _ b _ c f.back g.back e.back)))
is_back (Op.Setcc cond) width a b c h k = let f = place_fits width width a k.0 in one_law (Op.Setcc cond) width a b c (record { words = refl; star = refl; direct = refl; read = mnemonic_read (Op.Setcc cond) width h tt }) k.1 k.2 f.is (read_as_is (Op.Setcc cond) width (Operands.One _) h f.passes ∙ one_is (Op.Setcc cond) width _ a f.back)
is_back (Op.Cmov cond) width a b c h k = let f = place_fits width width a k.0.0 in let g = reg_fits width width b k.0.1 in two_law (Op.Cmov cond) width a b c (record { words = refl; star = refl; direct = refl; read = mnemonic_read (Op.Cmov cond) width h tt }) k.1 f.is g.is (read_as_is (Op.Cmov cond) width (Operands.Two _ _) h (and_both _ _ f.passes g.passes) ∙ two_are (Op.Cmov cond) width _ a _ b f.back g.back)
is_back Op.Cwtl width a b c h k = none_law Op.Cwtl width a b c (record { words = refl; star = refl; direct = refl; read = mnemonic_read Op.Cwtl width h tt }) k (read_as_is Op.Cwtl width Operands.Nothing h refl)
is_back Op.Cltq width a b c h k = none_law Op.Cltq width a b c (record { words = refl; star = refl; direct = refl; read = mnemonic_read Op.Cltq width h tt }) k (read_as_is Op.Cltq width Operands.Nothing h refl)
is_back Op.Cltd width a b c h k = none_law Op.Cltd width a b c (record { words = refl; star = refl; direct = refl; read = mnemonic_read Op.Cltd width h tt }) k (read_as_is Op.Cltd width Operands.Nothing h refl)
is_back Op.Cqto width a b c h k = none_law Op.Cqto width a b c (record { words = refl; star = refl; direct = refl; read = mnemonic_read Op.Cqto width h tt }) k (read_as_is Op.Cqto width Operands.Nothing h refl)
is_back Op.Jmp B a b c h k = absurd (false≢true h)
is_back Op.Jmp W a b c h k = absurd (false≢true h)
is_back Op.Jmp L a b c h k = absurd (false≢true h)
is_back Op.Jmp Q a b c h k = code_law Op.Jmp a b c (record { words = refl; star = refl; direct = refl; itself = refl; read = mnemonic_read Op.Jmp Q h tt }) k
is_back (Op.Jcc cond) B a b c h k = absurd (false≢true h)
is_back (Op.Jcc cond) W a b c h k = absurd (false≢true h)
is_back (Op.Jcc cond) L a b c h k = absurd (false≢true h)
is_back (Op.Jcc cond) Q a b c h k = code_law (Op.Jcc cond) a b c (record { words = refl; star = refl; direct = refl; itself = refl; read = mnemonic_read (Op.Jcc cond) Q h tt }) k
is_back Op.JmpStar B a b c h k = absurd (false≢true h)
is_back Op.JmpStar W a b c h k = absurd (false≢true h)
is_back Op.JmpStar L a b c h k = absurd (false≢true h)
is_back Op.JmpStar Q a b c h k = let f = place_fits Q Q a k.0 in star_law Op.JmpStar a b c (record { words = refl; width = refl; star = refl; direct = refl; starred = jmp_star; read = mnemonic_read Op.JmpStar Q h tt }) k (read_as_is Op.JmpStar Q (Operands.One _) h f.passes ∙ one_is Op.JmpStar Q _ a f.back)
is_back Op.JmpStarNotrack B a b c h k = absurd (false≢true h)
is_back Op.JmpStarNotrack W a b c h k = absurd (false≢true h)
is_back Op.JmpStarNotrack L a b c h k = absurd (false≢true h)
is_back Op.JmpStarNotrack Q a b c h k = let f = place_fits Q Q a k.0 in notrack_law a b c k (read_as_is Op.JmpStarNotrack Q (Operands.One _) h f.passes ∙ one_is Op.JmpStarNotrack Q _ a f.back)
is_back Op.Call B a b c h k = absurd (false≢true h)
is_back Op.Call W a b c h k = absurd (false≢true h)
is_back Op.Call L a b c h k = absurd (false≢true h)
is_back Op.Call Q a b c h k = code_law Op.Call a b c (record { words = refl; star = refl; direct = refl; itself = refl; read = mnemonic_read Op.Call Q h tt }) k
is_back Op.CallStar B a b c h k = absurd (false≢true h)
is_back Op.CallStar W a b c h k = absurd (false≢true h)
is_back Op.CallStar L a b c h k = absurd (false≢true h)
is_back Op.CallStar Q a b c h k = let f = place_fits Q Q a k.0 in star_law Op.CallStar a b c (record { words = refl; width = refl; star = refl; direct = refl; starred = call_star; read = mnemonic_read Op.CallStar Q h tt }) k (read_as_is Op.CallStar Q (Operands.One _) h f.passes ∙ one_is Op.CallStar Q _ a f.back)
is_back Op.Ret width a b c h k = none_law Op.Ret width a b c (record { words = refl; star = refl; direct = refl; read = mnemonic_read Op.Ret width h tt }) k (read_as_is Op.Ret width Operands.Nothing h refl)
is_back Op.RepRet B a b c h k = absurd (false≢true h)
is_back Op.RepRet W a b c h k = absurd (false≢true h)
is_back Op.RepRet L a b c h k = absurd (false≢true h)
is_back Op.RepRet Q a b c h k = rep_ret_law a b c k
is_back Op.Nop width a b c h k = none_law Op.Nop width a b c (record { words = refl; star = refl; direct = refl; read = mnemonic_read Op.Nop width h tt }) k (read_as_is Op.Nop width Operands.Nothing h refl)
is_back Op.Endbr64 width a b c h k = none_law Op.Endbr64 width a b c (record { words = refl; star = refl; direct = refl; read = mnemonic_read Op.Endbr64 width h tt }) k (read_as_is Op.Endbr64 width Operands.Nothing h refl)
is_back Op.Ud2 width a b c h k = none_law Op.Ud2 width a b c (record { words = refl; star = refl; direct = refl; read = mnemonic_read Op.Ud2 width h tt }) k (read_as_is Op.Ud2 width Operands.Nothing h refl)
