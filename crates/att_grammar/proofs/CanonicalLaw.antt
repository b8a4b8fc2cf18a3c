-- A piece of canonical text is the instruction or the alignment that it was made of.
use Rattle.std.proofs.Common.{◌≡◌, ℕ, ◌^◌, ◌≤◌, Bool, true, false, List, [], ◌∷◌, ◌++◌, Option, Some, None, refl, ap, sym, ◌∙◌, subst, arith, append-nil, drop, ⊎_elim}
use Rattle.std.specs.Prelude.{⊤, not, ◌&&◌, IsTrue, ◌==◌, slice_index, codes, bytes_eq, if◌then◌else◌}
use Rattle.std.proofs.lemmas.Bool.{cond-false, lt-ltb, le-leb, eqb-true, cases_Bool}
use Rattle.insn_ir.specs.declared.op.Op.{Op}
use Rattle.insn_ir.specs.declared.op.Width.{Width}
use Rattle.insn_ir.specs.declared.insn.Arg.{Arg}
use Rattle.insn_ir.specs.declared.insn.Insn.{Insn}
use Rattle.insn_ir.specs.declared.entry.DirectiveKind.{DirectiveKind}
use Rattle.insn_ir.specs.declared.entry.EntryKind.{EntryKind}
use Rattle.insn_ir.specs.declared.mnemonics.MnemonicHit.{MnemonicHit}
use Rattle.insn_ir.specs.Mnemonics.{has_width, written_mnemonic, hit_of}
use Rattle.insn_ir.specs.Profile.{IsInstruction}
use Rattle.att_lexer.specs.Bytes.{is_digit, is_letter, is_symbol_byte, is_symbol_start}
use Rattle.att_lexer.specs.Tokens.{tokens_of, is_first_label}
use Rattle.att_lexer.specs.declared.token.Token.{Token}
use Rattle.att_grammar.specs.Lexemes.{Lexeme, word, number, text, mark, odd, says_all, lexemes_of}
use Rattle.att_grammar.specs.Spelling.{Item, gap, name, digits, sign, render, said, IsApart, IsWellSpelled}
use Rattle.att_grammar.specs.Notions.{expect, word_of, number_of, this_word}
use Rattle.att_grammar.specs.Expressions.{name_of, symbol_of, term_of, sign_of, terms_behind, expression_of}
use Rattle.att_grammar.specs.Operands.{register_of, paren_of, displacement_of, place_of, address_behind, segment_of, address_of, immediate_of, operand_of, operands_of}
use Rattle.att_grammar.specs.Instructions.{plain_of, target_of, jump_of, notrack_of, rep_of, prefixed_of, behind, is_direct, instruction_of}
use Rattle.att_grammar.specs.Directives.{is_assignment, directive_of, named_of, bound_of, placed_of, filled_of, aligned_of, padding_of, max_of, fill_of, IsBelow}
use Rattle.att_grammar.specs.Entries.{statement_of, unlabelled, kind_of_piece}
use Rattle.att_grammar.specs.Canonical.{first_items, next_items, mnemonic_items, insn_items, insn_text, padding_items, align_items, align_text, line_of}
use Rattle.att_grammar.proofs.Spelled.{text_no_label, spelling_read, line_no_label, line_read}
use Rattle.att_grammar.proofs.CanonicalSpelling.{IsAnyArg, symbol_from, is_symbol, well_first, apart_first, well_next, apart_next, well_align}
use Rattle.att_grammar.proofs.CanonicalMnemonics.{IsRead, mnemonic_read}
use Rattle.att_grammar.proofs.CanonicalInsns.{IsBack, is_back}

-- The whole instruction is spelled well, and begins with a word.

last_apart : (width : Width) (a : Arg) → IsApart (next_items width a)
last_apart width a = subst IsApart (append-nil (next_items width a)) (apart_next width a [] tt)

last_well : (width : Width) (a : Arg) → IsAnyArg a → IsWellSpelled (next_items width a)
last_well width a h = subst IsWellSpelled (append-nil (next_items width a)) (well_next width a [] h tt tt)

abbrev pub operands : Op → Width → Arg → Arg → Arg → List Item
operands op width a b c = first_items op width a ++ (next_items width b ++ next_items width c)

operands_apart : (op : Op) (width : Width) (a b c : Arg) → IsApart (operands op width a b c)
operands_apart op width a b c = apart_first op width a _ (apart_next width b _ (last_apart width c))

operands_well : (op : Op) (width : Width) (a b c : Arg) → IsAnyArg a → IsAnyArg b → IsAnyArg c → IsWellSpelled (operands op width a b c)
operands_well op width a b c h k m =
    well_first op width a _ h (apart_next width b _ (last_apart width c)) (well_next width b _ k (last_apart width c) (last_well width c m))

-- what stands behind the first word: nothing, a blank, or a mark other than `:`
abbrev pub Leads : List Item → Type 0
Leads [] = ⊤
Leads (gap ∷ items) = ⊤
Leads (sign b ∷ items) = IsTrue (not (is_symbol_byte b) && not (b == 58))
Leads (name bytes ∷ items) = ⊥
Leads (digits n ∷ items) = ⊥

-- the first word of a mnemonic, which is no name of a directive, and what follows it
pub record Begins (op : Op) (width : Width) : Type 0 where
  pub bytes : List ℕ
  pub more : List Item
  pub is : mnemonic_items op width ≡ name bytes ∷ more
  pub symbol : is_symbol bytes ≡ true
  pub plain : (slice_index bytes 0 == 46) ≡ false
  pub well : (rest : List Item) → IsApart rest → IsWellSpelled rest → IsWellSpelled (more ++ rest)
  pub apart : (rest : List Item) → IsApart rest → IsApart (more ++ rest)
  pub leads : (rest : List Item) → Leads rest → Leads (more ++ rest)

one_word : (op : Op) (width : Width) → mnemonic_items op width ≡ name (written_mnemonic op width) ∷ [] → IsRead op width → Begins op width
one_word op width e h = record { bytes = written_mnemonic op width; more = []; is = e; symbol = h.symbol; plain = h.plain; well = λ rest a w. w; apart = λ rest a. a; leads = λ rest a. a }

two_words : (op : Op) (width : Width) (front last : List ℕ) → mnemonic_items op width ≡ name front ∷ gap ∷ name last ∷ [] → is_symbol front ≡ true → (slice_index front 0 == 46) ≡ false → is_symbol last ≡ true → Begins op width
two_words op width front last e h p k = record { bytes = front; more = gap ∷ name last ∷ []; is = e; symbol = h; plain = p; well = λ rest a w. (symbol_from last k, a, w); apart = λ rest a. tt; leads = λ rest a. tt }

pub begins : (op : Op) (width : Width) → has_width op width ≡ true → Begins op width
unfolding is_digit is_letter is_symbol_byte is_symbol_start
begins Op.Mov width h = one_word Op.Mov width refl (mnemonic_read Op.Mov width h tt)
begins Op.Movabs width h = one_word Op.Movabs width refl (mnemonic_read Op.Movabs width h tt)
begins (Op.Movz source) width h = one_word (Op.Movz source) width refl (mnemonic_read (Op.Movz source) width h tt)
begins (Op.Movs source) width h = one_word (Op.Movs source) width refl (mnemonic_read (Op.Movs source) width h tt)
begins Op.Lea width h = one_word Op.Lea width refl (mnemonic_read Op.Lea width h tt)
begins Op.Push width h = one_word Op.Push width refl (mnemonic_read Op.Push width h tt)
begins Op.Pop width h = one_word Op.Pop width refl (mnemonic_read Op.Pop width h tt)
begins Op.Leave width h = one_word Op.Leave width refl (mnemonic_read Op.Leave width h tt)
begins Op.Xchg width h = one_word Op.Xchg width refl (mnemonic_read Op.Xchg width h tt)
begins Op.Bswap width h = one_word Op.Bswap width refl (mnemonic_read Op.Bswap width h tt)
begins Op.Not width h = one_word Op.Not width refl (mnemonic_read Op.Not width h tt)
begins Op.Neg width h = one_word Op.Neg width refl (mnemonic_read Op.Neg width h tt)
begins Op.Inc width h = one_word Op.Inc width refl (mnemonic_read Op.Inc width h tt)
begins Op.Dec width h = one_word Op.Dec width refl (mnemonic_read Op.Dec width h tt)
begins Op.Add width h = one_word Op.Add width refl (mnemonic_read Op.Add width h tt)
begins Op.Adc width h = one_word Op.Adc width refl (mnemonic_read Op.Adc width h tt)
begins Op.Sub width h = one_word Op.Sub width refl (mnemonic_read Op.Sub width h tt)
begins Op.Sbb width h = one_word Op.Sbb width refl (mnemonic_read Op.Sbb width h tt)
begins Op.Cmp width h = one_word Op.Cmp width refl (mnemonic_read Op.Cmp width h tt)
begins Op.And width h = one_word Op.And width refl (mnemonic_read Op.And width h tt)
begins Op.Or width h = one_word Op.Or width refl (mnemonic_read Op.Or width h tt)
begins Op.Xor width h = one_word Op.Xor width refl (mnemonic_read Op.Xor width h tt)
begins Op.Test width h = one_word Op.Test width refl (mnemonic_read Op.Test width h tt)
begins Op.Shl width h = one_word Op.Shl width refl (mnemonic_read Op.Shl width h tt)
begins Op.Shr width h = one_word Op.Shr width refl (mnemonic_read Op.Shr width h tt)
begins Op.Sar width h = one_word Op.Sar width refl (mnemonic_read Op.Sar width h tt)
begins Op.Imul1 width h = one_word Op.Imul1 width refl (mnemonic_read Op.Imul1 width h tt)
begins Op.Mul width h = one_word Op.Mul width refl (mnemonic_read Op.Mul width h tt)
begins Op.Div width h = one_word Op.Div width refl (mnemonic_read Op.Div width h tt)
begins Op.Idiv width h = one_word Op.Idiv width refl (mnemonic_read Op.Idiv width h tt)
begins Op.Imul2 width h = one_word Op.Imul2 width refl (mnemonic_read Op.Imul2 width h tt)
begins Op.Imul3 width h = one_word Op.Imul3 width refl (mnemonic_read Op.Imul3 width h tt)
begins (Op.Setcc cond) width h = one_word (Op.Setcc cond) width refl (mnemonic_read (Op.Setcc cond) width h tt)
begins (Op.Cmov cond) width h = one_word (Op.Cmov cond) width refl (mnemonic_read (Op.Cmov cond) width h tt)
begins Op.Cwtl width h = one_word Op.Cwtl width refl (mnemonic_read Op.Cwtl width h tt)
begins Op.Cltq width h = one_word Op.Cltq width refl (mnemonic_read Op.Cltq width h tt)
begins Op.Cltd width h = one_word Op.Cltd width refl (mnemonic_read Op.Cltd width h tt)
begins Op.Cqto width h = one_word Op.Cqto width refl (mnemonic_read Op.Cqto width h tt)
begins Op.Jmp width h = one_word Op.Jmp width refl (mnemonic_read Op.Jmp width h tt)
begins (Op.Jcc cond) width h = one_word (Op.Jcc cond) width refl (mnemonic_read (Op.Jcc cond) width h tt)
begins Op.JmpStar width h = one_word Op.JmpStar width refl (mnemonic_read Op.JmpStar width h tt)
begins Op.Call width h = one_word Op.Call width refl (mnemonic_read Op.Call width h tt)
begins Op.CallStar width h = one_word Op.CallStar width refl (mnemonic_read Op.CallStar width h tt)
begins Op.Ret width h = one_word Op.Ret width refl (mnemonic_read Op.Ret width h tt)
begins Op.Nop width h = one_word Op.Nop width refl (mnemonic_read Op.Nop width h tt)
begins Op.Endbr64 width h = one_word Op.Endbr64 width refl (mnemonic_read Op.Endbr64 width h tt)
begins Op.Ud2 width h = one_word Op.Ud2 width refl (mnemonic_read Op.Ud2 width h tt)
begins Op.JmpStarNotrack width h = two_words Op.JmpStarNotrack width (codes "notrack") (codes "jmp") refl refl refl refl
begins Op.RepRet width h = two_words Op.RepRet width (codes "rep") (codes "ret") refl refl refl refl

-- No instruction has `=` as its second lexeme.

operands_no : (rest : List Lexeme) → operands_of (mark 61 ∷ rest) ≡ None
unfolding operands_of operand_of register_of immediate_of address_of segment_of address_behind place_of paren_of displacement_of expression_of terms_behind sign_of term_of symbol_of name_of expect word_of number_of
operands_no rest = refl

plain_no : (hit : MnemonicHit) (rest : List Lexeme) → plain_of hit (mark 61 ∷ rest) ≡ None
unfolding plain_of
plain_no hit rest = rw (operands_no rest) refl

jump_no : (op : Op) (bytes : List ℕ) (rest : List Lexeme) → jump_of op bytes (mark 61 ∷ rest) ≡ None
unfolding jump_of target_of symbol_of name_of expect word_of
jump_no op bytes rest = refl

both_none : (t : Bool) (o p : Option Insn) → o ≡ None → p ≡ None → (if t then o else p) ≡ None
both_none true o p h k = h
both_none false o p h k = k

prefixed_no : (bytes : List ℕ) (rest : List Lexeme) → prefixed_of bytes (mark 61 ∷ rest) ≡ None
unfolding prefixed_of notrack_of rep_of this_word word_of
prefixed_no bytes rest = both_none (bytes_eq (codes "notrack") bytes) _ _ refl (both_none _ _ _ refl refl)

behind_no : (hit : Option MnemonicHit) (bytes : List ℕ) (rest : List Lexeme) → behind hit bytes (mark 61 ∷ rest) ≡ None
behind_no None bytes rest = prefixed_no bytes rest
behind_no (Some hit) bytes rest = both_none (is_direct hit.op) _ _ (jump_no hit.op bytes rest) (plain_no hit rest)

equals_no : (bytes : List ℕ) (rest : List Lexeme) → instruction_of (word bytes ∷ mark 61 ∷ rest) ≡ None
unfolding instruction_of word_of
equals_no bytes rest = behind_no (hit_of bytes) bytes rest

not_assigned : (bytes : List ℕ) (rest : List Lexeme) (i : Insn) → instruction_of (word bytes ∷ rest) ≡ Some i → is_assignment (word bytes ∷ rest) ≡ false
not_assigned bytes [] i e = refl
not_assigned bytes (word w ∷ rest) i e = refl
not_assigned bytes (number n ∷ rest) i e = refl
not_assigned bytes (text t ∷ rest) i e = refl
not_assigned bytes (odd t ∷ rest) i e = refl
not_assigned bytes (mark m ∷ rest) i e =
    ⊎_elim
    (λ same. absurd (none_some (sym (equals_no bytes rest) ∙ subst (λ k. instruction_of (word bytes ∷ mark k ∷ rest) ≡ Some i) (eqb-true m 61 same) e)))
    (λ other. other)
    (cases_Bool (m == 61))
  where
    none_some : {j : Insn} → None ≡ Some j → ⊥
    none_some e = cc

-- A piece that says a word and more.

has_tokens : (piece : List ℕ) (tokens : List Token) (l : Lexeme) (rest : List Lexeme) → says_all piece tokens ≡ l ∷ rest → unlabelled piece tokens ≡ statement_of piece tokens
has_tokens piece [] l rest e = absurd (nil_cons e)
  where
    nil_cons : {x : Lexeme} {xs : List Lexeme} → [] ≡ x ∷ xs → ⊥
    nil_cons e = cc
has_tokens piece (t ∷ ts) l rest e = refl

insn_stated : (piece : List ℕ) (tokens : List Token) (bytes : List ℕ) (rest : List Lexeme) (i : Insn) → says_all piece tokens ≡ word bytes ∷ rest → (slice_index bytes 0 == 46) ≡ false → instruction_of (word bytes ∷ rest) ≡ Some i
    → statement_of piece tokens ≡ EntryKind.Insn i
unfolding statement_of
insn_stated piece tokens bytes rest i e plain read = rw (e, not_assigned bytes rest i read, plain, read) refl

insn_piece : (piece : List ℕ) (bytes : List ℕ) (rest : List Lexeme) (i : Insn) → is_first_label piece ≡ false → lexemes_of piece ≡ word bytes ∷ rest → (slice_index bytes 0 == 46) ≡ false → instruction_of (word bytes ∷ rest) ≡ Some i
    → kind_of_piece piece ≡ EntryKind.Insn i
unfolding kind_of_piece
insn_piece piece bytes rest i label e plain read =
    cond-false (is_first_label piece) _ _ label ∙ has_tokens piece (tokens_of piece) _ _ e ∙ insn_stated piece (tokens_of piece) bytes rest i e plain read

-- The law.

insn_well : (i : Insn) → Begins i.op i.width → IsBack i → IsWellSpelled (insn_items i)
insn_well i h k =
    let rest = operands i.op i.width i.a i.b i.c in
    let apart : IsApart rest = operands_apart i.op i.width i.a i.b i.c in
    let well : IsWellSpelled rest = operands_well i.op i.width i.a i.b i.c k.a k.b k.c in
    subst (λ l. IsWellSpelled (l ++ rest)) (sym h.is) (symbol_from h.bytes h.symbol, h.apart rest apart, h.well rest apart well)

insn_said : (i : Insn) (h : Begins i.op i.width) → said (insn_items i) ≡ word h.bytes ∷ said (h.more ++ operands i.op i.width i.a i.b i.c)
insn_said i h = ap (λ l. said (l ++ operands i.op i.width i.a i.b i.c)) h.is

insn_kind : (i : Insn) (piece : List ℕ) (h : Begins i.op i.width) → IsBack i → is_first_label piece ≡ false → lexemes_of piece ≡ said (insn_items i) → kind_of_piece piece ≡ EntryKind.Insn i
insn_kind i piece h k label e =
    let start = insn_said i h in
    insn_piece piece h.bytes _ i label (e ∙ start) h.plain (ap instruction_of (sym start) ∙ k.read)

back : (i : Insn) → IsInstruction i → IsBack i
back i h = is_back i.op i.width i.a i.b i.c h.width h.operands

pub insn_items_well : (i : Insn) → IsInstruction i → IsWellSpelled (insn_items i)
insn_items_well i h = insn_well i (begins i.op i.width h.width) (back i h)

-- canonical text is its instruction
pub insn_text_read : (i : Insn) → IsInstruction i → kind_of_piece (insn_text i) ≡ EntryKind.Insn i
unfolding insn_text
insn_text_read i h =
    let well = insn_items_well i h in
    insn_kind i (render (insn_items i)) (begins i.op i.width h.width) (back i h) (text_no_label (insn_items i) well) (spelling_read (insn_items i) well)

pub insn_line_read : (i : Insn) → IsInstruction i → kind_of_piece (line_of (insn_text i)) ≡ EntryKind.Insn i
unfolding insn_text
insn_line_read i h =
    let well = insn_items_well i h in
    insn_kind i (line_of (render (insn_items i))) (begins i.op i.width h.width) (back i h) (line_no_label (render (insn_items i))) (line_read (insn_items i) well)

-- Alignments.

abbrev align : ℕ → Option ℕ → Option ℕ → DirectiveKind
align power fill max = DirectiveKind.Align power fill max

padding_read : (fill max : Option ℕ) → IsBelow (2 ^ 64) fill → IsBelow (2 ^ 32) max → padding_of (said (padding_items fill max)) ≡ Some (fill, max)
unfolding padding_of fill_of max_of number_of expect
padding_read None None f m = refl
padding_read (Some fill) None f m = refl
padding_read None (Some max) f m = rw (lt-ltb max (2 ^ 32) m) refl
padding_read (Some fill) (Some max) f m = rw (lt-ltb max (2 ^ 32) m) refl

align_read : (power : ℕ) (fill max : Option ℕ) → power ≤ 12 → IsBelow (2 ^ 64) fill → IsBelow (2 ^ 32) max → aligned_of true (number power ∷ said (padding_items fill max)) ≡ Some (align power fill max)
unfolding aligned_of number_of
align_read power fill max p f m = rw (le-leb power 12 p, padding_read fill max f m) refl

align_named : (piece : List ℕ) (tokens : List Token) (rest : List Lexeme) (kind : DirectiveKind) → aligned_of true rest ≡ Some kind → named_of piece tokens (codes ".p2align") rest ≡ kind
unfolding named_of bound_of placed_of filled_of
align_named piece tokens rest kind e = rw e refl

align_stated : (piece : List ℕ) (tokens : List Token) (power : ℕ) (rest : List Lexeme) (kind : DirectiveKind) → says_all piece tokens ≡ word (codes ".p2align") ∷ number power ∷ rest → aligned_of true (number power ∷ rest) ≡ Some kind
    → statement_of piece tokens ≡ EntryKind.Directive kind
unfolding statement_of directive_of word_of
align_stated piece tokens power rest kind e read = rw (e, align_named piece (drop 1 tokens) (number power ∷ rest) kind read) refl

align_piece : (piece : List ℕ) (power : ℕ) (fill max : Option ℕ) → power ≤ 12 → IsBelow (2 ^ 64) fill → IsBelow (2 ^ 32) max → is_first_label piece ≡ false → lexemes_of piece ≡ said (align_items power fill max)
    → kind_of_piece piece ≡ EntryKind.Directive (align power fill max)
unfolding kind_of_piece
align_piece piece power fill max p f m label e =
    cond-false (is_first_label piece) _ _ label ∙ has_tokens piece (tokens_of piece) _ _ e
    ∙ align_stated piece (tokens_of piece) power (said (padding_items fill max)) (align power fill max) e (align_read power fill max p f m)

pub align_text_read : (power : ℕ) (fill max : Option ℕ) → power ≤ 12 → IsBelow (2 ^ 64) fill → IsBelow (2 ^ 32) max → kind_of_piece (align_text power fill max) ≡ EntryKind.Directive (align power fill max)
unfolding align_text
align_text_read power fill max p f m =
    let well = well_align power fill max (omega (arith, p)) f m in
    align_piece (render (align_items power fill max)) power fill max p f m (text_no_label (align_items power fill max) well) (spelling_read (align_items power fill max) well)

pub align_line_read : (power : ℕ) (fill max : Option ℕ) → power ≤ 12 → IsBelow (2 ^ 64) fill → IsBelow (2 ^ 32) max → kind_of_piece (line_of (align_text power fill max)) ≡ EntryKind.Directive (align power fill max)
unfolding align_text
align_line_read power fill max p f m =
    let well = well_align power fill max (omega (arith, p)) f m in
    align_piece (line_of (render (align_items power fill max))) power fill max p f m (line_no_label (render (align_items power fill max))) (line_read (align_items power fill max) well)
