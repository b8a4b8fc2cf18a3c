-- The spelling of operands is read as what they are.
use Rattle.std.proofs.Common.{◌≡◌, ℕ, zero, suc, ◌^◌, Bool, true, false, List, [], ◌∷◌, ◌++◌, Option, Some, None, refl, ap, sym, ◌∙◌, arith, append_assoc}
use Rattle.std.specs.Prelude.{⊤, ℤ, pos, negsuc, codes}
use Rattle.std.proofs.lemmas.Bool.{lt-ltb}
use Rattle.std.proofs.lemmas.Bool.Decides.{nat_tests}
use Rattle.insn_ir.specs.declared.op.Reg.{Reg}
use Rattle.insn_ir.specs.declared.op.Reg.TheVariants.{Rax, Rcx, Rdx, Rbx, Rsp, Rbp, Rsi, Rdi, R8, R9, R10, R11, R12, R13, R14, R15}
use Rattle.insn_ir.specs.declared.op.Width.{Width}
use Rattle.insn_ir.specs.declared.op.Width.TheVariants.{B, W, L, Q}
use Rattle.insn_ir.specs.declared.insn.Atom.{Atom}
use Rattle.insn_ir.specs.declared.insn.Disp.{Disp}
use Rattle.insn_ir.specs.declared.insn.Base.{Base}
use Rattle.insn_ir.specs.declared.insn.Mem.{Mem}
use Rattle.insn_ir.specs.declared.insn.Imm.{Imm}
use Rattle.insn_ir.specs.declared.insn.Arg.{Arg}
use Rattle.insn_ir.specs.Machine.{same_reg}
use Rattle.insn_ir.specs.Profile.{IsWithin, IsAtom, IsDisp, IsSymbolic, IsScale, IsAddress, IsMem}
use Rattle.att_grammar.specs.Lexemes.{Lexeme, word, number, mark}
use Rattle.att_grammar.specs.Spelling.{Item, name, sign, said}
use Rattle.att_grammar.specs.Notions.{expect, word_of, number_of, this_word}
use Rattle.att_grammar.specs.Expressions.{expression_of}
use Rattle.att_grammar.specs.Registers.{register_name, register_at, register_named}
use Rattle.att_grammar.specs.Operands.{register_of, wide_of, index_of, is_scale, scale_of, paren, indexed_of, rip_of, based_of, paren_of, no_paren, is_within, displacement_of, place_of, is_symbolic, is_address, address_behind, segment_of, address_of, immediate_of, operand_of}
use Rattle.att_grammar.specs.Canonical.{spec_items, offset_items, atom_items, imm_items, disp_items, front_items, register_items, index_items, in_parens, place_items, mem_items, arg_items}
use Rattle.att_grammar.specs.declared.syntax.Displacement.{Displacement}
use Rattle.att_grammar.specs.declared.syntax.Paren.{Paren}
use Rattle.att_grammar.specs.declared.syntax.Address.{Address}
use Rattle.att_grammar.specs.declared.syntax.Operand.{Operand}
use Rattle.att_grammar.specs.declared.syntax.Sum.{Sum}
use Rattle.att_grammar.proofs.CanonicalExpressions.{said-append, Stops, nothing_stops, comma_stops, paren_stops, symbol, sum, number_read, atom_read}

-- Registers.

named_register : (width : Width) (r : Reg) → register_named (register_name width r) ≡ Some (r, width)
unfolding register_named register_at
named_register Q Rax = refl
named_register Q Rcx = refl
named_register Q Rdx = refl
named_register Q Rbx = refl
named_register Q Rsp = refl
named_register Q Rbp = refl
named_register Q Rsi = refl
named_register Q Rdi = refl
named_register Q R8 = refl
named_register Q R9 = refl
named_register Q R10 = refl
named_register Q R11 = refl
named_register Q R12 = refl
named_register Q R13 = refl
named_register Q R14 = refl
named_register Q R15 = refl
named_register L Rax = refl
named_register L Rcx = refl
named_register L Rdx = refl
named_register L Rbx = refl
named_register L Rsp = refl
named_register L Rbp = refl
named_register L Rsi = refl
named_register L Rdi = refl
named_register L R8 = refl
named_register L R9 = refl
named_register L R10 = refl
named_register L R11 = refl
named_register L R12 = refl
named_register L R13 = refl
named_register L R14 = refl
named_register L R15 = refl
named_register W Rax = refl
named_register W Rcx = refl
named_register W Rdx = refl
named_register W Rbx = refl
named_register W Rsp = refl
named_register W Rbp = refl
named_register W Rsi = refl
named_register W Rdi = refl
named_register W R8 = refl
named_register W R9 = refl
named_register W R10 = refl
named_register W R11 = refl
named_register W R12 = refl
named_register W R13 = refl
named_register W R14 = refl
named_register W R15 = refl
named_register B Rax = refl
named_register B Rcx = refl
named_register B Rdx = refl
named_register B Rbx = refl
named_register B Rsp = refl
named_register B Rbp = refl
named_register B Rsi = refl
named_register B Rdi = refl
named_register B R8 = refl
named_register B R9 = refl
named_register B R10 = refl
named_register B R11 = refl
named_register B R12 = refl
named_register B R13 = refl
named_register B R14 = refl
named_register B R15 = refl

register_read : (width : Width) (r : Reg) (rest : List Lexeme) → register_of (mark 37 ∷ word (register_name width r) ∷ rest) ≡ Some ((r, width), rest)
unfolding register_of expect word_of
register_read width r rest = rw (named_register width r) refl

wide_read : (r : Reg) (rest : List Lexeme) → wide_of (mark 37 ∷ word (register_name Q r) ∷ rest) ≡ Some (r, rest)
unfolding wide_of
wide_read r rest = rw (register_read Q r rest) refl

other_than_rsp : (r : Reg) → (r ≡ Rsp → ⊥) → same_reg r Rsp ≡ false
other_than_rsp Rax h = refl
other_than_rsp Rcx h = refl
other_than_rsp Rdx h = refl
other_than_rsp Rbx h = refl
other_than_rsp Rsp h = absurd (h refl)
other_than_rsp Rbp h = refl
other_than_rsp Rsi h = refl
other_than_rsp Rdi h = refl
other_than_rsp R8 h = refl
other_than_rsp R9 h = refl
other_than_rsp R10 h = refl
other_than_rsp R11 h = refl
other_than_rsp R12 h = refl
other_than_rsp R13 h = refl
other_than_rsp R14 h = refl
other_than_rsp R15 h = refl

index_read : (r : Reg) (rest : List Lexeme) → (r ≡ Rsp → ⊥) → index_of (mark 37 ∷ word (register_name Q r) ∷ rest) ≡ Some (r, rest)
unfolding index_of
index_read r rest h = rw (wide_read r rest, other_than_rsp r h) refl

-- Parentheses.

is_scale_true : (scale : ℕ) → IsScale scale → is_scale scale ≡ true
is_scale_true scale h = grind (arith, nat_tests)

scale_read : (scale : ℕ) (rest : List Lexeme) → IsScale scale → scale_of (mark 44 ∷ number scale ∷ mark 41 ∷ rest) ≡ Some (scale, rest)
unfolding scale_of expect number_of
scale_read scale rest h = rw (is_scale_true scale h) refl

indexed_read : (base : Base) (r : Reg) (scale : ℕ) (rest : List Lexeme) → (r ≡ Rsp → ⊥) → IsScale scale
    → indexed_of base (mark 44 ∷ mark 37 ∷ word (register_name Q r) ∷ mark 44 ∷ number scale ∷ mark 41 ∷ rest) ≡ Some (paren base (Some r) scale, rest)
unfolding indexed_of expect
indexed_read base r scale rest h k = rw (index_read r (mark 44 ∷ number scale ∷ mark 41 ∷ rest) h, scale_read scale rest k) refl

no_rip : (r : Reg) (rest : List Lexeme) → rip_of (mark 37 ∷ word (register_name Q r) ∷ rest) ≡ None
unfolding rip_of expect this_word word_of
no_rip Rax rest = refl
no_rip Rcx rest = refl
no_rip Rdx rest = refl
no_rip Rbx rest = refl
no_rip Rsp rest = refl
no_rip Rbp rest = refl
no_rip Rsi rest = refl
no_rip Rdi rest = refl
no_rip R8 rest = refl
no_rip R9 rest = refl
no_rip R10 rest = refl
no_rip R11 rest = refl
no_rip R12 rest = refl
no_rip R13 rest = refl
no_rip R14 rest = refl
no_rip R15 rest = refl

based_read : (b : Reg) (rest : List Lexeme) → paren_of (mark 40 ∷ mark 37 ∷ word (register_name Q b) ∷ mark 41 ∷ rest) ≡ Some (paren (Base.Reg b) None 1, rest)
unfolding paren_of based_of expect
based_read b rest = rw (no_rip b (mark 41 ∷ rest), wide_read b (mark 41 ∷ rest)) refl

both_read : (b r : Reg) (scale : ℕ) (rest : List Lexeme) → (r ≡ Rsp → ⊥) → IsScale scale
    → paren_of (mark 40 ∷ mark 37 ∷ word (register_name Q b) ∷ mark 44 ∷ mark 37 ∷ word (register_name Q r) ∷ mark 44 ∷ number scale ∷ mark 41 ∷ rest) ≡ Some (paren (Base.Reg b) (Some r) scale, rest)
unfolding paren_of based_of expect
both_read b r scale rest h k =
    let more = mark 44 ∷ mark 37 ∷ word (register_name Q r) ∷ mark 44 ∷ number scale ∷ mark 41 ∷ rest in
    rw (no_rip b more, wide_read b more, indexed_read (Base.Reg b) r scale rest h k) refl

lone_index_read : (r : Reg) (scale : ℕ) (rest : List Lexeme) → (r ≡ Rsp → ⊥) → IsScale scale
    → paren_of (mark 40 ∷ mark 44 ∷ mark 37 ∷ word (register_name Q r) ∷ mark 44 ∷ number scale ∷ mark 41 ∷ rest) ≡ Some (paren Base.Absent (Some r) scale, rest)
unfolding paren_of rip_of based_of wide_of register_of expect
lone_index_read r scale rest h k = rw (indexed_read Base.Absent r scale rest h k) refl

rip_read : (rest : List Lexeme) → paren_of (mark 40 ∷ mark 37 ∷ word (codes "rip") ∷ mark 41 ∷ rest) ≡ Some (paren Base.Rip None 1, rest)
unfolding paren_of rip_of expect this_word word_of
rip_read rest = refl

-- what may follow an operand: nothing or a comma
pub record Ends (rest : List Lexeme) : Type 0 where
  pub stops : Stops rest
  pub paren : paren_of rest ≡ None

pub nothing_ends : Ends []
unfolding paren_of expect
nothing_ends = record { stops = nothing_stops; paren = refl }

pub comma_ends : (rest : List Lexeme) → Ends (mark 44 ∷ rest)
unfolding paren_of expect
comma_ends rest = record { stops = comma_stops rest; paren = refl }

-- Displacements.

abbrev pub displacement : Disp → Displacement
displacement (Disp.Num n) = Displacement.Number n
displacement (Disp.Sym atom) = Displacement.Symbol (symbol atom.name atom.spec) atom.offset

abbrev disp_sum : Disp → Sum
disp_sum (Disp.Num n) = sum None n
disp_sum (Disp.Sym atom) = sum (Some (symbol atom.name atom.spec)) atom.offset

pub atom_said : (atom : Atom) (rest : List Lexeme) → said (atom_items atom) ++ rest ≡ word atom.name ∷ (said (spec_items atom.spec) ++ (said (offset_items atom.offset) ++ rest))
atom_said atom rest =
    ap (λ l. word atom.name ∷ (l ++ rest)) (said-append (spec_items atom.spec) (offset_items atom.offset))
    ∙ ap (λ l. word atom.name ∷ l) (append_assoc (said (spec_items atom.spec)) (said (offset_items atom.offset)) rest)

pub whole_atom_read : (atom : Atom) (rest : List Lexeme) → IsAtom atom → Stops rest → expression_of (said (atom_items atom) ++ rest) ≡ Some (sum (Some (symbol atom.name atom.spec)) atom.offset, rest)
whole_atom_read atom rest h k = ap expression_of (atom_said atom rest) ∙ atom_read atom.name atom.spec atom.offset rest h.name h.offset k

wider : (n : ℤ) → IsWithin (2 ^ 31) n → IsWithin (2 ^ 63) n
wider (pos n) h = omega (arith, h)
wider (negsuc n) h = omega (arith, h)

within_true : (n : ℤ) → IsWithin (2 ^ 31) n → is_within (2 ^ 31) (2 ^ 31) n ≡ true
within_true (pos n) h = lt-ltb n (2 ^ 31) h
within_true (negsuc n) h = lt-ltb n (2 ^ 31) h

displacement_read : (disp : Disp) (rest : List Lexeme) → IsDisp disp → Stops rest → displacement_of (said (disp_items disp) ++ rest) ≡ Some (displacement disp, rest)
unfolding displacement_of
displacement_read (Disp.Num n) rest h k = rw (number_read n rest (wider n h) k, within_true n h) refl
displacement_read (Disp.Sym atom) rest h k = rw (whole_atom_read atom rest h k) refl

no_paren_yet : (disp : Disp) (rest : List Lexeme) → paren_of (said (disp_items disp) ++ rest) ≡ None
unfolding paren_of expect
no_paren_yet (Disp.Num (pos n)) rest = refl
no_paren_yet (Disp.Num (negsuc n)) rest = refl
no_paren_yet (Disp.Sym atom) rest = refl

lone_place_read : (disp : Disp) (rest : List Lexeme) → IsDisp disp → Ends rest → place_of (said (disp_items disp) ++ rest) ≡ Some (displacement disp, no_paren, rest)
unfolding place_of
lone_place_read disp rest h k = rw (no_paren_yet disp rest, displacement_read disp rest h k.stops, k.paren) refl

-- a displacement before a parenthesis that is read
with_paren : (disp : Disp) (p : Paren) (inner rest : List Lexeme) → paren_of (mark 40 ∷ inner) ≡ Some (p, rest) → IsDisp disp
    → place_of (said (front_items disp) ++ mark 40 ∷ inner) ≡ Some (displacement disp, p, rest)
unfolding place_of
with_paren (Disp.Num (pos zero)) p inner rest e h = rw e refl
with_paren (Disp.Num (pos (suc n))) p inner rest e h =
    let disp = Disp.Num (pos (suc n)) in
    rw (no_paren_yet disp (mark 40 ∷ inner), displacement_read disp (mark 40 ∷ inner) h (paren_stops inner), e) refl
with_paren (Disp.Num (negsuc n)) p inner rest e h =
    let disp = Disp.Num (negsuc n) in
    rw (no_paren_yet disp (mark 40 ∷ inner), displacement_read disp (mark 40 ∷ inner) h (paren_stops inner), e) refl
with_paren (Disp.Sym atom) p inner rest e h =
    let disp = Disp.Sym atom in
    rw (no_paren_yet disp (mark 40 ∷ inner), displacement_read disp (mark 40 ∷ inner) h (paren_stops inner), e) refl

-- lexemes of a displacement and of what follows it
split : (disp : Disp) (items : List Item) (rest : List Lexeme) → said (front_items disp ++ items) ++ rest ≡ said (front_items disp) ++ (said items ++ rest)
split disp items rest = ap (λ l. l ++ rest) (said-append (front_items disp) items) ∙ append_assoc (said (front_items disp)) (said items) rest

place_read : (disp : Disp) (base : Base) (index : Option Reg) (scale : ℕ) (fs : Bool) (rest : List Lexeme) → IsDisp disp
    → IsAddress base (record { fs = fs; disp = disp; base = base; index = index; scale = scale }) → Ends rest
    → place_of (said (place_items disp base index scale) ++ rest) ≡ Some (displacement disp, paren base index scale, rest)
place_read disp Base.Absent None scale fs rest h a k = lone_place_read disp rest h k ∙ ap (λ s. Some (displacement disp, paren Base.Absent None s, rest)) (sym a)
place_read disp Base.Absent (Some r) scale fs rest h a k =
    ap place_of (split disp (in_parens (index_items (Some r) scale)) rest) ∙ with_paren disp _ _ rest (lone_index_read r scale rest a.0 a.1) h
place_read disp (Base.Reg b) None scale fs rest h a k =
    ap place_of (split disp (in_parens (register_items Q b ++ index_items None scale)) rest) ∙ with_paren disp _ _ rest (based_read b rest) h
    ∙ ap (λ s. Some (displacement disp, paren (Base.Reg b) None s, rest)) (sym a)
place_read disp (Base.Reg b) (Some r) scale fs rest h a k =
    ap place_of (split disp (in_parens (register_items Q b ++ index_items (Some r) scale)) rest) ∙ with_paren disp _ _ rest (both_read b r scale rest a.0 a.1) h
place_read disp Base.Rip None scale fs rest h a k =
    ap place_of (split disp (in_parens (sign 37 ∷ name (codes "rip") ∷ index_items None scale)) rest) ∙ with_paren disp _ _ rest (rip_read rest) h
    ∙ ap (λ s. Some (displacement disp, paren Base.Rip None s, rest)) (sym a.2)
place_read disp Base.Rip (Some r) scale fs rest h a k = absurd (none_some a.1)
  where
    none_some : {r : Reg} → Some r ≡ None → ⊥
    none_some e = cc

-- Memory.

abbrev pub address : Mem → Address
address mem = record { fs = mem.fs; disp = displacement mem.disp; paren = paren mem.base mem.index mem.scale }

symbolic_true : (disp : Disp) → IsSymbolic disp → is_symbolic (displacement disp) ≡ true
symbolic_true (Disp.Num n) h = absurd h
symbolic_true (Disp.Sym atom) h = refl

address_true : (fs : Bool) (disp : Disp) (base : Base) (index : Option Reg) (scale : ℕ) → IsAddress base (record { fs = fs; disp = disp; base = base; index = index; scale = scale }) → is_address fs (displacement disp) base ≡ true
address_true fs disp Base.Absent index scale a = refl
address_true fs disp (Base.Reg b) index scale a = refl
address_true fs disp Base.Rip index scale a = rw (symbolic_true disp a.0, a.3) refl

behind_read : (mem : Mem) (rest : List Lexeme) → IsMem mem → Ends rest → address_behind mem.fs (said (place_items mem.disp mem.base mem.index mem.scale) ++ rest) ≡ Some (address mem, rest)
unfolding address_behind
behind_read mem rest h k =
    rw (place_read mem.disp mem.base mem.index mem.scale mem.fs rest h.disp h.address k, address_true mem.fs mem.disp mem.base mem.index mem.scale h.address) refl

-- memory begins with no `%` and no `$`
record IsPlain (lexemes : List Lexeme) : Type 0 where
  percent : expect 37 lexemes ≡ None
  dollar : expect 36 lexemes ≡ None

plain_disp : (disp : Disp) (rest : List Lexeme) → IsPlain (said (disp_items disp) ++ rest)
unfolding expect
plain_disp (Disp.Num (pos n)) rest = record { percent = refl; dollar = refl }
plain_disp (Disp.Num (negsuc n)) rest = record { percent = refl; dollar = refl }
plain_disp (Disp.Sym atom) rest = record { percent = refl; dollar = refl }

plain_front : (disp : Disp) (items : List Item) (rest : List Lexeme) → IsPlain (said (front_items disp ++ in_parens items) ++ rest)
unfolding expect
plain_front (Disp.Num (pos zero)) items rest = record { percent = refl; dollar = refl }
plain_front (Disp.Num (pos (suc n))) items rest = record { percent = refl; dollar = refl }
plain_front (Disp.Num (negsuc n)) items rest = record { percent = refl; dollar = refl }
plain_front (Disp.Sym atom) items rest = record { percent = refl; dollar = refl }

plain_place : (disp : Disp) (base : Base) (index : Option Reg) (scale : ℕ) (rest : List Lexeme) → IsPlain (said (place_items disp base index scale) ++ rest)
plain_place disp Base.Absent None scale rest = plain_disp disp rest
plain_place disp Base.Absent (Some r) scale rest = plain_front disp (index_items (Some r) scale) rest
plain_place disp (Base.Reg b) index scale rest = plain_front disp (register_items Q b ++ index_items index scale) rest
plain_place disp Base.Rip index scale rest = plain_front disp (sign 37 ∷ name (codes "rip") ∷ index_items index scale) rest

memory_by : (lexemes rest : List Lexeme) (a : Address) → IsPlain lexemes → address_behind false lexemes ≡ Some (a, rest) → operand_of lexemes ≡ Some (Operand.Memory a, rest)
unfolding operand_of register_of immediate_of address_of segment_of
memory_by lexemes rest a h e = rw (h.percent, h.dollar, e) refl

fs_memory_by : (lexemes rest : List Lexeme) (a : Address) → address_behind true lexemes ≡ Some (a, rest) → operand_of (mark 37 ∷ word (codes "fs") ∷ mark 58 ∷ lexemes) ≡ Some (Operand.Memory a, rest)
unfolding operand_of register_of immediate_of address_of segment_of expect word_of this_word register_named register_at
fs_memory_by lexemes rest a e = rw e refl

memory_read : (fs : Bool) (disp : Disp) (base : Base) (index : Option Reg) (scale : ℕ) (rest : List Lexeme) → IsMem (record { fs = fs; disp = disp; base = base; index = index; scale = scale }) → Ends rest
    → operand_of (said (mem_items (record { fs = fs; disp = disp; base = base; index = index; scale = scale })) ++ rest) ≡ Some (Operand.Memory (address (record { fs = fs; disp = disp; base = base; index = index; scale = scale })), rest)
memory_read false disp base index scale rest h k =
    memory_by _ rest _ (plain_place disp base index scale rest) (behind_read (record { fs = false; disp = disp; base = base; index = index; scale = scale }) rest h k)
memory_read true disp base index scale rest h k =
    fs_memory_by _ rest _ (behind_read (record { fs = true; disp = disp; base = base; index = index; scale = scale }) rest h k)

-- Operands.

abbrev pub IsAnyImm : Imm → Type 0
IsAnyImm (Imm.Num n) = IsWithin (2 ^ 63) n
IsAnyImm (Imm.Sym atom) = IsAtom atom

-- a register, an immediate or memory
abbrev pub IsOperand : Arg → Type 0
IsOperand Arg.Absent = ⊥
IsOperand (Arg.Reg r) = ⊤
IsOperand (Arg.Imm imm) = IsAnyImm imm
IsOperand (Arg.Mem mem) = IsMem mem
IsOperand (Arg.Code atom) = ⊥

abbrev pub imm_sum : Imm → Sum
imm_sum (Imm.Num n) = sum None n
imm_sum (Imm.Sym atom) = sum (Some (symbol atom.name atom.spec)) atom.offset

-- what an operand is written as
abbrev pub operand : Width → Arg → Operand
operand width Arg.Absent = Operand.Register Rax width
operand width (Arg.Reg r) = Operand.Register r width
operand width (Arg.Imm imm) = Operand.Immediate (imm_sum imm)
operand width (Arg.Mem mem) = Operand.Memory (address mem)
operand width (Arg.Code atom) = Operand.Register Rax width

imm_read : (imm : Imm) (rest : List Lexeme) → IsAnyImm imm → Stops rest → expression_of (said (imm_items imm) ++ rest) ≡ Some (imm_sum imm, rest)
imm_read (Imm.Num n) rest h k = number_read n rest h k
imm_read (Imm.Sym atom) rest h k = whole_atom_read atom rest h k

no_register : (rest : List Lexeme) → register_of (mark 36 ∷ rest) ≡ None
unfolding register_of expect
no_register rest = refl

pub operand_read : (width : Width) (a : Arg) (rest : List Lexeme) → IsOperand a → Ends rest → operand_of (said (arg_items width a) ++ rest) ≡ Some (operand width a, rest)
unfolding operand_of immediate_of expect
operand_read width Arg.Absent rest h k = absurd h
operand_read width (Arg.Reg r) rest h k = rw (register_read width r rest) refl
operand_read width (Arg.Imm imm) rest h k = rw (no_register (said (imm_items imm) ++ rest), imm_read imm rest h k.stops) refl
operand_read width (Arg.Mem mem) rest h k = memory_read mem.fs mem.disp mem.base mem.index mem.scale rest h k
operand_read width (Arg.Code atom) rest h k = absurd h
