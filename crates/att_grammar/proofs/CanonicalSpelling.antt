-- Canonical text is spelled well: its words and numbers stand apart.
use Rattle.std.proofs.Common.{◌≡◌, ℕ, zero, suc, ◌^◌, ◌<◌, Bool, true, false, not, ◌&&◌, List, [], ◌∷◌, ◌++◌, Option, Some, None, refl, ap, sym, subst, arith, append_assoc}
use Rattle.std.specs.Prelude.{⊤, ℤ, pos, negsuc, codes, IsTrue}
use Rattle.std.proofs.lemmas.Bool.{and_parts}
use Rattle.insn_ir.specs.declared.op.Reg.{Reg}
use Rattle.insn_ir.specs.declared.op.Reg.TheVariants.{Rax, Rcx, Rdx, Rbx, Rsp, Rbp, Rsi, Rdi, R8, R9, R10, R11, R12, R13, R14, R15}
use Rattle.insn_ir.specs.declared.op.Width.{Width}
use Rattle.insn_ir.specs.declared.op.Width.TheVariants.{B, W, L, Q}
use Rattle.insn_ir.specs.declared.op.Op.{Op}
use Rattle.insn_ir.specs.declared.insn.Atom.{Atom}
use Rattle.insn_ir.specs.declared.insn.Disp.{Disp}
use Rattle.insn_ir.specs.declared.insn.Base.{Base}
use Rattle.insn_ir.specs.declared.insn.Mem.{Mem}
use Rattle.insn_ir.specs.declared.insn.Imm.{Imm}
use Rattle.insn_ir.specs.declared.insn.Arg.{Arg}
use Rattle.insn_ir.specs.Profile.{IsWithin, IsSpecifier, IsAtom, IsDisp, IsScale, IsIndex, IsAddress, IsMem}
use Rattle.att_lexer.specs.Bytes.{is_blank, is_digit, is_letter, is_symbol_byte, is_symbol_start}
use Rattle.att_lexer.specs.Pieces.{AllBytes, IsSymbol}
use Rattle.att_lexer.specs.Tokens.{ends_tokens}
use Rattle.att_grammar.specs.Registers.{register_name}
use Rattle.att_grammar.specs.Spelling.{Item, name, digits, sign, IsMarkByte, IsApart, is_last, IsWellSpelled}
use Rattle.att_grammar.specs.Directives.{IsBelow}
use Rattle.att_grammar.specs.Canonical.{number_items, spec_items, offset_items, atom_items, imm_items, disp_items, front_items, register_items, index_items, in_parens, place_items, segment_items, mem_items, arg_items, star_items, first_width, first_items, next_items, padding_items, align_items}
use Rattle.att_grammar.proofs.CanonicalOperands.{IsAnyImm}

-- whether bytes are a symbol
abbrev all_symbol_bytes : List ℕ → Bool
all_symbol_bytes [] = true
all_symbol_bytes (b ∷ bs) = is_symbol_byte b && all_symbol_bytes bs

abbrev pub is_symbol : List ℕ → Bool
is_symbol [] = false
is_symbol (b ∷ bs) = is_symbol_start b && all_symbol_bytes bs

all_from : (bs : List ℕ) → all_symbol_bytes bs ≡ true → AllBytes is_symbol_byte bs
all_from [] h = tt
all_from (b ∷ bs) h = let parts = and_parts (is_symbol_byte b) (all_symbol_bytes bs) h in (parts.0, all_from bs parts.1)

pub symbol_from : (bytes : List ℕ) → is_symbol bytes ≡ true → IsSymbol bytes
symbol_from [] h = absurd (cc)
symbol_from (b ∷ bs) h = let parts = and_parts (is_symbol_start b) (all_symbol_bytes bs) h in (parts.0, all_from bs parts.1)

register_symbol : (width : Width) (r : Reg) → is_symbol (register_name width r) ≡ true
unfolding is_blank is_digit is_letter is_symbol_byte is_symbol_start ends_tokens
register_symbol Q Rax = refl
register_symbol Q Rcx = refl
register_symbol Q Rdx = refl
register_symbol Q Rbx = refl
register_symbol Q Rsp = refl
register_symbol Q Rbp = refl
register_symbol Q Rsi = refl
register_symbol Q Rdi = refl
register_symbol Q R8 = refl
register_symbol Q R9 = refl
register_symbol Q R10 = refl
register_symbol Q R11 = refl
register_symbol Q R12 = refl
register_symbol Q R13 = refl
register_symbol Q R14 = refl
register_symbol Q R15 = refl
register_symbol L Rax = refl
register_symbol L Rcx = refl
register_symbol L Rdx = refl
register_symbol L Rbx = refl
register_symbol L Rsp = refl
register_symbol L Rbp = refl
register_symbol L Rsi = refl
register_symbol L Rdi = refl
register_symbol L R8 = refl
register_symbol L R9 = refl
register_symbol L R10 = refl
register_symbol L R11 = refl
register_symbol L R12 = refl
register_symbol L R13 = refl
register_symbol L R14 = refl
register_symbol L R15 = refl
register_symbol W Rax = refl
register_symbol W Rcx = refl
register_symbol W Rdx = refl
register_symbol W Rbx = refl
register_symbol W Rsp = refl
register_symbol W Rbp = refl
register_symbol W Rsi = refl
register_symbol W Rdi = refl
register_symbol W R8 = refl
register_symbol W R9 = refl
register_symbol W R10 = refl
register_symbol W R11 = refl
register_symbol W R12 = refl
register_symbol W R13 = refl
register_symbol W R14 = refl
register_symbol W R15 = refl
register_symbol B Rax = refl
register_symbol B Rcx = refl
register_symbol B Rdx = refl
register_symbol B Rbx = refl
register_symbol B Rsp = refl
register_symbol B Rbp = refl
register_symbol B Rsi = refl
register_symbol B Rdi = refl
register_symbol B R8 = refl
register_symbol B R9 = refl
register_symbol B R10 = refl
register_symbol B R11 = refl
register_symbol B R12 = refl
register_symbol B R13 = refl
register_symbol B R14 = refl
register_symbol B R15 = refl

dollar : IsMarkByte 36
unfolding is_blank is_digit is_letter is_symbol_byte is_symbol_start ends_tokens
dollar = refl

percent : IsMarkByte 37
unfolding is_blank is_digit is_letter is_symbol_byte is_symbol_start ends_tokens
percent = refl

opening : IsMarkByte 40
unfolding is_blank is_digit is_letter is_symbol_byte is_symbol_start ends_tokens
opening = refl

closing : IsMarkByte 41
unfolding is_blank is_digit is_letter is_symbol_byte is_symbol_start ends_tokens
closing = refl

star : IsMarkByte 42
unfolding is_blank is_digit is_letter is_symbol_byte is_symbol_start ends_tokens
star = refl

plus : IsMarkByte 43
unfolding is_blank is_digit is_letter is_symbol_byte is_symbol_start ends_tokens
plus = refl

comma : IsMarkByte 44
unfolding is_blank is_digit is_letter is_symbol_byte is_symbol_start ends_tokens
comma = refl

minus : IsMarkByte 45
unfolding is_blank is_digit is_letter is_symbol_byte is_symbol_start ends_tokens
minus = refl

colon : IsMarkByte 58
unfolding is_blank is_digit is_letter is_symbol_byte is_symbol_start ends_tokens
colon = refl

at : IsMarkByte 64
unfolding is_blank is_digit is_letter is_symbol_byte is_symbol_start ends_tokens
at = refl

opening_apart : IsTrue (not (is_symbol_byte 40))
unfolding is_blank is_digit is_letter is_symbol_byte is_symbol_start ends_tokens
opening_apart = refl

closing_apart : IsTrue (not (is_symbol_byte 41))
unfolding is_blank is_digit is_letter is_symbol_byte is_symbol_start ends_tokens
closing_apart = refl

plus_apart : IsTrue (not (is_symbol_byte 43))
unfolding is_blank is_digit is_letter is_symbol_byte is_symbol_start ends_tokens
plus_apart = refl

comma_apart : IsTrue (not (is_symbol_byte 44))
unfolding is_blank is_digit is_letter is_symbol_byte is_symbol_start ends_tokens
comma_apart = refl

minus_apart : IsTrue (not (is_symbol_byte 45))
unfolding is_blank is_digit is_letter is_symbol_byte is_symbol_start ends_tokens
minus_apart = refl

colon_apart : IsTrue (not (is_symbol_byte 58))
unfolding is_blank is_digit is_letter is_symbol_byte is_symbol_start ends_tokens
colon_apart = refl

at_apart : IsTrue (not (is_symbol_byte 64))
unfolding is_blank is_digit is_letter is_symbol_byte is_symbol_start ends_tokens
at_apart = refl

apart_spec : (spec : Option (List ℕ)) (rest : List Item) → IsApart rest → IsApart (spec_items spec ++ rest)
apart_spec None rest h = h
apart_spec (Some spec) rest h = at_apart

apart_offset : (offset : ℤ) (rest : List Item) → IsApart rest → IsApart (offset_items offset ++ rest)
apart_offset (pos zero) rest h = h
apart_offset (pos (suc n)) rest h = plus_apart
apart_offset (negsuc n) rest h = minus_apart

-- Each part, before what follows it.

well_number : (n : ℤ) (rest : List Item) → IsWithin (2 ^ 63) n → IsApart rest → IsWellSpelled rest → IsWellSpelled (number_items n ++ rest)
well_number (pos n) rest h a w = (omega (arith, h), a, w)
well_number (negsuc n) rest h a w = (minus, refl, (omega (arith, h), a, w))

well_spec : (spec : Option (List ℕ)) (rest : List Item) → IsSpecifier spec → IsApart rest → IsWellSpelled rest → IsWellSpelled (spec_items spec ++ rest)
well_spec None rest h a w = w
well_spec (Some spec) rest h a w = (at, refl, (h, a, w))

well_offset : (offset : ℤ) (rest : List Item) → IsWithin (2 ^ 63) offset → IsApart rest → IsWellSpelled rest → IsWellSpelled (offset_items offset ++ rest)
well_offset (pos zero) rest h a w = w
well_offset (pos (suc n)) rest h a w = (plus, refl, (omega (arith, h), a, w))
well_offset (negsuc n) rest h a w = (minus, refl, (omega (arith, h), a, w))

well_atom : (atom : Atom) (rest : List Item) → IsAtom atom → IsApart rest → IsWellSpelled rest → IsWellSpelled (atom_items atom ++ rest)
well_atom atom rest h a w =
    let behind : IsApart (offset_items atom.offset ++ rest) = apart_offset atom.offset rest a in
    let more : IsApart (spec_items atom.spec ++ (offset_items atom.offset ++ rest)) = apart_spec atom.spec _ behind in
    let text : IsWellSpelled (spec_items atom.spec ++ (offset_items atom.offset ++ rest)) = well_spec atom.spec _ h.spec behind (well_offset atom.offset rest h.offset a w) in
    let e = append_assoc (spec_items atom.spec) (offset_items atom.offset) rest in
    (h.name.0, subst IsApart (sym e) more, subst IsWellSpelled (sym e) text)

wide : (n : ℤ) → IsWithin (2 ^ 31) n → IsWithin (2 ^ 63) n
wide (pos n) h = omega (arith, h)
wide (negsuc n) h = omega (arith, h)

well_disp : (disp : Disp) (rest : List Item) → IsDisp disp → IsApart rest → IsWellSpelled rest → IsWellSpelled (disp_items disp ++ rest)
well_disp (Disp.Num n) rest h a w = well_number n rest (wide n h) a w
well_disp (Disp.Sym atom) rest h a w = well_atom atom rest h a w

well_front : (disp : Disp) (rest : List Item) → IsDisp disp → IsApart rest → IsWellSpelled rest → IsWellSpelled (front_items disp ++ rest)
well_front (Disp.Num (pos zero)) rest h a w = w
well_front (Disp.Num (pos (suc n))) rest h a w = well_number (pos (suc n)) rest (wide (pos (suc n)) h) a w
well_front (Disp.Num (negsuc n)) rest h a w = well_number (negsuc n) rest (wide (negsuc n) h) a w
well_front (Disp.Sym atom) rest h a w = well_atom atom rest h a w

well_register : (width : Width) (r : Reg) (rest : List Item) → IsApart rest → IsWellSpelled rest → IsWellSpelled (register_items width r ++ rest)
well_register width r rest a w = (percent, refl, (symbol_from (register_name width r) (register_symbol width r), a, w))

small_scale : (scale : ℕ) → IsScale scale → scale < 2 ^ 64
small_scale scale h = grind arith

well_index : (r : Reg) (scale : ℕ) (rest : List Item) → IsScale scale → IsApart rest → IsWellSpelled rest → IsWellSpelled (index_items (Some r) scale ++ rest)
well_index r scale rest h a w = (comma, refl, well_register Q r (sign 44 ∷ digits scale ∷ rest) comma_apart (comma, refl, (small_scale scale h, a, w)))

-- what stands in a parenthesis, before the closing one
abbrev inner_items : Base → Option Reg → ℕ → List Item
inner_items Base.Absent index scale = index_items index scale
inner_items Base.Rip index scale = sign 37 ∷ name (codes "rip") ∷ index_items index scale
inner_items (Base.Reg b) index scale = register_items Q b ++ index_items index scale

rip_symbol : IsSymbol (codes "rip")
unfolding is_digit is_letter is_symbol_byte is_symbol_start
rip_symbol = (refl, (refl, (refl, tt)))

fs_symbol : IsSymbol (codes "fs")
unfolding is_digit is_letter is_symbol_byte is_symbol_start
fs_symbol = (refl, (refl, tt))

well_close : (rest : List Item) → IsWellSpelled rest → IsWellSpelled (sign 41 ∷ rest)
well_close rest w = (closing, refl, w)

index_scale : (r : Reg) (scale : ℕ) → IsIndex (Some r) scale → IsScale scale
index_scale r scale h = h.1

well_place : (disp : Disp) (base : Base) (index : Option Reg) (scale : ℕ) (fs : Bool) (rest : List Item) → IsDisp disp
    → IsAddress base (record { fs = fs; disp = disp; base = base; index = index; scale = scale }) → IsApart rest → IsWellSpelled rest → IsWellSpelled (place_items disp base index scale ++ rest)
well_place disp Base.Absent None scale fs rest h k a w = well_disp disp rest h a w
well_place disp Base.Absent (Some r) scale fs rest h k a w =
    subst IsWellSpelled (sym (append_assoc (front_items disp) (in_parens (index_items (Some r) scale)) rest))
    (well_front disp (in_parens (index_items (Some r) scale) ++ rest) h opening_apart (opening, refl, well_index r scale (sign 41 ∷ rest) k.1 closing_apart (well_close rest w)))
well_place disp (Base.Reg b) None scale fs rest h k a w =
    subst IsWellSpelled (sym (append_assoc (front_items disp) (in_parens (register_items Q b ++ index_items None scale)) rest))
    (well_front disp (in_parens (register_items Q b ++ index_items None scale) ++ rest) h opening_apart (opening, refl, well_register Q b (sign 41 ∷ rest) closing_apart (well_close rest w)))
well_place disp (Base.Reg b) (Some r) scale fs rest h k a w =
    subst IsWellSpelled (sym (append_assoc (front_items disp) (in_parens (register_items Q b ++ index_items (Some r) scale)) rest))
    (well_front disp (in_parens (register_items Q b ++ index_items (Some r) scale) ++ rest) h opening_apart
    (opening, refl, well_register Q b (index_items (Some r) scale ++ sign 41 ∷ rest) comma_apart (well_index r scale (sign 41 ∷ rest) k.1 closing_apart (well_close rest w))))
well_place disp Base.Rip None scale fs rest h k a w =
    subst IsWellSpelled (sym (append_assoc (front_items disp) (in_parens (sign 37 ∷ name (codes "rip") ∷ [])) rest))
    (well_front disp (in_parens (sign 37 ∷ name (codes "rip") ∷ []) ++ rest) h opening_apart (opening, refl, (percent, refl, (rip_symbol, closing_apart, well_close rest w))))
well_place disp Base.Rip (Some r) scale fs rest h k a w = absurd (none_some k.1)
  where
    none_some : {r : Reg} → Some r ≡ None → ⊥
    none_some e = cc

-- the place of a memory operand is not empty
begun : (disp : Disp) (base : Base) (index : Option Reg) (scale : ℕ) (rest : List Item) → is_last (place_items disp base index scale ++ rest) ≡ false
begun (Disp.Num (pos zero)) Base.Absent None scale rest = refl
begun (Disp.Num (pos (suc n))) Base.Absent None scale rest = refl
begun (Disp.Num (negsuc n)) Base.Absent None scale rest = refl
begun (Disp.Sym atom) Base.Absent None scale rest = refl
begun (Disp.Num (pos zero)) Base.Absent (Some r) scale rest = refl
begun (Disp.Num (pos (suc n))) Base.Absent (Some r) scale rest = refl
begun (Disp.Num (negsuc n)) Base.Absent (Some r) scale rest = refl
begun (Disp.Sym atom) Base.Absent (Some r) scale rest = refl
begun (Disp.Num (pos zero)) (Base.Reg b) index scale rest = refl
begun (Disp.Num (pos (suc n))) (Base.Reg b) index scale rest = refl
begun (Disp.Num (negsuc n)) (Base.Reg b) index scale rest = refl
begun (Disp.Sym atom) (Base.Reg b) index scale rest = refl
begun (Disp.Num (pos zero)) Base.Rip index scale rest = refl
begun (Disp.Num (pos (suc n))) Base.Rip index scale rest = refl
begun (Disp.Num (negsuc n)) Base.Rip index scale rest = refl
begun (Disp.Sym atom) Base.Rip index scale rest = refl

well_segment : (fs : Bool) (rest : List Item) → is_last rest ≡ false → IsWellSpelled rest → IsWellSpelled (segment_items fs ++ rest)
well_segment false rest e w = w
well_segment true rest e w = (percent, refl, (fs_symbol, colon_apart, (colon, ap not e, w)))

well_mem : (mem : Mem) (rest : List Item) → IsMem mem → IsApart rest → IsWellSpelled rest → IsWellSpelled (mem_items mem ++ rest)
well_mem mem rest h a w =
    subst IsWellSpelled (sym (append_assoc (segment_items mem.fs) (place_items mem.disp mem.base mem.index mem.scale) rest))
    (well_segment mem.fs _ (begun mem.disp mem.base mem.index mem.scale rest) (well_place mem.disp mem.base mem.index mem.scale mem.fs rest h.disp h.address a w))

well_imm : (imm : Imm) (rest : List Item) → IsAnyImm imm → IsApart rest → IsWellSpelled rest → IsWellSpelled (imm_items imm ++ rest)
well_imm (Imm.Num n) rest h a w = well_number n rest h a w
well_imm (Imm.Sym atom) rest h a w = well_atom atom rest h a w

-- an operand of any kind, or none
abbrev pub IsAnyArg : Arg → Type 0
IsAnyArg Arg.Absent = ⊤
IsAnyArg (Arg.Reg r) = ⊤
IsAnyArg (Arg.Imm imm) = IsAnyImm imm
IsAnyArg (Arg.Mem mem) = IsMem mem
IsAnyArg (Arg.Code atom) = IsAtom atom

well_arg : (width : Width) (a : Arg) (rest : List Item) → IsAnyArg a → IsApart rest → IsWellSpelled rest → IsWellSpelled (arg_items width a ++ rest)
well_arg width Arg.Absent rest h a w = w
well_arg width (Arg.Reg r) rest h a w = well_register width r rest a w
well_arg width (Arg.Imm imm) rest h a w = (dollar, refl, well_imm imm rest h a w)
well_arg width (Arg.Mem mem) rest h a w = well_mem mem rest h a w
well_arg width (Arg.Code atom) rest h a w = well_atom atom rest h a w

well_star : (op : Op) (rest : List Item) → IsWellSpelled rest → IsWellSpelled (star_items op ++ rest)
well_star Op.JmpStar rest w = (star, refl, w)
well_star Op.JmpStarNotrack rest w = (star, refl, w)
well_star Op.CallStar rest w = (star, refl, w)
well_star _ rest w = w

starred : (op : Op) (items rest : List Item) → IsWellSpelled (items ++ rest) → IsWellSpelled ((star_items op ++ items) ++ rest)
starred op items rest w = subst IsWellSpelled (sym (append_assoc (star_items op) items rest)) (well_star op (items ++ rest) w)

pub well_first : (op : Op) (width : Width) (a : Arg) (rest : List Item) → IsAnyArg a → IsApart rest → IsWellSpelled rest → IsWellSpelled (first_items op width a ++ rest)
well_first op width Arg.Absent rest h a w = w
well_first op width (Arg.Reg r) rest h a w = starred op _ rest (well_arg (first_width op width) (Arg.Reg r) rest h a w)
well_first op width (Arg.Imm imm) rest h a w = starred op _ rest (well_arg (first_width op width) (Arg.Imm imm) rest h a w)
well_first op width (Arg.Mem mem) rest h a w = starred op _ rest (well_arg (first_width op width) (Arg.Mem mem) rest h a w)
well_first op width (Arg.Code atom) rest h a w = starred op _ rest (well_arg (first_width op width) (Arg.Code atom) rest h a w)

pub apart_first : (op : Op) (width : Width) (a : Arg) (rest : List Item) → IsApart rest → IsApart (first_items op width a ++ rest)
apart_first op width Arg.Absent rest h = h
apart_first op width (Arg.Reg r) rest h = tt
apart_first op width (Arg.Imm imm) rest h = tt
apart_first op width (Arg.Mem mem) rest h = tt
apart_first op width (Arg.Code atom) rest h = tt

pub well_next : (width : Width) (a : Arg) (rest : List Item) → IsAnyArg a → IsApart rest → IsWellSpelled rest → IsWellSpelled (next_items width a ++ rest)
well_next width Arg.Absent rest h a w = w
well_next width (Arg.Reg r) rest h a w = (comma, refl, well_arg width (Arg.Reg r) rest h a w)
well_next width (Arg.Imm imm) rest h a w = (comma, refl, well_arg width (Arg.Imm imm) rest h a w)
well_next width (Arg.Mem mem) rest h a w = (comma, refl, well_arg width (Arg.Mem mem) rest h a w)
well_next width (Arg.Code atom) rest h a w = (comma, refl, well_arg width (Arg.Code atom) rest h a w)

pub apart_next : (width : Width) (a : Arg) (rest : List Item) → IsApart rest → IsApart (next_items width a ++ rest)
apart_next width Arg.Absent rest h = h
apart_next width (Arg.Reg r) rest h = comma_apart
apart_next width (Arg.Imm imm) rest h = comma_apart
apart_next width (Arg.Mem mem) rest h = comma_apart
apart_next width (Arg.Code atom) rest h = comma_apart

-- Alignments.

align_test : is_symbol (codes ".p2align") ≡ true
unfolding is_digit is_letter is_symbol_byte is_symbol_start
align_test = refl

well_padding : (fill max : Option ℕ) → IsBelow (2 ^ 64) fill → IsBelow (2 ^ 32) max → IsWellSpelled (padding_items fill max)
well_padding None None f m = tt
well_padding (Some fill) None f m = (comma, refl, (f, tt, tt))
well_padding None (Some max) f m = (comma, refl, (comma, refl, (omega (arith, m), tt, tt)))
well_padding (Some fill) (Some max) f m = (comma, refl, (f, comma_apart, (comma, refl, (omega (arith, m), tt, tt))))

apart_padding : (fill max : Option ℕ) → IsApart (padding_items fill max)
apart_padding None None = tt
apart_padding (Some fill) None = comma_apart
apart_padding None (Some max) = comma_apart
apart_padding (Some fill) (Some max) = comma_apart

pub well_align : (power : ℕ) (fill max : Option ℕ) → power < 13 → IsBelow (2 ^ 64) fill → IsBelow (2 ^ 32) max → IsWellSpelled (align_items power fill max)
well_align power fill max p f m = (symbol_from (codes ".p2align") align_test, tt, (omega (arith, p), apart_padding fill max, well_padding fill max f m))
