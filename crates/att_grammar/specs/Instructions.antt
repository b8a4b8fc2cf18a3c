-- Instructions: a mnemonic and its operands (GNU as manual, "i386-Mnemonics" and "i386-Syntax"; the forms are those of SDM volume 2).
use Rattle.std.specs.Prelude.{ℕ, ◌+◌, ◌*◌, ◌%◌, ◌^◌, ℤ, pos, negsuc, ◌-ℤ◌, Bool, true, false, not, ◌==◌, ◌||◌, ◌&&◌, nat_lt, List, [], ◌∷◌, Option, Some, None, is_none, codes, bytes_eq, if◌then◌else◌}
use Rattle.insn_ir.specs.declared.op.Reg.{Reg}
use Rattle.insn_ir.specs.declared.op.Reg.TheVariants.{Rsp, Rcx}
use Rattle.insn_ir.specs.declared.op.Width.{Width}
use Rattle.insn_ir.specs.declared.op.Width.TheVariants.{B, W, L, Q}
use Rattle.insn_ir.specs.declared.op.Op.{Op}
use Rattle.insn_ir.specs.declared.insn.Atom.{Atom}
use Rattle.insn_ir.specs.declared.insn.Disp.{Disp}
use Rattle.insn_ir.specs.declared.insn.Mem.{Mem}
use Rattle.insn_ir.specs.declared.insn.Imm.{Imm}
use Rattle.insn_ir.specs.declared.insn.Arg.{Arg}
use Rattle.insn_ir.specs.declared.insn.Insn.{Insn}
use Rattle.insn_ir.specs.declared.mnemonics.MnemonicHit.{MnemonicHit}
use Rattle.insn_ir.specs.Machine.{same_reg}
use Rattle.insn_ir.specs.Mnemonics.{same_width, has_width, hit_of}
use Rattle.insn_ir.specs.Profile.{count_modulus}
use Rattle.att_grammar.specs.Lexemes.{Lexeme}
use Rattle.att_grammar.specs.Notions.{◌>>=◌, or_else, expect, word_of, this_word, is_among, is_end, whole}
use Rattle.att_grammar.specs.Expressions.{symbol_of}
use Rattle.att_grammar.specs.Operands.{is_within, operand_of, operands_of}
use Rattle.att_grammar.specs.declared.syntax.Symbol.{Symbol}
use Rattle.att_grammar.specs.declared.syntax.Sum.{Sum}
use Rattle.att_grammar.specs.declared.syntax.Displacement.{Displacement}
use Rattle.att_grammar.specs.declared.syntax.Address.{Address}
use Rattle.att_grammar.specs.declared.syntax.Operand.{Operand}
use Rattle.att_grammar.specs.declared.syntax.Operands.{Operands}

-- What an operand is, where an instruction has a width.

abbrev pub is_register : Width → Operand → Bool
is_register width (Operand.Register r w) = same_width w width
is_register width (Operand.Immediate s) = false
is_register width (Operand.Memory m) = false

abbrev pub is_memory : Operand → Bool
is_memory (Operand.Register r w) = false
is_memory (Operand.Immediate s) = false
is_memory (Operand.Memory m) = true

-- a register or memory
abbrev pub is_place : Width → Operand → Bool
is_place width a = is_register width a || is_memory a

-- half of what is above 0, and what is below it, for a number of a width
abbrev pub half : Width → ℕ
half B = 2 ^ 7
half W = 2 ^ 15
half L = 2 ^ 31
half Q = 2 ^ 63

-- an immediate's number, signed or unsigned; at 64 bits it is a signed number of 32 bits (SDM volume 1, "Immediate Operands")
abbrev pub fits_number : Width → ℤ → Bool
fits_number B n = is_within (2 ^ 7) (2 ^ 8) n
fits_number W n = is_within (2 ^ 15) (2 ^ 16) n
fits_number L n = is_within (2 ^ 31) (2 ^ 32) n
fits_number Q n = is_within (2 ^ 31) (2 ^ 31) n

-- a symbol's number has 32 or 64 bits
abbrev pub fits_symbol : Width → Bool
fits_symbol B = false
fits_symbol W = false
fits_symbol L = true
fits_symbol Q = true

abbrev pub fits_sum : Width → Option Symbol → ℤ → Bool
fits_sum width None n = fits_number width n
fits_sum width (Some s) n = fits_symbol width

abbrev pub is_immediate : Width → Operand → Bool
is_immediate width (Operand.Register r w) = false
is_immediate width (Operand.Immediate s) = fits_sum width s.symbol s.number
is_immediate width (Operand.Memory m) = false

abbrev pub is_number : Operand → Bool
is_number (Operand.Register r w) = false
is_number (Operand.Immediate s) = is_none s.symbol
is_number (Operand.Memory m) = false

-- memory without a segment
abbrev pub is_plain_memory : Operand → Bool
is_plain_memory (Operand.Register r w) = false
is_plain_memory (Operand.Immediate s) = false
is_plain_memory (Operand.Memory m) = not m.fs

-- a register of 64 bits other than `%rsp`
abbrev pub is_popped : Operand → Bool
is_popped (Operand.Register r w) = same_width w Q && not (same_reg r Rsp)
is_popped (Operand.Immediate s) = false
is_popped (Operand.Memory m) = false

abbrev pub is_other : Reg → Operand → Bool
is_other r (Operand.Register q w) = not (same_reg r q)
is_other r (Operand.Immediate s) = false
is_other r (Operand.Memory m) = false

-- two different registers
abbrev pub is_exchange : Width → Operand → Operand → Bool
is_exchange width (Operand.Register r w) b = same_width w width && is_register width b && is_other r b
is_exchange width (Operand.Immediate s) b = false
is_exchange width (Operand.Memory m) b = false

-- a count of 8 bits of which a shift at a width uses a part other than 0 (SDM volume 2, SAL/SAR/SHL/SHR)
abbrev pub is_count_number : Width → Option Symbol → ℤ → Bool
is_count_number width (Some s) n = false
is_count_number width None (pos n) = nat_lt n 256 && not (n % count_modulus width == 0)
is_count_number width None (negsuc n) = false

-- such a number, or `%cl`
abbrev pub is_count : Width → Operand → Bool
is_count width (Operand.Register r w) = same_width w B && same_reg r Rcx
is_count width (Operand.Immediate s) = is_count_number width s.symbol s.number
is_count width (Operand.Memory m) = false

-- register to register or memory, memory to register, immediate to register or memory
abbrev pub is_move : Width → Operand → Operand → Bool
is_move width a b =
    (is_register width a && is_place width b) || (is_memory a && is_register width b) || (is_immediate width a && is_place width b)

abbrev pub is_tested : Width → Operand → Operand → Bool
is_tested width a b = (is_register width a || is_immediate width a) && is_place width b

-- a number of 64 bits to a register
abbrev pub is_wide : Width → Operand → Operand → Bool
is_wide width a b = is_number a && is_register width b

-- an address to a register
abbrev pub is_address_to : Width → Operand → Operand → Bool
is_address_to width a b = is_plain_memory a && is_register width b

abbrev pub is_pushed : Width → Operand → Bool
is_pushed width a = is_place width a || is_immediate width a

-- How many operands there are, and what each is.

abbrev pub none : Operands → Bool
none Operands.Nothing = true
none (Operands.One a) = false
none (Operands.Two a b) = false
none (Operands.Three a b c) = false

abbrev pub one : (Operand → Bool) → Operands → Bool
one p Operands.Nothing = false
one p (Operands.One a) = p a
one p (Operands.Two a b) = false
one p (Operands.Three a b c) = false

abbrev pub two : (Operand → Operand → Bool) → Operands → Bool
two p Operands.Nothing = false
two p (Operands.One a) = false
two p (Operands.Two a b) = p a b
two p (Operands.Three a b c) = false

abbrev pub three : (Operand → Operand → Operand → Bool) → Operands → Bool
three p Operands.Nothing = false
three p (Operands.One a) = false
three p (Operands.Two a b) = false
three p (Operands.Three a b c) = p a b c

abbrev pub has_place : Width → Operands → Bool
has_place width operands = one (is_place width) operands

-- register or memory to register
abbrev pub has_load : Width → Width → Operands → Bool
has_load source width operands = two (λ a b. is_place source a && is_register width b) operands

-- a shift by 1 has no count
abbrev pub has_shift : Width → Operands → Bool
has_shift width operands = has_place width operands || two (λ a b. is_count width a && is_place width b) operands

-- with one register for the source and the result, it is written once
abbrev pub has_product : Width → Operands → Bool
has_product width operands =
    two (λ a b. is_immediate width a && is_register width b) operands
    || three (λ a b c. is_immediate width a && is_place width b && is_register width c) operands

-- which operands an operation is written with at a width
abbrev pub has_operands : Op → Width → Operands → Bool
has_operands Op.Mov width operands = two (is_move width) operands
has_operands Op.Movabs width operands = two (is_wide width) operands
has_operands (Op.Movz source) width operands = has_load source width operands
has_operands (Op.Movs source) width operands = has_load source width operands
has_operands Op.Lea width operands = two (is_address_to width) operands
has_operands Op.Push width operands = one (is_pushed width) operands
has_operands Op.Pop width operands = one is_popped operands
has_operands Op.Leave width operands = none operands
has_operands Op.Xchg width operands = two (is_exchange width) operands
has_operands Op.Bswap width operands = one (is_register width) operands
has_operands Op.Not width operands = has_place width operands
has_operands Op.Neg width operands = has_place width operands
has_operands Op.Inc width operands = has_place width operands
has_operands Op.Dec width operands = has_place width operands
has_operands Op.Add width operands = two (is_move width) operands
has_operands Op.Adc width operands = two (is_move width) operands
has_operands Op.Sub width operands = two (is_move width) operands
has_operands Op.Sbb width operands = two (is_move width) operands
has_operands Op.Cmp width operands = two (is_move width) operands
has_operands Op.And width operands = two (is_move width) operands
has_operands Op.Or width operands = two (is_move width) operands
has_operands Op.Xor width operands = two (is_move width) operands
has_operands Op.Test width operands = two (is_tested width) operands
has_operands Op.Shl width operands = has_shift width operands
has_operands Op.Shr width operands = has_shift width operands
has_operands Op.Sar width operands = has_shift width operands
has_operands Op.Imul1 width operands = has_place width operands
has_operands Op.Mul width operands = has_place width operands
has_operands Op.Div width operands = has_place width operands
has_operands Op.Idiv width operands = has_place width operands
has_operands Op.Imul2 width operands = has_load width width operands
has_operands Op.Imul3 width operands = has_product width operands
has_operands (Op.Setcc cond) width operands = has_place width operands
has_operands (Op.Cmov cond) width operands = has_load width width operands
has_operands Op.Cwtl width operands = none operands
has_operands Op.Cltq width operands = none operands
has_operands Op.Cltd width operands = none operands
has_operands Op.Cqto width operands = none operands
has_operands Op.Jmp width operands = false
has_operands (Op.Jcc cond) width operands = false
has_operands Op.JmpStar width operands = has_place width operands
has_operands Op.JmpStarNotrack width operands = has_place width operands
has_operands Op.Call width operands = false
has_operands Op.CallStar width operands = has_place width operands
has_operands Op.Ret width operands = none operands
has_operands Op.RepRet width operands = none operands
has_operands Op.Nop width operands = none operands
has_operands Op.Endbr64 width operands = none operands
has_operands Op.Ud2 width operands = none operands

-- What operands stand for.

abbrev pub atom_of : Symbol → ℤ → Atom
atom_of s offset = record { name = s.name; spec = s.spec; offset = offset }

abbrev pub disp_of : Displacement → Disp
disp_of (Displacement.Number n) = Disp.Num n
disp_of (Displacement.Symbol s n) = Disp.Sym (atom_of s n)

abbrev pub mem_of : Address → Mem
mem_of m = record { fs = m.fs; disp = disp_of m.disp; base = m.paren.base; index = m.paren.index; scale = m.paren.scale }

-- a number that fits a width, signed or unsigned, as the signed number that has its bits
abbrev pub kept : Width → ℤ → ℤ
kept width (pos n) = if nat_lt n (half width) then pos n else pos n -ℤ pos (2 * half width)
kept width (negsuc n) = negsuc n

abbrev pub imm_of : Width → Option Symbol → ℤ → Imm
imm_of width None n = Imm.Num (kept width n)
imm_of width (Some s) n = Imm.Sym (atom_of s n)

abbrev pub arg_of : Width → Operand → Arg
arg_of width (Operand.Register r w) = Arg.Reg r
arg_of width (Operand.Immediate s) = Arg.Imm (imm_of width s.symbol s.number)
arg_of width (Operand.Memory m) = Arg.Mem (mem_of m)

abbrev pub is_shift : Op → Bool
is_shift Op.Shl = true
is_shift Op.Shr = true
is_shift Op.Sar = true
is_shift _ = false

abbrev pub is_product : Op → Bool
is_product Op.Imul3 = true
is_product _ = false

abbrev pub insn : Op → Width → Arg → Arg → Arg → Insn
insn op width a b c = record { op = op; width = width; a = a; b = b; c = c }

-- the instruction with these operands: a shift without a count is by 1, and a product of two operands has the second twice
abbrev pub insn_of : Op → Width → Operands → Insn
insn_of op width Operands.Nothing = insn op width Arg.Absent Arg.Absent Arg.Absent
insn_of op width (Operands.One a) =
    if is_shift op then insn op width (Arg.Imm (Imm.Num (pos 1))) (arg_of width a) Arg.Absent
    else insn op width (arg_of width a) Arg.Absent Arg.Absent
insn_of op width (Operands.Two a b) =
    if is_product op then insn op width (arg_of width a) (arg_of width b) (arg_of width b)
    else insn op width (arg_of width a) (arg_of width b) Arg.Absent
insn_of op width (Operands.Three a b c) = insn op width (arg_of width a) (arg_of width b) (arg_of width c)

-- an operation, where it has the width and the operands
abbrev pub read_as : Op → Width → Operands → Option Insn
read_as op width operands = if has_width op width && has_operands op width operands then Some (insn_of op width operands) else None

-- the first operation of a name that has the width and the operands: `mov` is Mov or Movabs, and `imul` has one, two or three operands
abbrev pub read_by : Op → Width → Operands → Option Insn
read_by Op.Mov width operands = or_else (read_as Op.Mov width operands) (read_as Op.Movabs width operands)
read_by Op.Imul1 width operands =
    or_else (read_as Op.Imul1 width operands) (or_else (read_as Op.Imul2 width operands) (read_as Op.Imul3 width operands))
read_by op width operands = read_as op width operands

-- Without a letter the width is that of a register operand (GNU as manual, "i386-Mnemonics"). Where two of them differ, or the only
-- one is the count `%cl`, no operation has the operands.

abbrev pub register_width : Operand → Option Width
register_width (Operand.Register r w) = Some w
register_width (Operand.Immediate s) = None
register_width (Operand.Memory m) = None

-- that of the last one
abbrev pub last_width : Operands → Option Width
last_width Operands.Nothing = None
last_width (Operands.One a) = register_width a
last_width (Operands.Two a b) = or_else (register_width b) (register_width a)
last_width (Operands.Three a b c) = or_else (register_width c) (or_else (register_width b) (register_width a))

-- that of the mnemonic, where it has one
abbrev pub width_of : MnemonicHit → Operands → Option Width
width_of hit operands = or_else hit.width (last_width operands)

unfoldable pub plain_of : MnemonicHit → List Lexeme → Option Insn
plain_of hit lexemes = operands_of lexemes >>= λ operands. width_of hit operands >>= λ width. read_by hit.op width operands

-- Jumps and calls.

abbrev pub is_direct : Op → Bool
is_direct Op.Jmp = true
is_direct (Op.Jcc cond) = true
is_direct Op.Call = true
is_direct _ = false

abbrev pub lone_symbol : List Lexeme → Option Symbol
lone_symbol lexemes = symbol_of lexemes >>= whole

abbrev pub lone_operand : List Lexeme → Option Operand
lone_operand lexemes = operand_of lexemes >>= whole

-- a name, perhaps with a specifier, where control goes
unfoldable pub target_of : Op → List Lexeme → Option Insn
target_of op lexemes = lone_symbol lexemes >>= λ s. Some (insn op Q (Arg.Code (atom_of s (pos 0))) Arg.Absent Arg.Absent)

-- a register or memory that says where
unfoldable pub starred_of : Op → List Lexeme → Option Insn
starred_of op lexemes = lone_operand lexemes >>= λ a. read_as op Q (Operands.One a)

-- which names may have `*` behind them
abbrev pub star_op : List ℕ → Option Op
star_op name =
    if bytes_eq (codes "jmp") name then Some Op.JmpStar
    else (if is_among (codes "call" ∷ codes "callq" ∷ []) name then Some Op.CallStar else None)

abbrev pub jump_with : Option (List Lexeme) → Op → List ℕ → List Lexeme → Option Insn
jump_with (Some rest) op name lexemes = star_op name >>= λ star. starred_of star rest
jump_with None op name lexemes = target_of op lexemes

unfoldable pub jump_of : Op → List ℕ → List Lexeme → Option Insn
jump_of op name lexemes = jump_with (expect 42 lexemes) op name lexemes

abbrev pub behind_notrack : List Lexeme → Option (List Lexeme)
behind_notrack lexemes = this_word (codes "jmp") lexemes >>= expect 42

-- `notrack jmp *`, `rep ret` and `repz ret` (GNU as manual, "i386-Prefixes")
unfoldable pub notrack_of : List Lexeme → Option Insn
notrack_of lexemes = behind_notrack lexemes >>= starred_of Op.JmpStarNotrack

unfoldable pub rep_of : List Lexeme → Option Insn
rep_of lexemes = this_word (codes "ret") lexemes >>= λ rest. if is_end rest then Some (insn_of Op.RepRet Q Operands.Nothing) else None

unfoldable pub prefixed_of : List ℕ → List Lexeme → Option Insn
prefixed_of name lexemes =
    if bytes_eq (codes "notrack") name then notrack_of lexemes
    else (if is_among (codes "rep" ∷ codes "repz" ∷ []) name then rep_of lexemes else None)

abbrev pub behind : Option MnemonicHit → List ℕ → List Lexeme → Option Insn
behind None name lexemes = prefixed_of name lexemes
behind (Some hit) name lexemes = if is_direct hit.op then jump_of hit.op name lexemes else plain_of hit lexemes

-- the instruction that the lexemes of a piece are
unfoldable pub instruction_of : List Lexeme → Option Insn
instruction_of lexemes = word_of lexemes >>= λ name. behind (hit_of name.0) name.0 name.1
