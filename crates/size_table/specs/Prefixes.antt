-- The prefixes of an instruction (SDM volume 2, "Instruction Prefixes" and "REX Prefixes"), a byte each.
use Rattle.std.specs.Prelude.{ℕ, ◌+◌, Bool, true, false, ◌||◌, not, if◌then◌else◌, Option, Some, None}
use Rattle.insn_ir.specs.declared.op.Reg.{Reg}
use Rattle.insn_ir.specs.declared.op.Reg.TheVariants.{Rsp, Rbp, Rsi, Rdi, R8, R9, R10, R11, R12, R13, R14, R15}
use Rattle.insn_ir.specs.declared.op.Width.{Width}
use Rattle.insn_ir.specs.declared.op.Width.TheVariants.{B, W, Q}
use Rattle.insn_ir.specs.declared.op.Op.{Op}
use Rattle.insn_ir.specs.declared.insn.Base.{Base}
use Rattle.insn_ir.specs.declared.insn.Arg.{Arg}
use Rattle.insn_ir.specs.declared.insn.Insn.{Insn}

-- operand size, 66H
abbrev pub width_prefix : Width → ℕ
width_prefix W = 1
width_prefix width = 0

-- `%fs:`, 64H
abbrev pub fs_prefix : Arg → ℕ
fs_prefix (Arg.Mem mem) = if mem.fs then 1 else 0
fs_prefix arg = 0

-- `notrack`, 3EH (SDM volume 1, "No-track Prefix for Near Indirect CALL/JMP"), and `rep`, F3H
abbrev pub op_prefix : Op → ℕ
op_prefix Op.JmpStarNotrack = 1
op_prefix Op.RepRet = 1
op_prefix op = 0

-- operations with a size of 64 bits by default, or with no size (SDM volume 2, "Default 64-Bit Operand Size")
abbrev pub has_default_size : Op → Bool
has_default_size Op.Push = true
has_default_size Op.Pop = true
has_default_size Op.Leave = true
has_default_size Op.Jmp = true
has_default_size (Op.Jcc cond) = true
has_default_size Op.JmpStar = true
has_default_size Op.JmpStarNotrack = true
has_default_size Op.Call = true
has_default_size Op.CallStar = true
has_default_size Op.Ret = true
has_default_size Op.RepRet = true
has_default_size Op.Nop = true
has_default_size Op.Endbr64 = true
has_default_size Op.Ud2 = true
has_default_size op = false

-- REX.W: a size of 64 bits that isn't the default
abbrev pub is_wide : Op → Width → Bool
is_wide op Q = not (has_default_size op)
is_wide op width = false

-- REX.R, REX.X and REX.B: r8 to r15
abbrev pub is_extended : Reg → Bool
is_extended R8 = true
is_extended R9 = true
is_extended R10 = true
is_extended R11 = true
is_extended R12 = true
is_extended R13 = true
is_extended R14 = true
is_extended R15 = true
is_extended r = false

-- spl, bpl, sil and dil, which without REX are ah, ch, dh and bh
abbrev pub is_low_byte : Width → Reg → Bool
is_low_byte B Rsp = true
is_low_byte B Rbp = true
is_low_byte B Rsi = true
is_low_byte B Rdi = true
is_low_byte width r = false

abbrev pub is_extended_base : Base → Bool
is_extended_base (Base.Reg r) = is_extended r
is_extended_base base = false

abbrev pub is_extended_index : Option Reg → Bool
is_extended_index (Some r) = is_extended r
is_extended_index None = false

-- whether an operand, whose registers have a width, asks for REX
abbrev pub asks_rex : Width → Arg → Bool
asks_rex width (Arg.Reg r) = is_extended r || is_low_byte width r
asks_rex width (Arg.Mem mem) = is_extended_base mem.base || is_extended_index mem.index
asks_rex width arg = false

-- the width of a register that is the first operand
abbrev pub source_width : Op → Width → Width
source_width (Op.Movz source) width = source
source_width (Op.Movs source) width = source
source_width op width = width

abbrev pub has_rex : Insn → Bool
has_rex insn =
    is_wide insn.op insn.width
    || asks_rex (source_width insn.op insn.width) insn.a || asks_rex insn.width insn.b || asks_rex insn.width insn.c

abbrev pub prefix_size : Insn → ℕ
prefix_size insn =
    width_prefix insn.width + (fs_prefix insn.a + fs_prefix insn.b) + op_prefix insn.op + (if has_rex insn then 1 else 0)
