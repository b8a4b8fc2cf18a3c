-- Cases of logic and of shifts.
use Rattle.std.specs.Prelude.{[], ◌∷◌, pos}
use Rattle.insn_ir.specs.declared.op.Reg.TheVariants.{Rax, Rcx, Rdx, Rbp, Rsi, R12, R14}
use Rattle.insn_ir.specs.declared.op.Flag.TheVariants.{Cf, Pf, Zf, Sf, Of}
use Rattle.insn_ir.specs.declared.op.Op.{Op}
use Rattle.insn_ir.specs.declared.op.Width.{Width}
use Rattle.insn_ir.specs.declared.insn.Arg.{Arg}
use Rattle.insn_ir.specs.cases.Cases.{with_a, with_ab, number, Turns, value}

-- `andl %esi, %ebp` with rbp=0x30ddf5f30000feff rsi=0xd417974c17993778, flags CF OF
-- gives rbp=0x3678 rsi=0xd417974c17993778, flags PF: CF and OF are cleared
abbrev pub AndlClearsCfAndOf : Type 0
AndlClearsCfAndOf =
    Turns (with_ab Op.And Width.L (Arg.Reg Rsi) (Arg.Reg Rbp))
    (value Rbp 0x30ddf5f30000feff ∷ value Rsi 0xd417974c17993778 ∷ []) (Cf ∷ Of ∷ [])
    (value Rbp 0x3678 ∷ value Rsi 0xd417974c17993778 ∷ []) (Pf ∷ [])

-- `xorq %rdx, %rdx` with rdx=0xa4acdf750000fffd
-- gives rdx=0, flags PF ZF: zero
abbrev pub XorqOfARegisterAndItself : Type 0
XorqOfARegisterAndItself =
    Turns (with_ab Op.Xor Width.Q (Arg.Reg Rdx) (Arg.Reg Rdx))
    (value Rdx 0xa4acdf750000fffd ∷ []) []
    (value Rdx 0 ∷ []) (Pf ∷ Zf ∷ [])

-- `testb %cl, %r12b` with rcx=0x710cd658718d9bfc r12=0xffffffffffffccca, flags CF OF
-- gives rcx=0x710cd658718d9bfc r12=0xffffffffffffccca, flags SF: flags of the bitwise and alone
abbrev pub TestbKeepsItsOperands : Type 0
TestbKeepsItsOperands =
    Turns (with_ab Op.Test Width.B (Arg.Reg Rcx) (Arg.Reg R12))
    (value Rcx 0x710cd658718d9bfc ∷ value R12 0xffffffffffffccca ∷ []) (Cf ∷ Of ∷ [])
    (value Rcx 0x710cd658718d9bfc ∷ value R12 0xffffffffffffccca ∷ []) (Sf ∷ [])

-- `notw %r12w` with r12=0x2f1f60818448300, flags CF PF ZF OF
-- gives r12=0x2f1f60818447cff, flags CF PF ZF OF: no flag changes
abbrev pub NotwInvertsSixteenBits : Type 0
NotwInvertsSixteenBits =
    Turns (with_a Op.Not Width.W (Arg.Reg R12))
    (value R12 0x2f1f60818448300 ∷ []) (Cf ∷ Pf ∷ Zf ∷ Of ∷ [])
    (value R12 0x2f1f60818447cff ∷ []) (Cf ∷ Pf ∷ Zf ∷ Of ∷ [])

-- `shrl $1, %eax` with rax=0x80000003
-- gives rax=0x40000001, flags CF OF: CF is the bit that went out, OF the old top bit
abbrev pub ShrlByOne : Type 0
ShrlByOne =
    Turns (with_ab Op.Shr Width.L (number (pos 1)) (Arg.Reg Rax))
    (value Rax 0x80000003 ∷ []) []
    (value Rax 0x40000001 ∷ []) (Cf ∷ Of ∷ [])

-- `sarl $31, %r14d` with r14=0xffffffff80000001, flags ZF OF
-- gives r14=0xffffffff, flags PF SF: copies of the sign
abbrev pub SarlByThirtyOne : Type 0
SarlByThirtyOne =
    Turns (with_ab Op.Sar Width.L (number (pos 31)) (Arg.Reg R14))
    (value R14 0xffffffff80000001 ∷ []) (Zf ∷ Of ∷ [])
    (value R14 0xffffffff ∷ []) (Pf ∷ Sf ∷ [])

-- `shll $95, %ecx` with rcx=0x1eb91c9bcf7b0a11, flags CF PF ZF
-- gives rcx=0x80000000, flags PF SF: 95 is 31
abbrev pub ShllMasksTheCount : Type 0
ShllMasksTheCount =
    Turns (with_ab Op.Shl Width.L (number (pos 95)) (Arg.Reg Rcx))
    (value Rcx 0x1eb91c9bcf7b0a11 ∷ []) (Cf ∷ Pf ∷ Zf ∷ [])
    (value Rcx 0x80000000 ∷ []) (Pf ∷ Sf ∷ [])

-- `shlq %cl, %rax` with rcx=0x40 rax=5, flags CF ZF OF
-- gives rcx=0x40 rax=5, flags CF ZF OF: 64 is 0, which leaves the flags
abbrev pub ShlqByNothing : Type 0
ShlqByNothing =
    Turns (with_ab Op.Shl Width.Q (Arg.Reg Rcx) (Arg.Reg Rax))
    (value Rcx 0x40 ∷ value Rax 5 ∷ []) (Cf ∷ Zf ∷ Of ∷ [])
    (value Rcx 0x40 ∷ value Rax 5 ∷ []) (Cf ∷ Zf ∷ Of ∷ [])
