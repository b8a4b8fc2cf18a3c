-- Cases of sums and comparisons.
use Rattle.std.specs.Prelude.{[], ◌∷◌, pos}
use Rattle.insn_ir.specs.declared.op.Reg.TheVariants.{Rax, Rcx, Rbx, Rdi, R10, R12, R13}
use Rattle.insn_ir.specs.declared.op.Flag.TheVariants.{Cf, Pf, Zf, Sf, Of}
use Rattle.insn_ir.specs.declared.op.Op.{Op}
use Rattle.insn_ir.specs.declared.op.Width.{Width}
use Rattle.insn_ir.specs.declared.insn.Arg.{Arg}
use Rattle.insn_ir.specs.cases.Cases.{with_a, with_ab, number, Turns, value}

-- `addb %r12b, %bl` with rbx=0xffffffff r12=0x8000000000000001, flags CF ZF SF
-- gives rbx=0xffffff00 r12=0x8000000000000001, flags CF PF ZF: 255 and 1 carry
abbrev pub AddbCarries : Type 0
AddbCarries =
    Turns (with_ab Op.Add Width.B (Arg.Reg R12) (Arg.Reg Rbx))
    (value Rbx 0xffffffff ∷ value R12 0x8000000000000001 ∷ []) (Cf ∷ Zf ∷ Sf ∷ [])
    (value Rbx 0xffffff00 ∷ value R12 0x8000000000000001 ∷ []) (Cf ∷ Pf ∷ Zf ∷ [])

-- `addl $1, %eax` with rax=0x7fffffff
-- gives rax=0x80000000, flags PF SF OF: the greatest signed number and 1 overflow, and do not carry
abbrev pub AddlOverflows : Type 0
AddlOverflows =
    Turns (with_ab Op.Add Width.L (number (pos 1)) (Arg.Reg Rax))
    (value Rax 0x7fffffff ∷ []) []
    (value Rax 0x80000000 ∷ []) (Pf ∷ Sf ∷ Of ∷ [])

-- `adcl %r13d, %edi` with rdi=0xfffffffffde78606 r13=0x84fdfafc0e496182, flags CF PF ZF SF
-- gives rdi=0xc30e789 r13=0x84fdfafc0e496182, flags CF: one more with CF set
abbrev pub AdclAddsTheCarry : Type 0
AdclAddsTheCarry =
    Turns (with_ab Op.Adc Width.L (Arg.Reg R13) (Arg.Reg Rdi))
    (value Rdi 0xfffffffffde78606 ∷ value R13 0x84fdfafc0e496182 ∷ []) (Cf ∷ Pf ∷ Zf ∷ Sf ∷ [])
    (value Rdi 0xc30e789 ∷ value R13 0x84fdfafc0e496182 ∷ []) (Cf ∷ [])

-- `subl %r13d, %edi` with rdi=0x100 r13=0xde76f636ffffffff, flags ZF SF OF
-- gives rdi=0x101 r13=0xde76f636ffffffff, flags CF: 256 is below the greatest number without a sign
abbrev pub SublBorrows : Type 0
SublBorrows =
    Turns (with_ab Op.Sub Width.L (Arg.Reg R13) (Arg.Reg Rdi))
    (value Rdi 0x100 ∷ value R13 0xde76f636ffffffff ∷ []) (Zf ∷ Sf ∷ Of ∷ [])
    (value Rdi 0x101 ∷ value R13 0xde76f636ffffffff ∷ []) (Cf ∷ [])

-- `sbbq $65536, %rcx` with rcx=0xff, flags CF ZF
-- gives rcx=0xffffffffffff00fe, flags CF SF: one less with CF set
abbrev pub SbbqTakesTheBorrow : Type 0
SbbqTakesTheBorrow =
    Turns (with_ab Op.Sbb Width.Q (number (pos 65536)) (Arg.Reg Rcx))
    (value Rcx 0xff ∷ []) (Cf ∷ Zf ∷ [])
    (value Rcx 0xffffffffffff00fe ∷ []) (Cf ∷ Sf ∷ [])

-- `cmpl %r10d, %ecx` with rcx=0x933ba114d62d2b23 r10=0x599003a33971ebac, flags CF PF
-- gives rcx=0x933ba114d62d2b23 r10=0x599003a33971ebac, flags PF SF: flags of the difference alone
abbrev pub CmplKeepsItsOperands : Type 0
CmplKeepsItsOperands =
    Turns (with_ab Op.Cmp Width.L (Arg.Reg R10) (Arg.Reg Rcx))
    (value Rcx 0x933ba114d62d2b23 ∷ value R10 0x599003a33971ebac ∷ []) (Cf ∷ Pf ∷ [])
    (value Rcx 0x933ba114d62d2b23 ∷ value R10 0x599003a33971ebac ∷ []) (Pf ∷ Sf ∷ [])

-- `negl %ecx` with rcx=0x80000000
-- gives rcx=0x80000000, flags CF PF SF OF: the least signed number is its own negative, and overflows
abbrev pub NeglOfTheLeast : Type 0
NeglOfTheLeast =
    Turns (with_a Op.Neg Width.L (Arg.Reg Rcx))
    (value Rcx 0x80000000 ∷ []) []
    (value Rcx 0x80000000 ∷ []) (Cf ∷ Pf ∷ Sf ∷ Of ∷ [])

-- `incl %ecx` with rcx=0xffffffffffffff80, flags CF SF OF
-- gives rcx=0xffffff81, flags CF PF SF: CF stays
abbrev pub InclLeavesCf : Type 0
InclLeavesCf =
    Turns (with_a Op.Inc Width.L (Arg.Reg Rcx))
    (value Rcx 0xffffffffffffff80 ∷ []) (Cf ∷ Sf ∷ Of ∷ [])
    (value Rcx 0xffffff81 ∷ []) (Cf ∷ Pf ∷ Sf ∷ [])

-- `decb %bl` with rbx=0
-- gives rbx=0xff, flags PF SF: no overflow
abbrev pub DecbOfZero : Type 0
DecbOfZero =
    Turns (with_a Op.Dec Width.B (Arg.Reg Rbx))
    (value Rbx 0 ∷ []) []
    (value Rbx 0xff ∷ []) (Pf ∷ Sf ∷ [])
