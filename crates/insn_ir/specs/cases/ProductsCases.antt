-- Cases of products and quotients.
use Rattle.std.specs.Prelude.{◌≡◌, [], ◌∷◌, negsuc}
use Rattle.insn_ir.specs.declared.op.Reg.TheVariants.{Rax, Rcx, Rdx, R8, R11, R14}
use Rattle.insn_ir.specs.declared.op.Flag.TheVariants.{Cf, Pf, Zf, Sf, Of}
use Rattle.insn_ir.specs.declared.op.Op.{Op}
use Rattle.insn_ir.specs.declared.op.Width.{Width}
use Rattle.insn_ir.specs.declared.insn.Arg.{Arg}
use Rattle.insn_ir.specs.Task.{Faults, perform}
use Rattle.insn_ir.specs.Step.{insn_task}
use Rattle.insn_ir.specs.cases.Cases.{with_a, with_ab, number, state_of, plain, Turns, value}

-- `imull %r11d, %ecx` with rcx=0x10 r11=0xe69717a4fa5a55a3, flags PF ZF SF
-- gives rcx=0xa5a55a30 r11=0xe69717a4fa5a55a3, flags none: a negative number times 16
abbrev pub ImullThatFits : Type 0
ImullThatFits =
    Turns (with_ab Op.Imul2 Width.L (Arg.Reg R11) (Arg.Reg Rcx))
    (value Rcx 0x10 ∷ value R11 0xe69717a4fa5a55a3 ∷ []) (Pf ∷ Zf ∷ Sf ∷ [])
    (value Rcx 0xa5a55a30 ∷ value R11 0xe69717a4fa5a55a3 ∷ []) []

-- `imull $-128, %edx, %r11d` with rdx=0x2904f6ac6bfd069d r11=1, flags PF
-- gives rdx=0x2904f6ac6bfd069d r11=0x17cb180, flags CF OF: the low half alone
abbrev pub ImullThatDoesNotFit : Type 0
ImullThatDoesNotFit =
    Turns (record { op = Op.Imul3; width = Width.L; a = (number (negsuc 127)); b = (Arg.Reg Rdx); c = (Arg.Reg R11) })
    (value Rdx 0x2904f6ac6bfd069d ∷ value R11 1 ∷ []) (Pf ∷ [])
    (value Rdx 0x2904f6ac6bfd069d ∷ value R11 0x17cb180 ∷ []) (Cf ∷ Of ∷ [])

-- `mulq %r14` with rax=0x81 rdx=0xffffffffffffff81 r14=0x5ebfa38bd2dbc572
-- gives rax=0xbe91697540be7e72 rdx=0x2f r14=0x5ebfa38bd2dbc572, flags CF OF: the high half in rdx
abbrev pub MulqWithAHighHalf : Type 0
MulqWithAHighHalf =
    Turns (with_a Op.Mul Width.Q (Arg.Reg R14))
    (value Rax 0x81 ∷ value Rdx 0xffffffffffffff81 ∷ value R14 0x5ebfa38bd2dbc572 ∷ []) []
    (value Rax 0xbe91697540be7e72 ∷ value Rdx 0x2f ∷ value R14 0x5ebfa38bd2dbc572 ∷ []) (Cf ∷ Of ∷ [])

-- `divl %r8d` with rax=0xffffffff62557f06 rdx=0xfff5025b00f84879 r8=0xfffffffeffffffff
-- gives rax=0xf84879 rdx=0x634dc77f r8=0xfffffffeffffffff, flags none: quotient and remainder of edx and eax
abbrev pub DivlTakesBothHalves : Type 0
DivlTakesBothHalves =
    Turns (with_a Op.Div Width.L (Arg.Reg R8))
    (value Rax 0xffffffff62557f06 ∷ value Rdx 0xfff5025b00f84879 ∷ value R8 0xfffffffeffffffff ∷ []) []
    (value Rax 0xf84879 ∷ value Rdx 0x634dc77f ∷ value R8 0xfffffffeffffffff ∷ []) []

-- `idivl %ecx` with rax=0xfffffff9 rdx=0xffffffff rcx=2
-- gives rax=0xfffffffd rdx=0xffffffff rcx=2, flags none: -7 by 2 is -3, and leaves -1
abbrev pub IdivlCutsTowardsZero : Type 0
IdivlCutsTowardsZero =
    Turns (with_a Op.Idiv Width.L (Arg.Reg Rcx))
    (value Rax 0xfffffff9 ∷ value Rdx 0xffffffff ∷ value Rcx 2 ∷ []) []
    (value Rax 0xfffffffd ∷ value Rdx 0xffffffff ∷ value Rcx 2 ∷ []) []

-- `divl %ecx`, rax=1, faults: no quotient
abbrev pub DivlByZero : Type 0
DivlByZero =
    perform (insn_task [] plain (with_a Op.Div Width.L (Arg.Reg Rcx))) (state_of (value Rax 1 ∷ []) [] []) ≡ Faults

-- `divl %ecx`, rax=0 rdx=2 rcx=2, faults: the quotient is 2 to the 32
abbrev pub DivlTooGreat : Type 0
DivlTooGreat =
    perform (insn_task [] plain (with_a Op.Div Width.L (Arg.Reg Rcx))) (state_of (value Rax 0 ∷ value Rdx 2 ∷ value Rcx 2 ∷ []) [] []) ≡ Faults

-- `idivl %ecx`, rax=0x80000000 rdx=0xffffffff rcx=0xffffffff, faults: the quotient is 2 to the 31
abbrev pub IdivlOfTheLeastByMinusOne : Type 0
IdivlOfTheLeastByMinusOne =
    perform (insn_task [] plain (with_a Op.Idiv Width.L (Arg.Reg Rcx))) (state_of (value Rax 0x80000000 ∷ value Rdx 0xffffffff ∷ value Rcx 0xffffffff ∷ []) [] []) ≡ Faults
