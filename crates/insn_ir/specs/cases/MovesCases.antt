-- Cases of moves and of the stack.
use Rattle.std.specs.Prelude.{[], ◌∷◌}
use Rattle.insn_ir.specs.declared.op.Reg.TheVariants.{Rax, Rdx, Rbx, Rsp, Rbp, Rdi, R9, R11, R12, R13, R14, R15}
use Rattle.insn_ir.specs.declared.op.Flag.TheVariants.{Cf, Pf, Zf, Sf, Of}
use Rattle.insn_ir.specs.declared.op.Op.{Op}
use Rattle.insn_ir.specs.declared.op.Width.{Width}
use Rattle.insn_ir.specs.declared.insn.Arg.{Arg}
use Rattle.insn_ir.specs.Machine.{Event}
use Rattle.insn_ir.specs.cases.Cases.{bare, with_a, with_ab, plain, value, word, Turns, Executes}

-- `movl %r12d, %r11d` with r11=0x889bf19eaec00001 r12=0x10000, flags ZF
-- gives r11=0x10000 r12=0x10000, flags ZF: 32 bits clear the upper half
abbrev pub MovlClearsTheUpperHalf : Type 0
MovlClearsTheUpperHalf =
    Turns (with_ab Op.Mov Width.L (Arg.Reg R12) (Arg.Reg R11))
    (value R11 0x889bf19eaec00001 ∷ value R12 0x10000 ∷ []) (Zf ∷ [])
    (value R11 0x10000 ∷ value R12 0x10000 ∷ []) (Zf ∷ [])

-- `movb %r13b, %r9b` with r9=0x67d0648affffffff r13=0x7f, flags CF PF SF OF
-- gives r9=0x67d0648affffff7f r13=0x7f, flags CF PF SF OF: 8 bits leave the others
abbrev pub MovbKeepsTheRest : Type 0
MovbKeepsTheRest =
    Turns (with_ab Op.Mov Width.B (Arg.Reg R13) (Arg.Reg R9))
    (value R9 0x67d0648affffffff ∷ value R13 0x7f ∷ []) (Cf ∷ Pf ∷ Sf ∷ Of ∷ [])
    (value R9 0x67d0648affffff7f ∷ value R13 0x7f ∷ []) (Cf ∷ Pf ∷ Sf ∷ Of ∷ [])

-- `movsbw %r14b, %di` with r14=0x56a4da8e35a001db rdi=0x2916c3b28422908d, flags SF OF
-- gives r14=0x56a4da8e35a001db rdi=0x2916c3b28422ffdb, flags SF OF: 16 bits, extended with the sign of 8
abbrev pub MovsbwExtendsTheSign : Type 0
MovsbwExtendsTheSign =
    Turns (with_ab (Op.Movs Width.B) Width.W (Arg.Reg R14) (Arg.Reg Rdi))
    (value R14 0x56a4da8e35a001db ∷ value Rdi 0x2916c3b28422908d ∷ []) (Sf ∷ Of ∷ [])
    (value R14 0x56a4da8e35a001db ∷ value Rdi 0x2916c3b28422ffdb ∷ []) (Sf ∷ Of ∷ [])

-- `movzbq %r11b, %rbx` with r11=0x5b4251e3d62f8f8a rbx=0x157dc382e056d075, flags CF SF
-- gives r11=0x5b4251e3d62f8f8a rbx=0x8a, flags CF SF: extended with zeros
abbrev pub MovzbqClearsTheRest : Type 0
MovzbqClearsTheRest =
    Turns (with_ab (Op.Movz Width.B) Width.Q (Arg.Reg R11) (Arg.Reg Rbx))
    (value R11 0x5b4251e3d62f8f8a ∷ value Rbx 0x157dc382e056d075 ∷ []) (Cf ∷ Sf ∷ [])
    (value R11 0x5b4251e3d62f8f8a ∷ value Rbx 0x8a ∷ []) (Cf ∷ Sf ∷ [])

-- `cltd` with rax=0xfffffffeffffffff rdx=0x100, flags PF ZF SF
-- gives rax=0xfffffffeffffffff rdx=0xffffffff, flags PF ZF SF: edx is filled with eax's sign
abbrev pub CltdCopiesTheSign : Type 0
CltdCopiesTheSign =
    Turns (bare Op.Cltd Width.L)
    (value Rax 0xfffffffeffffffff ∷ value Rdx 0x100 ∷ []) (Pf ∷ Zf ∷ Sf ∷ [])
    (value Rax 0xfffffffeffffffff ∷ value Rdx 0xffffffff ∷ []) (Pf ∷ Zf ∷ Sf ∷ [])

-- `bswapq %r11` with r11=0x244be45edcb35b, flags ZF SF
-- gives r11=0x5bb3dc5ee44b2400, flags ZF SF: the bytes in the other order
abbrev pub BswapqTurnsBytesRound : Type 0
BswapqTurnsBytesRound =
    Turns (with_a Op.Bswap Width.Q (Arg.Reg R11))
    (value R11 0x244be45edcb35b ∷ []) (Zf ∷ Sf ∷ [])
    (value R11 0x5bb3dc5ee44b2400 ∷ []) (Zf ∷ Sf ∷ [])

-- `xchgq %r14, %r15` with r14=0xbf1 r15=0xfa79ffb16148dd56, flags CF ZF
-- gives r14=0xfa79ffb16148dd56 r15=0xbf1, flags CF ZF: both are read first
abbrev pub XchgqExchanges : Type 0
XchgqExchanges =
    Turns (with_ab Op.Xchg Width.Q (Arg.Reg R14) (Arg.Reg R15))
    (value R14 0xbf1 ∷ value R15 0xfa79ffb16148dd56 ∷ []) (Cf ∷ Zf ∷ [])
    (value R14 0xfa79ffb16148dd56 ∷ value R15 0xbf1 ∷ []) (Cf ∷ Zf ∷ [])

-- `pushq %rsp` with rsp=0x1008: rsp is read before it is lowered
abbrev pub PushqRspPushesTheOldOne : Type 0
PushqRspPushesTheOldOne =
    Executes plain (with_a Op.Push Width.Q (Arg.Reg Rsp)) (value Rsp 0x1008 ∷ []) (word 0x1000 0 ∷ [])
    (Event.Store 0x1000 8 0x1008 ∷ []) (value Rsp 0x1000 ∷ []) (word 0x1000 0x1008 ∷ [])

-- `popq %rax` with rax=1 rsp=0x1000, where 7 stands at 0x1000: rsp is raised by 8
abbrev pub PopqTakesTheWord : Type 0
PopqTakesTheWord =
    Executes plain (with_a Op.Pop Width.Q (Arg.Reg Rax)) (value Rax 1 ∷ value Rsp 0x1000 ∷ []) (word 0x1000 7 ∷ [])
    [] (value Rax 7 ∷ value Rsp 0x1008 ∷ []) (word 0x1000 7 ∷ [])

-- `leave` with rsp=0x10 rbp=0x1000, where 9 stands at 0x1000: rsp is above the word that rbp pointed to
abbrev pub LeavePopsTheFrame : Type 0
LeavePopsTheFrame =
    Executes plain (bare Op.Leave Width.Q) (value Rsp 0x10 ∷ value Rbp 0x1000 ∷ []) (word 0x1000 9 ∷ [])
    [] (value Rsp 0x1008 ∷ value Rbp 9 ∷ []) (word 0x1000 9 ∷ [])
