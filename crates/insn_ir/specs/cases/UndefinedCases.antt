-- Cases in which bits that the manual leaves undefined are 1.
use Rattle.std.specs.Prelude.{ℕ, List, [], ◌∷◌, pos, bytes_eq, if◌then◌else◌}
use Rattle.insn_ir.specs.declared.op.Reg.TheVariants.{Rax, Rcx}
use Rattle.insn_ir.specs.declared.op.Flag.TheVariants.{Cf, Pf, Zf, Sf, Of}
use Rattle.insn_ir.specs.declared.op.Op.{Op}
use Rattle.insn_ir.specs.declared.op.Width.{Width}
use Rattle.insn_ir.specs.declared.insn.Arg.{Arg}
use Rattle.insn_ir.specs.Machine.{World}
use Rattle.insn_ir.specs.cases.Cases.{with_ab, number, plain, value, TurnsIn}

-- these bits for these operand values, and 0 for all others. Bit 0 stands for CF, 1 for PF, 2 for ZF, 3 for SF, 4 for OF
abbrev pub undefined_at : List ℕ → ℕ → World
undefined_at values bits = record plain { undefined = λ o d xs. if bytes_eq xs values then bits else 0 }

-- `shll $2, %eax` with rax=0x7000000003, where the undefined OF of 3 by 2 is 1
-- gives rax=0xc, flags PF OF: CF is the last bit out
abbrev pub ShllByTwoMayOverflow : Type 0
ShllByTwoMayOverflow =
    TurnsIn (undefined_at (3 ∷ 2 ∷ []) 0x10) (with_ab Op.Shl Width.L (number (pos 2)) (Arg.Reg Rax))
    (value Rax 0x7000000003 ∷ []) []
    (value Rax 0xc ∷ []) (Pf ∷ Of ∷ [])

-- `imulq %rcx, %rax` with rax=3 rcx=2, where the undefined SF and ZF of 2 and 3 are 1
-- gives rax=6, flags ZF SF: the product fits, so that CF and OF are 0
abbrev pub ImulqMaySetSfAndZf : Type 0
ImulqMaySetSfAndZf =
    TurnsIn (undefined_at (2 ∷ 3 ∷ []) 0xc) (with_ab Op.Imul2 Width.Q (Arg.Reg Rcx) (Arg.Reg Rax))
    (value Rax 3 ∷ value Rcx 2 ∷ []) (Cf ∷ Pf ∷ Of ∷ [])
    (value Rax 6 ∷ value Rcx 2 ∷ []) (Zf ∷ Sf ∷ [])

-- `shll %cl, %eax` with rax=0xffffffff00000005 rcx=0x20, where bit 0 is 1 for 5 by 0
-- gives rax=5, and flags as they were: the masked count is 0
abbrev pub ShllByNothingMayClearTheUpperHalf : Type 0
ShllByNothingMayClearTheUpperHalf =
    TurnsIn (undefined_at (5 ∷ 0 ∷ []) 1) (with_ab Op.Shl Width.L (Arg.Reg Rcx) (Arg.Reg Rax))
    (value Rax 0xffffffff00000005 ∷ value Rcx 0x20 ∷ []) (Cf ∷ Of ∷ [])
    (value Rax 5 ∷ value Rcx 0x20 ∷ []) (Cf ∷ Of ∷ [])

-- the same where bit 0 is 0: the register stays whole
abbrev pub ShllByNothingMayLeaveTheUpperHalf : Type 0
ShllByNothingMayLeaveTheUpperHalf =
    TurnsIn (undefined_at (5 ∷ 0 ∷ []) 0x1e) (with_ab Op.Shl Width.L (Arg.Reg Rcx) (Arg.Reg Rax))
    (value Rax 0xffffffff00000005 ∷ value Rcx 0x20 ∷ []) (Cf ∷ Of ∷ [])
    (value Rax 0xffffffff00000005 ∷ value Rcx 0x20 ∷ []) (Cf ∷ Of ∷ [])
