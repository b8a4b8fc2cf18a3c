-- Cases of conditions.
use Rattle.std.specs.Prelude.{[], ◌∷◌}
use Rattle.insn_ir.specs.declared.op.Reg.TheVariants.{Rcx, Rbp, R15}
use Rattle.insn_ir.specs.declared.op.Flag.TheVariants.{Cf, Pf, Zf, Of}
use Rattle.insn_ir.specs.declared.op.Cond.{Cond}
use Rattle.insn_ir.specs.declared.op.Op.{Op}
use Rattle.insn_ir.specs.declared.op.Width.{Width}
use Rattle.insn_ir.specs.declared.insn.Arg.{Arg}
use Rattle.insn_ir.specs.cases.Cases.{with_a, with_ab, Turns, value}

-- `setg %cl` with rcx=0x11d4430a801ae11c, flags PF
-- gives rcx=0x11d4430a801ae101, flags PF: not ZF, and SF as OF
abbrev pub SetgOfGreater : Type 0
SetgOfGreater =
    Turns (with_a (Op.Setcc Cond.G) Width.B (Arg.Reg Rcx))
    (value Rcx 0x11d4430a801ae11c ∷ []) (Pf ∷ [])
    (value Rcx 0x11d4430a801ae101 ∷ []) (Pf ∷ [])

-- `setg %cl` with rcx=0x4e1d126ae3c0eb85, flags PF ZF
-- gives rcx=0x4e1d126ae3c0eb00, flags PF ZF: ZF
abbrev pub SetgOfEqual : Type 0
SetgOfEqual =
    Turns (with_a (Op.Setcc Cond.G) Width.B (Arg.Reg Rcx))
    (value Rcx 0x4e1d126ae3c0eb85 ∷ []) (Pf ∷ Zf ∷ [])
    (value Rcx 0x4e1d126ae3c0eb00 ∷ []) (Pf ∷ Zf ∷ [])

-- `cmovll %r15d, %ebp` with rbp=0xb83eef1a39c79646 r15=0xffffffff80000001, flags CF PF ZF
-- gives rbp=0x39c79646 r15=0xffffffff80000001, flags CF PF ZF: the upper half is cleared in both cases
abbrev pub CmovllThatDoesNotMove : Type 0
CmovllThatDoesNotMove =
    Turns (with_ab (Op.Cmov Cond.L) Width.L (Arg.Reg R15) (Arg.Reg Rbp))
    (value Rbp 0xb83eef1a39c79646 ∷ value R15 0xffffffff80000001 ∷ []) (Cf ∷ Pf ∷ Zf ∷ [])
    (value Rbp 0x39c79646 ∷ value R15 0xffffffff80000001 ∷ []) (Cf ∷ Pf ∷ Zf ∷ [])

-- `cmovll %r15d, %ebp` with rbp=0x7e r15=0xffff, flags CF PF OF
-- gives rbp=0xffff r15=0xffff, flags CF PF OF: SF differs from OF
abbrev pub CmovllThatMoves : Type 0
CmovllThatMoves =
    Turns (with_ab (Op.Cmov Cond.L) Width.L (Arg.Reg R15) (Arg.Reg Rbp))
    (value Rbp 0x7e ∷ value R15 0xffff ∷ []) (Cf ∷ Pf ∷ Of ∷ [])
    (value Rbp 0xffff ∷ value R15 0xffff ∷ []) (Cf ∷ Pf ∷ Of ∷ [])
