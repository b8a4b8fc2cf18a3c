-- A `nop` is an instruction of the profile.
use Rattle.std.proofs.Common.{◌≡◌, refl}
use Rattle.insn_ir.specs.declared.op.Op.{Op}
use Rattle.insn_ir.specs.declared.op.Width.{Width}
use Rattle.insn_ir.specs.declared.insn.Arg.{Arg}
use Rattle.insn_ir.specs.declared.insn.Insn.{Insn}
use Rattle.insn_ir.specs.Profile.{IsInstruction}

pub nop_is : IsInstruction (record { op = Op.Nop; width = Width.Q; a = Arg.Absent; b = Arg.Absent; c = Arg.Absent })
nop_is = record { width = refl; operands = (tt, tt, tt) }
