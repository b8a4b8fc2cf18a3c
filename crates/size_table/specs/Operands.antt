-- The bytes that an operand takes: ModRM, SIB and displacement (SDM volume 2, "Addressing-Mode Encoding of ModR/M and SIB Bytes"),
-- or an immediate. Every displacement and immediate has the shortest form that the instruction has for it.
use Rattle.std.specs.Prelude.{ℕ, zero, suc, ◌+◌, Bool, true, false, ◌&&◌, not, nat_lt, if◌then◌else◌, ℤ, pos, negsuc, Option, Some, None}
use Rattle.insn_ir.specs.declared.op.Reg.{Reg}
use Rattle.insn_ir.specs.declared.op.Reg.TheVariants.{Rax, Rsp, Rbp, R12, R13}
use Rattle.insn_ir.specs.declared.op.Width.{Width}
use Rattle.insn_ir.specs.declared.op.Width.TheVariants.{B, W, L, Q}
use Rattle.insn_ir.specs.declared.insn.Disp.{Disp}
use Rattle.insn_ir.specs.declared.insn.Base.{Base}
use Rattle.insn_ir.specs.declared.insn.Mem.{Mem}
use Rattle.insn_ir.specs.declared.insn.Imm.{Imm}
use Rattle.insn_ir.specs.declared.insn.Arg.{Arg}

-- a signed number of 8 bits
abbrev pub fits_byte : ℤ → Bool
fits_byte (pos n) = nat_lt n 128
fits_byte (negsuc n) = nat_lt n 128

-- the base registers whose code in ModRM stands for a SIB byte (SDM volume 2, table "Special Cases of REX Encodings")
abbrev pub needs_sib : Reg → Bool
needs_sib Rsp = true
needs_sib R12 = true
needs_sib r = false

-- the base registers that have no form without a displacement (the same table)
abbrev pub needs_disp : Reg → Bool
needs_disp Rbp = true
needs_disp R13 = true
needs_disp r = false

-- with no base and no `%rip` the address of 32 bits is that of a SIB byte in 64-bit mode (SDM volume 2, "RIP-Relative Addressing")
abbrev pub sib_size : Base → Option Reg → ℕ
sib_size Base.Absent index = 1
sib_size Base.Rip index = 0
sib_size (Base.Reg base) None = if needs_sib base then 1 else 0
sib_size (Base.Reg base) (Some index) = 1

abbrev pub is_zero : ℤ → Bool
is_zero (pos zero) = true
is_zero (pos (suc n)) = false
is_zero (negsuc n) = false

-- a number from a base register: none, 8 or 32 bits; a symbol's number isn't known yet and takes 32
abbrev pub based_size : Reg → Disp → ℕ
based_size base (Disp.Num n) = if is_zero n && not (needs_disp base) then 0 else (if fits_byte n then 1 else 4)
based_size base (Disp.Sym atom) = 4

abbrev pub disp_size : Base → Disp → ℕ
disp_size Base.Absent disp = 4
disp_size Base.Rip disp = 4
disp_size (Base.Reg base) disp = based_size base disp

-- a ModRM byte, perhaps a SIB byte and a displacement
abbrev pub mem_size : Mem → ℕ
mem_size mem = 1 + sib_size mem.base mem.index + disp_size mem.base mem.disp

-- an operand that ModRM names; one that is a register beside memory stands in the same ModRM byte
abbrev pub rm_size : Arg → ℕ
rm_size (Arg.Mem mem) = mem_size mem
rm_size arg = 1

-- the operand of two that ModRM names besides a register
abbrev pub either_size : Arg → Arg → ℕ
either_size (Arg.Mem mem) b = mem_size mem
either_size a b = rm_size b

-- an immediate as wide as the operation, which at 64 bits is extended from 32 (SDM volume 2, "Immediates")
abbrev pub imm_size : Width → ℕ
imm_size B = 1
imm_size W = 2
imm_size L = 4
imm_size Q = 4

-- a number that an immediate of 8 bits can hold; a symbol's number isn't known yet
abbrev pub is_small : Imm → Bool
is_small (Imm.Num n) = fits_byte n
is_small (Imm.Sym atom) = false

-- al, ax, eax or rax, for which some operations have a form without ModRM
abbrev pub is_acc : Arg → Bool
is_acc (Arg.Reg Rax) = true
is_acc arg = false
