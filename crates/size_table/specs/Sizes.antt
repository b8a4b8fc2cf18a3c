-- The size of an instruction in bytes: prefixes, opcode, ModRM, SIB, displacement and immediate (SDM volume 2, "Instruction Format
-- for Protected Mode, Real-Address Mode, Virtual-8086 Mode, and Compatibility Mode" and chapters 3 to 5, the opcodes of each
-- instruction). Of several encodings it is the one that GNU as chooses without `-O`.
use Rattle.std.specs.Prelude.{ℕ, zero, suc, ◌+◌, ◌||◌, if◌then◌else◌, pos}
use Rattle.insn_ir.specs.declared.op.Width.{Width}
use Rattle.insn_ir.specs.declared.op.Width.TheVariants.{B, L, Q}
use Rattle.insn_ir.specs.declared.op.Op.{Op}
use Rattle.insn_ir.specs.declared.insn.Imm.{Imm}
use Rattle.insn_ir.specs.declared.insn.Arg.{Arg}
use Rattle.insn_ir.specs.declared.insn.Insn.{Insn}
use Rattle.size_table.specs.declared.form.JumpForm.{JumpForm}
use Rattle.size_table.specs.declared.form.JumpForm.TheVariants.{Short, Near}
use Rattle.size_table.specs.Operands.{rm_size, either_size, imm_size, is_small, is_acc}
use Rattle.size_table.specs.Prefixes.{prefix_size}

-- The bytes beside the prefixes.

-- an immediate to a register or memory: the opcode has the register in it, but at 64 bits, where an immediate of 32 is extended
abbrev pub stored_size : Width → Arg → ℕ
stored_size Q (Arg.Reg r) = 6
stored_size width (Arg.Reg r) = 1 + imm_size width
stored_size width b = 1 + rm_size b + imm_size width

abbrev pub mov_size : Width → Arg → Arg → ℕ
mov_size width (Arg.Imm imm) b = stored_size width b
mov_size width a b = 1 + either_size a b

-- add to xor with an immediate: one of 8 bits where it fits, else the form of the accumulator where it is the operand
abbrev pub immediate_size : Width → Imm → Arg → ℕ
immediate_size B imm b = if is_acc b then 2 else 2 + rm_size b
immediate_size width imm b =
    if is_small imm then 2 + rm_size b else (if is_acc b then 1 + imm_size width else 1 + rm_size b + imm_size width)

abbrev pub sum_size : Width → Arg → Arg → ℕ
sum_size width (Arg.Imm imm) b = immediate_size width imm b
sum_size width a b = 1 + either_size a b

-- a test has no immediate of 8 bits at wider operands
abbrev pub test_size : Width → Arg → Arg → ℕ
test_size width (Arg.Imm imm) b = if is_acc b then 1 + imm_size width else 1 + rm_size b + imm_size width
test_size width a b = 1 + either_size a b

abbrev pub push_size : Arg → ℕ
push_size (Arg.Mem mem) = 1 + rm_size (Arg.Mem mem)
push_size (Arg.Imm imm) = if is_small imm then 2 else 5
push_size arg = 1

-- with the accumulator the opcode has the other register in it
abbrev pub xchg_size : Arg → Arg → ℕ
xchg_size a b = if is_acc a || is_acc b then 1 else 2

-- the bytes of a count: none where it is the written number 1 or `%cl`
abbrev pub count_size : Arg → ℕ
count_size (Arg.Imm (Imm.Num (pos (suc zero)))) = 0
count_size (Arg.Imm imm) = 1
count_size arg = 0

abbrev pub shift_size : Arg → Arg → ℕ
shift_size count b = 1 + rm_size b + count_size count

abbrev pub imul3_size : Arg → Arg → ℕ
imul3_size (Arg.Imm imm) b = if is_small imm then 2 + rm_size b else 5 + rm_size b
imul3_size arg b = 5 + rm_size b

-- a direct jump: one opcode byte and 8 bits of displacement, or 32
abbrev pub jmp_size : JumpForm → ℕ
jmp_size Short = 2
jmp_size Near = 5

abbrev pub jcc_size : JumpForm → ℕ
jcc_size Short = 2
jcc_size Near = 6

abbrev pub body_size : Op → Width → Arg → Arg → JumpForm → ℕ
body_size Op.Mov width a b form = mov_size width a b
body_size Op.Movabs width a b form = 9
body_size (Op.Movz source) width a b form = 2 + rm_size a
body_size (Op.Movs L) width a b form = 1 + rm_size a
body_size (Op.Movs source) width a b form = 2 + rm_size a
body_size Op.Lea width a b form = 1 + rm_size a
body_size Op.Push width a b form = push_size a
body_size Op.Pop width a b form = 1
body_size Op.Leave width a b form = 1
body_size Op.Xchg width a b form = xchg_size a b
body_size Op.Bswap width a b form = 2
body_size Op.Not width a b form = 1 + rm_size a
body_size Op.Neg width a b form = 1 + rm_size a
body_size Op.Inc width a b form = 1 + rm_size a
body_size Op.Dec width a b form = 1 + rm_size a
body_size Op.Add width a b form = sum_size width a b
body_size Op.Adc width a b form = sum_size width a b
body_size Op.Sub width a b form = sum_size width a b
body_size Op.Sbb width a b form = sum_size width a b
body_size Op.Cmp width a b form = sum_size width a b
body_size Op.And width a b form = sum_size width a b
body_size Op.Or width a b form = sum_size width a b
body_size Op.Xor width a b form = sum_size width a b
body_size Op.Test width a b form = test_size width a b
body_size Op.Shl width a b form = shift_size a b
body_size Op.Shr width a b form = shift_size a b
body_size Op.Sar width a b form = shift_size a b
body_size Op.Imul1 width a b form = 1 + rm_size a
body_size Op.Mul width a b form = 1 + rm_size a
body_size Op.Div width a b form = 1 + rm_size a
body_size Op.Idiv width a b form = 1 + rm_size a
body_size Op.Imul2 width a b form = 2 + rm_size a
body_size Op.Imul3 width a b form = imul3_size a b
body_size (Op.Setcc cond) width a b form = 2 + rm_size a
body_size (Op.Cmov cond) width a b form = 2 + rm_size a
body_size Op.Cwtl width a b form = 1
body_size Op.Cltq width a b form = 1
body_size Op.Cltd width a b form = 1
body_size Op.Cqto width a b form = 1
body_size Op.Jmp width a b form = jmp_size form
body_size (Op.Jcc cond) width a b form = jcc_size form
body_size Op.JmpStar width a b form = 1 + rm_size a
body_size Op.JmpStarNotrack width a b form = 1 + rm_size a
body_size Op.Call width a b form = 5
body_size Op.CallStar width a b form = 1 + rm_size a
body_size Op.Ret width a b form = 1
body_size Op.RepRet width a b form = 1
body_size Op.Nop width a b form = 1
body_size Op.Endbr64 width a b form = 4
body_size Op.Ud2 width a b form = 2

abbrev pub size_of_insn : Insn → JumpForm → ℕ
size_of_insn insn form = prefix_size insn + body_size insn.op insn.width insn.a insn.b form
