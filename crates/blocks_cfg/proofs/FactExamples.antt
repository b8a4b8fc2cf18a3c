-- Facts on flags and on upper halves, computed on small codes. Places count from 0; a label is none.
use Rattle.std.proofs.Common.{◌≡◌, true, [], ◌∷◌, refl}
use Rattle.std.specs.Prelude.{codes}
use Rattle.insn_ir.specs.declared.op.Reg.TheVariants.{Rax, Rcx, Rdx, Rbx, Rsi, Rdi}
use Rattle.insn_ir.specs.declared.op.Flag.TheVariants.{Cf, Of}
use Rattle.insn_ir.specs.declared.op.Cond.{Cond}
use Rattle.insn_ir.specs.declared.op.Op.{Op}
use Rattle.insn_ir.specs.declared.op.Width.TheVariants.{B, W, L, Q}
use Rattle.insn_ir.specs.Code.{Code}
use Rattle.insn_effects.specs.Footprint.{InFlag, ◌⊔◌}
use Rattle.blocks_cfg.proofs.Codes.{reg, num, at_base, mem, one, two, bare, label, ret, nop, jmp, jcc, call, code}
use Rattle.blocks_cfg.proofs.Computed.{live_test, below}
use Rattle.blocks_cfg.proofs.Makers.{upper_test, flags_test, clear_test}
use Rattle.blocks_cfg.proofs.LiveExamples.{tested}

-- ---- flags of a register

-- `subl %esi, %edi / testl %edi, %edi / je .L2 / movl $1, %eax / ret / .L2: / xorl %eax, %eax / ret`: from the `subl` on, on
-- both ways, until `xorl` writes flags
pub sub_makes : flags_test (tested Op.Sub Cond.E) Rdi L (below 7) (1 ∷ 2 ∷ 3 ∷ 4 ∷ 5 ∷ []) ≡ true
unfolding ◌⊔◌
sub_makes = refl

-- `subl` clears neither CF nor OF; `testl` clears both
pub sub_does_not_clear : clear_test (tested Op.Sub Cond.E) Rdi L (below 7) (2 ∷ 3 ∷ 4 ∷ 5 ∷ []) ≡ true
unfolding ◌⊔◌
sub_does_not_clear = refl

pub jg_sub_does_not_clear : clear_test (tested Op.Sub Cond.G) Rdi L (below 7) (2 ∷ 3 ∷ 4 ∷ 5 ∷ []) ≡ true
unfolding ◌⊔◌
jg_sub_does_not_clear = refl

-- `andl` in its stead clears both
pub and_clears : clear_test (tested Op.And Cond.G) Rdi L (below 7) (1 ∷ 2 ∷ 3 ∷ 4 ∷ 5 ∷ []) ≡ true
unfolding ◌⊔◌
and_clears = refl

-- the source of a sum makes nothing
source_makes_nothing : flags_test (tested Op.Sub Cond.E) Rsi L (below 7) [] ≡ true
unfolding ◌⊔◌
source_makes_nothing = refl

-- of rax, `xorl` at the end alone
xor_makes : flags_test (tested Op.Sub Cond.E) Rax L (below 7) (6 ∷ []) ≡ true
unfolding ◌⊔◌
xor_makes = refl

-- `cmpl` makes nothing for its operands
cmp_makes_nothing : flags_test (code (two Op.Cmp L (reg Rsi) (reg Rdi) ∷ ret ∷ [])) Rdi L (below 2) [] ≡ true
unfolding ◌⊔◌
cmp_makes_nothing = refl

-- a `test` of two registers makes nothing
test_of_two_makes_nothing : flags_test (code (two Op.Test L (reg Rsi) (reg Rdi) ∷ ret ∷ [])) Rdi L (below 2) [] ≡ true
unfolding ◌⊔◌
test_of_two_makes_nothing = refl

-- a write of the register breaks it: `subl %esi, %edi / movl %esi, %edi / ret`
write_breaks : flags_test (code (two Op.Sub L (reg Rsi) (reg Rdi) ∷ two Op.Mov L (reg Rsi) (reg Rdi) ∷ ret ∷ [])) Rdi L (below 3) (1 ∷ []) ≡ true
unfolding ◌⊔◌
write_breaks = refl

-- a write of flags alone breaks it: `subl %esi, %edi / cmpl %esi, %eax / ret`
flags_break : flags_test (code (two Op.Sub L (reg Rsi) (reg Rdi) ∷ two Op.Cmp L (reg Rsi) (reg Rax) ∷ ret ∷ [])) Rdi L (below 3) (1 ∷ []) ≡ true
unfolding ◌⊔◌
flags_break = refl

-- `shrl $3, %edi / testl %edi, %edi / jne .L2 / movl $1, %eax / .L2: / ret`
abbrev pub shifted : Code
shifted =
    code (two Op.Shr L (num 3) (reg Rdi) ∷ two Op.Test L (reg Rdi) (reg Rdi) ∷ jcc Cond.Ne (codes ".L2") ∷ two Op.Mov L (num 1) (reg Rax) ∷ label (codes ".L2") ∷ ret ∷ [])

shift_by_a_number_makes : flags_test shifted Rdi L (below 5) (1 ∷ 2 ∷ 3 ∷ 4 ∷ []) ≡ true
unfolding ◌⊔◌
shift_by_a_number_makes = refl

shift_does_not_clear : clear_test shifted Rdi L (below 5) (2 ∷ 3 ∷ 4 ∷ []) ≡ true
unfolding ◌⊔◌
shift_does_not_clear = refl

-- `shrl %cl, %edi / ret` makes nothing
shift_by_cl_makes_nothing : flags_test (code (two Op.Shr L (reg Rcx) (reg Rdi) ∷ ret ∷ [])) Rdi L (below 2) [] ≡ true
unfolding ◌⊔◌
shift_by_cl_makes_nothing = refl

-- `testq %rdi, %rdi / testq %rdi, %rdi / jg .L2 / .L2: / ret`
abbrev pub tested_twice : Code
tested_twice =
    code (two Op.Test Q (reg Rdi) (reg Rdi) ∷ two Op.Test Q (reg Rdi) (reg Rdi) ∷ jcc Cond.G (codes ".L2") ∷ label (codes ".L2") ∷ ret ∷ [])

pub test_makes : flags_test tested_twice Rdi Q (below 4) (1 ∷ 2 ∷ 3 ∷ []) ≡ true
unfolding ◌⊔◌
test_makes = refl

pub test_clears : clear_test tested_twice Rdi Q (below 4) (1 ∷ 2 ∷ 3 ∷ []) ≡ true
unfolding ◌⊔◌
test_clears = refl

-- `subl %esi, %edi / testq %rdi, %rdi / je .L2 / .L2: / ret`: each width by itself
abbrev pub widths_differ : Code
widths_differ =
    code (two Op.Sub L (reg Rsi) (reg Rdi) ∷ two Op.Test Q (reg Rdi) (reg Rdi) ∷ jcc Cond.E (codes ".L2") ∷ label (codes ".L2") ∷ ret ∷ [])

pub widths_at_64 : flags_test widths_differ Rdi Q (below 4) (2 ∷ 3 ∷ []) ≡ true
unfolding ◌⊔◌
widths_at_64 = refl

widths_at_32 : flags_test widths_differ Rdi L (below 4) (1 ∷ []) ≡ true
unfolding ◌⊔◌
widths_at_32 = refl

-- `subl %esi, %edi / je .L2 / testl %edi, %edi / js .L2 / movl $1, %eax / .L2: / ret`: over a jump, and where ways meet
abbrev pub over_a_jump : Code
over_a_jump =
    code
    (two Op.Sub L (reg Rsi) (reg Rdi) ∷ jcc Cond.E (codes ".L2") ∷ two Op.Test L (reg Rdi) (reg Rdi) ∷ jcc Cond.S (codes ".L2") ∷ two Op.Mov L (num 1) (reg Rax) ∷ label (codes ".L2") ∷ ret ∷ [])

pub over_a_jump_flags : flags_test over_a_jump Rdi L (below 6) (1 ∷ 2 ∷ 3 ∷ 4 ∷ 5 ∷ []) ≡ true
unfolding ◌⊔◌
over_a_jump_flags = refl

-- at the label one way comes from the `subl`, so CF and OF aren't cleared there
over_a_jump_clear : clear_test over_a_jump Rdi L (below 6) (3 ∷ 4 ∷ []) ≡ true
unfolding ◌⊔◌
over_a_jump_clear = refl

pub over_a_jump_cf : live_test over_a_jump (InFlag Cf) [] ≡ true
unfolding ◌⊔◌
over_a_jump_cf = refl

pub over_a_jump_of : live_test over_a_jump (InFlag Of) [] ≡ true
unfolding ◌⊔◌
over_a_jump_of = refl

-- a call breaks it: `subl %esi, %ebx / call g / ret`, though it keeps rbx
call_breaks_flags : flags_test (code (two Op.Sub L (reg Rsi) (reg Rbx) ∷ call (codes "g") ∷ ret ∷ [])) Rbx L (below 3) (1 ∷ []) ≡ true
unfolding ◌⊔◌
call_breaks_flags = refl

-- `incl %edi / ret` and `negl %edi / ret`: operations with one operand
inc_makes : flags_test (code (one Op.Inc L (reg Rdi) ∷ ret ∷ [])) Rdi L (below 2) (1 ∷ []) ≡ true
unfolding ◌⊔◌
inc_makes = refl

neg_does_not_clear : clear_test (code (one Op.Neg L (reg Rdi) ∷ ret ∷ [])) Rdi L (below 2) [] ≡ true
unfolding ◌⊔◌
neg_does_not_clear = refl

-- ---- upper halves

-- `cmpl %esi, %edi / cmovel %ecx, %eax / movl %eax, %eax / ret`
abbrev pub chosen : Code
chosen =
    code (two Op.Cmp L (reg Rsi) (reg Rdi) ∷ two (Op.Cmov Cond.E) L (reg Rcx) (reg Rax) ∷ two Op.Mov L (reg Rax) (reg Rax) ∷ ret ∷ [])

pub cmov_clears : upper_test chosen Rax (below 4) (2 ∷ 3 ∷ []) ≡ true
unfolding ◌⊔◌
cmov_clears = refl

-- `movb $1, %al / movl %eax, %eax / ret`
abbrev pub byte_put : Code
byte_put = code (two Op.Mov B (num 1) (reg Rax) ∷ two Op.Mov L (reg Rax) (reg Rax) ∷ ret ∷ [])

pub byte_does_not_clear : upper_test byte_put Rax (below 3) (2 ∷ []) ≡ true
unfolding ◌⊔◌
byte_does_not_clear = refl

-- `movl %edi, %ebx / call g / movl %ebx, %ebx / movq %rbx, %rax / ret`: a callee keeps rbx
abbrev pub over_a_call : Code
over_a_call =
    code (two Op.Mov L (reg Rdi) (reg Rbx) ∷ call (codes "g") ∷ two Op.Mov L (reg Rbx) (reg Rbx) ∷ two Op.Mov Q (reg Rbx) (reg Rax) ∷ ret ∷ [])

pub kept_over_a_call : upper_test over_a_call Rbx (below 5) (1 ∷ 2 ∷ 3 ∷ 4 ∷ []) ≡ true
unfolding ◌⊔◌
kept_over_a_call = refl

-- `movl (%rsi), %eax / call g / movl %eax, %eax / ret`: a call writes rax
abbrev pub call_between : Code
call_between =
    code (two Op.Mov L (mem (at_base 0 Rsi)) (reg Rax) ∷ call (codes "g") ∷ two Op.Mov L (reg Rax) (reg Rax) ∷ ret ∷ [])

pub call_breaks : upper_test call_between Rax (below 4) (1 ∷ 3 ∷ []) ≡ true
unfolding ◌⊔◌
call_breaks = refl

-- `shll %cl, %eax / movl %eax, %eax / ret`: a shift by %cl may leave the upper half as it was
abbrev pub shifted_by_cl : Code
shifted_by_cl = code (two Op.Shl L (reg Rcx) (reg Rax) ∷ two Op.Mov L (reg Rax) (reg Rax) ∷ ret ∷ [])

pub shift_by_cl_does_not_clear : upper_test shifted_by_cl Rax (below 3) (2 ∷ []) ≡ true
unfolding ◌⊔◌
shift_by_cl_does_not_clear = refl

-- `shll $3, %eax / ret`
shift_by_a_number_clears : upper_test (code (two Op.Shl L (num 3) (reg Rax) ∷ ret ∷ [])) Rax (below 2) (1 ∷ []) ≡ true
unfolding ◌⊔◌
shift_by_a_number_clears = refl

-- `testl %esi, %esi / je .L2 / movl (%rdi), %eax / .L2: / movl %eax, %eax / ret`: one way to the label has no write
abbrev pub one_way_lacks_it : Code
one_way_lacks_it =
    code
    (two Op.Test L (reg Rsi) (reg Rsi) ∷ jcc Cond.E (codes ".L2") ∷ two Op.Mov L (mem (at_base 0 Rdi)) (reg Rax) ∷ label (codes ".L2") ∷ two Op.Mov L (reg Rax) (reg Rax) ∷ ret ∷ [])

pub each_way_must_clear : upper_test one_way_lacks_it Rax (below 5) (4 ∷ []) ≡ true
unfolding ◌⊔◌
each_way_must_clear = refl

-- `movzbq %sil, %rax / ret`, `movzwq %si, %rax / ret`, `movzbl %sil, %eax / ret`, and `movsbq %sil, %rax / ret`
movzbq_clears : upper_test (code (two (Op.Movz B) Q (reg Rsi) (reg Rax) ∷ ret ∷ [])) Rax (below 2) (1 ∷ []) ≡ true
unfolding ◌⊔◌
movzbq_clears = refl

movzwq_clears : upper_test (code (two (Op.Movz W) Q (reg Rsi) (reg Rax) ∷ ret ∷ [])) Rax (below 2) (1 ∷ []) ≡ true
unfolding ◌⊔◌
movzwq_clears = refl

movzbl_clears : upper_test (code (two (Op.Movz B) L (reg Rsi) (reg Rax) ∷ ret ∷ [])) Rax (below 2) (1 ∷ []) ≡ true
unfolding ◌⊔◌
movzbl_clears = refl

movsbq_does_not_clear : upper_test (code (two (Op.Movs B) Q (reg Rsi) (reg Rax) ∷ ret ∷ [])) Rax (below 2) [] ≡ true
unfolding ◌⊔◌
movsbq_does_not_clear = refl

-- `xchgl %esi, %eax / mull %ecx / cltd / ret`: both registers, both halves, and the sign
abbrev exchanged : Code
exchanged =
    code (two Op.Xchg L (reg Rsi) (reg Rax) ∷ one Op.Mul L (reg Rcx) ∷ two Op.Mov Q (reg Rdi) (reg Rdx) ∷ bare Op.Cltd L ∷ ret ∷ [])

xchg_clears_its_source : upper_test exchanged Rsi (below 5) (1 ∷ 2 ∷ 3 ∷ 4 ∷ []) ≡ true
unfolding ◌⊔◌
xchg_clears_its_source = refl

mul_clears_both : upper_test exchanged Rdx (below 5) (2 ∷ 4 ∷ []) ≡ true
unfolding ◌⊔◌
mul_clears_both = refl

-- a place that isn't reached has no fact: `xorl %eax, %eax / jmp .L1 / nop / .L1: / ret`
unreached_has_none : upper_test (code (two Op.Xor L (reg Rax) (reg Rax) ∷ jmp (codes ".L1") ∷ nop ∷ label (codes ".L1") ∷ ret ∷ [])) Rax (0 ∷ 1 ∷ 3 ∷ []) (1 ∷ 3 ∷ []) ≡ true
unfolding ◌⊔◌
unreached_has_none = refl
