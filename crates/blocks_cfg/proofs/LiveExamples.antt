-- Successors, places that are reached, and what is live, computed on small codes. Places count from 0; a label is none.
use Rattle.std.proofs.Common.{◌≡◌, ℕ, true, List, [], ◌∷◌, refl}
use Rattle.std.specs.Prelude.{codes}
use Rattle.insn_ir.specs.declared.op.Reg.TheVariants.{Rax, Rcx, Rdx, Rsi, Rdi, R10, Rsp, Rbp}
use Rattle.insn_ir.specs.declared.op.Flag.TheVariants.{Cf, Zf, Of}
use Rattle.insn_ir.specs.declared.op.Cond.{Cond}
use Rattle.insn_ir.specs.declared.op.Op.{Op}
use Rattle.insn_ir.specs.declared.op.Width.TheVariants.{B, L, Q}
use Rattle.insn_ir.specs.Code.{Code}
use Rattle.insn_effects.specs.Footprint.{InReg, InFlag, ◌⊔◌}
use Rattle.blocks_cfg.specs.Flow.{successors}
use Rattle.blocks_cfg.proofs.Codes.{reg, num, at_base, mem, one, two, bare, label, ret, nop, jmp, jcc, call, through, code, at_home, with_table}
use Rattle.blocks_cfg.proofs.Computed.{live_test, reached_test}

-- ---- a jump over a place

-- `movl $5, %ecx / movl (%rdi), %edx / jmp .L2 / movl $9, %eax / .L2: / movl $1, %eax / movl $2, %edx / ret`
abbrev pub jump_over : Code
jump_over =
    code
    (two Op.Mov L (num 5) (reg Rcx) ∷ two Op.Mov L (mem (at_base 0 Rdi)) (reg Rdx) ∷ jmp (codes ".L2") ∷ two Op.Mov L (num 9) (reg Rax) ∷ label (codes ".L2") ∷ two Op.Mov L (num 1) (reg Rax) ∷ two Op.Mov L (num 2) (reg Rdx) ∷ ret ∷ [])

jmp_goes_to_its_label : successors jump_over 2 ≡ 4 ∷ []
jmp_goes_to_its_label = refl

ret_goes_nowhere : successors jump_over 6 ≡ []
ret_goes_nowhere = refl

-- all but the place that the jump leaves out
pub jump_over_reached : reached_test jump_over (0 ∷ 1 ∷ 2 ∷ 4 ∷ 5 ∷ 6 ∷ []) ≡ true
jump_over_reached = refl

pub jump_over_rcx : live_test jump_over (InReg Rcx) [] ≡ true
unfolding ◌⊔◌
jump_over_rcx = refl

-- what the return shows is live after the last write of it alone
pub jump_over_rdx : live_test jump_over (InReg Rdx) (5 ∷ []) ≡ true
unfolding ◌⊔◌
jump_over_rdx = refl

jump_over_rax : live_test jump_over (InReg Rax) (4 ∷ 5 ∷ []) ≡ true
unfolding ◌⊔◌
jump_over_rax = refl

-- a register of an address is read
jump_over_rdi : live_test jump_over (InReg Rdi) (0 ∷ []) ≡ true
unfolding ◌⊔◌
jump_over_rdi = refl

-- the return pops by rsp
jump_over_rsp : live_test jump_over (InReg Rsp) (0 ∷ 1 ∷ 2 ∷ 3 ∷ 4 ∷ 5 ∷ []) ≡ true
unfolding ◌⊔◌
jump_over_rsp = refl

-- ---- what a return and a call look at

-- `movl $1, %ecx / ret` shows rcx only where the function is home
leaf : live_test (code (two Op.Mov L (num 1) (reg Rcx) ∷ ret ∷ [])) (InReg Rcx) [] ≡ true
unfolding ◌⊔◌
leaf = refl

leaf_at_home : live_test (at_home (two Op.Mov L (num 1) (reg Rcx) ∷ ret ∷ [])) (InReg Rcx) (0 ∷ []) ≡ true
unfolding ◌⊔◌
leaf_at_home = refl

-- no return shows a flag
leaf_flag : live_test (at_home (two Op.Cmp L (reg Rsi) (reg Rdi) ∷ ret ∷ [])) (InFlag Zf) [] ≡ true
unfolding ◌⊔◌
leaf_flag = refl

-- `movl $1, %r10d / call g / ret`: a call shows all registers
before_call : live_test (code (two Op.Mov L (num 1) (reg R10) ∷ call (codes "g") ∷ ret ∷ [])) (InReg R10) (0 ∷ []) ≡ true
unfolding ◌⊔◌
before_call = refl

-- and changes none that a callee keeps
before_call_kept : live_test (code (two Op.Mov L (num 1) (reg Rbp) ∷ call (codes "g") ∷ ret ∷ [])) (InReg Rbp) (0 ∷ 1 ∷ []) ≡ true
unfolding ◌⊔◌
before_call_kept = refl

-- flags are dead at a call
before_call_flag : live_test (code (two Op.Cmp L (reg Rsi) (reg Rdi) ∷ call (codes "g") ∷ jcc Cond.E (codes ".L1") ∷ label (codes ".L1") ∷ ret ∷ [])) (InFlag Zf) (1 ∷ []) ≡ true
unfolding ◌⊔◌
before_call_flag = refl

-- ---- reads behind reads

-- `movl $1, %ecx / movl %ecx, %edx / movl $2, %edx / ret`
abbrev pub two_dead : Code
two_dead =
    code (two Op.Mov L (num 1) (reg Rcx) ∷ two Op.Mov L (reg Rcx) (reg Rdx) ∷ two Op.Mov L (num 2) (reg Rdx) ∷ ret ∷ [])

-- rcx is read by a place that writes nothing live: it is live all the same
pub two_dead_rcx : live_test two_dead (InReg Rcx) (0 ∷ []) ≡ true
unfolding ◌⊔◌
two_dead_rcx = refl

pub two_dead_rdx : live_test two_dead (InReg Rdx) (2 ∷ []) ≡ true
unfolding ◌⊔◌
two_dead_rdx = refl

-- and no more once that place is gone
one_dead_rcx : live_test (code (two Op.Mov L (num 1) (reg Rcx) ∷ two Op.Mov L (num 2) (reg Rdx) ∷ ret ∷ [])) (InReg Rcx) [] ≡ true
unfolding ◌⊔◌
one_dead_rcx = refl

-- `cmpl %esi, %edi / movl $1, %eax / ret`
compared : live_test (code (two Op.Cmp L (reg Rsi) (reg Rdi) ∷ two Op.Mov L (num 1) (reg Rax) ∷ ret ∷ [])) (InFlag Zf) [] ≡ true
unfolding ◌⊔◌
compared = refl

-- `movl $1, %eax / idivl %ecx / movl $1, %eax / movl $1, %edx / ret`: `idivl` reads rax and rdx
abbrev pub divided : Code
divided =
    code (two Op.Mov L (num 1) (reg Rax) ∷ one Op.Idiv L (reg Rcx) ∷ two Op.Mov L (num 1) (reg Rax) ∷ two Op.Mov L (num 1) (reg Rdx) ∷ ret ∷ [])

divided_rax : live_test divided (InReg Rax) (0 ∷ 2 ∷ 3 ∷ []) ≡ true
unfolding ◌⊔◌
divided_rax = refl

divided_rdx : live_test divided (InReg Rdx) (0 ∷ 3 ∷ []) ≡ true
unfolding ◌⊔◌
divided_rdx = refl

-- `movl %esi, %eax / movb %dil, %al / ret`: a write of 8 bits reads the rest, so it doesn't kill
byte_keeps_the_rest : live_test (code (two Op.Mov L (reg Rsi) (reg Rax) ∷ two Op.Mov B (reg Rdi) (reg Rax) ∷ ret ∷ [])) (InReg Rax) (0 ∷ 1 ∷ []) ≡ true
unfolding ◌⊔◌
byte_keeps_the_rest = refl

-- ---- flags that a condition looks at

-- `subl %esi, %edi / testl %edi, %edi / jE .L2 / movl $1, %eax / ret / .L2: / xorl %eax, %eax / ret`
abbrev pub tested : Op → Cond → Code
tested o e =
    code
    (two o L (reg Rsi) (reg Rdi) ∷ two Op.Test L (reg Rdi) (reg Rdi) ∷ jcc e (codes ".L2") ∷ two Op.Mov L (num 1) (reg Rax) ∷ ret ∷ label (codes ".L2") ∷ two Op.Xor L (reg Rax) (reg Rax) ∷ ret ∷ [])

jcc_goes_on_or_to_its_label : successors (tested Op.Sub Cond.E) 2 ≡ 3 ∷ 5 ∷ []
jcc_goes_on_or_to_its_label = refl

-- `je` looks at ZF alone
pub je_cf : live_test (tested Op.Sub Cond.E) (InFlag Cf) [] ≡ true
unfolding ◌⊔◌
je_cf = refl

pub je_of : live_test (tested Op.Sub Cond.E) (InFlag Of) [] ≡ true
unfolding ◌⊔◌
je_of = refl

je_zf : live_test (tested Op.Sub Cond.E) (InFlag Zf) (1 ∷ []) ≡ true
unfolding ◌⊔◌
je_zf = refl

-- `jg` looks at OF too
pub jg_of : live_test (tested Op.Sub Cond.G) (InFlag Of) (1 ∷ []) ≡ true
unfolding ◌⊔◌
jg_of = refl

-- ---- loops

-- `xorl %eax, %eax / .L3: / addl %edi, %eax / subl $1, %edi / jne .L3 / ret`
abbrev pub counted : Code
counted =
    code
    (two Op.Xor L (reg Rax) (reg Rax) ∷ label (codes ".L3") ∷ two Op.Add L (reg Rdi) (reg Rax) ∷ two Op.Sub L (num 1) (reg Rdi) ∷ jcc Cond.Ne (codes ".L3") ∷ ret ∷ [])

jne_goes_back : successors counted 3 ≡ 4 ∷ 1 ∷ []
jne_goes_back = refl

counted_reached : reached_test counted (0 ∷ 1 ∷ 2 ∷ 3 ∷ 4 ∷ []) ≡ true
counted_reached = refl

-- what the next round reads is live after the jump back
counted_rdi : live_test counted (InReg Rdi) (0 ∷ 1 ∷ 2 ∷ 3 ∷ []) ≡ true
unfolding ◌⊔◌
counted_rdi = refl

counted_zf : live_test counted (InFlag Zf) (2 ∷ []) ≡ true
unfolding ◌⊔◌
counted_zf = refl

-- ---- the end of the code

-- `movl $1, %ecx / je .L9 / ret / .L9:`: the label stands past the last place
abbrev past_the_end : Code
past_the_end = code (two Op.Mov L (num 1) (reg Rcx) ∷ jcc Cond.E (codes ".L9") ∷ ret ∷ label (codes ".L9") ∷ [])

je_goes_past_the_end : successors past_the_end 1 ≡ 2 ∷ 3 ∷ []
je_goes_past_the_end = refl

the_end_goes_nowhere : successors past_the_end 3 ≡ []
the_end_goes_nowhere = refl

past_the_end_reached : reached_test past_the_end (0 ∷ 1 ∷ 2 ∷ 3 ∷ []) ≡ true
past_the_end_reached = refl

-- running off the end shows all registers and all flags
past_the_end_rcx : live_test past_the_end (InReg Rcx) (0 ∷ 1 ∷ []) ≡ true
unfolding ◌⊔◌
past_the_end_rcx = refl

past_the_end_cf : live_test past_the_end (InFlag Cf) (0 ∷ 1 ∷ []) ≡ true
unfolding ◌⊔◌
past_the_end_cf = refl

-- `nop` alone runs off the end
nop_goes_on : successors (code (nop ∷ [])) 0 ≡ 1 ∷ []
nop_goes_on = refl

-- with no place at all the run begins at the end
no_place_reached : reached_test (code (label (codes ".L1") ∷ [])) (0 ∷ []) ≡ true
no_place_reached = refl

no_place_goes_nowhere : successors (code (label (codes ".L1") ∷ [])) 0 ≡ []
no_place_goes_nowhere = refl

-- ---- jumps that leave the function

-- `je g / ret`: where it leaves, it goes to no place
je_out : successors (code (jcc Cond.E (codes "g") ∷ ret ∷ [])) 0 ≡ 1 ∷ []
je_out = refl

-- and shows all registers, but no flag
je_out_r10 : live_test (code (two Op.Mov L (num 1) (reg R10) ∷ jcc Cond.E (codes "g") ∷ ret ∷ [])) (InReg R10) (0 ∷ []) ≡ true
unfolding ◌⊔◌
je_out_r10 = refl

je_out_cf : live_test (code (two Op.Cmp L (reg Rsi) (reg Rdi) ∷ jcc Cond.E (codes "g") ∷ ret ∷ [])) (InFlag Cf) [] ≡ true
unfolding ◌⊔◌
je_out_cf = refl

-- `jmp g`, and `jmp f` in `f` itself
jmp_out : successors (code (jmp (codes "g") ∷ ret ∷ [])) 0 ≡ []
jmp_out = refl

jmp_to_itself : successors (code (label (codes "f") ∷ nop ∷ jmp (codes "f") ∷ [])) 1 ≡ []
jmp_to_itself = refl

jmp_out_r10 : live_test (code (two Op.Mov L (num 1) (reg R10) ∷ jmp (codes "g") ∷ [])) (InReg R10) (0 ∷ []) ≡ true
unfolding ◌⊔◌
jmp_out_r10 = refl

-- `ud2` goes nowhere and shows nothing
ud2_goes_nowhere : successors (code (bare Op.Ud2 Q ∷ ret ∷ [])) 0 ≡ []
ud2_goes_nowhere = refl

before_ud2 : live_test (code (two Op.Mov L (num 1) (reg Rax) ∷ bare Op.Ud2 Q ∷ [])) (InReg Rax) [] ≡ true
unfolding ◌⊔◌
before_ud2 = refl

-- a conditional jump to the next place has it twice
je_to_the_next : successors (code (jcc Cond.E (codes ".L1") ∷ label (codes ".L1") ∷ ret ∷ [])) 0 ≡ 1 ∷ 1 ∷ []
je_to_the_next = refl

-- ---- table jumps

-- `jmp *T(,%rsi,8) / .L3: / ret / .L4: / nop / ret`
abbrev switched : List (List ℕ) → Code
switched cells =
    with_table cells (through (codes "T") Rsi ∷ label (codes ".L3") ∷ ret ∷ label (codes ".L4") ∷ nop ∷ ret ∷ [])

-- all cells, in order
table_jump_goes_to_its_cells : successors (switched (codes ".L3" ∷ codes ".L4" ∷ codes ".L3" ∷ [])) 0 ≡ 1 ∷ 2 ∷ 1 ∷ []
table_jump_goes_to_its_cells = refl

table_jump_reaches_no_more : reached_test (switched (codes ".L3" ∷ [])) (0 ∷ 1 ∷ []) ≡ true
table_jump_reaches_no_more = refl

-- it shows nothing: rcx is dead before it
table_jump_rcx : live_test (with_table (codes ".L3" ∷ []) (two Op.Mov L (num 1) (reg Rcx) ∷ through (codes "T") Rsi ∷ label (codes ".L3") ∷ ret ∷ [])) (InReg Rcx) [] ≡ true
unfolding ◌⊔◌
table_jump_rcx = refl

-- its index is read
table_jump_rsi : live_test (with_table (codes ".L3" ∷ []) (two Op.Mov L (num 1) (reg Rsi) ∷ through (codes "T") Rsi ∷ label (codes ".L3") ∷ ret ∷ [])) (InReg Rsi) (0 ∷ []) ≡ true
unfolding ◌⊔◌
table_jump_rsi = refl

-- the same operand without a table of this name leaves the function with all registers
no_table : successors (code (through (codes "T") Rsi ∷ ret ∷ [])) 0 ≡ []
no_table = refl

no_table_rcx : live_test (code (two Op.Mov L (num 1) (reg Rcx) ∷ through (codes "T") Rsi ∷ [])) (InReg Rcx) (0 ∷ []) ≡ true
unfolding ◌⊔◌
no_table_rcx = refl
