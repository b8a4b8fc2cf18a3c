-- Facts on cells, and the numbers of cells, computed on small codes. Places count from 0; a label is none.
use Rattle.std.proofs.Common.{◌≡◌, ℕ, zero, suc, Bool, true, false, List, [], ◌∷◌, ◌++◌, refl}
use Rattle.std.specs.Prelude.{codes}
use Rattle.insn_ir.specs.declared.op.Reg.{Reg}
use Rattle.insn_ir.specs.declared.op.Reg.TheVariants.{Rax, Rcx, Rdx, Rbx, Rsp, Rbp, Rsi, Rdi}
use Rattle.insn_ir.specs.declared.op.Cond.{Cond}
use Rattle.insn_ir.specs.declared.op.Op.{Op}
use Rattle.insn_ir.specs.declared.op.Width.{Width}
use Rattle.insn_ir.specs.declared.op.Width.TheVariants.{B, L, Q}
use Rattle.insn_ir.specs.Code.{Code, One, Line}
use Rattle.insn_effects.specs.Footprint.{◌⊔◌}
use Rattle.blocks_cfg.specs.Cells.{MemCell, each_once, is_early}
use Rattle.blocks_cfg.proofs.Codes.{reg, num, at_base, mem, with_two, one, two, label, ret, jcc, call, code}
use Rattle.blocks_cfg.proofs.Computed.{below}
use Rattle.blocks_cfg.proofs.Makers.{cell_test, counts}

-- n(%r) at the width d
abbrev pub cell : ℕ → Reg → Width → MemCell
cell n r d = record { mem = at_base n r; width = d }

-- all places in one stretch
abbrev pub one_stretch : ℕ → ℕ
one_stretch k = 0

-- whether q holds the cell at exactly the places ps, of those that are reached
abbrev held_test : Code → MemCell → Reg → List ℕ → List ℕ → Bool
held_test f c q rs ps = cell_test f one_stretch c q 0 rs ps

abbrev pub load : ℕ → Reg → Width → Reg → Line
load n b d r = two Op.Mov d (mem (at_base n b)) (reg r)

abbrev pub store : Width → Reg → ℕ → Reg → Line
store d r n b = two Op.Mov d (reg r) (mem (at_base n b))

-- `movq 24(%rsp), %rdx / movq 24(%rsp), %rcx / ret`
abbrev pub loaded_twice : Code
loaded_twice = code (load 24 Rsp Q Rdx ∷ load 24 Rsp Q Rcx ∷ ret ∷ [])

pub load_makes : held_test loaded_twice (cell 24 Rsp Q) Rdx (below 3) (1 ∷ 2 ∷ []) ≡ true
unfolding ◌⊔◌
load_makes = refl

second_load_makes : held_test loaded_twice (cell 24 Rsp Q) Rcx (below 3) (2 ∷ []) ≡ true
unfolding ◌⊔◌
second_load_makes = refl

-- another address, and another width, are other cells
other_address : held_test loaded_twice (cell 16 Rsp Q) Rdx (below 3) [] ≡ true
unfolding ◌⊔◌
other_address = refl

other_width : held_test loaded_twice (cell 24 Rsp L) Rdx (below 3) [] ≡ true
unfolding ◌⊔◌
other_width = refl

-- with `movq %rsi, (%rdi)` between: any store breaks it
abbrev pub stored_between : Code
stored_between = code (load 24 Rsp Q Rdx ∷ store Q Rsi 0 Rdi ∷ load 24 Rsp Q Rcx ∷ ret ∷ [])

pub store_breaks : held_test stored_between (cell 24 Rsp Q) Rdx (below 4) (1 ∷ []) ≡ true
unfolding ◌⊔◌
store_breaks = refl

-- and makes its own cell
store_makes : held_test stored_between (cell 0 Rdi Q) Rsi (below 4) (2 ∷ 3 ∷ []) ≡ true
unfolding ◌⊔◌
store_makes = refl

-- `movl %eax, 8(%rsp) / movl 8(%rsp), %eax / ret`
abbrev pub stored_and_loaded : Code
stored_and_loaded = code (store L Rax 8 Rsp ∷ load 8 Rsp L Rax ∷ ret ∷ [])

pub store_and_load_make : held_test stored_and_loaded (cell 8 Rsp L) Rax (below 3) (1 ∷ 2 ∷ []) ≡ true
unfolding ◌⊔◌
store_and_load_make = refl

-- `movq 8(%rax), %rax / movq 8(%rax), %rax / ret`: a load into its own base makes nothing
abbrev pub into_its_base : Code
into_its_base = code (load 8 Rax Q Rax ∷ load 8 Rax Q Rax ∷ ret ∷ [])

pub load_into_its_base : held_test into_its_base (cell 8 Rax Q) Rax (below 3) [] ≡ true
unfolding ◌⊔◌
load_into_its_base = refl

-- `movq %rax, 8(%rax) / ret`: a store of it does
store_of_its_base : held_test (code (store Q Rax 8 Rax ∷ ret ∷ [])) (cell 8 Rax Q) Rax (below 2) (1 ∷ []) ≡ true
unfolding ◌⊔◌
store_of_its_base = refl

-- `movq 8(%rdi), %rax / addq $8, %rdi / ret`: a write of the base breaks it
base_breaks : held_test (code (load 8 Rdi Q Rax ∷ two Op.Add Q (num 8) (reg Rdi) ∷ ret ∷ [])) (cell 8 Rdi Q) Rax (below 3) (1 ∷ []) ≡ true
unfolding ◌⊔◌
base_breaks = refl

-- `movq 8(%rbx), %rbp / call g / ret`: a call breaks it, though it keeps both registers
call_breaks : held_test (code (load 8 Rbx Q Rbp ∷ call (codes "g") ∷ ret ∷ [])) (cell 8 Rbx Q) Rbp (below 3) (1 ∷ []) ≡ true
unfolding ◌⊔◌
call_breaks = refl

-- `movq 8(%rdi), %rax / pushq %rbx / ret`: a push stores
push_breaks : held_test (code (load 8 Rdi Q Rax ∷ one Op.Push Q (reg Rbx) ∷ ret ∷ [])) (cell 8 Rdi Q) Rax (below 3) (1 ∷ []) ≡ true
unfolding ◌⊔◌
push_breaks = refl

-- `movq 24(%rsp), %rdx / testq %rdx, %rdx / je .L2 / movq 24(%rsp), %rcx / .L2: / ret`: over a jump
abbrev pub over_a_jump : Code
over_a_jump =
    code (load 24 Rsp Q Rdx ∷ two Op.Test Q (reg Rdx) (reg Rdx) ∷ jcc Cond.E (codes ".L2") ∷ load 24 Rsp Q Rcx ∷ label (codes ".L2") ∷ ret ∷ [])

held_over_a_jump : held_test over_a_jump (cell 24 Rsp Q) Rdx (below 5) (1 ∷ 2 ∷ 3 ∷ 4 ∷ []) ≡ true
unfolding ◌⊔◌
held_over_a_jump = refl

-- rcx holds it on one of two ways to the label alone
each_way_must_load : held_test over_a_jump (cell 24 Rsp Q) Rcx (below 5) [] ≡ true
unfolding ◌⊔◌
each_way_must_load = refl

-- `movq 8(%rdi), %rax / .L1: / movq 8(%rdi), %rcx / subq $1, %rsi / jne .L1 / ret`: in a loop, on each round
held_in_a_loop : held_test (code (load 8 Rdi Q Rax ∷ label (codes ".L1") ∷ load 8 Rdi Q Rcx ∷ two Op.Sub Q (num 1) (reg Rsi) ∷ jcc Cond.Ne (codes ".L1") ∷ ret ∷ [])) (cell 8 Rdi Q) Rax (below 5) (1 ∷ 2 ∷ 3 ∷ 4 ∷ []) ≡ true
unfolding ◌⊔◌
held_in_a_loop = refl

-- the same with `movq %rsi, (%rdx)` before `subq`: the way round the loop breaks it, so it holds at no place of the loop
abbrev stored_in_a_loop : Code
stored_in_a_loop =
    code (load 8 Rdi Q Rax ∷ label (codes ".L1") ∷ load 8 Rdi Q Rcx ∷ store Q Rsi 0 Rdx ∷ two Op.Sub Q (num 1) (reg Rsi) ∷ jcc Cond.Ne (codes ".L1") ∷ ret ∷ [])

broken_in_a_loop : held_test stored_in_a_loop (cell 8 Rdi Q) Rax (below 6) [] ≡ true
unfolding ◌⊔◌
broken_in_a_loop = refl

made_in_a_loop : held_test stored_in_a_loop (cell 8 Rdi Q) Rcx (below 6) (2 ∷ []) ≡ true
unfolding ◌⊔◌
made_in_a_loop = refl

-- ---- the numbers of cells

-- each cell once, in order: a load, a store, and a store of a number at 32 or 64 bits have one, a sum and 8 bits none
cells_in_order : each_once [] (One (with_two Op.Mov L (mem (at_base 0 Rdi)) (reg Rax)) ∷ One (with_two Op.Mov Q (num 1) (mem (at_base 8 Rdi))) ∷ One (with_two Op.Mov L (reg Rcx) (mem (at_base 0 Rdi))) ∷ One (with_two Op.Add L (mem (at_base 16 Rdi)) (reg Rax)) ∷ One (with_two Op.Mov B (mem (at_base 24 Rdi)) (reg Rax)) ∷ One (with_two Op.Mov Q (mem (at_base 0 Rdi)) (reg Rax)) ∷ []) ≡ cell 0 Rdi L ∷ cell 8 Rdi Q ∷ cell 0 Rdi Q ∷ []
cells_in_order = refl

-- n loads of n different cells: `movl A(%rdi), %eax`, A from a on
abbrev loads : ℕ → ℕ → List Line
loads a zero = []
loads a (suc n) = load a Rdi L Rax ∷ loads (suc a) n

-- `movl 256(%rdi), %edx / movl 256(%rdi), %ecx` behind 256 other cells
abbrev many : Code
many = code (loads 0 256 ++ (load 256 Rdi L Rdx ∷ load 256 Rdi L Rcx ∷ ret ∷ []))

last_early_cell : is_early many (cell 255 Rdi L) ≡ true
last_early_cell = refl

first_late_cell : is_early many (cell 256 Rdi L) ≡ false
first_late_cell = refl

-- of a late cell a maker counts in its stretch alone; of an early one everywhere
late_in_its_stretch : counts many one_stretch (cell 256 Rdi L) 257 256 ≡ true
late_in_its_stretch = refl

late_in_another_stretch : counts many (λ k. k) (cell 256 Rdi L) 257 256 ≡ false
late_in_another_stretch = refl

early_in_another_stretch : counts many (λ k. k) (cell 255 Rdi L) 257 255 ≡ true
early_in_another_stretch = refl
