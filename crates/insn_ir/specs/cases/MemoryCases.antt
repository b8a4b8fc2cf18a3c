-- Cases of memory operands (SDM volume 1, sections 3.7.5 and 4.1.1).
use Rattle.std.specs.Prelude.{◌≡◌, ℕ, true, false, List, [], ◌∷◌, Option, Some, None, ℤ, pos, negsuc, codes, bytes_eq, is_some, if◌then◌else◌}
use Rattle.insn_ir.specs.declared.op.Reg.{Reg}
use Rattle.insn_ir.specs.declared.op.Reg.TheVariants.{Rax, Rcx, Rbx, Rbp, Rdi}
use Rattle.insn_ir.specs.declared.op.Op.{Op}
use Rattle.insn_ir.specs.declared.op.Width.{Width}
use Rattle.insn_ir.specs.declared.insn.Disp.{Disp}
use Rattle.insn_ir.specs.declared.insn.Base.{Base}
use Rattle.insn_ir.specs.declared.insn.Arg.{Arg}
use Rattle.insn_ir.specs.Machine.{World, State, Event}
use Rattle.insn_ir.specs.Task.{Faults, perform}
use Rattle.insn_ir.specs.Step.{insn_task}
use Rattle.insn_ir.specs.cases.Cases.{with_ab, number, value, word, held, is_in, state_of, plain, ShowsAfter, Executes}

-- `n(%r)`
abbrev pub at_reg : ℤ → Reg → Arg
at_reg n r = Arg.Mem (record { fs = false; disp = Disp.Num n; base = Base.Reg r; index = None; scale = 1 })

-- ---- addresses

-- `movq 16(%rbx,%rcx,4), %rax` with rbx=0x1000 rcx=0x10 loads from 0x1000 + 0x10 * 4 + 16, which is 0x1050
abbrev pub MovqByBaseIndexScaleAndDisplacement : Type 0
MovqByBaseIndexScaleAndDisplacement =
    Executes plain
    (with_ab Op.Mov Width.Q (Arg.Mem (record { fs = false; disp = Disp.Num (pos 16); base = Base.Reg Rbx; index = Some Rcx; scale = 4 })) (Arg.Reg Rax))
    (value Rbx 0x1000 ∷ value Rcx 0x10 ∷ []) (word 0x1050 0x1122334455667788 ∷ [])
    [] (value Rax 0x1122334455667788 ∷ value Rbx 0x1000 ∷ value Rcx 0x10 ∷ []) []

-- `movl -4(%rbp), %eax` with rbp=0x1008 rax=0xffffffffffffffff loads four bytes from 0x1004
abbrev pub MovlBelowTheBase : Type 0
MovlBelowTheBase =
    Executes plain (with_ab Op.Mov Width.L (at_reg (negsuc 3) Rbp) (Arg.Reg Rax))
    (value Rbp 0x1008 ∷ value Rax 0xffffffffffffffff ∷ []) (word 0x1000 0x1122334455667788 ∷ [])
    [] (value Rax 0x11223344 ∷ []) []

-- `movzwl (%rdi), %eax` with rdi=0xffffffffffffffff takes the last byte of memory, and then the first
abbrev pub MovzwlGoesRound : Type 0
MovzwlGoesRound =
    Executes plain (with_ab (Op.Movz Width.W) Width.L (at_reg (pos 0) Rdi) (Arg.Reg Rax))
    (value Rdi 0xffffffffffffffff ∷ []) (word 0xfffffffffffffff9 0x1122334455667788 ∷ [])
    [] (value Rax 0x1122 ∷ []) []

-- the segment fs begins at 0x7000
abbrev pub with_fs : World
with_fs = record plain { fs = 0x7000 }

-- `movq %fs:40, %rax` loads from 0x7028
abbrev pub MovqOfTheSegment : Type 0
MovqOfTheSegment =
    Executes with_fs
    (with_ab Op.Mov Width.Q (Arg.Mem (record { fs = true; disp = Disp.Num (pos 40); base = Base.Absent; index = None; scale = 1 })) (Arg.Reg Rax))
    [] (word 0x7028 0x123456789abcdef0 ∷ [])
    [] (value Rax 0x123456789abcdef0 ∷ []) []

-- `x` is linked at 0x2000, and `x@GOTPCREL` at 0x3000
abbrev pub with_x : World
with_x = record plain { link = λ n spec. if bytes_eq n (codes "x") then (if is_some spec then 0x3000 else 0x2000) else 0 }

abbrev pub by_rip : Option (List ℕ) → ℤ → Arg
by_rip spec n =
    Arg.Mem (record { fs = false; disp = Disp.Sym (record { name = codes "x"; spec = spec; offset = n }); base = Base.Rip; index = None; scale = 1 })

-- `movq x@GOTPCREL+8(%rip), %rax` loads from 0x3008: the number of the symbol doesn't depend on the place
abbrev pub MovqOfASpecifiedSymbol : Type 0
MovqOfASpecifiedSymbol =
    Executes with_x (with_ab Op.Mov Width.Q (by_rip (Some (codes "GOTPCREL")) (pos 8)) (Arg.Reg Rax))
    [] (word 0x3008 0x55 ∷ [])
    [] (value Rax 0x55 ∷ []) []

-- `leaq x-4(%rip), %rax` gives 0x1ffc, and loads nothing
abbrev pub LeaqOfASymbol : Type 0
LeaqOfASymbol =
    Executes with_x (with_ab Op.Lea Width.Q (by_rip None (negsuc 3)) (Arg.Reg Rax))
    [] [] [] (value Rax 0x1ffc ∷ []) []

-- ---- stores

-- `movb %al, 1(%rdi)` with rax=0xaabb rdi=0x1000
abbrev pub MovbStoresOneByte : Type 0
MovbStoresOneByte =
    Executes plain (with_ab Op.Mov Width.B (Arg.Reg Rax) (at_reg (pos 1) Rdi))
    (value Rax 0xaabb ∷ value Rdi 0x1000 ∷ []) (word 0x1000 0x1122334455667788 ∷ [])
    (Event.Store 0x1001 1 0xbb ∷ []) (value Rax 0xaabb ∷ value Rdi 0x1000 ∷ []) (word 0x1000 0x112233445566bb88 ∷ [])

-- `movw $-2, 2(%rdi)` with rdi=0x1000
abbrev pub MovwStoresTwoBytes : Type 0
MovwStoresTwoBytes =
    Executes plain (with_ab Op.Mov Width.W (number (negsuc 1)) (at_reg (pos 2) Rdi))
    (value Rdi 0x1000 ∷ []) (word 0x1000 0x1122334455667788 ∷ [])
    (Event.Store 0x1002 2 0xfffe ∷ []) [] (word 0x1000 0x11223344fffe7788 ∷ [])

-- `addl %eax, 4(%rdi)` with rax=0xffffffff00000001 rdi=0x1000: loads, adds and stores four bytes
abbrev pub AddlStoresFourBytes : Type 0
AddlStoresFourBytes =
    Executes plain (with_ab Op.Add Width.L (Arg.Reg Rax) (at_reg (pos 4) Rdi))
    (value Rax 0xffffffff00000001 ∷ value Rdi 0x1000 ∷ []) (word 0x1000 0x1122334455667788 ∷ [])
    (Event.Store 0x1004 4 0x11223345 ∷ []) [] (word 0x1000 0x1122334555667788 ∷ [])

-- `movq %rax, (%rdi)` with rdi=0x1004, where memory ends at 0x1008, faults
abbrev pub MovqBeyondMemory : Type 0
MovqBeyondMemory =
    perform (insn_task [] plain (with_ab Op.Mov Width.Q (Arg.Reg Rax) (at_reg (pos 0) Rdi))) (state_of (value Rdi 0x1004 ∷ []) [] (word 0x1000 0 ∷ [])) ≡ Faults

-- each byte of memory is 7, and none may be written
abbrev pub read_only : State
read_only = record { regs = held []; flags = is_in []; memory = λ a. Some (record { byte = 7; writable = false }) }

-- `movl (%rdi), %eax` loads where nothing may be written
abbrev pub MovlOfReadOnlyMemory : Type 0
MovlOfReadOnlyMemory =
    ShowsAfter [] (value Rax 0x7070707 ∷ []) [] (perform (insn_task [] plain (with_ab Op.Mov Width.L (at_reg (pos 0) Rdi) (Arg.Reg Rax))) read_only)

-- `movl %eax, (%rdi)` faults there
abbrev pub MovlToReadOnlyMemory : Type 0
MovlToReadOnlyMemory =
    perform (insn_task [] plain (with_ab Op.Mov Width.L (Arg.Reg Rax) (at_reg (pos 0) Rdi))) read_only ≡ Faults
