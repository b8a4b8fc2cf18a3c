-- What single instructions and short codes do, as cases that compute.
use Rattle.std.specs.Prelude.{◌≡◌, ℕ, Bool, true, false, List, [], ◌∷◌, map, Some, None, ℤ, pos, if◌then◌else◌}
use Rattle.insn_ir.specs.declared.op.Reg.{Reg}
use Rattle.insn_ir.specs.declared.op.Flag.{Flag}
use Rattle.insn_ir.specs.declared.op.Op.{Op}
use Rattle.insn_ir.specs.declared.op.Width.{Width}
use Rattle.insn_ir.specs.declared.insn.Atom.{Atom}
use Rattle.insn_ir.specs.declared.insn.Imm.{Imm}
use Rattle.insn_ir.specs.declared.insn.Arg.{Arg}
use Rattle.insn_ir.specs.declared.insn.Insn.{Insn}
use Rattle.insn_ir.specs.Machine.{World, State, Answer, Memory, Event, same_reg, same_flag, all_flags, loaded, stored}
use Rattle.insn_ir.specs.Task.{Act, Faults, Does, On, perform}
use Rattle.insn_ir.specs.Step.{insn_task}
use Rattle.insn_ir.specs.Code.{Code, Trace, run}
use Rattle.insn_ir.specs.Same.{start}

-- ---- instructions

abbrev pub bare : Op → Width → Insn
bare o d = record { op = o; width = d; a = Arg.Absent; b = Arg.Absent; c = Arg.Absent }

abbrev pub with_a : Op → Width → Arg → Insn
with_a o d a = record { op = o; width = d; a = a; b = Arg.Absent; c = Arg.Absent }

abbrev pub with_ab : Op → Width → Arg → Arg → Insn
with_ab o d a b = record { op = o; width = d; a = a; b = b; c = Arg.Absent }

abbrev pub number : ℤ → Arg
number n = Arg.Imm (Imm.Num n)

-- a symbol alone, without specifier and offset
abbrev pub atom : List ℕ → Atom
atom n = record { name = n; spec = None; offset = pos 0 }

-- ---- states

-- a register and its number
pub record RegValue : Type 0 where
  pub reg : Reg
  pub number : ℕ

-- eight bytes of memory, the lowest first, and their address
pub record MemoryWord : Type 0 where
  pub address : ℕ
  pub number : ℕ

abbrev pub value : Reg → ℕ → RegValue
value r n = record { reg = r; number = n }

abbrev pub word : ℕ → ℕ → MemoryWord
word a n = record { address = a; number = n }

abbrev pub held : List RegValue → Reg → ℕ
held [] q = 0
held (h ∷ hs) q = if same_reg q h.reg then h.number else held hs q

abbrev pub is_in : List Flag → Flag → Bool
is_in [] g = false
is_in (f ∷ fs) g = if same_flag g f then true else is_in fs g

abbrev pub memory_of : List MemoryWord → Memory
memory_of [] = λ a. None
memory_of (m ∷ ms) = stored (memory_of ms) m.address 8 m.number

-- these registers, 0 in all others, these flags and no others, and these words of memory, which may be written
abbrev pub state_of : List RegValue → List Flag → List MemoryWord → State
state_of hs fs ms = record { regs = held hs; flags = is_in fs; memory = memory_of ms }

-- nothing is linked, undefined bits are 0, and the base of fs is 0
abbrev pub plain : World
plain = record { link = λ n spec. 0; undefined = λ o d xs. 0; fs = 0 }

-- ---- cases

-- it was done without a fault, and these registers and exactly these flags are set
abbrev pub HoldsAfter : List RegValue → List Flag → Act → Type 0
HoldsAfter hs fs Faults = ⊥
HoldsAfter hs fs (Does s es n) =
    (map (λ h. s.regs h.reg) hs ≡ map (λ h. h.number) hs) × (map s.flags all_flags ≡ map (is_in fs) all_flags)

-- it showed these events, these registers and words of memory are there, and control goes on to the next place
abbrev pub ShowsAfter : List Event → List RegValue → List MemoryWord → Act → Type 0
ShowsAfter es hs ms Faults = ⊥
ShowsAfter es hs ms (Does s es' n) =
    (es' ≡ es) × (map (λ h. s.regs h.reg) hs ≡ map (λ h. h.number) hs) × (map (λ m. loaded s.memory m.address 8) ms ≡ map (λ m. Some m.number) ms) × (n ≡ On)

-- the instruction turns such registers and flags into such registers and flags
abbrev pub Turns : Insn → List RegValue → List Flag → List RegValue → List Flag → Type 0
Turns i hs fs hs' fs' = HoldsAfter hs' fs' (perform (insn_task [] plain i) (state_of hs fs []))

-- the same where undefined results are as the world says
abbrev pub TurnsIn : World → Insn → List RegValue → List Flag → List RegValue → List Flag → Type 0
TurnsIn w i hs fs hs' fs' = HoldsAfter hs' fs' (perform (insn_task [] w i) (state_of hs fs []))

-- with such registers and memory the instruction shows these events and leaves such registers and memory
abbrev pub Executes : World → Insn → List RegValue → List MemoryWord → List Event → List RegValue → List MemoryWord → Type 0
Executes w i hs ms es hs' ms' = ShowsAfter es hs' ms' (perform (insn_task [] w i) (state_of hs [] ms))

-- from such a state the run of n steps shows this
abbrev pub RunShows : Code → ℕ → State → List Answer → Trace → Type 0
RunShows c n s left t = run c plain n (start s left) ≡ t
