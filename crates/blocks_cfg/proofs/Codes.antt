-- Short names for the lines of small codes, for the cases that compute definitions.
use Rattle.std.specs.Prelude.{ℕ, true, false, List, [], ◌∷◌, Some, None, pos, codes}
use Rattle.insn_ir.specs.declared.op.Reg.{Reg}
use Rattle.insn_ir.specs.declared.op.Cond.{Cond}
use Rattle.insn_ir.specs.declared.op.Op.{Op}
use Rattle.insn_ir.specs.declared.op.Width.{Width}
use Rattle.insn_ir.specs.declared.op.Width.TheVariants.{Q}
use Rattle.insn_ir.specs.declared.insn.Atom.{Atom}
use Rattle.insn_ir.specs.declared.insn.Disp.{Disp}
use Rattle.insn_ir.specs.declared.insn.Base.{Base}
use Rattle.insn_ir.specs.declared.insn.Mem.{Mem}
use Rattle.insn_ir.specs.declared.insn.Imm.{Imm}
use Rattle.insn_ir.specs.declared.insn.Arg.{Arg}
use Rattle.insn_ir.specs.declared.insn.Insn.{Insn}
use Rattle.insn_ir.specs.Machine.{Absolute}
use Rattle.insn_ir.specs.Code.{Code, One, Line, LocalLabel, Do}

-- ---- operands

abbrev pub reg : Reg → Arg
reg r = Arg.Reg r

abbrev pub num : ℕ → Arg
num n = Arg.Imm (Imm.Num (pos n))

-- n(%r)
abbrev pub at_base : ℕ → Reg → Mem
at_base n r = record { disp = Disp.Num (pos n); fs = false; base = Base.Reg r; index = None; scale = 1 }

abbrev pub mem : Mem → Arg
mem m = Arg.Mem m

abbrev pub atom : List ℕ → Atom
atom n = record { name = n; spec = None; offset = pos 0 }

abbrev pub to_name : List ℕ → Arg
to_name n = Arg.Code (atom n)

-- ---- lines

abbrev pub with_none : Op → Width → Insn
with_none o d = record { op = o; width = d; a = Arg.Absent; b = Arg.Absent; c = Arg.Absent }

abbrev pub with_one : Op → Width → Arg → Insn
with_one o d a = record { op = o; width = d; a = a; b = Arg.Absent; c = Arg.Absent }

abbrev pub with_two : Op → Width → Arg → Arg → Insn
with_two o d a b = record { op = o; width = d; a = a; b = b; c = Arg.Absent }

abbrev pub line : Insn → Line
line i = Do (One i)

abbrev pub one : Op → Width → Arg → Line
one o d a = line (with_one o d a)

abbrev pub two : Op → Width → Arg → Arg → Line
two o d a b = line (with_two o d a b)

abbrev pub label : List ℕ → Line
label n = LocalLabel n

abbrev pub bare : Op → Width → Line
bare o d = line (with_none o d)

abbrev pub ret : Line
ret = bare Op.Ret Q

abbrev pub nop : Line
nop = bare Op.Nop Q

abbrev pub jmp : List ℕ → Line
jmp n = one Op.Jmp Q (to_name n)

abbrev pub jcc : Cond → List ℕ → Line
jcc e n = one (Op.Jcc e) Q (to_name n)

abbrev pub call : List ℕ → Line
call n = one Op.Call Q (to_name n)

-- `jmp *T(,%r,8)`
abbrev pub through : List ℕ → Reg → Line
through n r =
    one Op.JmpStar Q (Arg.Mem (record { disp = Disp.Sym (atom n); fs = false; base = Base.Absent; index = Some r; scale = 8 }))

-- ---- codes

-- the function `f` of these lines
abbrev pub code : List Line → Code
code ls = record { name = codes "f"; lines = ls; tables = []; home = false }

-- the same as a home function
abbrev pub at_home : List Line → Code
at_home ls = record { name = codes "f"; lines = ls; tables = []; home = true }

-- the same with the table `T` of these labels
abbrev pub with_table : List (List ℕ) → List Line → Code
with_table cells ls =
    record { name = codes "f"; lines = ls; tables = record { kind = Absolute; label = codes "T"; cells = cells } ∷ []; home = false }
