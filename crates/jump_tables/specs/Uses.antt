-- The symbols that an entry names.
use Rattle.std.specs.Prelude.{ℕ, Bool, true, false, List, [], ◌∷◌, ◌++◌, map, Option, Some, None, bytes_eq, if◌then◌else◌}
use Rattle.insn_ir.specs.declared.op.Op.{Op}
use Rattle.insn_ir.specs.declared.insn.Atom.{Atom}
use Rattle.insn_ir.specs.declared.insn.Disp.{Disp}
use Rattle.insn_ir.specs.declared.insn.Imm.{Imm}
use Rattle.insn_ir.specs.declared.insn.Arg.{Arg}
use Rattle.insn_ir.specs.declared.insn.Insn.{Insn}
use Rattle.insn_ir.specs.declared.entry.DirectiveKind.{DirectiveKind}
use Rattle.insn_ir.specs.declared.entry.EntryKind.{EntryKind}
use Rattle.insn_ir.specs.Jumps.{table_of_arg}

abbrev pub atoms_of_disp : Disp → List Atom
atoms_of_disp (Disp.Num n) = []
atoms_of_disp (Disp.Sym a) = a ∷ []

abbrev pub atoms_of_imm : Imm → List Atom
atoms_of_imm (Imm.Num n) = []
atoms_of_imm (Imm.Sym a) = a ∷ []

abbrev pub atoms_of_arg : Arg → List Atom
atoms_of_arg Arg.Absent = []
atoms_of_arg (Arg.Reg r) = []
atoms_of_arg (Arg.Imm i) = atoms_of_imm i
atoms_of_arg (Arg.Mem m) = atoms_of_disp m.disp
atoms_of_arg (Arg.Code a) = a ∷ []

-- the symbols of an instruction, each with its offset; a specifier is none
abbrev pub atoms : Insn → List Atom
atoms i = atoms_of_arg i.a ++ atoms_of_arg i.b ++ atoms_of_arg i.c

abbrev pub insn_names : Insn → List (List ℕ)
insn_names i = map (λ a. a.name) (atoms i)

abbrev pub directive_names : DirectiveKind → List (List ℕ)
directive_names (DirectiveKind.Export ns) = ns
directive_names (DirectiveKind.FuncType n) = n ∷ []
directive_names (DirectiveKind.FuncEnd n) = n ∷ []
directive_names (DirectiveKind.Alias a b) = a ∷ b ∷ []
directive_names (DirectiveKind.Words w cells ns) = ns
directive_names (DirectiveKind.Bytes ns) = ns
directive_names _ = []

-- the symbols that an entry names: a label names none
abbrev pub names : EntryKind → List (List ℕ)
names (EntryKind.Insn i) = insn_names i
names (EntryKind.Directive d) = directive_names d
names (EntryKind.Opaque ns) = ns
names _ = []

-- a jump through its operand (Intel SDM volume 2, JMP near absolute indirect), with `notrack` or without
abbrev pub is_star : Op → Bool
is_star Op.JmpStar = true
is_star Op.JmpStarNotrack = true
is_star _ = false

-- the T of a table jump `jmp *T(,%r,8)`
abbrev pub table_jump : EntryKind → Option (List ℕ)
table_jump (EntryKind.Insn i) = if is_star i.op then table_of_arg i.a else None
table_jump _ = None

abbrev pub is_name : List ℕ → Option (List ℕ) → Bool
is_name t None = false
is_name t (Some n) = bytes_eq t n

-- whether an entry is a table jump by this name
abbrev pub is_table_jump : List ℕ → EntryKind → Bool
is_table_jump t k = is_name t (table_jump k)
