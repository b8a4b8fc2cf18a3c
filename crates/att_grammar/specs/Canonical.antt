-- Canonical text: one spelling for each instruction of the profile and for each alignment (GNU as manual, "i386-Syntax",
-- "i386-Mnemonics", "i386-Memory" and "P2align").
use Rattle.std.specs.Prelude.{ℕ, zero, suc, ℤ, pos, negsuc, Bool, true, false, List, [], ◌∷◌, ◌++◌, Option, Some, None, codes}
use Rattle.insn_ir.specs.declared.op.Reg.{Reg}
use Rattle.insn_ir.specs.declared.op.Width.{Width}
use Rattle.insn_ir.specs.declared.op.Width.TheVariants.{B, Q}
use Rattle.insn_ir.specs.declared.op.Op.{Op}
use Rattle.insn_ir.specs.declared.insn.Atom.{Atom}
use Rattle.insn_ir.specs.declared.insn.Disp.{Disp}
use Rattle.insn_ir.specs.declared.insn.Base.{Base}
use Rattle.insn_ir.specs.declared.insn.Mem.{Mem}
use Rattle.insn_ir.specs.declared.insn.Imm.{Imm}
use Rattle.insn_ir.specs.declared.insn.Arg.{Arg}
use Rattle.insn_ir.specs.declared.insn.Insn.{Insn}
use Rattle.insn_ir.specs.Mnemonics.{written_mnemonic}
use Rattle.att_grammar.specs.Registers.{register_name}
use Rattle.att_grammar.specs.Spelling.{Item, gap, name, digits, sign, render}

-- a number in decimal, with `-` where it is negative
abbrev pub number_items : ℤ → List Item
number_items (pos n) = digits n ∷ []
number_items (negsuc n) = sign 45 ∷ digits (suc n) ∷ []

-- `@` and the specifier, where there is one
abbrev pub spec_items : Option (List ℕ) → List Item
spec_items None = []
spec_items (Some spec) = sign 64 ∷ name spec ∷ []

-- `+n` or `-n`, and nothing for 0
abbrev pub offset_items : ℤ → List Item
offset_items (pos zero) = []
offset_items (pos (suc n)) = sign 43 ∷ digits (suc n) ∷ []
offset_items (negsuc n) = sign 45 ∷ digits (suc n) ∷ []

abbrev pub atom_items : Atom → List Item
atom_items atom = name atom.name ∷ (spec_items atom.spec ++ offset_items atom.offset)

abbrev pub imm_items : Imm → List Item
imm_items (Imm.Num n) = number_items n
imm_items (Imm.Sym atom) = atom_items atom

abbrev pub disp_items : Disp → List Item
disp_items (Disp.Num n) = number_items n
disp_items (Disp.Sym atom) = atom_items atom

-- in front of a parenthesis 0 is left out
abbrev pub front_items : Disp → List Item
front_items (Disp.Num (pos zero)) = []
front_items (Disp.Num (pos (suc n))) = number_items (pos (suc n))
front_items (Disp.Num (negsuc n)) = number_items (negsuc n)
front_items (Disp.Sym atom) = atom_items atom

-- `%` and the name of a register at a width
abbrev pub register_items : Width → Reg → List Item
register_items width r = sign 37 ∷ name (register_name width r) ∷ []

-- the index, always with the scale
abbrev pub index_items : Option Reg → ℕ → List Item
index_items None scale = []
index_items (Some r) scale = sign 44 ∷ (register_items Q r ++ sign 44 ∷ digits scale ∷ [])

-- a parenthesis with what stands in it
abbrev pub in_parens : List Item → List Item
in_parens items = sign 40 ∷ (items ++ sign 41 ∷ [])

abbrev pub base_items : Base → List Item
base_items Base.Absent = []
base_items Base.Rip = sign 37 ∷ name (codes "rip") ∷ []
base_items (Base.Reg b) = register_items Q b

-- the displacement, and the parenthesis where there is a base or an index
abbrev pub place_items : Disp → Base → Option Reg → ℕ → List Item
place_items disp Base.Absent None scale = disp_items disp
place_items disp Base.Absent (Some r) scale = front_items disp ++ in_parens (index_items (Some r) scale)
place_items disp Base.Rip index scale = front_items disp ++ in_parens (base_items Base.Rip ++ index_items index scale)
place_items disp (Base.Reg b) index scale = front_items disp ++ in_parens (base_items (Base.Reg b) ++ index_items index scale)

abbrev pub segment_items : Bool → List Item
segment_items true = sign 37 ∷ name (codes "fs") ∷ sign 58 ∷ []
segment_items false = []

abbrev pub mem_items : Mem → List Item
mem_items mem = segment_items mem.fs ++ place_items mem.disp mem.base mem.index mem.scale

-- an operand, where a register has a width
abbrev pub arg_items : Width → Arg → List Item
arg_items width Arg.Absent = []
arg_items width (Arg.Reg r) = register_items width r
arg_items width (Arg.Imm imm) = sign 36 ∷ imm_items imm
arg_items width (Arg.Mem mem) = mem_items mem
arg_items width (Arg.Code atom) = atom_items atom

-- the width of a register that is the first operand: that of the source, and `%cl` is the count of a shift
abbrev pub first_width : Op → Width → Width
first_width (Op.Movz source) width = source
first_width (Op.Movs source) width = source
first_width Op.Shl width = B
first_width Op.Shr width = B
first_width Op.Sar width = B
first_width _ width = width

-- `*` stands before the operand of an indirect jump or call
abbrev pub star_items : Op → List Item
star_items Op.JmpStar = sign 42 ∷ []
star_items Op.JmpStarNotrack = sign 42 ∷ []
star_items Op.CallStar = sign 42 ∷ []
star_items _ = []

-- the first operand behind a blank
abbrev pub first_items : Op → Width → Arg → List Item
first_items op width Arg.Absent = []
first_items op width (Arg.Reg r) = gap ∷ (star_items op ++ arg_items (first_width op width) (Arg.Reg r))
first_items op width (Arg.Imm imm) = gap ∷ (star_items op ++ arg_items (first_width op width) (Arg.Imm imm))
first_items op width (Arg.Mem mem) = gap ∷ (star_items op ++ arg_items (first_width op width) (Arg.Mem mem))
first_items op width (Arg.Code atom) = gap ∷ (star_items op ++ arg_items (first_width op width) (Arg.Code atom))

-- a further operand behind a comma and a blank
abbrev pub next_items : Width → Arg → List Item
next_items width Arg.Absent = []
next_items width (Arg.Reg r) = sign 44 ∷ gap ∷ arg_items width (Arg.Reg r)
next_items width (Arg.Imm imm) = sign 44 ∷ gap ∷ arg_items width (Arg.Imm imm)
next_items width (Arg.Mem mem) = sign 44 ∷ gap ∷ arg_items width (Arg.Mem mem)
next_items width (Arg.Code atom) = sign 44 ∷ gap ∷ arg_items width (Arg.Code atom)

-- the mnemonic; two of them are two words
abbrev pub mnemonic_items : Op → Width → List Item
mnemonic_items Op.JmpStarNotrack width = name (codes "notrack") ∷ gap ∷ name (codes "jmp") ∷ []
mnemonic_items Op.RepRet width = name (codes "rep") ∷ gap ∷ name (codes "ret") ∷ []
mnemonic_items op width = name (written_mnemonic op width) ∷ []

abbrev pub insn_items : Insn → List Item
insn_items insn =
    mnemonic_items insn.op insn.width ++ (first_items insn.op insn.width insn.a ++ (next_items insn.width insn.b ++ next_items insn.width insn.c))

-- the canonical text of an instruction
unfoldable pub insn_text : Insn → List ℕ
insn_text insn = render (insn_items insn)

-- a fill, a most number of bytes, or both
abbrev pub padding_items : Option ℕ → Option ℕ → List Item
padding_items None None = []
padding_items (Some fill) None = sign 44 ∷ digits fill ∷ []
padding_items None (Some max) = sign 44 ∷ sign 44 ∷ digits max ∷ []
padding_items (Some fill) (Some max) = sign 44 ∷ digits fill ∷ sign 44 ∷ digits max ∷ []

abbrev pub align_items : ℕ → Option ℕ → Option ℕ → List Item
align_items power fill max = name (codes ".p2align") ∷ gap ∷ digits power ∷ padding_items fill max

-- the canonical text of an alignment
unfoldable pub align_text : ℕ → Option ℕ → Option ℕ → List ℕ
align_text power fill max = render (align_items power fill max)

-- a text on a line of its own, behind a tab
abbrev pub line_of : List ℕ → List ℕ
line_of text = 9 ∷ text ++ 10 ∷ []
