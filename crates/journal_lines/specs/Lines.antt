-- The journal as text: a line for each edit.
use Rattle.std.specs.Prelude.{ℕ, ◌<◌, ⊤, List, ◌++◌, codes, decimal, length, option_map, slice_get, unwrap_or, []}
use Rattle.std.specs.List.{flat_map, AllByRecursion}
use Rattle.insn_ir.specs.declared.insn.Insn.{Insn}
use Rattle.insn_ir.specs.Profile.{IsInstruction}
use Rattle.att_grammar.specs.Canonical.{insn_text}
use Rattle.asm_unit.specs.Unit.{Unit}
use Rattle.unit_edits.specs.declared.edit.Edit.{Edit}
use Rattle.unit_edits.specs.declared.journal.Part.{Part}

-- a blank and a number, and a blank and an instruction
abbrev pub number : ℕ → List ℕ
number n = codes " " ++ decimal n

abbrev pub instruction : Insn → List ℕ
instruction i = codes " " ++ insn_text i

-- ` remove S`, ` put S TEXT`, ` merge S T TEXT`, ` nop S N` or ` align S N P`
abbrev pub edit_text : Edit → List ℕ
edit_text (Edit.Remove serial) = codes " remove" ++ number serial
edit_text (Edit.Put serial i) = codes " put" ++ number serial ++ instruction i.value
edit_text (Edit.Merge first second i) = codes " merge" ++ number first ++ number second ++ instruction i.value
edit_text (Edit.InsertNop before serial) = codes " nop" ++ number before ++ number serial
edit_text (Edit.InsertAlign before serial power) = codes " align" ++ number before ++ number serial ++ number power

-- `edit K NAME`, the edit and a newline
abbrev pub edit_line : (step : ℕ) (name : List ℕ) → Edit → List ℕ
edit_line step name e = codes "edit" ++ number step ++ codes " " ++ name ++ edit_text e ++ codes "\n"

-- the name of the function at a place
abbrev pub name_at : Unit → ℕ → List ℕ
name_at u f = unwrap_or (option_map (λ d. d.name) (slice_get u.decided f)) []

abbrev pub part_lines : Unit → Part → List ℕ
part_lines u p = flat_map (edit_line p.step (name_at u p.f)) p.edits

-- a line for each edit of each part, in order
abbrev pub journal_lines : Unit → List Part → List ℕ
journal_lines u ps = flat_map (part_lines u) ps

-- an instruction that an edit brings is one of the profile
abbrev pub IsOfProfile : Edit → Type 0
IsOfProfile (Edit.Remove serial) = ⊤
IsOfProfile (Edit.Put serial i) = IsInstruction i.value
IsOfProfile (Edit.Merge first second i) = IsInstruction i.value
IsOfProfile (Edit.InsertNop before serial) = ⊤
IsOfProfile (Edit.InsertAlign before serial power) = ⊤

abbrev pub AreOfProfile : List Part → Type 0
AreOfProfile ps = AllByRecursion (λ p. AllByRecursion IsOfProfile p.edits) ps

-- each part is of a function that is there
abbrev pub AreOfFunctions : Unit → List Part → Type 0
AreOfFunctions u ps = AllByRecursion (λ p. p.f < length u.decided) ps
