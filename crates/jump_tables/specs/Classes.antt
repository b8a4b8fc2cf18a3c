-- The classes of entries.
use Rattle.std.specs.Prelude.{Bool, not, ◌||◌, List, map, length, nat_eq, if◌then◌else◌}
use Rattle.insn_ir.specs.declared.insn.Arg.{Arg}
use Rattle.insn_ir.specs.declared.insn.Insn.{Insn}
use Rattle.insn_ir.specs.declared.entry.DirectiveKind.{DirectiveKind}
use Rattle.insn_ir.specs.declared.entry.EntryKind.{EntryKind}
use Rattle.insn_ir.specs.declared.entry.Entry.{Entry}
use Rattle.jump_tables.specs.declared.class.EntryClass.{EntryClass}
use Rattle.jump_tables.specs.Uses.{atoms_of_arg}

abbrev pub has_symbol : Arg → Bool
has_symbol a = not (nat_eq (length (atoms_of_arg a)) 0)

-- whether an instruction names a symbol
abbrev pub names_any : Insn → Bool
names_any i = has_symbol i.a || has_symbol i.b || has_symbol i.c

abbrev pub insn_class : Insn → EntryClass
insn_class i = if names_any i then EntryClass.Instruction else EntryClass.Plain

abbrev pub directive_class : DirectiveKind → EntryClass
directive_class DirectiveKind.Inert = EntryClass.Blank
directive_class DirectiveKind.Cfi = EntryClass.Plain
directive_class DirectiveKind.CfiTable = EntryClass.ExceptionTable
directive_class (DirectiveKind.Export ns) = EntryClass.Export
directive_class (DirectiveKind.FuncType n) = EntryClass.FunctionType
directive_class (DirectiveKind.FuncEnd n) = EntryClass.FunctionEnd
directive_class (DirectiveKind.Alias a b) = EntryClass.Alias
directive_class (DirectiveKind.Section n c) = EntryClass.Section
directive_class (DirectiveKind.Align p f m) = EntryClass.Align
directive_class (DirectiveKind.Words w cs ns) = EntryClass.Words
directive_class (DirectiveKind.Bytes ns) = EntryClass.Bytes
directive_class DirectiveKind.Breaking = EntryClass.Breaking

abbrev pub class_of : EntryKind → EntryClass
class_of EntryKind.Blank = EntryClass.Blank
class_of (EntryKind.Label n) = EntryClass.Label
class_of (EntryKind.Insn i) = insn_class i
class_of (EntryKind.Directive d) = directive_class d
class_of EntryKind.InlineMark = EntryClass.InlineMark
class_of (EntryKind.Opaque ns) = EntryClass.Opaque

abbrev pub classes_of : List Entry → List EntryClass
classes_of es = map (λ e. class_of e.kind) es
