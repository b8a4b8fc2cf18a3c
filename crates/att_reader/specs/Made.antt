-- Entries as they are made. Only private clauses cite it.
use Rattle.std.specs.Prelude.{ℕ, List, Option}
use Rattle.insn_ir.specs.declared.entry.Entry.{Entry}
use Rattle.insn_ir.specs.declared.entry.EntryKind.{EntryKind}
use Rattle.insn_ir.specs.declared.insn.Insn.{Insn}
use Rattle.att_grammar.specs.Lexemes.{Lexeme}
use Rattle.att_grammar.specs.Entries.{insn_or_opaque}

abbrev pub entry : ℕ → EntryKind → Entry
entry serial kind = record { serial = serial; kind = kind }

-- an instruction, or else the words of a line
abbrev pub entry_of : ℕ → Option Insn → List Lexeme → Entry
entry_of serial insn whole = entry serial (insn_or_opaque insn whole)
