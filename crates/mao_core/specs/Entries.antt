-- The entries of a text: one for each piece, numbered from 1.
use Rattle.std.specs.Prelude.{ℕ, ◌+◌, List, [], ◌∷◌, map}
use Rattle.insn_ir.specs.declared.entry.EntryKind.{EntryKind}
use Rattle.insn_ir.specs.declared.entry.Entry.{Entry}
use Rattle.att_lexer.specs.Pieces.{pieces}
use Rattle.att_grammar.specs.Entries.{kind_of_piece}

-- what the pieces of a text are, in order
abbrev pub kinds_of_text : List ℕ → List EntryKind
kinds_of_text text = map kind_of_piece (pieces text)

-- entries of these kinds, with the numbers from a first one on as serials
abbrev pub numbered : ℕ → List EntryKind → List Entry
numbered n [] = []
numbered n (k ∷ ks) = record { serial = n; kind = k } ∷ numbered (n + 1) ks

abbrev pub entries_of : List ℕ → List Entry
entries_of text = numbered 1 (kinds_of_text text)
