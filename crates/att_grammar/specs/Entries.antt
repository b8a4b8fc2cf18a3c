-- What a piece is (GNU as manual, "Statements", "Comments", "Labels" and "i386-Arch", for `#APP`).
use Rattle.std.specs.Prelude.{ℕ, ⊤, Bool, true, false, not, ◌==◌, ◌||◌, ◌&&◌, List, [], ◌∷◌, length, drop, slice_index, Option, Some, None, codes, bytes_eq, if◌then◌else◌}
use Rattle.std.specs.List.{prefix_len}
use Rattle.insn_ir.specs.declared.entry.DirectiveKind.{DirectiveKind}
use Rattle.insn_ir.specs.declared.entry.EntryKind.{EntryKind}
use Rattle.insn_ir.specs.declared.insn.Insn.{Insn}
use Rattle.insn_ir.specs.Profile.{IsInstruction}
use Rattle.att_lexer.specs.Bytes.{is_blank, is_symbol_byte}
use Rattle.att_lexer.specs.Tokens.{tokens_of, is_first_label}
use Rattle.att_lexer.specs.declared.token.Token.{Token}
use Rattle.att_grammar.specs.Lexemes.{Lexeme, word, number, text, mark, odd, says_all, lexemes_of}
use Rattle.att_grammar.specs.Notions.{only_word, begins_with, words_in}
use Rattle.att_grammar.specs.Directives.{is_assignment, directive_of, IsInRange}
use Rattle.att_grammar.specs.Instructions.{instruction_of}

abbrev pub opaque : List Lexeme → EntryKind
opaque lexemes = EntryKind.Opaque (words_in lexemes)

abbrev pub label_by : Option (List ℕ) → List Lexeme → EntryKind
label_by (Some name) lexemes = EntryKind.Label name
label_by None lexemes = opaque lexemes

-- a label that is a symbol; digits make none
abbrev pub label_of : List Lexeme → EntryKind
label_of lexemes = label_by (only_word lexemes) lexemes

abbrev pub without_blanks : List ℕ → List ℕ
without_blanks bytes = drop (prefix_len is_blank bytes) bytes

-- no symbol byte stands in front
abbrev pub is_apart : List ℕ → Bool
is_apart [] = true
is_apart (b ∷ bs) = not (is_symbol_byte b)

-- the bytes begin with these, and no symbol byte follows
abbrev pub stands_first : List ℕ → List ℕ → Bool
stands_first front bytes = begins_with front bytes && is_apart (drop (length front) bytes)

-- the compiler marks inline assembly by `#APP` and `#NO_APP`
unfoldable pub is_inline_mark : List ℕ → Bool
is_inline_mark piece = stands_first (codes "#APP") (without_blanks piece) || stands_first (codes "#NO_APP") (without_blanks piece)

-- the name of a directive begins with `.`
abbrev pub is_directive : List Lexeme → Bool
is_directive (word name ∷ rest) = slice_index name 0 == 46
is_directive _ = false

abbrev pub insn_or_opaque : Option Insn → List Lexeme → EntryKind
insn_or_opaque (Some i) lexemes = EntryKind.Insn i
insn_or_opaque None lexemes = opaque lexemes

-- a piece that has tokens and is no label
unfoldable pub statement_of : List ℕ → List Token → EntryKind
statement_of piece tokens =
    if is_assignment (says_all piece tokens) || is_directive (says_all piece tokens) then EntryKind.Directive (directive_of piece tokens)
    else insn_or_opaque (instruction_of (says_all piece tokens)) (says_all piece tokens)

abbrev pub unlabelled : List ℕ → List Token → EntryKind
unlabelled piece [] = if is_inline_mark piece then EntryKind.InlineMark else EntryKind.Blank
unlabelled piece (t ∷ ts) = statement_of piece (t ∷ ts)

-- the entry that a piece is
unfoldable pub kind_of_piece : List ℕ → EntryKind
kind_of_piece piece = if is_first_label piece then label_of (lexemes_of piece) else unlabelled piece (tokens_of piece)

-- an instruction is one of the profile, and an alignment has its ranges
abbrev pub IsOfProfile : EntryKind → Type 0
IsOfProfile (EntryKind.Insn i) = IsInstruction i
IsOfProfile EntryKind.Blank = ⊤
IsOfProfile (EntryKind.Label name) = ⊤
IsOfProfile (EntryKind.Directive kind) = IsInRange kind
IsOfProfile EntryKind.InlineMark = ⊤
IsOfProfile (EntryKind.Opaque names) = ⊤
