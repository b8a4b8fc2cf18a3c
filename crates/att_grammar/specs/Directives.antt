-- Directives (GNU as manual, "Pseudo Ops", a section for each word).
use Rattle.std.specs.Prelude.{ℕ, ◌+◌, ◌^◌, ◌<◌, ◌≤◌, ⊤, Bool, true, false, not, ◌==◌, ◌||◌, ◌&&◌, nat_lt, nat_le, List, [], ◌∷◌, map, length, drop, Option, Some, None, codes, bytes_eq, if◌then◌else◌}
use Rattle.std.specs.List.{prefix_len, take_while, list_any}
use Rattle.insn_ir.specs.declared.op.Width.{Width}
use Rattle.insn_ir.specs.declared.op.Width.TheVariants.{B, W, L, Q}
use Rattle.insn_ir.specs.declared.entry.Cell.{Cell}
use Rattle.insn_ir.specs.declared.entry.DirectiveKind.{DirectiveKind}
use Rattle.att_lexer.specs.Bytes.{is_blank}
use Rattle.att_lexer.specs.Tokens.{ends_tokens}
use Rattle.att_lexer.specs.declared.token.Token.{Token}
use Rattle.att_grammar.specs.Lexemes.{Lexeme, word, number, text, mark, odd, says_all}
use Rattle.att_grammar.specs.Notions.{◌>>=◌, or_else, expect, word_of, number_of, text_of, this_word, is_among, begins_with, is_end, whole, only_word, words_in}
use Rattle.att_grammar.specs.Expressions.{name_of}

-- The words, by what they are for.

abbrev pub inert_words : List (List ℕ)
inert_words = codes ".file" ∷ codes ".loc" ∷ codes ".ident" ∷ codes ".comm" ∷ codes ".lcomm" ∷ codes ".cfi_sections" ∷ []

-- what the unwinder reads of a language
abbrev pub table_words : List (List ℕ)
table_words = codes ".cfi_lsda" ∷ codes ".cfi_personality" ∷ []

abbrev pub export_words : List (List ℕ)
export_words =
    codes ".globl" ∷ codes ".global" ∷ codes ".local" ∷ codes ".weak" ∷ codes ".hidden" ∷ codes ".protected" ∷ codes ".internal" ∷ []

abbrev pub set_words : List (List ℕ)
set_words = codes ".set" ∷ codes ".equ" ∷ []

abbrev pub section_words : List (List ℕ)
section_words = codes ".text" ∷ codes ".data" ∷ codes ".bss" ∷ []

-- alignments by bytes
abbrev pub align_words : List (List ℕ)
align_words = codes ".align" ∷ codes ".balign" ∷ []

abbrev pub byte_words : List (List ℕ)
byte_words = codes ".byte" ∷ []

abbrev pub short_words : List (List ℕ)
short_words = codes ".value" ∷ codes ".short" ∷ codes ".word" ∷ codes ".hword" ∷ codes ".2byte" ∷ []

abbrev pub long_words : List (List ℕ)
long_words = codes ".long" ∷ codes ".int" ∷ codes ".4byte" ∷ []

abbrev pub quad_words : List (List ℕ)
quad_words = codes ".quad" ∷ codes ".8byte" ∷ []

-- data of which only the names are seen: bytes, and numbers of other forms
abbrev pub string_words : List (List ℕ)
string_words = codes ".ascii" ∷ codes ".asciz" ∷ codes ".string" ∷ codes ".zero" ∷ codes ".skip" ∷ codes ".space" ∷ []

abbrev pub number_words : List (List ℕ)
number_words = codes ".sleb128" ∷ codes ".uleb128" ∷ codes ".octa" ∷ codes ".float" ∷ codes ".single" ∷ codes ".double" ∷ []

-- the width of the cells that a word makes
unfoldable pub cell_width : List ℕ → Option Width
cell_width name =
    if is_among byte_words name then Some B
    else (if is_among short_words name then Some W
    else (if is_among long_words name then Some L
    else (if is_among quad_words name then Some Q
    else None)))

-- Functions and aliases.

-- the name in `f, @function`
unfoldable pub typed_of : List Lexeme → Option (List ℕ)
typed_of lexemes =
    word_of lexemes >>= λ f. expect 44 f.1 >>= expect 64 >>= this_word (codes "function") >>= λ rest. if is_end rest then Some f.0 else None

abbrev pub func_type : Option (List ℕ) → DirectiveKind
func_type (Some f) = DirectiveKind.FuncType f
func_type None = DirectiveKind.Inert

-- the name in `f, .-f`
unfoldable pub sized_of : List Lexeme → Option (List ℕ)
sized_of lexemes =
    word_of lexemes >>= λ f. expect 44 f.1 >>= this_word (codes ".") >>= expect 45 >>= this_word f.0 >>= λ rest. if is_end rest then Some f.0 else None

abbrev pub func_end : Option (List ℕ) → DirectiveKind
func_end (Some f) = DirectiveKind.FuncEnd f
func_end None = DirectiveKind.Inert

-- the names in `a, b`; `.` is none
unfoldable pub alias_of : List Lexeme → Option (List ℕ × List ℕ)
alias_of lexemes = name_of lexemes >>= λ a. expect 44 a.1 >>= name_of >>= λ b. if is_end b.1 then Some (a.0, b.0) else None

-- a number, perhaps behind `-`
unfoldable pub signed_of : List Lexeme → Option (ℕ × List Lexeme)
signed_of lexemes = or_else (number_of lexemes) (expect 45 lexemes >>= number_of)

-- `a, n` with a number
unfoldable pub constant_of : List Lexeme → Option (List ℕ)
constant_of lexemes = name_of lexemes >>= λ a. expect 44 a.1 >>= signed_of >>= λ n. if is_end n.1 then Some a.0 else None

abbrev pub inert_if : Option (List ℕ) → DirectiveKind
inert_if (Some a) = DirectiveKind.Inert
inert_if None = DirectiveKind.Breaking

abbrev pub set_by : Option (List ℕ × List ℕ) → List Lexeme → DirectiveKind
set_by (Some names) lexemes = DirectiveKind.Alias names.0 names.1
set_by None lexemes = inert_if (constant_of lexemes)

-- Sections.

abbrev pub is_code_name : List ℕ → Bool
is_code_name name = bytes_eq (codes ".text") name || begins_with (codes ".text.") name

abbrev pub section : List ℕ → Bool → DirectiveKind
section name flagged = DirectiveKind.Section name (is_code_name name || flagged)

-- what the name of a section is made of: no blank, no `,`, no `"`, and nothing behind the statement
unfoldable pub is_section_byte : ℕ → Bool
is_section_byte b = not (is_blank b) && not (b == 44) && not (b == 34) && not (ends_tokens b)

-- the tokens that begin at a place or behind it
abbrev pub tokens_at : ℕ → List Token → List Token
tokens_at place tokens = drop (prefix_len (λ t. nat_lt t.start place) tokens) tokens

-- nothing behind the name, or `,` and flags: whether there is an `x` among them, which says that the section has code
unfoldable pub flags_of : List Lexeme → Option Bool
flags_of lexemes =
    if is_end lexemes then Some false
    else expect 44 lexemes >>= text_of >>= λ flags. Some (list_any (λ b. b == 120) flags.0)

abbrev pub flagged_section : List ℕ → Option Bool → DirectiveKind
flagged_section name (Some flagged) = section name flagged
flagged_section name None = DirectiveKind.Breaking

abbrev pub named_section : List ℕ → List Token → List ℕ → ℕ → DirectiveKind
named_section piece tokens [] start = DirectiveKind.Breaking
named_section piece tokens (b ∷ bs) start = flagged_section (b ∷ bs) (flags_of (says_all piece (tokens_at (start + length (b ∷ bs)) tokens)))

-- `NAME` or `NAME,"FLAGS"` and more, where the name is read from the piece
unfoldable pub section_of : List ℕ → List Token → DirectiveKind
section_of piece [] = DirectiveKind.Breaking
section_of piece (t ∷ ts) = named_section piece (t ∷ ts) (take_while is_section_byte (drop t.start piece)) t.start

-- Alignments. A power is at most 12.

abbrev pub small_power : ℕ → Option ℕ
small_power n = if nat_le n 12 then Some n else None

abbrev pub power_among : List ℕ → ℕ → Option ℕ
power_among [] n = None
power_among (k ∷ ks) n = if n == 2 ^ k then Some k else power_among ks n

unfoldable pub power_of : ℕ → Option ℕ
power_of n = power_among (0 ∷ 1 ∷ 2 ∷ 3 ∷ 4 ∷ 5 ∷ 6 ∷ 7 ∷ 8 ∷ 9 ∷ 10 ∷ 11 ∷ 12 ∷ []) n

-- the most bytes that an alignment may take
unfoldable pub max_of : List Lexeme → Option ℕ
max_of lexemes = number_of lexemes >>= whole >>= λ n. if nat_lt n (2 ^ 32) then Some n else None

-- `fill` or `fill,max` behind a comma
unfoldable pub fill_of : List Lexeme → Option (Option ℕ × Option ℕ)
fill_of lexemes = number_of lexemes >>= λ fill.
    if is_end fill.1 then Some (Some fill.0, None) else (expect 44 fill.1 >>= max_of >>= λ max. Some (Some fill.0, Some max))

abbrev pub padding_by : Option (List Lexeme) → List Lexeme → Option (Option ℕ × Option ℕ)
padding_by (Some behind) rest = max_of behind >>= λ max. Some (None, Some max)
padding_by None rest = fill_of rest

-- nothing, `,fill`, `,,max` or `,fill,max`
unfoldable pub padding_of : List Lexeme → Option (Option ℕ × Option ℕ)
padding_of lexemes = if is_end lexemes then Some (None, None) else (expect 44 lexemes >>= λ rest. padding_by (expect 44 rest) rest)

abbrev pub power_by : Bool → ℕ → Option ℕ
power_by true n = small_power n
power_by false n = power_of n

-- the alignment of a power, or of a number of bytes
unfoldable pub aligned_of : Bool → List Lexeme → Option DirectiveKind
aligned_of by_power lexemes =
    number_of lexemes >>= λ n. power_by by_power n.0 >>= λ power. padding_of n.1 >>= λ p. Some (DirectiveKind.Align power p.0 p.1)

-- a number below a bound, where there is one
abbrev pub IsBelow : ℕ → Option ℕ → Type 0
IsBelow bound None = ⊤
IsBelow bound (Some n) = n < bound

-- An alignment is to at most 2 ^ 12 bytes; its fill has at most 64 bits, and the most bytes that it may take have 32.
abbrev pub IsInRange : DirectiveKind → Type 0
IsInRange (DirectiveKind.Align power fill max) = (power ≤ 12) × IsBelow (2 ^ 64) fill × IsBelow (2 ^ 32) max
IsInRange _ = ⊤

abbrev pub or_breaking : Option DirectiveKind → DirectiveKind
or_breaking (Some kind) = kind
or_breaking None = DirectiveKind.Breaking

-- Data.

-- lexemes cut at each `,`
abbrev pub onto_first : Lexeme → List (List Lexeme) → List (List Lexeme)
onto_first l [] = (l ∷ []) ∷ []
onto_first l (c ∷ cs) = (l ∷ c) ∷ cs

abbrev pub is_comma : Lexeme → Bool
is_comma (mark m) = m == 44
is_comma (word bytes) = false
is_comma (number n) = false
is_comma (text bytes) = false
is_comma (odd bytes) = false

unfoldable pub cut_at_commas : List Lexeme → List (List Lexeme)
cut_at_commas [] = [] ∷ []
cut_at_commas (l ∷ ls) = if is_comma l then [] ∷ cut_at_commas ls else onto_first l (cut_at_commas ls)

-- a difference of two names
unfoldable pub difference_of : List Lexeme → Option (List ℕ × List ℕ)
difference_of lexemes = word_of lexemes >>= λ a. expect 45 a.1 >>= word_of >>= λ b. if is_end b.1 then Some (a.0, b.0) else None

abbrev pub diff_cell : Option (List ℕ × List ℕ) → Cell
diff_cell (Some names) = Cell.Diff names.0 names.1
diff_cell None = Cell.Other

abbrev pub cell_by : Option (List ℕ) → List Lexeme → Cell
cell_by (Some name) lexemes = Cell.Sym name
cell_by None lexemes = diff_cell (difference_of lexemes)

abbrev pub cell_of : List Lexeme → Cell
cell_of lexemes = cell_by (only_word lexemes) lexemes

abbrev pub cells_of : List Lexeme → List Cell
cells_of lexemes = map cell_of (cut_at_commas lexemes)

abbrev pub data_by : Option Width → List ℕ → List Lexeme → DirectiveKind
data_by (Some width) name lexemes = DirectiveKind.Words width (cells_of lexemes) (words_in lexemes)
data_by None name lexemes =
    if is_among string_words name || is_among number_words name then DirectiveKind.Bytes (words_in lexemes) else DirectiveKind.Breaking

unfoldable pub data_of : List ℕ → List Lexeme → DirectiveKind
data_of name lexemes = data_by (cell_width name) name lexemes

-- alignments and data
unfoldable pub filled_of : List ℕ → List Lexeme → DirectiveKind
filled_of name lexemes =
    if bytes_eq (codes ".p2align") name then or_breaking (aligned_of true lexemes)
    else (if is_among align_words name then or_breaking (aligned_of false lexemes)
    else data_of name lexemes)

-- sections, and what they hold
unfoldable pub placed_of : List ℕ → List Token → List ℕ → List Lexeme → DirectiveKind
placed_of piece operands name lexemes =
    if is_among section_words name then (if is_end lexemes then section name false else DirectiveKind.Breaking)
    else (if bytes_eq (codes ".section") name then section_of piece operands
    else filled_of name lexemes)

-- what is said of symbols
unfoldable pub bound_of : List ℕ → List Token → List ℕ → List Lexeme → DirectiveKind
bound_of piece operands name lexemes =
    if bytes_eq (codes ".type") name then func_type (typed_of lexemes)
    else (if bytes_eq (codes ".size") name then func_end (sized_of lexemes)
    else (if is_among set_words name then set_by (alias_of lexemes) lexemes
    else placed_of piece operands name lexemes))

-- the directive of a name, where its operands follow
unfoldable pub named_of : List ℕ → List Token → List ℕ → List Lexeme → DirectiveKind
named_of piece operands name lexemes =
    if is_among inert_words name then DirectiveKind.Inert
    else (if is_among table_words name then DirectiveKind.CfiTable
    else (if begins_with (codes ".cfi_") name then DirectiveKind.Cfi
    else (if is_among export_words name then DirectiveKind.Export (words_in lexemes)
    else bound_of piece operands name lexemes)))

-- an assignment: its second lexeme is `=` (GNU as manual, "Setting Symbols")
abbrev pub is_assignment : List Lexeme → Bool
is_assignment (l ∷ mark m ∷ rest) = m == 61
is_assignment _ = false

abbrev pub directive_behind : List ℕ → List Token → Option (List ℕ × List Lexeme) → DirectiveKind
directive_behind piece tokens None = DirectiveKind.Breaking
directive_behind piece tokens (Some name) = named_of piece (drop 1 tokens) name.0 name.1

-- the directive of a piece with these tokens
unfoldable pub directive_of : List ℕ → List Token → DirectiveKind
directive_of piece tokens =
    if is_assignment (says_all piece tokens) then DirectiveKind.Breaking
    else directive_behind piece tokens (word_of (says_all piece tokens))
