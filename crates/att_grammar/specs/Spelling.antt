-- Canonical text: lexemes and blanks, written one after another.
use Rattle.std.specs.Prelude.{ℕ, ◌^◌, ◌<◌, ⊤, Bool, true, false, not, ◌==◌, ◌&&◌, ◌||◌, List, [], ◌∷◌, IsTrue}
use Rattle.std.specs.List.{flat_map}
use Rattle.std.specs.Fmt.{decimal}
use Rattle.att_lexer.specs.Bytes.{is_symbol_byte, is_blank}
use Rattle.att_lexer.specs.Pieces.{IsSymbol}
use Rattle.att_lexer.specs.Tokens.{ends_tokens}
use Rattle.att_grammar.specs.Lexemes.{Lexeme, word, number, mark}

-- a blank, a word, a number or a mark
pub data Item : Type 0 where
  gap : Item
  name : List ℕ → Item
  digits : ℕ → Item
  sign : ℕ → Item

abbrev pub item_text : Item → List ℕ
item_text gap = 32 ∷ []
item_text (name bytes) = bytes
item_text (digits n) = decimal n
item_text (sign b) = b ∷ []

abbrev pub render : List Item → List ℕ
render items = flat_map item_text items

-- the lexemes among them
abbrev pub said : List Item → List Lexeme
said [] = []
said (gap ∷ items) = said items
said (name bytes ∷ items) = word bytes ∷ said items
said (digits n ∷ items) = number n ∷ said items
said (sign b ∷ items) = mark b ∷ said items

-- a mark that is read as one: no blank, no symbol byte but `$`, no quote and no end of the tokens
abbrev pub IsMarkByte : ℕ → Type 0
IsMarkByte b = IsTrue (not (is_blank b) && not (ends_tokens b) && not (b == 34) && (not (is_symbol_byte b) || b == 36))

abbrev pub is_last : List Item → Bool
is_last [] = true
is_last (item ∷ items) = false

-- what may stand behind a word or a number: nothing, a blank, or a mark other than `$`
abbrev pub IsApart : List Item → Type 0
IsApart [] = ⊤
IsApart (gap ∷ items) = ⊤
IsApart (sign b ∷ items) = IsTrue (not (is_symbol_byte b))
IsApart (name bytes ∷ items) = ⊥
IsApart (digits n ∷ items) = ⊥

-- items that are read back: each is what it seems, no two run together, and no `:` is the last, where it would make a label
abbrev pub IsWellSpelled : List Item → Type 0
IsWellSpelled [] = ⊤
IsWellSpelled (gap ∷ items) = IsWellSpelled items
IsWellSpelled (name bytes ∷ items) = IsSymbol bytes × IsApart items × IsWellSpelled items
IsWellSpelled (digits n ∷ items) = (n < 2 ^ 64) × IsApart items × IsWellSpelled items
IsWellSpelled (sign b ∷ items) = IsMarkByte b × IsTrue (not (b == 58 && is_last items)) × IsWellSpelled items
