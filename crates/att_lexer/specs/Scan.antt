-- Where a byte of a piece stands: in a string, in a comment, behind what may be a first label (GNU as manual, "Strings",
-- "Comments", "Labels").
use Rattle.std.specs.Prelude.{ℕ, List, [], ◌∷◌, Bool, true, false, ◌==◌, ◌||◌, ◌&&◌, if◌then◌else◌}
use Rattle.std.specs.List.{fold, list_all}
use Rattle.att_lexer.specs.Bytes.{is_blank, is_digit, is_symbol_byte, is_symbol_start}
use Rattle.att_lexer.specs.declared.scan.Place.{Place}
use Rattle.att_lexer.specs.declared.scan.Place.TheVariants.{Plain, InString, Escaped, InComment}

-- A string begins at `"` outside a comment and ends at the next `"`; in it `\` takes the next byte with it.
-- A comment begins at `#` outside a string and goes on.
abbrev pub place_after : Place → ℕ → Place
place_after Plain b = if b == 34 then InString else (if b == 35 then InComment else Plain)
place_after InString b = if b == 34 then Plain else (if b == 92 then Escaped else InString)
place_after Escaped b = InString
place_after InComment b = InComment

abbrev pub is_plain : Place → Bool
is_plain Plain = true
is_plain InString = false
is_plain Escaped = false
is_plain InComment = false

-- inside a string
abbrev pub is_open : Place → Bool
is_open Plain = false
is_open InString = true
is_open Escaped = true
is_open InComment = false

-- what stands before a byte: blanks, blanks and a symbol, blanks and digits, or something else
pub data Lead : Type 0 where
  Blanks : Lead
  Symbol : Lead
  Digits : Lead
  Other : Lead

abbrev pub lead_after : Lead → ℕ → Lead
lead_after Blanks b = if is_symbol_start b then Symbol else (if is_digit b then Digits else (if is_blank b then Blanks else Other))
lead_after Symbol b = if is_symbol_byte b then Symbol else Other
lead_after Digits b = if is_digit b then Digits else Other
lead_after Other b = Other

abbrev pub is_name : Lead → Bool
is_name Blanks = false
is_name Symbol = true
is_name Digits = true
is_name Other = false

-- both, at a byte of a piece
pub record Scan : Type 0 where
  pub place : Place
  pub lead : Lead

abbrev pub at_start : Scan
at_start = record { place = Plain; lead = Blanks }

unfoldable pub after : Scan → ℕ → Scan
after s b = record { place = place_after s.place b; lead = lead_after s.lead b }

-- what stands behind these bytes, from the start of a piece
abbrev pub scan_of : List ℕ → Scan
scan_of bytes = fold after at_start bytes

-- whether a byte that stands there ends the piece: a newline, a `;` outside strings and comments, the `:` of a first label
unfoldable pub ends : Scan → ℕ → Bool
ends s b = b == 10 || (b == 59 && is_plain s.place) || (b == 58 && is_name s.lead)

-- a symbol or a run of digits, byte by byte
abbrev pub is_named : List ℕ → Bool
is_named [] = false
is_named (b ∷ bs) = if is_symbol_start b then list_all is_symbol_byte bs else (is_digit b && list_all is_digit bs)
