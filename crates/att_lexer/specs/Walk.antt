-- The walk that cuts a text: what is known at a byte of it. Only private clauses cite it.
use Rattle.std.specs.Prelude.{ℕ, ◌≡◌, ◌&&◌, List, [], ◌∷◌, ◌++◌, take, drop, Bool, false, if◌then◌else◌, Some, None}
use Rattle.std.specs.declared.option.Option.{Option}
use Rattle.std.specs.List.{fold}
use Rattle.att_lexer.specs.Bytes.{is_calm, is_freeze_byte, is_none_of}
use Rattle.att_lexer.specs.Scan.{is_plain, is_open, lead_after, Blanks, Other, Scan}
use Rattle.att_lexer.specs.Pieces.{pieces, pieces_from, freeze_from}
use Rattle.att_lexer.specs.declared.scan.Place.{Place}
use Rattle.att_lexer.specs.declared.scan.Place.TheVariants.{Plain, InString, Escaped, InComment}

-- behind what can be no first label
abbrev pub past : Place → Scan
past place = record { place = place; lead = Other }

-- behind bytes that are no stops
abbrev pub front_scan : List ℕ → Scan
front_scan front = record { place = Plain; lead = fold lead_after Blanks front }

-- a byte that neither ends the piece nor keeps a file as it is nor changes the place
abbrev pub is_passed : Place → ℕ → Bool
is_passed Plain b = is_calm b
is_passed InString b = is_none_of 10 34 92 b
is_passed Escaped b = false
is_passed InComment b = is_none_of 10 10 10 b

-- a front before the first piece
abbrev pub join : List ℕ → List (List ℕ) → List (List ℕ)
join front [] = front ∷ []
join front (p ∷ ps) = (front ++ p) ∷ ps

-- the bytes up to i have no end, and stand before the first piece of what is left
abbrev pub IsFront : List ℕ → ℕ → Scan → Type 0
IsFront text i s = pieces text ≡ join (take i text) (pieces_from s (drop i text))

abbrev pub first_of : Option ℕ → Option ℕ → Option ℕ
first_of (Some b) later = Some b
first_of None later = later

-- what was found first, where a byte more stands there
abbrev pub found_at : Option ℕ → Place → ℕ → Option ℕ
found_at (Some x) place b = Some x
found_at None place b = if is_plain place && is_freeze_byte b then Some b else None

-- what was found, or `"` where a string is open at the end
abbrev pub found_in_all : Option ℕ → Place → Option ℕ
found_in_all (Some x) place = Some x
found_in_all None place = if is_open place then Some 34 else None

-- the bytes up to i have this first freeze byte, and lead to this place
abbrev pub IsThawed : List ℕ → ℕ → Place → Option ℕ → Type 0
IsThawed text i place found = (rest : List ℕ) → freeze_from Plain (take i text ++ rest) ≡ first_of found (freeze_from place rest)
