-- The pieces of a text (GNU as manual, "Statements", "Labels"). The cut behind a first label is this project's own.
use Rattle.std.specs.Prelude.{ℕ, ◌+◌, ◌<◌, ◌≡◌, ◌⊎◌, ⊤, List, [], ◌∷◌, ◌++◌, length, take, IsTrue, Bool, ◌&&◌, if◌then◌else◌, Some, None}
use Rattle.std.specs.declared.option.Option.{Option}
use Rattle.std.specs.List.{AllByRecursion, concat}
use Rattle.att_lexer.specs.Bytes.{is_blank, is_digit, is_symbol_byte, is_symbol_start, is_freeze_byte}
use Rattle.att_lexer.specs.Scan.{place_after, is_plain, is_open, at_start, after, scan_of, ends, Scan}
use Rattle.att_lexer.specs.declared.scan.Place.{Place}
use Rattle.att_lexer.specs.declared.scan.Place.TheVariants.{Plain}
use Rattle.att_lexer.specs.declared.pieces.TheConstants.{MAX_PIECES}
use Rattle.att_lexer.specs.declared.pieces.Span.{Span}
use Rattle.att_lexer.specs.declared.pieces.CutFreeze.{CutFreeze}
use Rattle.att_lexer.specs.declared.pieces.CutFault.{CutFault}
use Rattle.att_lexer.specs.declared.pieces.CutFault.TheVariants.{TooManyPieces, NoMemory}

abbrev pub AllBytes : (ℕ → Bool) → List ℕ → Type 0
AllBytes p bytes = AllByRecursion (λ b. IsTrue (p b)) bytes

-- a run of symbol bytes whose first is no digit and no `$`
abbrev pub IsSymbol : List ℕ → Type 0
IsSymbol [] = ⊥
IsSymbol (b ∷ bs) = IsTrue (is_symbol_start b) × AllBytes is_symbol_byte bs

abbrev pub IsDigits : List ℕ → Type 0
IsDigits [] = ⊥
IsDigits (b ∷ bs) = AllBytes is_digit (b ∷ bs)

-- blanks, and then a symbol or a run of digits
pub record IsLabelFront (front : List ℕ) : Type 0 where
  pub blanks : List ℕ
  pub name : List ℕ
  pub whole : front ≡ blanks ++ name
  pub all_blank : AllBytes is_blank blanks
  pub named : IsSymbol name ⊎ IsDigits name

-- The bytes end with a newline, or with a `;` outside strings and comments, or they are a first label: blanks, a
-- symbol or a run of digits, and `:`.
abbrev pub EndsBehind : List ℕ → ℕ → Type 0
EndsBehind front b = (b ≡ 10) ⊎ ((b ≡ 59) × IsTrue (is_plain (scan_of front).place)) ⊎ ((b ≡ 58) × IsLabelFront front)

abbrev pub IsEnded : List ℕ → Type 0
IsEnded bytes = (front : List ℕ) × (b : ℕ) × (bytes ≡ front ++ b ∷ []) × EndsBehind front b

abbrev pub AllButLast : (List ℕ → Type 0) → List (List ℕ) → Type 0
AllButLast P [] = ⊤
AllButLast P (p ∷ []) = ⊤
AllButLast P (p ∷ q ∷ qs) = P p × AllButLast P (q ∷ qs)

-- no proper prefix is ended
abbrev pub NoneEarlier : List ℕ → Type 0
NoneEarlier piece = (k : ℕ) → k < length piece → IsEnded (take k piece) → ⊥

-- a list of byte lists is the pieces of a text
pub record ArePieces (pieces : List (List ℕ)) (text : List ℕ) : Type 0 where
  pub whole : concat pieces ≡ text
  pub no_empty : AllByRecursion (λ p. 0 < length p) pieces
  pub ended : AllButLast IsEnded pieces
  pub earliest : AllByRecursion NoneEarlier pieces

-- a byte in front of the first piece
abbrev pub onto_first : ℕ → List (List ℕ) → List (List ℕ)
onto_first b [] = (b ∷ []) ∷ []
onto_first b (p ∷ ps) = (b ∷ p) ∷ ps

-- the pieces of what is left of a text, from a place within a piece on
unfoldable pub pieces_from : Scan → List ℕ → List (List ℕ)
pieces_from s [] = []
pieces_from s (b ∷ bs) = if ends s b then (b ∷ []) ∷ pieces_from at_start bs else onto_first b (pieces_from (after s b) bs)

-- the pieces of a text, as a function
abbrev pub pieces : List ℕ → List (List ℕ)
pieces text = pieces_from at_start text

-- where the pieces lie
abbrev pub spans_of : ℕ → List (List ℕ) → List Span
spans_of at [] = []
spans_of at (p ∷ ps) = record { start = at; len = length p } ∷ spans_of (at + length p) ps

-- the first freeze byte outside strings and comments, or `"` where a string is open at the end
abbrev pub freeze_from : Place → List ℕ → Option ℕ
freeze_from place [] = if is_open place then Some 34 else None
freeze_from place (b ∷ bs) = if is_plain place && is_freeze_byte b then Some b else freeze_from (place_after place b) bs

abbrev pub freeze_of : List ℕ → Option ℕ
freeze_of piece = freeze_from Plain piece

-- the first such byte of pieces that are numbered from a serial on
abbrev pub at_serial : ℕ → Option ℕ → Option CutFreeze → Option CutFreeze
at_serial serial (Some byte) later = Some (record { serial = serial; byte = byte })
at_serial serial None later = later

abbrev pub first_freeze : ℕ → List (List ℕ) → Option CutFreeze
first_freeze serial [] = None
first_freeze serial (p ∷ ps) = at_serial serial (freeze_of p) (first_freeze (serial + 1) ps)

-- why a text is not cut: there are more pieces than it may have, or memory ran out
abbrev pub IsCauseOf : List (List ℕ) → CutFault → Type 0
IsCauseOf pieces (TooManyPieces count) = (count ≡ MAX_PIECES + 1) × (MAX_PIECES < length pieces)
IsCauseOf pieces NoMemory = ⊤
