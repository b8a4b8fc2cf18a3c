-- Units that come of a text by edits.
use Rattle.std.specs.Prelude.{ℕ, ◌+◌, ◌≤◌, ◌≡◌, ⊤, List, [], ◌∷◌, map, find, slice_get, Option, Some, None}
use Rattle.std.specs.List.{AllByRecursion}
use Rattle.att_lexer.specs.declared.pieces.Span.{Span}
use Rattle.att_lexer.specs.Pieces.{AllButLast, IsEnded, pieces, spans_of}
use Rattle.insn_ir.specs.declared.entry.DirectiveKind.{DirectiveKind}
use Rattle.insn_ir.specs.declared.entry.EntryKind.{EntryKind}
use Rattle.insn_ir.specs.Profile.{IsInstruction}
use Rattle.att_grammar.specs.Directives.{IsInRange}
use Rattle.att_grammar.specs.Entries.{kind_of_piece}
use Rattle.asm_unit.specs.declared.held.Held.{Held}
use Rattle.asm_unit.specs.Held.{serial_is}
use Rattle.asm_writer.specs.Unit.{bytes_at, entry_text}

-- The entries of a text as it is read: each is what a piece is, and stands where the piece does.
pub record AreRead (text : List ℕ) (hs : List Held) : Type 0 where
  pub kinds : map (λ h. h.entry.kind) hs ≡ map kind_of_piece (pieces text)
  pub spans : map (λ h. h.span) hs ≡ map Some (spans_of 0 (pieces text))

-- what may come anew: an instruction of the profile, or an alignment in its ranges
abbrev pub IsNewKind : EntryKind → Type 0
IsNewKind (EntryKind.Insn i) = IsInstruction i
IsNewKind (EntryKind.Directive (DirectiveKind.Align p f m)) = IsInRange (DirectiveKind.Align p f m)
IsNewKind _ = ⊥

-- the span of a piece, by its place among the pieces, and what that piece is
pub record IsPieceOf (text : List ℕ) (k : EntryKind) (span : Span) : Type 0 where
  pub place : ℕ
  pub lies : slice_get (spans_of 0 (pieces text)) place ≡ Some span
  pub kind : k ≡ kind_of_piece (bytes_at text span)

-- an entry is a kept piece, or came anew
abbrev pub ComesOf : List ℕ → EntryKind → Option Span → Type 0
ComesOf text k (Some span) = IsPieceOf text k span
ComesOf text k None = IsNewKind k

-- what is written of an entry
abbrev pub written : List ℕ → Held → List ℕ
written text h = entry_text text h.entry.kind h.span

abbrev pub found_text : List ℕ → Option Held → List ℕ
found_text text None = []
found_text text (Some h) = written text h

-- what is written of the entry of a serial, if there is one
abbrev pub text_at : List ℕ → List Held → ℕ → List ℕ
text_at text hs serial = found_text text (find (serial_is serial) hs)

-- the kept pieces stand in the order of the text, from a place on, and none stands twice
abbrev pub InOrder : ℕ → List (Option Span) → Type 0
InOrder at [] = ⊤
InOrder at (None ∷ spans) = InOrder at spans
InOrder at (Some s ∷ spans) = (at ≤ s.start) × InOrder (s.start + s.len) spans

-- Entries that come of a text by edits: kept pieces in order, and new entries. What is written of each but the last is
-- ended, so that the next one begins a piece.
pub record IsEditOf (text : List ℕ) (hs : List Held) : Type 0 where
  pub each : AllByRecursion (λ h. ComesOf text h.entry.kind h.span) hs
  pub ended : AllButLast IsEnded (map (written text) hs)
  pub order : InOrder 0 (map (λ h. h.span) hs)
