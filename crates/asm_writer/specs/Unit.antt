-- The text of a unit.
use Rattle.std.specs.Prelude.{ℕ, ◌+◌, ◌≤◌, List, [], take, drop, length, Option, Some, None}
use Rattle.std.specs.List.{flat_map, AllByRecursion}
use Rattle.att_lexer.specs.declared.pieces.Span.{Span}
use Rattle.insn_ir.specs.declared.entry.DirectiveKind.{DirectiveKind}
use Rattle.insn_ir.specs.declared.entry.EntryKind.{EntryKind}
use Rattle.att_grammar.specs.Canonical.{insn_text, align_text, line_of}
use Rattle.att_grammar.specs.Entries.{IsOfProfile}
use Rattle.asm_unit.specs.declared.held.Held.{Held}

-- the bytes of a text that a span names
abbrev pub bytes_at : List ℕ → Span → List ℕ
bytes_at text span = take span.len (drop span.start text)

-- what is written of an entry that has no piece
abbrev pub new_text : EntryKind → List ℕ
new_text (EntryKind.Insn i) = line_of (insn_text i)
new_text (EntryKind.Directive (DirectiveKind.Align p f m)) = line_of (align_text p f m)
new_text _ = []

-- a kept piece stands as it did in the text that was read
abbrev pub entry_text : List ℕ → EntryKind → Option Span → List ℕ
entry_text text k (Some span) = bytes_at text span
entry_text text k None = new_text k

-- the text of the entries of a unit, in order, whose kept pieces are those of a text that was read
abbrev pub unit_text : List ℕ → List Held → List ℕ
unit_text text hs = flat_map (λ h. entry_text text h.entry.kind h.span) hs

-- a kept piece lies within the text, and a new instruction or alignment is one of the profile
abbrev pub IsWritable : List ℕ → EntryKind → Option Span → Type 0
IsWritable text k (Some span) = span.start + span.len ≤ length text
IsWritable text k None = IsOfProfile k

abbrev pub AreWritable : List ℕ → List Held → Type 0
AreWritable text hs = AllByRecursion (λ h. IsWritable text h.entry.kind h.span) hs
