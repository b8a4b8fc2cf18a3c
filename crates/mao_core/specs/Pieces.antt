-- Spans within a text.
use Rattle.std.specs.Prelude.{ℕ, ◌+◌, ◌≤◌, List, length}
use Rattle.std.specs.List.{All}
use Rattle.att_lexer.specs.declared.pieces.Span.{Span}

abbrev pub LieWithin : List ℕ → List Span → Type 0
LieWithin text spans = All (λ s. s.start + s.len ≤ length text) spans
