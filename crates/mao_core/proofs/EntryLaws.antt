-- Entries of a text, read one by one.
use Rattle.std.proofs.Common.{◌≡◌, ℕ, List, map, ap, sym, ◌∙◌}
use Rattle.att_lexer.specs.declared.pieces.Span.{Span}
use Rattle.att_lexer.specs.Pieces.{pieces, spans_of}
use Rattle.att_lexer.proofs.PiecesLaws.{are_pieces}
use Rattle.att_grammar.specs.Entries.{kind_of_piece}
use Rattle.mao_core.specs.Entries.{numbered, entries_of}
use Rattle.asm_writer.specs.Unit.{bytes_at}
use Rattle.mao_core.proofs.KeptLaws.{spans_read}

-- at the beginning all entries are left
pub entries_all : (text : List ℕ) (spans : List Span) → spans ≡ spans_of 0 (pieces text) → numbered 1 (map kind_of_piece (map (bytes_at text) spans)) ≡ entries_of text
entries_all text spans cut =
    ap (λ l. numbered 1 (map kind_of_piece (map (bytes_at text) l))) cut
    ∙ ap (λ l. numbered 1 (map kind_of_piece l)) (spans_read text 0 (pieces text) (sym (are_pieces text).whole))
