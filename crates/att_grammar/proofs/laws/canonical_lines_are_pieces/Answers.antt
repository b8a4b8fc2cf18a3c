use Rattle.att_grammar.proofs.CanonicalPieces.{insn_line_piece, align_line_piece}
use Rattle.att_grammar.proofs.laws.canonical_lines_are_pieces.Goals as goal

pub returns : goal.returns
returns c = record { instruction = insn_line_piece; alignment = align_line_piece }
