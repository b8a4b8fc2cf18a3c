use Rattle.att_grammar.proofs.CanonicalLaw.{align_text_read, align_line_read}
use Rattle.att_grammar.proofs.laws.alignments_read_back.Goals as goal

pub returns : goal.returns
returns c = record { text = align_text_read; line = align_line_read }
