use Rattle.att_grammar.proofs.CanonicalLaw.{insn_text_read, insn_line_read}
use Rattle.att_grammar.proofs.laws.instructions_read_back.Goals as goal

pub returns : goal.returns
returns c = record { text = insn_text_read; line = insn_line_read }
