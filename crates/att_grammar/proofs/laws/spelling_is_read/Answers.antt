use Rattle.att_grammar.proofs.Spelled.{spelling_read}
use Rattle.att_grammar.proofs.laws.spelling_is_read.Goals as goal

pub returns : goal.returns
returns c = spelling_read
