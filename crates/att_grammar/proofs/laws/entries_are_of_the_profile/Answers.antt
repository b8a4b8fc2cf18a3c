use Rattle.att_grammar.proofs.InProfile.{kind_is}
use Rattle.att_grammar.proofs.laws.entries_are_of_the_profile.Goals as goal

pub returns : goal.returns
returns c = kind_is
