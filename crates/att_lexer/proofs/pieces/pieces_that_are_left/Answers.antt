use Rattle.att_lexer.proofs.ChosenLaws.{chosen_pieces}
use Rattle.att_lexer.proofs.pieces.pieces_that_are_left.Goals as goal

pub returns : goal.returns
returns c = chosen_pieces
