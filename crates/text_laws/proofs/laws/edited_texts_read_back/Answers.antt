use Rattle.text_laws.proofs.ReadBack.{pieces_back, kinds_back}
use Rattle.text_laws.proofs.laws.edited_texts_read_back.Goals as goal

pub returns-clause-pieces : goal.returns-clause-pieces
returns-clause-pieces c = pieces_back

pub returns-clause-kinds : goal.returns-clause-kinds
returns-clause-kinds c = kinds_back
