use Rattle.edit_laws.proofs.Padding.{codes_stay}
use Rattle.edit_laws.proofs.laws.padding_tells_nothing.Goals as goal

pub returns : goal.returns
returns c = codes_stay
