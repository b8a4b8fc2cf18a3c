use Rattle.edit_laws.proofs.OtherFunctions.{stays_refl, stays_trans}
use Rattle.edit_laws.proofs.laws.staying_goes_on.Goals as goal

pub returns-clause-refl : goal.returns-clause-refl
returns-clause-refl c = stays_refl

pub returns-clause-trans : goal.returns-clause-trans
returns-clause-trans c = stays_trans
