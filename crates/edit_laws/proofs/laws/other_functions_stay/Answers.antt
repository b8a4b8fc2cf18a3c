use Rattle.edit_laws.proofs.Steps.{of_edit}
use Rattle.edit_laws.proofs.OtherFunctions.{OthersStay, others_stay}
use Rattle.edit_laws.proofs.laws.other_functions_stay.Goals as goal

pub returns : goal.returns
returns c = λ u v f k e sound proper edited. of_edit f (OthersStay f) (others_stay f) u v e sound proper edited k
