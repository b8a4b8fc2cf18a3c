use Rattle.relaxer.proofs.Changes.{displacements_stay, size_ahead, size_back}
use Rattle.relaxer.proofs.laws.displacements_are_of_spans.Goals as goal

pub returns : goal.returns
returns c = record { stay = displacements_stay; ahead = size_ahead; back = size_back }
