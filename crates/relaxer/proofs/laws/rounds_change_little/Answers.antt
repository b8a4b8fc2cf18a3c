use Rattle.relaxer.proofs.Changes.{sizes_stay}
use Rattle.relaxer.proofs.Untouched.{shift_ends, untouched_jumps_fit}
use Rattle.relaxer.proofs.Nearby.{distant_jumps_fit}
use Rattle.relaxer.proofs.laws.rounds_change_little.Goals as goal

pub returns : goal.returns
returns c = record { sizes = sizes_stay; behind = shift_ends; jumps = untouched_jumps_fit; nearby = distant_jumps_fit }
