use Rattle.std.proofs.Common.{◌-◌}
use Rattle.fed_solver.proofs.Between.{HasBetween}
use Rattle.fed_solver.proofs.places.descending.Given as goal

abbrev pub invariant-loop-above : goal.invariant-loop-above
invariant-loop-above l = HasBetween l.count (l.count - l.above) l.count l.places.items
