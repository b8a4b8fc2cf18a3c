use Rattle.fed_solver.proofs.Between.{HasBetween}
use Rattle.fed_solver.proofs.places.ascending.Given as goal

abbrev pub invariant-loop-place : goal.invariant-loop-place
invariant-loop-place l = HasBetween l.count 0 l.place l.places.items
