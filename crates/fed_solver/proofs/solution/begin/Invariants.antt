use Rattle.std.proofs.Common.{length}
use Rattle.fed_solver.specs.walks.Walk.{walk_of, IsBegun}
use Rattle.fed_solver.proofs.solution.begin.Given as goal

abbrev pub invariant-loop-place : goal.invariant-loop-place
invariant-loop-place l = IsBegun (length l.begins) l.starts l.targets l.begins l.emits l.place (walk_of l.work)
