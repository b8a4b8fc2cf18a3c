use Rattle.std.proofs.Common.{◌+◌, ◌-◌, ◌*◌, ◌^◌, length}
use Rattle.fed_solver.specs.walks.Walk.{walk_of, IsGoing}
use Rattle.fed_solver.proofs.Handed.{total}
use Rattle.fed_solver.proofs.solution.solve.Given as goal

abbrev pub invariant-loop-place : goal.invariant-loop-place
invariant-loop-place l = IsGoing (length l.begins) l.starts l.targets l.begins l.emits l.passes (walk_of l.work)

-- what is set makes up for what waits anew
abbrev pub decreases-loop-place : goal.decreases-loop-place
decreases-loop-place l = length l.begins * 2 ^ 64 + length l.work.list.items - total l.work.rows.items
