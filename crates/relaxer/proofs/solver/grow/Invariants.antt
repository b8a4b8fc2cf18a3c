use Rattle.std.proofs.Common.{take}
use Rattle.relaxer.proofs.Grown.{Grew}
use Rattle.relaxer.proofs.solver.grow.Given as goal

abbrev pub invariant-loop-i : goal.invariant-loop-i
invariant-loop-i l = Grew l.fn.items (take l.i-index l.suspects) l.items l.grown.items
