use Rattle.std.proofs.Common.{take}
use Rattle.relaxer.specs.walks.Resizing.{IsSetAt}
use Rattle.relaxer.proofs.resize.set_grown.Given as goal

abbrev pub invariant-loop-i : goal.invariant-loop-i
invariant-loop-i l = IsSetAt l.items (take l.i-index l.grown) l.fn.offsets l.offsets
