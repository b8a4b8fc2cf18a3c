use Rattle.std.proofs.Common.{take}
use Rattle.relaxer.specs.walks.Resizing.{AreAlignments}
use Rattle.relaxer.proofs.resize.alignments.Given as goal

abbrev pub invariant-loop-i : goal.invariant-loop-i
invariant-loop-i l = AreAlignments (take l.i l.items) l.places.items
