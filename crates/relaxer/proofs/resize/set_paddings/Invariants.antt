use Rattle.std.proofs.Common.{take}
use Rattle.relaxer.proofs.Resized.{Padded}
use Rattle.relaxer.proofs.resize.set_paddings.Given as goal

abbrev pub invariant-loop-i : goal.invariant-loop-i
invariant-loop-i l = Padded l.items (take l.i-index l.alignments) l.fn.offsets l.offsets l.fn.changed.items l.changed.items
