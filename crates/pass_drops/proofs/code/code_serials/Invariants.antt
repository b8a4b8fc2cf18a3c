use Rattle.std.proofs.Common.{◌-◌, length}
use Rattle.asm_unit.specs.Functions.{code_part}
use Rattle.unit_edits.specs.Bodies.{body_of}
use Rattle.pass_drops.proofs.Walked.{IsWalked, placed_serials}
use Rattle.pass_drops.proofs.code.code_serials.Given as goal

-- the walk stands at the last serial so far
abbrev pub invariant-loop-next : goal.invariant-loop-next
invariant-loop-next l = IsWalked (placed_serials (code_part (body_of l.unit l.f))) l.serials l.at

abbrev pub decreases-loop-next : goal.decreases-loop-next
decreases-loop-next l = length (placed_serials (code_part (body_of l.unit l.f))) - length l.serials
