use Rattle.std.proofs.Common.{length}
use Rattle.std.specs.Prelude.{All}
use Rattle.pass_script.specs.Catalogue.{AreInRange}
use Rattle.pass_script.proofs.InSteps.{IsAt}
use Rattle.pass_script.proofs.read.read_script.Given as goal

abbrev pub invariant-loop-at : goal.invariant-loop-at
invariant-loop-at l = record {
  is_at : IsAt l.text l.steps l.at;
  in_range : All (λ s. AreInRange s.opts) l.steps;
}

abbrev pub decreases-loop-at : goal.decreases-loop-at
decreases-loop-at l = length l.at.bytes
