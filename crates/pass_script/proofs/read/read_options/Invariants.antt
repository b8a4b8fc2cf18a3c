use Rattle.std.proofs.Common.{◌≤◌, length}
use Rattle.pass_script.specs.Catalogue.{AreInRange}
use Rattle.pass_script.specs.walks.Given.{gives}
use Rattle.pass_script.specs.walks.Left.{IsWithin}
use Rattle.pass_script.proofs.read.read_options.Given as goal

abbrev pub invariant-loop-name : goal.invariant-loop-name
invariant-loop-name l = record {
  within : IsWithin l.initial.at l.kind l.opts (gives l.given) l.at;
  in_range : AreInRange l.opts;
  shorter : length l.at.bytes ≤ length l.initial.at.bytes;
}

abbrev pub decreases-loop-name : goal.decreases-loop-name
decreases-loop-name l = length l.at.bytes
