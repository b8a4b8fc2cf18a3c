use Rattle.std.proofs.Common.{◌≡◌, ◌+◌, ◌*◌, ◌^◌, ◌<◌, length}
use Rattle.att_grammar.specs.Expressions.{terms_from}
use Rattle.att_reader.proofs.expressions.terms.Given as goal

abbrev pub invariant-loop-adds : goal.invariant-loop-adds
invariant-loop-adds l = record {
  value : terms_from l.total l.rest ≡ terms_from l.fn.first l.fn.at;
  small : l.total.plus + l.total.minus + 2 ^ 64 * length l.rest < 2 ^ 97;
}

abbrev pub decreases-loop-adds : goal.decreases-loop-adds
decreases-loop-adds l = length l.rest
