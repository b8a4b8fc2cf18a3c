use Rattle.std.proofs.Common.{◌≡◌, ◌++◌}
use Rattle.att_grammar.specs.Directives.{cells_of}
use Rattle.directive_model.proofs.Cells.{cells_left, lexemes_left}
use Rattle.directive_model.proofs.data.cells.Given as goal

abbrev pub invariant-loop-behind : goal.invariant-loop-behind
invariant-loop-behind l = l.cells ++ cells_left l.behind ≡ cells_of l.at

abbrev pub decreases-loop-behind : goal.decreases-loop-behind
decreases-loop-behind l = lexemes_left l.behind
