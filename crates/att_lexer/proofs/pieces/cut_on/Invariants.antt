use Rattle.std.proofs.Common.{◌<◌, ◌≤◌, ◌-◌, length}
use Rattle.att_lexer.specs.Walk.{past, IsFront, IsThawed}
use Rattle.att_lexer.proofs.pieces.cut_on.Given as goal

-- no byte before this one ends the piece
abbrev pub invariant-loop-at : goal.invariant-loop-at
invariant-loop-at l = record {
  some : 0 < l.at;
  within : l.at ≤ length l.text;
  front : IsFront l.text l.at (past l.place);
  thawed : IsThawed l.text l.at l.place l.found;
}

abbrev pub decreases-loop-at : goal.decreases-loop-at
decreases-loop-at l = length l.text - l.at
