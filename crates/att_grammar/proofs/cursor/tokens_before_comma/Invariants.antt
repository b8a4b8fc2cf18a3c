use Rattle.std.proofs.Common.{◌≡◌, ◌+◌, drop}
use Rattle.att_grammar.proofs.Cursors.{before_comma}
use Rattle.att_grammar.proofs.cursor.tokens_before_comma.Given as goal

abbrev pub invariant-loop-i : goal.invariant-loop-i
invariant-loop-i l = l.i + before_comma l.piece (drop l.i l.tokens) ≡ before_comma l.piece l.tokens
