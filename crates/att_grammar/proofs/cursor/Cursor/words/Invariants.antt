use Rattle.std.proofs.Common.{◌≡◌, ◌++◌, length}
use Rattle.att_grammar.specs.Notions.{words_in}
use Rattle.att_grammar.proofs.cursor.Cursor.words.Given as goal

abbrev pub invariant-loop-seen : goal.invariant-loop-seen
invariant-loop-seen l = l.names ++ words_in l.rest ≡ words_in l.self

abbrev pub decreases-loop-seen : goal.decreases-loop-seen
decreases-loop-seen l = length l.rest
