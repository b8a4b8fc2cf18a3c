use Rattle.std.proofs.Common.{◌≡◌, ◌+◌, ◌-◌, ◌≤◌, length, drop}
use Rattle.std.specs.List.{prefix_len}
use Rattle.att_lexer.specs.Bytes.{is_calm}
use Rattle.att_lexer.proofs.lanes.stop_in_tail.Given as goal

abbrev pub invariant-loop-i : goal.invariant-loop-i
invariant-loop-i l = record { same : l.from + prefix_len is_calm (drop l.from l.text) ≡ l.i + prefix_len is_calm (drop l.i l.text); within : l.i ≤ length l.text }

abbrev pub decreases-loop-i : goal.decreases-loop-i
decreases-loop-i l = length l.text - l.i
