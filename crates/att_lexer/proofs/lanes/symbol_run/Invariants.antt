use Rattle.std.proofs.Common.{◌≡◌, ◌+◌, ◌-◌, ◌≤◌, length, drop}
use Rattle.std.specs.List.{prefix_len}
use Rattle.att_lexer.specs.Bytes.{is_symbol_byte}
use Rattle.att_lexer.proofs.lanes.symbol_run.Given as goal

abbrev pub invariant-loop-i : goal.invariant-loop-i
invariant-loop-i l = record { same : prefix_len is_symbol_byte l.bytes ≡ l.i + prefix_len is_symbol_byte (drop l.i l.bytes); within : l.i ≤ length l.bytes }

abbrev pub decreases-loop-i : goal.decreases-loop-i
decreases-loop-i l = length l.bytes - l.i
