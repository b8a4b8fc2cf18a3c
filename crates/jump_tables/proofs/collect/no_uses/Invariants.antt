use Rattle.std.proofs.Common.{◌≡◌, replicate}
use Rattle.jump_tables.specs.Collected.{none_used}
use Rattle.jump_tables.proofs.collect.no_uses.Given as goal

abbrev pub invariant-loop : goal.invariant-loop
invariant-loop l = l.uses.items ≡ replicate l.counter none_used
