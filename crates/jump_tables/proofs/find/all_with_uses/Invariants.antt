use Rattle.std.proofs.Common.{◌≡◌, map}
use Rattle.jump_tables.specs.Collected.{looked_up}
use Rattle.jump_tables.proofs.find.all_with_uses.Given as goal

abbrev pub invariant-loop-table : goal.invariant-loop-table
invariant-loop-table l = l.tables ≡ map (looked_up l.labels l.uses) l.yielded
