use Rattle.std.proofs.Common.{◌≡◌, ◌++◌, drop}
use Rattle.jump_tables.specs.Collected.{cells_behind}
use Rattle.jump_tables.proofs.find.cells_behind.Given as goal

abbrev pub invariant-loop-entry : goal.invariant-loop-entry
invariant-loop-entry l = l.names ++ cells_behind (drop l.entry-index l.entries) ≡ cells_behind l.entries
