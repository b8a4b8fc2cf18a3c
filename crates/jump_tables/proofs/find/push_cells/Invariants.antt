use Rattle.std.proofs.Common.{◌≡◌, ◌++◌, drop}
use Rattle.jump_tables.specs.Tables.{cell_names}
use Rattle.jump_tables.proofs.find.push_cells.Given as goal

abbrev pub invariant-loop-cell : goal.invariant-loop-cell
invariant-loop-cell l = l.names ++ cell_names (drop l.cell-index l.cells) ≡ l.initial.names ++ cell_names l.cells
