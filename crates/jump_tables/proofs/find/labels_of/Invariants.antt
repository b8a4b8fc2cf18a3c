use Rattle.std.proofs.Common.{◌≡◌, drop, map, fold}
use Rattle.jump_tables.specs.Names.{with_name}
use Rattle.jump_tables.specs.Collected.{distinct_of}
use Rattle.jump_tables.proofs.find.labels_of.Given as goal

abbrev pub invariant-loop-table : goal.invariant-loop-table
invariant-loop-table l = fold with_name l.labels (map (λ t. t.label) (drop l.table-index l.tables)) ≡ distinct_of (map (λ t. t.label) l.tables)
