use Rattle.std.proofs.Common.{◌≡◌, ◌++◌, drop, map}
use Rattle.jump_tables.specs.Sections.{Section, placed_from, placed}
use Rattle.jump_tables.specs.Tables.{file_tables}
use Rattle.jump_tables.specs.Collected.{unused}
use Rattle.jump_tables.proofs.find.starts_in.Given as goal

abbrev pub invariant-loop-i : goal.invariant-loop-i
invariant-loop-i l = record {
  section : Section;
  code_is : section.code ≡ l.code;
  with_rest : l.tables.items ++ map unused (file_tables (placed_from section (drop l.i l.entries))) ≡ map unused (file_tables (placed l.entries));
}
