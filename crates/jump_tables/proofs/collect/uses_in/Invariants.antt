use Rattle.std.proofs.Common.{◌≡◌, length, drop, map}
use Rattle.jump_tables.specs.Sections.{Section, is_debug, placed_from, placed}
use Rattle.jump_tables.specs.Collected.{for_each, uses_of}
use Rattle.jump_tables.proofs.UseLaws.{with_rest}
use Rattle.jump_tables.proofs.collect.uses_in.Given as goal

abbrev pub invariant-loop-entry : goal.invariant-loop-entry
invariant-loop-entry l = record {
  as_many : length l.uses.items ≡ length l.labels;
  section : Section;
  debug_is : is_debug section ≡ l.debug;
  with_rest_all : for_each (with_rest (placed_from section (drop l.entry-index l.entries))) l.labels l.uses.items ≡ map (uses_of (placed l.entries)) l.labels;
}
