use Rattle.std.proofs.Common.{◌≡◌, length}
use Rattle.asm_unit.specs.Held.{AreNumbered}
use Rattle.file_tests.proofs.texts.entries_of.Given as goal

abbrev pub invariant-loop-i : goal.invariant-loop-i
invariant-loop-i g l = record {
  numbered : AreNumbered 0 l.entries.items;
  many : length l.entries.items ≡ l.i;
}
