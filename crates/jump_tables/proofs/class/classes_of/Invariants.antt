use Rattle.std.proofs.Common.{◌≡◌, take}
use Rattle.jump_tables.specs.Classes.{classes_of}
use Rattle.jump_tables.proofs.class.classes_of.Given as goal

abbrev pub invariant-loop-entry : goal.invariant-loop-entry
invariant-loop-entry l = l.classes.items ≡ classes_of (take l.entry-index l.entries)
