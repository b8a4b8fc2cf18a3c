use Rattle.std.proofs.Common.{◌≡◌, ◌+◌, ◌++◌, drop, map}
use Rattle.jump_tables.specs.Classes.{classes_of}
use Rattle.att_grammar.specs.Entries.{kind_of_piece}
use Rattle.mao_core.specs.Entries.{numbered, entries_of}
use Rattle.asm_writer.specs.Unit.{bytes_at}
use Rattle.mao_core.proofs.entries.read_entries.Given as goal

-- the entries so far, and those of the pieces that are left, are all of them; each has been told of
abbrev pub invariant-loop-i : goal.invariant-loop-i
invariant-loop-i l = record {
  entries : l.read.entries.items ++ numbered (l.i + 1) (map kind_of_piece (map (bytes_at l.text) (drop l.i l.spans))) ≡ entries_of l.text;
  classes : l.read.classes.items ≡ classes_of l.read.entries.items;
}
