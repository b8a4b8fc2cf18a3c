use Rattle.std.proofs.Common.{◌≡◌, take, false}
use Rattle.jump_tables.specs.Collected.{for_each, named}
use Rattle.jump_tables.proofs.collect.note_list.Given as goal

abbrev pub invariant-loop-name : goal.invariant-loop-name
invariant-loop-name l = l.uses ≡ for_each (named false l.entry (take l.name-index l.list)) l.labels l.initial.uses
