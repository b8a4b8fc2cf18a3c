use Rattle.std.proofs.Common.{◌<◌, length, take}
use Rattle.pass_drops.specs.walks.Inserting.{CanInsert, Inserts}
use Rattle.pass_drops.proofs.nop_in.insert_all.Given as goal

abbrev pub invariant-loop-before : goal.invariant-loop-before
invariant-loop-before l = record {
  may : CanInsert l.f l.unit l.places;
  so_far : Inserts l.f l.initial.unit l.initial.journal (take l.before-index l.places) l.unit l.journal;
  part : 0 < length l.journal;
}
