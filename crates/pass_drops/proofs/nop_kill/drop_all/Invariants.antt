use Rattle.std.proofs.Common.{drop}
use Rattle.pass_drops.proofs.DropLaws.{StillDrops}
use Rattle.pass_drops.proofs.nop_kill.drop_all.Given as goal

abbrev pub invariant-loop-serial : goal.invariant-loop-serial
invariant-loop-serial l = StillDrops l.f l.initial.unit l.initial.journal l.serials l.unit l.journal (drop l.serial-index l.serials)
