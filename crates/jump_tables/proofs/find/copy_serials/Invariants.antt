use Rattle.std.proofs.Common.{◌≡◌, take}
use Rattle.jump_tables.proofs.find.copy_serials.Given as goal

abbrev pub invariant-loop-serial : goal.invariant-loop-serial
invariant-loop-serial l = l.copy ≡ take l.serial-index l.serials
