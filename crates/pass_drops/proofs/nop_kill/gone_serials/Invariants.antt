use Rattle.std.proofs.Common.{◌≡◌, ◌++◌, filter, drop}
use Rattle.pass_drops.specs.walks.Dropping.{goes_at}
use Rattle.pass_drops.proofs.nop_kill.gone_serials.Given as goal

-- the serials so far, and those of what goes of the rest
abbrev pub invariant-loop-serial : goal.invariant-loop-serial
invariant-loop-serial l = l.gone ++ filter (goes_at l.align l.unit.held) (drop l.serial-index l.serials) ≡ filter (goes_at l.align l.unit.held) l.serials
