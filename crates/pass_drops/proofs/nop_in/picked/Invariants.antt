use Rattle.std.proofs.Common.{◌≡◌, ◌++◌, drop}
use Rattle.pass_rules.specs.Draws.{words_of}
use Rattle.pass_drops.specs.walks.Inserting.{picked}
use Rattle.pass_drops.proofs.nop_in.picked.Given as goal

-- the places so far, and those of the serials that are left
abbrev pub invariant-loop-serial : goal.invariant-loop-serial
invariant-loop-serial l =
    l.places ++ picked l.opts.density l.unit.held l.words (drop l.serial-index l.serials) ≡ picked l.opts.density l.unit.held (words_of l.opts.seed) l.serials
