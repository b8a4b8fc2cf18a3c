use Rattle.std.proofs.Common.{◌≡◌, ◌<◌, ◌^◌, drop}
use Rattle.pass_script.specs.Script.{number_of}
use Rattle.pass_script.proofs.Numbers.{number_on}
use Rattle.pass_script.proofs.read.number_of.Given as goal

-- what is left goes on from a number that fits
abbrev pub invariant-loop-digit : goal.invariant-loop-digit
invariant-loop-digit l = record {
  fits : l.number < 2 ^ 64;
  told : number_on l.number (drop l.digit-index l.digits) ≡ number_of l.digits;
}
