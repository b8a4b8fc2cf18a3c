use Rattle.std.proofs.Common.{sym, ap, ◌∙◌, arith}
use Rattle.pass_script.proofs.Numbers.{if_fits, overflows, fits}
use Rattle.pass_script.proofs.read.number_of.Goals as goal

pub returns : goal.returns
returns c = sym (fits c.loop-digit.number c.args.digits.now c.loop-digit.digit-index (omega arith) (omega arith)) ∙ ap if_fits c.loop-digit.invariant.told

-- the product is too large
pub returns-in_err-checked_mul : goal.returns-in_err-checked_mul
returns-in_err-checked_mul c =
    c.from_residual.ensures
    ∙ (sym (overflows c.loop-digit.number c.args.digits.now c.loop-digit.digit-index (omega arith) (omega (arith, c.in_err-checked_mul.ensures)))
    ∙ ap if_fits c.loop-digit.invariant.told)

-- the sum is too large
pub returns-in_err-number : goal.returns-in_err-number
returns-in_err-number c =
    c.from_residual-in_err-number.ensures
    ∙ (sym (overflows c.loop-digit.number c.args.digits.now c.loop-digit.digit-index (omega arith) (omega (arith, c.in_ok-checked_mul.ensures, c.in_err-number.ensures, c.saturating_sub.ensures)))
    ∙ ap if_fits c.loop-digit.invariant.told)
