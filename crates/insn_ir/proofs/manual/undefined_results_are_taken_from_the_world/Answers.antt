use Rattle.std.proofs.Common.{refl}
use Rattle.insn_ir.proofs.manual.undefined_results_are_taken_from_the_world.Goals as goal

pub returns-clause-shll_by_two_may_overflow : goal.returns-clause-shll_by_two_may_overflow
returns-clause-shll_by_two_may_overflow c = (refl, refl)

pub returns-clause-imulq_may_set_sf_and_zf : goal.returns-clause-imulq_may_set_sf_and_zf
returns-clause-imulq_may_set_sf_and_zf c = (refl, refl)

pub returns-clause-shll_by_nothing_may_clear_the_upper_half : goal.returns-clause-shll_by_nothing_may_clear_the_upper_half
returns-clause-shll_by_nothing_may_clear_the_upper_half c = (refl, refl)

pub returns-clause-shll_by_nothing_may_leave_the_upper_half : goal.returns-clause-shll_by_nothing_may_leave_the_upper_half
returns-clause-shll_by_nothing_may_leave_the_upper_half c = (refl, refl)
