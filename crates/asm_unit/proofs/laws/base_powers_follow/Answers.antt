use Rattle.asm_unit.proofs.BaseLaws.{base_with_align, base_with_other, base_without, base_put, none_before, heads_label}
use Rattle.asm_unit.proofs.laws.base_powers_follow.Goals as goal

pub returns-clause-align : goal.returns-clause-align
returns-clause-align c = base_with_align

pub returns-clause-other : goal.returns-clause-other
returns-clause-other c = base_with_other

pub returns-clause-drop : goal.returns-clause-drop
returns-clause-drop c = base_without

pub returns-clause-put : goal.returns-clause-put
returns-clause-put c = base_put

pub returns-clause-before : goal.returns-clause-before
returns-clause-before c = none_before

pub returns-clause-label : goal.returns-clause-label
returns-clause-label c = heads_label
