use Rattle.asm_unit.proofs.LineLaws.{same_each_set}
use Rattle.asm_unit.proofs.laws.one_code_may_change.Goals as goal

pub returns : goal.returns
returns c = same_each_set
