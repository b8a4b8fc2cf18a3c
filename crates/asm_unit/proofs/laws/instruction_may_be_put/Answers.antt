use Rattle.asm_unit.proofs.LineLaws.{code_with_line}
use Rattle.asm_unit.proofs.laws.instruction_may_be_put.Goals as goal

pub returns : goal.returns
returns c = λ ds es k s f i new code a b d. code_with_line ds es k s f i code a b d new
