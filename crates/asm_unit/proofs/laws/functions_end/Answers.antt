use Rattle.asm_unit.proofs.EndOfBodies.{end_there, none_behind_end}
use Rattle.asm_unit.proofs.laws.functions_end.Goals as goal

pub returns-clause-there : goal.returns-clause-there
returns-clause-there c = end_there

pub returns-clause-behind : goal.returns-clause-behind
returns-clause-behind c = none_behind_end
