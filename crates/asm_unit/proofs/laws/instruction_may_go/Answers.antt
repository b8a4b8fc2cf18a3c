use Rattle.asm_unit.proofs.LineLaws.{line_is, code_without_line}
use Rattle.asm_unit.proofs.laws.instruction_may_go.Goals as goal

pub returns-clause-line : goal.returns-clause-line
returns-clause-line c = line_is

pub returns-clause-codes : goal.returns-clause-codes
returns-clause-codes c = code_without_line
