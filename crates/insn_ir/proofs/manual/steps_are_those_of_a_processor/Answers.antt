use Rattle.std.proofs.Common.{refl}
use Rattle.insn_ir.proofs.manual.steps_are_those_of_a_processor.Goals as goal

pub returns-clause-moves : goal.returns-clause-moves
returns-clause-moves c = refl

pub returns-clause-sums : goal.returns-clause-sums
returns-clause-sums c = refl

pub returns-clause-logic : goal.returns-clause-logic
returns-clause-logic c = refl

pub returns-clause-products : goal.returns-clause-products
returns-clause-products c = refl

pub returns-clause-conditions : goal.returns-clause-conditions
returns-clause-conditions c = refl
