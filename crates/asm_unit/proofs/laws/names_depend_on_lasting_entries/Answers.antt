use Rattle.asm_unit.proofs.LastingLaws.{same_defined, same_labels, same_targets, same_table_cells}
use Rattle.asm_unit.proofs.EndOfBodies.{same_ends}
use Rattle.asm_unit.proofs.laws.names_depend_on_lasting_entries.Goals as goal

pub returns-clause-defined : goal.returns-clause-defined
returns-clause-defined c = same_defined

pub returns-clause-labels : goal.returns-clause-labels
returns-clause-labels c = same_labels

pub returns-clause-targets : goal.returns-clause-targets
returns-clause-targets c = same_targets

pub returns-clause-cells : goal.returns-clause-cells
returns-clause-cells c = same_table_cells

pub returns-clause-ends : goal.returns-clause-ends
returns-clause-ends c = same_ends
