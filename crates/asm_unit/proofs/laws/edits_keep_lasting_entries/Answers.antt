use Rattle.asm_unit.proofs.LastingLaws.{drop_lasts, put_lasts, insert_lasts}
use Rattle.asm_unit.proofs.laws.edits_keep_lasting_entries.Goals as goal

pub returns-clause-drop : goal.returns-clause-drop
returns-clause-drop c = drop_lasts

pub returns-clause-put : goal.returns-clause-put
returns-clause-put c = put_lasts

pub returns-clause-insert : goal.returns-clause-insert
returns-clause-insert c = insert_lasts
