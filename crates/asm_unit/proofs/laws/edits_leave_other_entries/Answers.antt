use Rattle.asm_unit.proofs.OtherEntries.{other_without, other_put, other_inserted, gone_without, now_put, new_inserted}
use Rattle.asm_unit.proofs.laws.edits_leave_other_entries.Goals as goal

pub returns-clause-drop : goal.returns-clause-drop
returns-clause-drop c = λ s other hs apart. other_without s other apart hs

pub returns-clause-put : goal.returns-clause-put
returns-clause-put c = λ s other k hs apart. other_put s other apart k hs

pub returns-clause-insert : goal.returns-clause-insert
returns-clause-insert c = λ b s other k hs apart. other_inserted s other apart b k hs

pub returns-clause-gone : goal.returns-clause-gone
returns-clause-gone c = gone_without

pub returns-clause-now : goal.returns-clause-now
returns-clause-now c = now_put

pub returns-clause-new : goal.returns-clause-new
returns-clause-new c = new_inserted
