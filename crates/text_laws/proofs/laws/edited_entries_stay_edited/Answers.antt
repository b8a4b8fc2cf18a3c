use Rattle.insn_ir.specs.declared.entry.EntryKind.{EntryKind}
use Rattle.text_laws.proofs.Edits.{dropped, put, inserted, inserted_nop, inserted_align}
use Rattle.text_laws.proofs.laws.edited_entries_stay_edited.Goals as goal

pub returns-clause-drop : goal.returns-clause-drop
returns-clause-drop c = dropped

pub returns-clause-put : goal.returns-clause-put
returns-clause-put c = λ text hs s i new. put text s (EntryKind.Insn i) new hs

pub returns-clause-insert : goal.returns-clause-insert
returns-clause-insert c = λ text hs before s k new. inserted text before s k new hs

pub returns-clause-insert_nop : goal.returns-clause-insert_nop
returns-clause-insert_nop c = λ text hs before s. inserted_nop text before s hs

pub returns-clause-insert_align : goal.returns-clause-insert_align
returns-clause-insert_align c = λ text hs before s power le. inserted_align text before s power le hs
