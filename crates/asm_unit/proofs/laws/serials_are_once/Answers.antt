use Rattle.jump_tables.specs.Sections.{text}
use Rattle.asm_unit.proofs.InsertFits.{lacks_entries}
use Rattle.asm_unit.proofs.StandLaws.{once_placed}
use Rattle.asm_unit.proofs.laws.serials_are_once.Goals as goal

pub returns-clause-once : goal.returns-clause-once
returns-clause-once c = λ hs u s. once_placed s text hs u

pub returns-clause-lacking : goal.returns-clause-lacking
returns-clause-lacking c = lacks_entries
