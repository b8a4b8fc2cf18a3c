use Rattle.asm_unit.proofs.OwnerLaws.{new_owned}
use Rattle.asm_unit.proofs.laws.new_entries_stand_between.Goals as goal

pub returns : goal.returns
returns c = new_owned
