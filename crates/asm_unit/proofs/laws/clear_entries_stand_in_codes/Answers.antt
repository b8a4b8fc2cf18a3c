use Rattle.asm_unit.proofs.CodePlaces.{stands_in, line_there}
use Rattle.asm_unit.proofs.laws.clear_entries_stand_in_codes.Goals as goal

pub returns-clause-place : goal.returns-clause-place
returns-clause-place c = stands_in

pub returns-clause-line : goal.returns-clause-line
returns-clause-line c = line_there
