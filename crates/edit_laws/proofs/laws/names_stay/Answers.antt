use Rattle.asm_unit.specs.Held.{entries_of}
use Rattle.edit_laws.proofs.Steps.{of_edit}
use Rattle.edit_laws.proofs.Names.{LastingStay, lasting_stay, same_names}
use Rattle.edit_laws.proofs.laws.names_stay.Goals as goal

pub returns-clause-names : goal.returns-clause-names
returns-clause-names c = λ u v f e sound proper edited. same_names (entries_of v.held) (entries_of u.held) (of_edit f LastingStay (lasting_stay f) u v e sound proper edited)

pub returns-clause-lasting : goal.returns-clause-lasting
returns-clause-lasting c = λ u v f e. of_edit f LastingStay (lasting_stay f) u v e
