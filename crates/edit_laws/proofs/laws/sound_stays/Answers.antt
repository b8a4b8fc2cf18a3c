use Rattle.edit_laws.proofs.Steps.{edit_sound}
use Rattle.edit_laws.proofs.laws.sound_stays.Goals as goal

pub returns : goal.returns
returns c = λ u v f e. edit_sound f u v e
