use Rattle.text_laws.proofs.AsRead.{as_read}
use Rattle.text_laws.proofs.laws.entries_as_read_are_edited.Goals as goal

pub returns : goal.returns
returns c = as_read
