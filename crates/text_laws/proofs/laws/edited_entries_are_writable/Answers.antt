use Rattle.text_laws.proofs.ReadBack.{writable}
use Rattle.text_laws.proofs.laws.edited_entries_are_writable.Goals as goal

pub returns : goal.returns
returns c = writable
