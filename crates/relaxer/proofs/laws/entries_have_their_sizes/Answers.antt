use Rattle.relaxer.proofs.Changes.{size_of_entry, length-sizes_of, entry_of_next}
use Rattle.relaxer.proofs.Built.{only_sizes}
use Rattle.relaxer.proofs.laws.entries_have_their_sizes.Goals as goal

pub returns : goal.returns
returns c = record { sizes = size_of_entry; all = length-sizes_of; only = only_sizes; next = entry_of_next }
