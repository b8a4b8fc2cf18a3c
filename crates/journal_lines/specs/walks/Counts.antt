-- How many edits each step has, counted in one walk over the parts.
use Rattle.std.specs.Prelude.{◌≡◌, ℕ, ◌+◌, ◌<◌, List, length, slice_index_or}
use Rattle.unit_edits.specs.declared.journal.Part.{Part}
use Rattle.journal_lines.specs.Steps.{edits_in, edits_of_step}

-- the edits of one part came to the counts
abbrev pub IsRaised : Part → List ℕ → List ℕ → Type 0
IsRaised p old new = (i : ℕ) → i < length old → slice_index_or new i 0 ≡ slice_index_or old i 0 + edits_in (i + 1) p

-- the counts are those of a journal
abbrev pub AreCounted : List Part → List ℕ → Type 0
AreCounted ps counts = (i : ℕ) → i < length counts → slice_index_or counts i 0 ≡ edits_of_step (i + 1) ps
