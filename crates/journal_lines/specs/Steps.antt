-- The notes on the steps of a script.
use Rattle.std.specs.Prelude.{ℕ, ◌+◌, List, [], ◌∷◌, ◌++◌, codes, decimal, length, sum_by, ◌==◌, if◌then◌else◌}
use Rattle.pass_script.specs.declared.kinds.PassKind.{PassKind}
use Rattle.pass_script.specs.declared.script.Step.{Step}
use Rattle.pass_script.specs.Catalogue.{name_of}
use Rattle.unit_edits.specs.declared.journal.Part.{Part}

-- how many edits of a part, and of a journal, are those of the step with this number
abbrev pub edits_in : ℕ → Part → ℕ
edits_in k p = if p.step == k then length p.edits else 0

abbrev pub edits_of_step : ℕ → List Part → ℕ
edits_of_step k ps = sum_by (edits_in k) ps

-- `step K PASS: N edits`
abbrev pub step_note : ℕ → PassKind → ℕ → List ℕ
step_note k kind edits = codes "step " ++ decimal k ++ codes " " ++ name_of kind ++ codes ": " ++ decimal edits ++ codes " edits\n"

-- of each step, where the first has this number
abbrev pub notes_from : ℕ → List Step → List Part → List ℕ
notes_from k [] ps = []
notes_from k (s ∷ ss) ps = step_note k s.kind (edits_of_step k ps) ++ notes_from (k + 1) ss ps

abbrev pub step_notes : List Step → List Part → List ℕ
step_notes steps ps = notes_from 1 steps ps
