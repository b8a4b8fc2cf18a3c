-- Journals as lists of parts.
use Rattle.std.specs.Prelude.{List, [], ◌∷◌, ◌++◌}
use Rattle.unit_edits.specs.declared.edit.Edit.{Edit}
use Rattle.unit_edits.specs.declared.journal.Part.{Part}

-- a journal whose last part has more edits
abbrev pub onto_last : List Edit → List Part → List Part
onto_last es [] = []
onto_last es (p ∷ []) = record p { edits = p.edits ++ es } ∷ []
onto_last es (p ∷ q ∷ ps) = p ∷ onto_last es (q ∷ ps)
