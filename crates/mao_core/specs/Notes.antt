-- What a run tells on its notes.
use Rattle.std.specs.Prelude.{ℕ, ◌+◌, ◌-◌, ◌==◌, Bool, List, [], ◌∷◌, ◌++◌, Option, Some, None, codes, decimal, count_by, slice_index, if◌then◌else◌}
use Rattle.std.specs.List.{flat_map}
use Rattle.asm_unit.specs.declared.cause.FreezeKind.{FreezeKind}
use Rattle.asm_unit.specs.declared.cause.FreezeCause.{FreezeCause}
use Rattle.asm_unit.specs.Decisions.{Decision}
use Rattle.asm_unit.specs.Unit.{Unit}
use Rattle.att_lexer.specs.Pieces.{pieces}
use Rattle.pass_script.specs.declared.script.Step.{Step}
use Rattle.unit_edits.specs.declared.journal.Part.{Part}
use Rattle.journal_lines.specs.Lines.{journal_lines}
use Rattle.journal_lines.specs.Steps.{step_notes}
use Rattle.mao_core.specs.Decided.{decided, file_frozen}

-- the line of each piece, where the first stands on the given one: a newline begins the next
abbrev pub lines_from : ℕ → List (List ℕ) → List ℕ
lines_from n [] = []
lines_from n (p ∷ ps) = n ∷ lines_from (n + count_by (λ b. b == 10) p) ps

abbrev pub line_of : List ℕ → ℕ → ℕ
line_of lines serial = slice_index lines (serial - 1)

abbrev pub cause_text : FreezeKind → List ℕ
cause_text FreezeKind.File = codes "file"
cause_text FreezeKind.UnknownLine = codes "unknown line"
cause_text FreezeKind.DataInCode = codes "data in code"
cause_text FreezeKind.InlineAssembly = codes "inline assembly"
cause_text FreezeKind.LabelAsValue = codes "label as value"
cause_text FreezeKind.LabelOutside = codes "label used outside"
cause_text FreezeKind.ExceptionTable = codes "exception table"
cause_text FreezeKind.JumpElsewhere = codes "jump elsewhere"
cause_text FreezeKind.TooLong = codes "too long"

-- `file unchanged: line L` where a cause keeps the whole file as it is
abbrev pub file_note : List ℕ → Option FreezeCause → List ℕ
file_note lines None = []
file_note lines (Some c) = codes "file unchanged: line " ++ decimal (line_of lines c.serial) ++ codes "\n"

-- `NAME unchanged: CAUSE, line L` of a function that is kept as it is
abbrev pub frozen_note : List ℕ → List ℕ → Option FreezeCause → List ℕ
frozen_note lines name None = []
frozen_note lines name (Some c) =
    name ++ codes " unchanged: " ++ cause_text c.kind ++ codes ", line " ++ decimal (line_of lines c.serial) ++ codes "\n"

-- the notes on what is frozen
abbrev pub frozen_notes : List ℕ → Option FreezeCause → List Decision → List ℕ
frozen_notes lines file ds = file_note lines file ++ flat_map (λ d. frozen_note lines d.name d.cause) ds

-- a line for each edit, if that is asked for
abbrev pub journal_notes : Bool → Unit → List Part → List ℕ
journal_notes with_journal u journal = if with_journal then journal_lines u journal else []

-- all the notes: of the file, of each function that is kept as it is, of the steps and of the edits
abbrev pub notes_text : List ℕ → Option FreezeCause → List Decision → List Step → Bool → Unit → List Part → List ℕ
notes_text lines file ds steps with_journal u journal =
    frozen_notes lines file ds ++ step_notes steps journal ++ journal_notes with_journal u journal

-- the notes on a text to whose unit steps were done
abbrev pub notes_of : List Step → Bool → List ℕ → Unit → List Part → List ℕ
notes_of steps with_journal text final journal =
    notes_text (lines_from 1 (pieces text)) (file_frozen text) (decided text) steps with_journal final journal
