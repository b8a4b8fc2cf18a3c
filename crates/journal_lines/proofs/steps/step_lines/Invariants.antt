use Rattle.std.proofs.Common.{◌≡◌, ◌+◌, ◌++◌, drop}
use Rattle.journal_lines.specs.Steps.{notes_from, step_notes}
use Rattle.journal_lines.proofs.steps.step_lines.Given as goal

-- the notes so far, and those on the steps that are left
abbrev pub invariant-loop-i : goal.invariant-loop-i
invariant-loop-i l =
    l.text.items ++ notes_from (l.i + 1) (drop l.i l.steps) l.journal ≡ step_notes l.steps l.journal
