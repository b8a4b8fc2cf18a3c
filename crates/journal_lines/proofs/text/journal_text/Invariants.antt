use Rattle.std.proofs.Common.{◌≡◌, ◌++◌, drop}
use Rattle.journal_lines.specs.Lines.{journal_lines}
use Rattle.journal_lines.proofs.text.journal_text.Given as goal

-- the lines so far, and those of the parts that are left
abbrev pub invariant-loop-part : goal.invariant-loop-part
invariant-loop-part l =
    l.text.items ++ journal_lines l.unit (drop l.part-index l.part-items) ≡ journal_lines l.unit l.journal
