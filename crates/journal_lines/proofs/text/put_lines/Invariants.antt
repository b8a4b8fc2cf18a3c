use Rattle.std.proofs.Common.{◌≡◌, ◌++◌, drop}
use Rattle.std.specs.List.{flat_map}
use Rattle.journal_lines.specs.Lines.{edit_line}
use Rattle.journal_lines.proofs.text.put_lines.Given as goal

-- the lines so far, and those of the edits that are left
abbrev pub invariant-loop-edit : goal.invariant-loop-edit
invariant-loop-edit l =
    l.text.items ++ flat_map (edit_line l.step l.name) (drop l.edit-index l.edits) ≡ l.initial.text.items ++ flat_map (edit_line l.step l.name) l.edits
