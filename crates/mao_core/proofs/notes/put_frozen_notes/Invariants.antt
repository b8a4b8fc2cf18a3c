use Rattle.std.proofs.Common.{◌≡◌, ◌++◌, drop}
use Rattle.mao_core.proofs.NoteLaws.{frozen_notes}
use Rattle.mao_core.proofs.notes.put_frozen_notes.Given as goal

-- the notes so far, and those on the functions that are left
abbrev pub invariant-loop-f : goal.invariant-loop-f
invariant-loop-f l =
    l.text.items ++ frozen_notes l.lines (drop l.f l.unit.decided) ≡ l.initial.text.items ++ frozen_notes l.lines l.unit.decided
