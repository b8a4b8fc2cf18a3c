use Rattle.std.proofs.Common.{◌≡◌, ◌+◌, ◌++◌, map, length, take, Some}
use Rattle.asm_unit.specs.Held.{entries_of}
use Rattle.asm_unit.proofs.held_list.HeldList.new.Given as goal

-- what is held and what is left are the entries, and their spans the first
abbrev pub invariant-loop-entry : goal.invariant-loop-entry
invariant-loop-entry l =
    (goal.iterator-loop-entry).can_next l.entry-iterator × (goal.iterator-loop-entry).is_finite l.entry-iterator
    × (entries_of l.list.held ++ l.entry-iterator.rest.items ≡ l.fn.entries.items) × (l.list.last ≡ l.next) × (length l.list.held ≡ l.next)
    × (l.next + l.entry-iterator.rest.len ≡ length l.fn.entries.items) × (map (λ h. h.span) l.list.held ≡ map Some (take l.next l.places))
