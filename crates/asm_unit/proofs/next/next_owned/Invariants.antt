use Rattle.std.proofs.Common.{◌≡◌, ℕ, Bool, length}
use Rattle.asm_unit.specs.Held.{behind}
use Rattle.asm_unit.specs.OwnerWalk.{TellsOwner, next_where}
use Rattle.asm_unit.proofs.next.next_owned.Given as goal

-- what was passed isn't of the code
abbrev pub invariant-loop-at : goal.invariant-loop-at
invariant-loop-at l =
    (test : ℕ → Bool) → TellsOwner test l.held.held l.owners l.number → next_where test l.held.held l.serial ≡ next_where test l.held.held l.at

abbrev pub decreases-loop-at : goal.decreases-loop-at
decreases-loop-at l = length (behind l.at l.held.held)
