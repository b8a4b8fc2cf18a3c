use Rattle.std.proofs.Common.{◌≡◌, ℕ, ◌+◌, ◌<◌, length, drop, get_or}
use Rattle.journal_lines.specs.Steps.{edits_of_step}
use Rattle.journal_lines.proofs.steps.counts_of.Given as goal

-- what was counted, and the edits of the parts that are left
abbrev pub invariant-loop-part : goal.invariant-loop-part
invariant-loop-part l =
    record {
      len : length l.counts.items ≡ l.fn.steps;
      counted : (i : ℕ) → i < length l.counts.items
          → get_or l.counts.items i 0 + edits_of_step (i + 1) (drop l.part-index l.parts) ≡ edits_of_step (i + 1) l.parts;
    }
