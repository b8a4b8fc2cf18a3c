use Rattle.std.proofs.Common.{◌≡◌, ◌≤◌, ◌*◌, ℕ, length, take, drop}
use Rattle.std.specs.Prelude.{sum}
use Rattle.relaxer.proofs.offsets.chunk_sums.Given as goal

-- the chunks so far have their sums, and the rest stands behind them
abbrev pub invariant-loop-rest : goal.invariant-loop-rest
invariant-loop-rest l =
    record {
      rest : l.rest ≡ drop (64 * length l.sums.items) l.numbers;
      fronts : (chunks : ℕ) → chunks ≤ length l.sums.items → sum (take chunks l.sums.items) ≡ sum (take (64 * chunks) l.numbers);
    }

abbrev pub decreases-loop-rest : goal.decreases-loop-rest
decreases-loop-rest l = length l.rest
