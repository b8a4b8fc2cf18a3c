use Rattle.std.proofs.Common.{◌≡◌, ◌<◌, ℕ, length}
use Rattle.std.specs.Prelude.{Contains, All}
use Rattle.relaxer.specs.Sizes.{AreItems}
use Rattle.relaxer.specs.Layout.{sizes_of, short_count}
use Rattle.relaxer.specs.walks.Resizing.{AreAlignments}
use Rattle.relaxer.proofs.Rounds.{IsRound}
use Rattle.relaxer.proofs.solver.solve.Given as goal

abbrev pub invariant-loop-offsets : goal.invariant-loop-offsets
invariant-loop-offsets l =
    record {
      sizes : l.offsets ≡ sizes_of l.items.items;
      aligned : AreAlignments l.items.items l.alignments.items;
      is : IsRound l.fn.items l.items.items;
      are : AreItems l.items.items;
      every : (i : ℕ) → i < length l.items.items → Contains l.suspects.items i;
      there : All (λ i. i < length l.items.items) l.suspects.items;
    }

abbrev pub decreases-loop-offsets : goal.decreases-loop-offsets
decreases-loop-offsets l = short_count l.items.items
