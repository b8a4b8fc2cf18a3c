use Rattle.std.proofs.Common.{◌<◌, ℕ}
use Rattle.std.specs.Prelude.{Contains, All}
use Rattle.relaxer.proofs.solver.all_places.Given as goal

abbrev pub invariant-loop-i : goal.invariant-loop-i
invariant-loop-i l =
    record {
      all : (i : ℕ) → i < l.i → Contains l.places.items i;
      there : All (λ i. i < l.fn.count) l.places.items;
    }
