use Rattle.std.proofs.Common.{◌≡◌, ◌≤◌, ◌*◌, take}
use Rattle.std.specs.Prelude.{sum}
use Rattle.relaxer.specs.Layout.{sizes_of}
use Rattle.relaxer.proofs.item.sizes.Given as goal

abbrev pub invariant-loop-item : goal.invariant-loop-item
invariant-loop-item l =
    record {
      so_far : l.sizes.items ≡ sizes_of (take l.item-index l.items);
      at : l.at ≡ sum l.sizes.items;
      small : l.at ≤ l.item-index * 4095;
    }
