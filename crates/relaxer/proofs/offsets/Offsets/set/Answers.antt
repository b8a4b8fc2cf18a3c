use Rattle.std.proofs.Common.{◌<◌, ◌+◌, ◌-◌, ◌/◌, length, arith, ap}
use Rattle.relaxer.proofs.Chunks.{held_at, sizes_changed, sums_changed}
use Rattle.relaxer.proofs.offsets.Offsets.set.Goals as goal

pub overflow_sub-chunk_sum : goal.overflow_sub-chunk_sum
overflow_sub-chunk_sum c =
    let sizes = c.self.inside.sizes.items in
    let chunks = c.self.inside.chunks.items in
    let groups = c.self.inside.groups.items in
    let i = c.args.i in
    let there : c.args.i < length c.self.inside.sizes.items = omega (arith, c.requires.there, ap length c.self.view_is) in
    let held = held_at sizes chunks groups i c.self.invariant.0 c.self.invariant.1 c.self.invariant.2 there in
    omega (arith, held.size c.index-old.result.now c.index-old.ensures, held.chunk c.index.result.now c.index.ensures, held.size_within)

pub overflow_add-chunk_sum : goal.overflow_add-chunk_sum
overflow_add-chunk_sum c =
    let sizes = c.self.inside.sizes.items in
    let chunks = c.self.inside.chunks.items in
    let groups = c.self.inside.groups.items in
    let i = c.args.i in
    let there : c.args.i < length c.self.inside.sizes.items = omega (arith, c.requires.there, ap length c.self.view_is) in
    let held = held_at sizes chunks groups i c.self.invariant.0 c.self.invariant.1 c.self.invariant.2 there in
    omega (arith, held.chunk c.index.result.now c.index.ensures, held.chunk_within, held.group_small, c.requires.small)

pub overflow_sub-group_sum : goal.overflow_sub-group_sum
overflow_sub-group_sum c =
    let sizes = c.self.inside.sizes.items in
    let chunks = c.self.inside.chunks.items in
    let groups = c.self.inside.groups.items in
    let i = c.args.i in
    let there : c.args.i < length c.self.inside.sizes.items = omega (arith, c.requires.there, ap length c.self.view_is) in
    let held = held_at sizes chunks groups i c.self.invariant.0 c.self.invariant.1 c.self.invariant.2 there in
    omega (arith, held.size c.index-old.result.now c.index-old.ensures, held.group c.index-2.result.now c.index-2.ensures, held.size_within, held.chunk_within)

pub overflow_add-group_sum : goal.overflow_add-group_sum
overflow_add-group_sum c =
    let sizes = c.self.inside.sizes.items in
    let chunks = c.self.inside.chunks.items in
    let groups = c.self.inside.groups.items in
    let i = c.args.i in
    let there : c.args.i < length c.self.inside.sizes.items = omega (arith, c.requires.there, ap length c.self.view_is) in
    let held = held_at sizes chunks groups i c.self.invariant.0 c.self.invariant.1 c.self.invariant.2 there in
    omega (arith, held.group c.index-2.result.now c.index-2.ensures, held.group_small, c.requires.small)

pub invariant_of-self : goal.invariant_of-self
invariant_of-self c =
    let sizes = c.self.inside.sizes.items in
    let chunks = c.self.inside.chunks.items in
    let groups = c.self.inside.groups.items in
    let i = c.args.i in
    let there : c.args.i < length c.self.inside.sizes.items = omega (arith, c.requires.there, ap length c.self.view_is) in
    let held = held_at sizes chunks groups i c.self.invariant.0 c.self.invariant.1 c.self.invariant.2 there in
    let old = c.index-old.result.now in
    let chunk = c.index.result.now in
    let group = c.index-2.result.now in (
      sizes_changed sizes i c.args.size c.self.invariant.0 c.requires.small,
      sums_changed sizes chunks i c.args.size (chunk - old + c.args.size) c.self.invariant.1 there
          (omega (arith, held.size c.index-old.result.now c.index-old.ensures, held.chunk c.index.result.now c.index.ensures, held.size_within)),
      sums_changed chunks groups (i / 64) (chunk - old + c.args.size) (group - old + c.args.size) c.self.invariant.2 held.chunk_there
          (omega (arith, held.size c.index-old.result.now c.index-old.ensures, held.chunk c.index.result.now c.index.ensures, held.group c.index-2.result.now c.index-2.ensures, held.size_within, held.chunk_within)),
    )
