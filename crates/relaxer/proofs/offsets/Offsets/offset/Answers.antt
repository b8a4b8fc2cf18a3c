use Rattle.std.proofs.Common.{◌-◌, ◌*◌, ◌/◌, arith, ap, take, drop}
use Rattle.std.specs.Prelude.{sum}
use Rattle.relaxer.proofs.Chunks.{offset_in_groups, front_small}
use Rattle.relaxer.proofs.offsets.Offsets.offset.Goals as goal

pub total-requires : goal.total-requires
total-requires c =
    let i = c.args.i in
    omega (
      arith,
      ap (λ xs. sum (take (i / 64 / 64) xs)) c.deref.ensures.value,
      offset_in_groups c.self.inside.sizes.items c.self.inside.chunks.items c.self.inside.groups.items i c.self.invariant.1 c.self.invariant.2,
      front_small c.self.inside.sizes.items i c.self.invariant.0,
    )

pub total-requires-2 : goal.total-requires-2
total-requires-2 c =
    let i = c.args.i in
    omega (
      arith,
      ap (λ xs. sum (take (i / 64 - 64 * (i / 64 / 64)) (drop (64 * (i / 64 / 64)) xs))) c.deref-2.ensures.value,
      offset_in_groups c.self.inside.sizes.items c.self.inside.chunks.items c.self.inside.groups.items i c.self.invariant.1 c.self.invariant.2,
      front_small c.self.inside.sizes.items i c.self.invariant.0,
    )

pub total-requires-3 : goal.total-requires-3
total-requires-3 c =
    let i = c.args.i in
    omega (
      arith,
      ap (λ xs. sum (take (i - 64 * (i / 64)) (drop (64 * (i / 64)) xs))) c.deref-3.ensures.value,
      offset_in_groups c.self.inside.sizes.items c.self.inside.chunks.items c.self.inside.groups.items i c.self.invariant.1 c.self.invariant.2,
      front_small c.self.inside.sizes.items i c.self.invariant.0,
    )

pub overflow_add-result : goal.overflow_add-result
overflow_add-result c =
    let i = c.args.i in
    omega (
      arith,
      c.total.ensures,
      c.total-2.ensures,
      ap (λ xs. sum (take (i / 64 / 64) xs)) c.deref.ensures.value,
      ap (λ xs. sum (take (i / 64 - 64 * (i / 64 / 64)) (drop (64 * (i / 64 / 64)) xs))) c.deref-2.ensures.value,
      offset_in_groups c.self.inside.sizes.items c.self.inside.chunks.items c.self.inside.groups.items i c.self.invariant.1 c.self.invariant.2,
      front_small c.self.inside.sizes.items i c.self.invariant.0,
    )

pub overflow_add-result-2 : goal.overflow_add-result-2
overflow_add-result-2 c =
    let i = c.args.i in
    omega (
      arith,
      c.total.ensures,
      c.total-2.ensures,
      c.total-3.ensures,
      ap (λ xs. sum (take (i / 64 / 64) xs)) c.deref.ensures.value,
      ap (λ xs. sum (take (i / 64 - 64 * (i / 64 / 64)) (drop (64 * (i / 64 / 64)) xs))) c.deref-2.ensures.value,
      ap (λ xs. sum (take (i - 64 * (i / 64)) (drop (64 * (i / 64)) xs))) c.deref-3.ensures.value,
      offset_in_groups c.self.inside.sizes.items c.self.inside.chunks.items c.self.inside.groups.items i c.self.invariant.1 c.self.invariant.2,
      front_small c.self.inside.sizes.items i c.self.invariant.0,
    )

pub returns : goal.returns
returns c =
    let i = c.args.i in
    omega (
      arith,
      c.total.ensures,
      c.total-2.ensures,
      c.total-3.ensures,
      ap (λ xs. sum (take (i / 64 / 64) xs)) c.deref.ensures.value,
      ap (λ xs. sum (take (i / 64 - 64 * (i / 64 / 64)) (drop (64 * (i / 64 / 64)) xs))) c.deref-2.ensures.value,
      ap (λ xs. sum (take (i - 64 * (i / 64)) (drop (64 * (i / 64)) xs))) c.deref-3.ensures.value,
      offset_in_groups c.self.inside.sizes.items c.self.inside.chunks.items c.self.inside.groups.items i c.self.invariant.1 c.self.invariant.2,
      ap (λ xs. sum (take i xs)) c.self.view_is,
    )
