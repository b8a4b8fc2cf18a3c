use Rattle.std.proofs.Common.{◌+◌, length, sum, take, arith, ap}
use Rattle.std.proofs.lemmas.Int.{ints}
use Rattle.relaxer.proofs.Chunks.{front_small}
use Rattle.relaxer.proofs.offsets.Offsets.displacement.Goals as goal

pub overflow_cast-result : goal.overflow_cast-result
overflow_cast-result c =
    let target = c.args.target in
    let small = front_small c.self.inside.sizes.items target c.self.invariant.0 in
    omega (arith, ints, c.offset.ensures, ap (λ xs. sum (take target xs)) c.self.view_is, small)

pub overflow_add-i : goal.overflow_add-i
overflow_add-i c =
    let few = c.self.invariant.0.few in
    omega (arith, few, ap length c.self.view_is, c.requires.from)

pub overflow_cast-result-2 : goal.overflow_cast-result-2
overflow_cast-result-2 c =
    let i = c.args.i in
    let small = front_small c.self.inside.sizes.items (i + 1) c.self.invariant.0 in
    omega (arith, ints, c.offset-2.ensures, ap (λ xs. sum (take (i + 1) xs)) c.self.view_is, small)

pub overflow_sub-result : goal.overflow_sub-result
overflow_sub-result c =
    let target = c.args.target in
    let i = c.args.i in
    let small = front_small c.self.inside.sizes.items target c.self.invariant.0 in
    let small-2 = front_small c.self.inside.sizes.items (i + 1) c.self.invariant.0 in
    omega (arith, ints, c.offset.ensures, c.offset-2.ensures, ap (λ xs. sum (take target xs)) c.self.view_is, ap (λ xs. sum (take (i + 1) xs)) c.self.view_is, small, small-2)

pub returns : goal.returns
returns c =
    let target = c.args.target in
    let i = c.args.i in
    let small = front_small c.self.inside.sizes.items target c.self.invariant.0 in
    let small-2 = front_small c.self.inside.sizes.items (i + 1) c.self.invariant.0 in
    omega (arith, ints, c.offset.ensures, c.offset-2.ensures, ap (λ xs. sum (take target xs)) c.self.view_is, ap (λ xs. sum (take (i + 1) xs)) c.self.view_is, small, small-2)
