use Rattle.std.proofs.Common.{ap, arith, take, drop}
use Rattle.std.specs.Prelude.{sum}
use Rattle.relaxer.proofs.Chunks.{sizes_in_chunks, sums_in_chunks}
use Rattle.relaxer.proofs.offsets.Offsets.build.Goals as goal

pub chunk_sums-requires : goal.chunk_sums-requires
chunk_sums-requires c = sizes_in_chunks c.args.sizes.now c.requires

pub chunk_sums-requires-2 : goal.chunk_sums-requires-2
chunk_sums-requires-2 c n =
    omega (
      arith,
      ap (λ xs. sum (take 64 (drop n xs))) c.as_slice.ensures.value,
      sums_in_chunks c.args.sizes.now c.in_ok-chunks.chunks.items c.requires c.in_ok-chunks.ensures n,
    )
