use Rattle.std.proofs.Common.{◌≡◌, ◌∷◌, [], ◌*◌, ◌+◌, ℕ, List, length, min, take, drop, arith, ap, ◌∙◌, sym}
use Rattle.std.specs.Prelude.{sum}
use Rattle.std.proofs.lemmas.Bool.{eqb-true}
use Rattle.std.proofs.lemmas.List.{take_min, length-drop, length-append}
use Rattle.relaxer.proofs.Chunks.{next_rest, next_front, all_fronts}
use Rattle.relaxer.proofs.offsets.chunk_sums.Goals as goal

-- the part that was split off is the next chunk
next_chunk : (numbers rest part : List ℕ) (k n : ℕ) → part ≡ take n rest → n ≡ min 64 (length rest) → rest ≡ drop (64 * k) numbers
    → part ≡ take 64 (drop (64 * k) numbers)
next_chunk numbers rest part k n split least is_rest =
    split ∙ ap (λ m. take m rest) least ∙ take_min 64 rest ∙ ap (take 64) is_rest

pub total-requires : goal.total-requires
total-requires c =
    let numbers = c.args.numbers.now in
    let k = length c.loop-rest.sums.items in
    let chunk = next_chunk numbers c.loop-rest.rest.now c.split_at.result.0.now k c.min.result c.split_at.ensures.front c.min.ensures c.loop-rest.invariant.rest in
    omega (arith, ap sum chunk, c.requires (64 * k))

pub overflow_cast-total : goal.overflow_cast-total
overflow_cast-total c =
    let numbers = c.args.numbers.now in
    let k = length c.loop-rest.sums.items in
    let chunk = next_chunk numbers c.loop-rest.rest.now c.split_at.result.0.now k c.min.result c.split_at.ensures.front c.min.ensures c.loop-rest.invariant.rest in
    omega (arith, c.total.ensures, ap sum chunk, c.requires (64 * k))

pub loop-rest-preserved : goal.loop-rest-preserved
loop-rest-preserved c =
    let numbers = c.args.numbers.now in
    let sums = c.loop-rest.sums.items in
    let rest = c.loop-rest.rest.now in
    let chunk = next_chunk numbers rest c.split_at.result.0.now (length sums) c.min.result c.split_at.ensures.front c.min.ensures c.loop-rest.invariant.rest in
    let items = c.in_ok-push.ensures.items in
    let longer : length c.push.new.self.items ≡ length sums + 1 = omega (arith, ap length items, length-append sums (c.total.result ∷ [])) in
    record {
      rest = c.split_at.ensures.back ∙ ap (λ n. drop n rest) c.min.ensures ∙ next_rest numbers rest (length sums) c.loop-rest.invariant.rest
          ∙ ap (λ n. drop (64 * n) numbers) (sym longer);
      fronts = λ j within. ap (λ xs. sum (take j xs)) items
          ∙ next_front numbers sums c.total.result c.loop-rest.invariant.fronts (c.total.ensures ∙ ap sum chunk) j (omega (arith, within, longer));
    }

pub returns : goal.returns
returns c =
    let numbers = c.args.numbers.now in
    let sums = c.loop-rest.sums.items in
    let none : length c.loop-rest.rest.now ≡ 0 = eqb-true (length c.loop-rest.rest.now) 0 (sym c.is_empty.ensures ∙ c.loop-rest-test.false) in
    all_fronts numbers sums c.loop-rest.invariant.fronts
    (omega (arith, none, ap length c.loop-rest.invariant.rest, length-drop (64 * length sums) numbers))
