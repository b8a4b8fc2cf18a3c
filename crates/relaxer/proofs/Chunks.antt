-- The sums of chunks.
use Rattle.std.proofs.Common.{◌≡◌, ◌++◌, ◌<◌, ◌≤◌, ◌+◌, ◌-◌, ◌*◌, ◌/◌, ◌^◌, ℕ, List, [], ◌∷◌, length, take, drop, get_or, min, inl, inr, arith, ap, ◌∙◌, sym}
use Rattle.std.specs.Prelude.{sum}
use Rattle.std.proofs.Math.ListN.{set}
use Rattle.std.proofs.lemmas.List.{take_all, length-set, drop-drop, drop_min, take-append-le, length-append}
use Rattle.std.proofs.lemmas.List.Elements.{All-set}
use Rattle.std.proofs.lemmas.List.Sums.{sum_by_more, sum_by_push, sum_by-take-le}
use Rattle.std.proofs.lemmas.Bool.Decides.{leb_tells}
use Rattle.std.proofs.lemmas.Grind.{get_or_default_zero}
use Rattle.relaxer.specs.Sizes.{AreSizes}
use Rattle.relaxer.specs.Chunks.{HasSums, HasSmallChunks}
use Rattle.relaxer.proofs.Fronts.{sum_take_add, sum_take_le, sum_part_le, sum_small, sum_take_changed, sum_take_kept}

-- the sum at q is that of chunk q
pub sum_at : (sizes sums : List ℕ) (q : ℕ) → HasSums sizes sums → q < length sums
    → sum (take (64 * q) sizes) + get_or sums q 0 ≡ sum (take (64 * q + 64) sizes)
sum_at sizes sums q has there =
    let later : 64 * (q + 1) ≡ 64 * q + 64 = omega arith in
    omega (arith, has.fronts q, has.fronts (q + 1), ap (λ n. sum (take n sizes)) later, sum_by_more (λ x. x) sums q 0 there)

-- it is at least each size of the chunk, and at most 64 times 4,095
pub size_within : (sizes sums : List ℕ) (q i : ℕ) → HasSums sizes sums → q < length sums → 64 * q ≤ i → i < 64 * q + 64 → i < length sizes
    → get_or sizes i 0 ≤ get_or sums q 0
size_within sizes sums q i has chunk low high there =
    omega (
      arith,
      sum_at sizes sums q has chunk,
      sum_take_le (64 * q) i sizes low,
      sum_take_le (i + 1) (64 * q + 64) sizes (omega arith),
      sum_by_more (λ x. x) sizes i 0 there,
    )

pub sum_at_small : (numbers sums : List ℕ) (q : ℕ) → HasSmallChunks numbers → HasSums numbers sums → q < length sums → get_or sums q 0 ≤ 4096 * 4095
sum_at_small numbers sums q small has chunk =
    omega (arith, sum_at numbers sums q has chunk, sum_take_add (64 * q) 64 numbers, small (64 * q))

-- chunks of sizes, and chunks of their sums
pub sizes_in_chunks : (sizes : List ℕ) → AreSizes sizes → HasSmallChunks sizes
sizes_in_chunks sizes are n = omega (arith, sum_part_le n 64 sizes are.small)

pub sums_in_chunks : (sizes sums : List ℕ) → AreSizes sizes → HasSums sizes sums → HasSmallChunks sums
sums_in_chunks sizes sums are has n =
    let wide : 64 * (n + 64) ≡ 64 * n + 4096 = omega arith in
    omega (
      arith,
      sum_take_add n 64 sums,
      has.fronts n,
      has.fronts (n + 64),
      ap (λ m. sum (take m sizes)) wide,
      sum_take_add (64 * n) 4096 sizes,
      sum_part_le (64 * n) 4096 sizes are.small,
    )

pub sizes_changed : (sizes : List ℕ) (i v : ℕ) → AreSizes sizes → v ≤ 4095 → AreSizes (set sizes i v)
sizes_changed sizes i v are small =
    record {
      few = omega (arith, length-set sizes i v, are.few);
      small = All-set (λ size. size ≤ 4095) sizes i v small are.small;
    }

-- what is read at size i: a size, the sum of its chunk and that of its group
pub record Held (sizes chunks groups : List ℕ) (i : ℕ) : Type 0 where
  pub there : i < length sizes
  pub chunk_there : i / 64 < length chunks
  pub size : (x : ℕ) → x ≡ get_or sizes i x → x ≡ get_or sizes i 0
  pub chunk : (x : ℕ) → x ≡ get_or chunks (i / 64) x → x ≡ get_or chunks (i / 64) 0
  pub group : (x : ℕ) → x ≡ get_or groups (i / 64 / 64) x → x ≡ get_or groups (i / 64 / 64) 0
  pub size_within : get_or sizes i 0 ≤ get_or chunks (i / 64) 0
  pub chunk_within : get_or chunks (i / 64) 0 ≤ get_or groups (i / 64 / 64) 0
  pub group_small : get_or groups (i / 64 / 64) 0 ≤ 4096 * 4095

pub held_at : (sizes chunks groups : List ℕ) (i : ℕ) → AreSizes sizes → HasSums sizes chunks → HasSums chunks groups → i < length sizes
    → Held sizes chunks groups i
held_at sizes chunks groups i are has above there =
    let chunk_there : i / 64 < length chunks = omega (arith, has.all) in
    let group_there : i / 64 / 64 < length groups = omega (arith, above.all) in
    record {
      there = there;
      chunk_there = chunk_there;
      size = λ x e. e ∙ get_or_default_zero sizes i x there;
      chunk = λ x e. e ∙ get_or_default_zero chunks (i / 64) x chunk_there;
      group = λ x e. e ∙ get_or_default_zero groups (i / 64 / 64) x group_there;
      size_within = size_within sizes chunks (i / 64) i has chunk_there (omega arith) (omega arith) there;
      chunk_within = size_within chunks groups (i / 64 / 64) (i / 64) above group_there (omega arith) (omega arith) chunk_there;
      group_small = sum_at_small chunks groups (i / 64 / 64) (sums_in_chunks sizes chunks are has) above group_there;
    }

-- the sums after a change of one number
pub sums_changed : (numbers sums : List ℕ) (i v sum_v : ℕ) → HasSums numbers sums → i < length numbers
    → sum_v + get_or numbers i 0 ≡ get_or sums (i / 64) 0 + v → HasSums (set numbers i v) (set sums (i / 64) sum_v)
sums_changed numbers sums i v sum_v has there change =
    let chunk : i / 64 < length sums = omega (arith, has.all) in
    record {
      fronts = λ j. elim (leb_tells j (i / 64)) [
        | inl before ↦
            (let ends_before : 64 * j ≤ i = omega (arith, before.1) in
            omega (arith, has.fronts j, sum_take_kept sums (i / 64) j sum_v before.1, sum_take_kept numbers i (64 * j) v ends_before))
        | inr behind ↦
            (let ends_behind : i < 64 * j = omega (arith, behind.1) in
            omega (
              arith,
              has.fronts j,
              sum_take_changed sums (i / 64) j sum_v behind.1 chunk,
              sum_take_changed numbers i (64 * j) v ends_behind there,
              change,
            ))
      ];
      all = omega (arith, has.all, length-set numbers i v, length-set sums (i / 64) sum_v);
    }

-- a front of sizes is whole chunks and a part of one
pub offset_parts : (sizes sums : List ℕ) (i : ℕ) → HasSums sizes sums
    → sum (take (i / 64) sums) + sum (take (i - 64 * (i / 64)) (drop (64 * (i / 64)) sizes)) ≡ sum (take i sizes)
offset_parts sizes sums i has =
    let whole : 64 * (i / 64) + (i - 64 * (i / 64)) ≡ i = omega arith in
    omega (arith, has.fronts (i / 64), sum_take_add (64 * (i / 64)) (i - 64 * (i / 64)) sizes, ap (λ n. sum (take n sizes)) whole)

pub front_small : (sizes : List ℕ) (i : ℕ) → AreSizes sizes → sum (take i sizes) < 2 ^ 44
front_small sizes i are = omega (arith, sum_by-take-le (λ x. x) sizes i, sum_small sizes are)

-- whole groups, whole chunks and a part of one
pub offset_in_groups : (sizes chunks groups : List ℕ) (i : ℕ) → HasSums sizes chunks → HasSums chunks groups
    → sum (take (i / 64 / 64) groups) + sum (take (i / 64 - 64 * (i / 64 / 64)) (drop (64 * (i / 64 / 64)) chunks))
    + sum (take (i - 64 * (i / 64)) (drop (64 * (i / 64)) sizes)) ≡ sum (take i sizes)
offset_in_groups sizes chunks groups i has above =
    omega (arith, offset_parts sizes chunks i has, offset_parts chunks groups (i / 64) above)

-- one chunk more
pub next_rest : (sizes rest : List ℕ) (k : ℕ) → rest ≡ drop (64 * k) sizes → drop (min 64 (length rest)) rest ≡ drop (64 * (k + 1)) sizes
next_rest sizes rest k is_rest =
    let later : 64 * (k + 1) ≡ 64 * k + 64 = omega arith in
    drop_min 64 rest ∙ ap (drop 64) is_rest ∙ drop-drop 64 (64 * k) sizes ∙ ap (λ n. drop n sizes) (sym later)

pub next_front : (sizes sums : List ℕ) (chunk : ℕ)
    → ((j : ℕ) → j ≤ length sums → sum (take j sums) ≡ sum (take (64 * j) sizes))
    → chunk ≡ sum (take 64 (drop (64 * length sums) sizes))
    → (j : ℕ) → j ≤ length sums + 1 → sum (take j (sums ++ chunk ∷ [])) ≡ sum (take (64 * j) sizes)
next_front sizes sums chunk fronts is_chunk j within =
    elim (leb_tells j (length sums)) [
      | inl before ↦ ap sum (take-append-le j sums (chunk ∷ []) before.1) ∙ fronts j before.1
      | inr behind ↦
          (let last : j ≡ length sums + 1 = omega (arith, behind.1) in
          let every : take j (sums ++ chunk ∷ []) ≡ sums ++ chunk ∷ [] = take_all j (sums ++ chunk ∷ []) (omega (arith, length-append sums (chunk ∷ []))) in
          let so_far : sum (take (length sums) sums) ≡ sum sums = ap sum (take_all (length sums) sums (omega arith)) in
          let wide : 64 * j ≡ 64 * length sums + 64 = omega (arith, last) in
          omega (
            arith,
            ap sum every,
            sum_by_push (λ x. x) sums chunk,
            so_far,
            fronts (length sums) (omega arith),
            is_chunk,
            sum_take_add (64 * length sums) 64 sizes,
            ap (λ n. sum (take n sizes)) wide,
          ))
    ]

-- with no size left all fronts are there
pub all_fronts : (sizes sums : List ℕ)
    → ((j : ℕ) → j ≤ length sums → sum (take j sums) ≡ sum (take (64 * j) sizes))
    → length sizes ≤ 64 * length sums → HasSums sizes sums
all_fronts sizes sums fronts every =
    record {
      fronts = λ j. elim (leb_tells j (length sums)) [
        | inl before ↦ fronts j before.1
        | inr behind ↦
            (let sums_all : sum (take j sums) ≡ sum (take (length sums) sums) = ap sum (take_all j sums (omega (arith, behind.1)) ∙ sym (take_all (length sums) sums (omega arith))) in
            let sizes_all : sum (take (64 * j) sizes) ≡ sum (take (64 * length sums) sizes) =
            ap sum (take_all (64 * j) sizes (omega (arith, behind.1, every)) ∙ sym (take_all (64 * length sums) sizes every)) in
            omega (arith, sums_all, sizes_all, fronts (length sums) (omega arith)))
      ];
      all = every;
    }
