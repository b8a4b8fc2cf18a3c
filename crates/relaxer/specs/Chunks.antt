-- The sums of chunks of 64 numbers.
use Rattle.std.specs.Prelude.{ℕ, ◌≡◌, ◌*◌, ◌≤◌, List, length, sum, take, drop}

-- each front of the sums is the sum of the numbers of so many chunks, and the chunks hold all numbers
pub record HasSums (numbers sums : List ℕ) : Type 0 where
  pub fronts : (chunks : ℕ) → sum (take chunks sums) ≡ sum (take (64 * chunks) numbers)
  pub all : length numbers ≤ 64 * length sums

-- 64 numbers in a row are never more than 4,096 sizes are
abbrev pub HasSmallChunks : List ℕ → Type 0
HasSmallChunks numbers = (n : ℕ) → sum (take 64 (drop n numbers)) ≤ 4096 * 4095
