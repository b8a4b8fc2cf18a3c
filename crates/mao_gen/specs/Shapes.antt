-- The shapes of functions, drawn by a generator.
use Rattle.std.specs.Prelude.{ℕ, zero, suc, ◌%◌, ◌==◌, if◌then◌else◌, List, [], ◌∷◌}
use Rattle.rand_pcg.specs.Lcg.{Lcg, started, increment_of}
use Rattle.rand_pcg.specs.Pcg.{multiplier_64, pcg32}
use Rattle.mao_gen.specs.declared.shape.Shape.{Shape}
use Rattle.mao_gen.specs.declared.shape.Shape.TheVariants.{Branch, Loads, Sums, Loop}

-- a word stands for a shape by its remainder modulo 4
abbrev pub shape_of : ℕ → Shape
shape_of word = if word % 4 == 0 then Branch else (if word % 4 == 1 then Loads else (if word % 4 == 2 then Sums else Loop))

-- the shapes that the next words of a generator stand for
unfoldable pub drawn : ℕ → Lcg → List Shape
drawn zero words = []
drawn (suc n) words = shape_of (pcg32 words).0 ∷ drawn n (pcg32 words).1

-- the generator of a text of n functions: XSH RR 64/32 at state n and stream 54 (O'Neill, "PCG: A Family of Simple Fast
-- Space-Efficient Statistically Good Algorithms for Random Number Generation", 2014)
abbrev pub words_of : ℕ → Lcg
words_of n = started 64 multiplier_64 n (increment_of 64 54)
