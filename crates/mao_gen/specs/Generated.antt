-- The text of n functions.
use Rattle.std.specs.Prelude.{ℕ, zero, suc, ◌+◌, List, [], ◌∷◌, codes, ◌++◌}
use Rattle.mao_gen.specs.declared.shape.Shape.{Shape}
use Rattle.mao_gen.specs.Shapes.{drawn, words_of}
use Rattle.mao_gen.specs.Functions.{function_text}

-- functions of these shapes, numbered from k on
unfoldable pub functions_from : ℕ → List Shape → List ℕ
functions_from k [] = []
functions_from k (shape ∷ shapes) = function_text k shape ++ functions_from (k + 1) shapes

-- no functions have an empty text
unfoldable pub generated : ℕ → List ℕ
generated zero = []
generated (suc n) = codes "\t.text\n" ++ functions_from 0 (drawn (suc n) (words_of (suc n)))
