use Rattle.std.proofs.Common.{ℕ, List, leb, cond, bit_and, refl, arith}
use Rattle.std.proofs.lemmas.Simd.{zip2_splat, zip2_of_maps, splat_is_map}
use Rattle.att_lexer.specs.Bytes.{is_letter, is_digit, is_symbol_byte, is_no_symbol_byte}
use Rattle.att_lexer.proofs.Vectors.{tested}
use Rattle.att_lexer.proofs.lanes.breaks.Goals as goal

pub returns : goal.returns
unfolding is_letter is_digit is_symbol_byte
returns c =
    let v : List ℕ = c.args.v in
    let long = c.fits-v.0 in
    tested _ is_no_symbol_byte v _ (omega arith) c.fits-v.1 refl
    (zip2_of_maps bit_and _ _ v
    (zip2_of_maps bit_and _ _ v
    (zip2_of_maps bit_and _ _ v
    (zip2_of_maps bit_and _ _ v
    (zip2_of_maps bit_and _ _ v
    (zip2_of_maps (λ a b. cond (leb a b) 255 0) _ _ v (splat_is_map v 16 26 long) (zip2_of_maps _ _ _ v (zip2_splat {Y = ℕ} _ v 16 32 long) (splat_is_map v 16 97 long)))
    (zip2_of_maps (λ a b. cond (leb a b) 255 0) _ _ v (splat_is_map v 16 10 long) (zip2_splat {Y = ℕ} _ v 16 48 long)))
    (zip2_splat {Y = ℕ} _ v 16 95 long))
    (zip2_splat {Y = ℕ} _ v 16 46 long))
    (zip2_splat {Y = ℕ} _ v 16 36 long))
    (zip2_splat {Y = ℕ} _ v 16 128 long))
