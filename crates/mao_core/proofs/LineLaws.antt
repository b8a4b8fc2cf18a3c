-- Newlines of pieces: a piece has one at its end, or none.
use Rattle.std.proofs.Common.{◌≡◌, ℕ, zero, suc, ◌+◌, ◌-◌, ◌<◌, ◌==◌, cond, List, [], ◌∷◌, ◌++◌, map, length, take, Some, None, inl, refl, sym, ap, ◌∙◌, subst, arith, append_assoc, length-append, zero-add}
use Rattle.std.specs.Prelude.{slice_get, count_by, slice_index_or}
use Rattle.std.specs.List.{fold, AllByRecursion}
use Rattle.std.proofs.lemmas.Bool.{ne_eqb}
use Rattle.att_lexer.specs.declared.pieces.Span.{Span}
use Rattle.att_lexer.specs.Pieces.{NoneEarlier, pieces, spans_of}
use Rattle.att_lexer.proofs.PiecesLaws.{are_pieces}
use Rattle.asm_writer.specs.Unit.{bytes_at}
use Rattle.mao_core.proofs.KeptLaws.{pieces_read}

-- newlines are counted on from a number
abbrev counted : ℕ → List ℕ → ℕ
counted n p = fold (λ a b. a + cond (b == 10) 1 0) n p

none_is_not : {A : Type 0} (x : A) → None ≡ Some x → ⊥
none_is_not x e = cc

take_front : (front rest : List ℕ) (b : ℕ) → take (length front + 1) (front ++ b ∷ rest) ≡ front ++ b ∷ []
take_front [] rest b = refl
take_front (f ∷ front) rest b =
    let more : suc (length front) + 1 ≡ suc (length front + 1) = omega arith in
    ap (λ n. take n (f ∷ front ++ b ∷ rest)) more ∙ ap (λ xs. f ∷ xs) (take_front front rest b)

-- a byte that others follow is no newline
is_none : (front rest : List ℕ) (b c : ℕ) → NoneEarlier (front ++ b ∷ c ∷ rest) → b ≡ 10 → ⊥
is_none front rest b c h e =
    h (length front + 1) (omega (arith, length-append front (b ∷ c ∷ rest))) (front, b, take_front front (c ∷ rest) b, inl e)

counted_from : (n : ℕ) (front p : List ℕ) (b : ℕ) → NoneEarlier (front ++ p) → slice_get p (length p - 1) ≡ Some b → counted n p ≡ n + cond (b == 10) 1 0
counted_from n front [] b h e = absurd (none_is_not b e)
counted_from n front (x ∷ []) b h e =
    let same : x ≡ b = cc in
    ap (λ y. n + cond (y == 10) 1 0) same
counted_from n front (x ∷ y ∷ ys) b h e =
    let rest : NoneEarlier ((front ++ x ∷ []) ++ (y ∷ ys)) = subst NoneEarlier (sym (append_assoc front (x ∷ []) (y ∷ ys))) h in
    let back : suc (suc (length ys)) - 1 ≡ suc (length ys) = omega arith in
    let less : suc (length ys) - 1 ≡ length ys = omega arith in
    let last : slice_get (y ∷ ys) (suc (length ys) - 1) ≡ Some b =
    ap (slice_get (y ∷ ys)) less ∙ sym (ap (slice_get (x ∷ y ∷ ys)) back) ∙ e
    in
    let same : n + 0 ≡ n = omega arith in
    ap (λ t. counted (n + cond t 1 0) (y ∷ ys)) (ne_eqb x 10 (is_none front ys x y h))
    ∙ ap (λ m. counted m (y ∷ ys)) same
    ∙ counted_from n (front ++ x ∷ []) (y ∷ ys) b rest last

pub newlines_are : (p : List ℕ) (b : ℕ) → NoneEarlier p → slice_get p (length p - 1) ≡ Some b → count_by (λ x. x == 10) p ≡ cond (b == 10) 1 0
newlines_are p b h e = counted_from 0 [] p b h e ∙ zero-add (cond (b == 10) 1 0)

at_place : {A : Type 0} (P : List ℕ → Type 0) (f : A → List ℕ) (xs : List A) (i : ℕ) (d : A) → AllByRecursion P (map f xs) → i < length xs → P (f (slice_index_or xs i d))
at_place P f [] i d a l = absurd (omega (arith, l))
at_place P f (x ∷ xs) zero d a l = a.0
at_place P f (x ∷ xs) (suc i) d a l = at_place P f xs i d a.1 (omega (arith, l))

-- no piece of a text has an end before its own
pub none_earlier_at : (text : List ℕ) (spans : List Span) (i : ℕ) (d : Span) → spans ≡ spans_of 0 (pieces text) → i < length spans → NoneEarlier (bytes_at text (slice_index_or spans i d))
none_earlier_at text spans i d cut l =
    at_place NoneEarlier (bytes_at text) spans i d (subst (AllByRecursion NoneEarlier) (sym (pieces_read text spans cut)) (are_pieces text).earliest) l
