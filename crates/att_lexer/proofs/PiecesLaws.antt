-- The function gives the pieces of a text, and a text has no others.
use Rattle.std.proofs.Common.{◌≡◌, ℕ, zero, suc, ◌<◌, Bool, true, false, List, [], ◌∷◌, ◌++◌, length, take, refl, ap, sym, ◌∙◌, ⊎_elim, arith, append-nil, lit<}
use Rattle.std.specs.Prelude.{⊤}
use Rattle.std.specs.List.{fold, AllByRecursion, concat}
use Rattle.std.proofs.lemmas.Bool.{cases_Bool, false≢true, false_from_ne_true}
use Rattle.att_lexer.specs.Scan.{at_start, after, ends, Scan}
use Rattle.att_lexer.specs.Pieces.{IsEnded, AllButLast, NoneEarlier, ArePieces, onto_first, pieces_from, pieces}
use Rattle.att_lexer.proofs.Cutting.{pieces_from-ends, pieces_from-goes, pieces_from-nil}
use Rattle.att_lexer.proofs.ScanLaws.{ends_tells, ends_since}

-- whether the last byte is an end, behind what was scanned
abbrev pub ends_from : Scan → List ℕ → Bool
ends_from s [] = false
ends_from s (b ∷ []) = ends s b
ends_from s (b ∷ c ∷ bs) = ends_from (after s b) (c ∷ bs)

-- no byte but the last is one
abbrev pub NoneFrom : Scan → List ℕ → Type 0
NoneFrom s [] = ⊤
NoneFrom s (b ∷ []) = ⊤
NoneFrom s (b ∷ c ∷ bs) = (ends s b ≡ false) × NoneFrom (after s b) (c ∷ bs)

-- pieces, the first of them from a place within it on
abbrev pub PiecesFrom : Scan → List (List ℕ) → Type 0
PiecesFrom s [] = ⊤
PiecesFrom s (p ∷ []) = (0 < length p) × NoneFrom s p
PiecesFrom s (p ∷ q ∷ qs) = (0 < length p) × NoneFrom s p × (ends_from s p ≡ true) × PiecesFrom at_start (q ∷ qs)

concat_onto : (b : ℕ) (ps : List (List ℕ)) → concat (onto_first b ps) ≡ b ∷ concat ps
concat_onto b [] = refl
concat_onto b (p ∷ ps) = refl

ended_first : (s : Scan) (b : ℕ) → ends s b ≡ true → (ps : List (List ℕ)) → PiecesFrom at_start ps → PiecesFrom s ((b ∷ []) ∷ ps)
ended_first s b e [] h = (lit< tt, tt)
ended_first s b e (p ∷ ps) h = (lit< tt, tt, e, h)

onto_more : (s : Scan) (b : ℕ) → ends s b ≡ false → (ps : List (List ℕ)) → PiecesFrom (after s b) ps → PiecesFrom s (onto_first b ps)
onto_more s b e [] h = (lit< tt, tt)
onto_more s b e ([] ∷ []) h = absurd (omega (arith, h.0))
onto_more s b e ((c ∷ cs) ∷ []) h = (omega arith, (e, h.1))
onto_more s b e ([] ∷ q ∷ qs) h = absurd (omega (arith, h.0))
onto_more s b e ((c ∷ cs) ∷ q ∷ qs) h = (omega arith, (e, h.1), h.2, h.3)

concat_pieces : (s : Scan) (bs : List ℕ) → concat (pieces_from s bs) ≡ bs
concat_pieces s [] = ap concat (pieces_from-nil s)
concat_pieces s (b ∷ bs) =
    ⊎_elim
    (λ e. ap concat (pieces_from-ends s b bs e) ∙ ap (λ l. b ∷ l) (concat_pieces at_start bs))
    (λ e. ap concat (pieces_from-goes s b bs e) ∙ concat_onto b (pieces_from (after s b) bs) ∙ ap (λ l. b ∷ l) (concat_pieces (after s b) bs))
    (cases_Bool (ends s b))

pub pieces_are : (s : Scan) (bs : List ℕ) → PiecesFrom s (pieces_from s bs)
pieces_are s [] = rw (pieces_from-nil s) tt
pieces_are s (b ∷ bs) =
    ⊎_elim
    (λ e. rw (pieces_from-ends s b bs e) (ended_first s b e (pieces_from at_start bs) (pieces_are at_start bs)))
    (λ e. rw (pieces_from-goes s b bs e) (onto_more s b e (pieces_from (after s b) bs) (pieces_are (after s b) bs)))
    (cases_Bool (ends s b))

-- the other way: what is cut so is what the function gives
first_is : (s : Scan) (p rest : List ℕ) → 0 < length p → NoneFrom s p → ends_from s p ≡ true → pieces_from s (p ++ rest) ≡ p ∷ pieces_from at_start rest
first_is s [] rest h none e = absurd (omega (arith, h))
first_is s (b ∷ []) rest h none e = pieces_from-ends s b rest e
first_is s (b ∷ c ∷ bs) rest h none e =
    pieces_from-goes s b (c ∷ bs ++ rest) none.0 ∙ ap (onto_first b) (first_is (after s b) (c ∷ bs) rest (omega arith) none.1 e)

last_is : (s : Scan) (p : List ℕ) → 0 < length p → NoneFrom s p → pieces_from s p ≡ p ∷ []
last_is s [] h none = absurd (omega (arith, h))
last_is s (b ∷ []) h none =
    ⊎_elim
    (λ e. pieces_from-ends s b [] e ∙ ap (λ l. (b ∷ []) ∷ l) (pieces_from-nil at_start))
    (λ e. pieces_from-goes s b [] e ∙ ap (onto_first b) (pieces_from-nil (after s b)))
    (cases_Bool (ends s b))
last_is s (b ∷ c ∷ bs) h none =
    pieces_from-goes s b (c ∷ bs) none.0 ∙ ap (onto_first b) (last_is (after s b) (c ∷ bs) (omega arith) none.1)

pub only : (s : Scan) (ps : List (List ℕ)) → PiecesFrom s ps → pieces_from s (concat ps) ≡ ps
only s [] h = pieces_from-nil s
only s (p ∷ []) h = ap (pieces_from s) (append-nil p) ∙ last_is s p h.0 h.1
only s (p ∷ q ∷ qs) h = first_is s p (concat (q ∷ qs)) h.0 h.1 h.2 ∙ ap (λ l. p ∷ l) (only at_start (q ∷ qs) h.3)

-- ended, in the words of the relation
last_byte : (s : Scan) (p : List ℕ) → ends_from s p ≡ true → (front : List ℕ) × (b : ℕ) × (p ≡ front ++ b ∷ []) × (ends (fold after s front) b ≡ true)
last_byte s [] e = absurd (false≢true e)
last_byte s (b ∷ []) e = ([], b, refl, e)
last_byte s (b ∷ c ∷ bs) e =
    let r = last_byte (after s b) (c ∷ bs) e in (b ∷ r.0, r.1, ap (λ l. b ∷ l) r.2, r.3)

ends_from_push : (s : Scan) (front : List ℕ) (b : ℕ) → ends_from s (front ++ b ∷ []) ≡ ends (fold after s front) b
ends_from_push s [] b = refl
ends_from_push s (c ∷ []) b = refl
ends_from_push s (c ∷ d ∷ ds) b = ends_from_push (after s c) (d ∷ ds) b

is_ended : (p : List ℕ) → ends_from at_start p ≡ true → IsEnded p
is_ended p e = let r = last_byte at_start p e in (r.0, r.1, r.2, ends_tells r.0 r.1 r.3)

from_ended : (p : List ℕ) → IsEnded p → ends_from at_start p ≡ true
from_ended p e = ap (ends_from at_start) e.2 ∙ (ends_from_push at_start e.0 e.1 ∙ ends_since e.0 e.1 e.3)

-- none earlier, in the words of the relation
none_at : (s : Scan) (p : List ℕ) → NoneFrom s p → (k : ℕ) → k < length p → ends_from s (take k p) ≡ false
none_at s [] none k lt = absurd (omega (arith, lt))
none_at s (b ∷ bs) none zero lt = refl
none_at s (b ∷ []) none (suc k) lt = absurd (omega (arith, lt))
none_at s (b ∷ c ∷ bs) none (suc zero) lt = none.0
none_at s (b ∷ c ∷ bs) none (suc (suc k)) lt = none_at (after s b) (c ∷ bs) none.1 (suc k) (omega (arith, lt))

none_behind : (s : Scan) (b c : ℕ) (bs : List ℕ) → ((k : ℕ) → k < length (b ∷ c ∷ bs) → ends_from s (take k (b ∷ c ∷ bs)) ≡ false) → (k : ℕ) → k < length (c ∷ bs) → ends_from (after s b) (take k (c ∷ bs)) ≡ false
none_behind s b c bs h zero lt = refl
none_behind s b c bs h (suc k) lt = h (suc (suc k)) (omega (arith, lt))

none_from : (s : Scan) (p : List ℕ) → ((k : ℕ) → k < length p → ends_from s (take k p) ≡ false) → NoneFrom s p
none_from s [] h = tt
none_from s (b ∷ []) h = tt
none_from s (b ∷ c ∷ bs) h = (h 1 (omega arith), none_from (after s b) (c ∷ bs) (none_behind s b c bs h))

none_earlier : (p : List ℕ) → NoneFrom at_start p → NoneEarlier p
none_earlier p none k lt e = false≢true (sym (none_at at_start p none k lt) ∙ from_ended (take k p) e)

from_earlier : (p : List ℕ) → NoneEarlier p → NoneFrom at_start p
from_earlier p h = none_from at_start p (λ k lt. false_from_ne_true _ (λ e. h k lt (is_ended (take k p) e)))

-- the relation from the function's reading of it, and back
all_non_empty : (ps : List (List ℕ)) → PiecesFrom at_start ps → AllByRecursion (λ p. 0 < length p) ps
all_non_empty [] h = tt
all_non_empty (p ∷ []) h = (h.0, tt)
all_non_empty (p ∷ q ∷ qs) h = (h.0, all_non_empty (q ∷ qs) h.3)

all_ended : (ps : List (List ℕ)) → PiecesFrom at_start ps → AllButLast IsEnded ps
all_ended [] h = tt
all_ended (p ∷ []) h = tt
all_ended (p ∷ q ∷ qs) h = (is_ended p h.2, all_ended (q ∷ qs) h.3)

all_earliest : (ps : List (List ℕ)) → PiecesFrom at_start ps → AllByRecursion NoneEarlier ps
all_earliest [] h = tt
all_earliest (p ∷ []) h = (none_earlier p h.1, tt)
all_earliest (p ∷ q ∷ qs) h = (none_earlier p h.1, all_earliest (q ∷ qs) h.3)

from_relation : (ps : List (List ℕ)) → AllByRecursion (λ p. 0 < length p) ps → AllButLast IsEnded ps → AllByRecursion NoneEarlier ps → PiecesFrom at_start ps
from_relation [] some ended first = tt
from_relation (p ∷ []) some ended first = (some.0, from_earlier p first.0)
from_relation (p ∷ q ∷ qs) some ended first = (some.0, from_earlier p first.0, from_ended p ended.0, from_relation (q ∷ qs) some.1 ended.1 first.1)

pub are_pieces : (text : List ℕ) → ArePieces (pieces text) text
are_pieces text =
    let h = pieces_are at_start text in
    record { whole = concat_pieces at_start text; no_empty = all_non_empty (pieces text) h; ended = all_ended (pieces text) h; earliest = all_earliest (pieces text) h }

pub only_pieces : (ps : List (List ℕ)) (text : List ℕ) → ArePieces ps text → ps ≡ pieces text
only_pieces ps text h = sym (only at_start ps (from_relation ps h.no_empty h.ended h.earliest)) ∙ ap pieces h.whole
