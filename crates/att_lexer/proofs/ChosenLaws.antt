-- Pieces of a text, some of them left out, are the pieces of what they make together.
use Rattle.std.proofs.Common.{◌≡◌, ℕ, ◌+◌, ◌<◌, Bool, true, false, cond, List, [], ◌∷◌, length}
use Rattle.std.specs.List.{concat}
use Rattle.att_lexer.specs.Scan.{at_start}
use Rattle.att_lexer.specs.Pieces.{pieces}
use Rattle.att_lexer.specs.Chosen.{chosen}
use Rattle.att_lexer.proofs.PiecesLaws.{PiecesFrom, NoneFrom, ends_from, pieces_are, only}

-- an ended piece in front of pieces
in_front : (p : List ℕ) (qs : List (List ℕ)) → 0 < length p → NoneFrom at_start p → ends_from at_start p ≡ true → PiecesFrom at_start qs → PiecesFrom at_start (p ∷ qs)
in_front p [] some none ended h = (some, none)
in_front p (q ∷ qs) some none ended h = (some, none, ended, h)

-- a last piece, kept or not
last_kept : (p : List ℕ) (b : Bool) → PiecesFrom at_start (p ∷ []) → PiecesFrom at_start (cond b (p ∷ []) [])
last_kept p true h = h
last_kept p false h = tt

kept_or_not : (p : List ℕ) (qs : List (List ℕ)) (b : Bool) → 0 < length p → NoneFrom at_start p → ends_from at_start p ≡ true → PiecesFrom at_start qs → PiecesFrom at_start (cond b (p ∷ qs) qs)
kept_or_not p qs true some none ended h = in_front p qs some none ended h
kept_or_not p qs false some none ended h = h

some_from : (keep : ℕ → Bool) (n : ℕ) (ps : List (List ℕ)) → PiecesFrom at_start ps → PiecesFrom at_start (chosen keep n ps)
some_from keep n [] h = tt
some_from keep n (p ∷ []) h = last_kept p (keep n) h
some_from keep n (p ∷ q ∷ qs) h = kept_or_not p (chosen keep (n + 1) (q ∷ qs)) (keep n) h.0 h.1 h.2 (some_from keep (n + 1) (q ∷ qs) h.3)

-- pieces that are left are cut again as they were
pub chosen_pieces : (keep : ℕ → Bool) (text : List ℕ) → pieces (concat (chosen keep 1 (pieces text))) ≡ chosen keep 1 (pieces text)
chosen_pieces keep text = only at_start (chosen keep 1 (pieces text)) (some_from keep 1 (pieces text) (pieces_are at_start text))
