-- A span of a piece names the piece.
use Rattle.std.proofs.Common.{◌≡◌, ℕ, zero, suc, ◌+◌, ◌≤◌, List, [], ◌∷◌, length, take, drop, Some, None, refl, ap, sym, subst, ◌∙◌, arith, length-append}
use Rattle.std.specs.Prelude.{slice_get}
use Rattle.std.specs.List.{AllByRecursion, concat}
use Rattle.std.proofs.lemmas.List.{drop-drop, take_at, drop_at}
use Rattle.att_lexer.specs.declared.pieces.Span.{Span}
use Rattle.att_lexer.specs.Pieces.{spans_of}
use Rattle.asm_writer.specs.Unit.{bytes_at}

pub none_some : {A P : Type 0} → {x : A} → None ≡ Some x → P
none_some e = absurd (cc)

pub piece_at : (text : List ℕ) (at : ℕ) (p : List ℕ) (ps : List (List ℕ)) → drop at text ≡ concat (p ∷ ps) → take (length p) (drop at text) ≡ p
piece_at text at p ps here = ap (take (length p)) here ∙ take_at p (concat ps) (length p) refl

pub pieces_behind : (text : List ℕ) (at : ℕ) (p : List ℕ) (ps : List (List ℕ)) → drop at text ≡ concat (p ∷ ps) → drop (at + length p) text ≡ concat ps
pieces_behind text at p ps here = sym (drop-drop (length p) at text) ∙ ap (drop (length p)) here ∙ drop_at p (concat ps) (length p) refl

pub long_behind : (text : List ℕ) (at : ℕ) (p : List ℕ) (ps : List (List ℕ)) → at + length (concat (p ∷ ps)) ≡ length text → (at + length p) + length (concat ps) ≡ length text
long_behind text at p ps long = omega (arith, long, length-append p (concat ps))

-- the piece of a span
pub record Lies (text : List ℕ) (span : Span) (ps : List (List ℕ)) (k : ℕ) : Type 0 where
  pub piece : List ℕ
  pub found : slice_get ps k ≡ Some piece
  pub says : bytes_at text span ≡ piece
  pub within : span.start + span.len ≤ length text

pub lies : (text : List ℕ) (span : Span) (at : ℕ) (ps : List (List ℕ)) (k : ℕ) → drop at text ≡ concat ps → at + length (concat ps) ≡ length text
    → slice_get (spans_of at ps) k ≡ Some span → Lies text span ps k
lies text span at [] k here long e = none_some e
lies text span at (p ∷ ps) zero here long e =
    let is : record { start = at; len = length p } ≡ span = cc in record {
      piece = p;
      found = refl;
      says = ap (bytes_at text) (sym is) ∙ piece_at text at p ps here;
      within = omega (arith, long_behind text at p ps long, ap (λ s. s.start) is, ap (λ s. s.len) is);
    }
lies text span at (p ∷ ps) (suc k) here long e =
    let w = lies text span (at + length p) ps k (pieces_behind text at p ps here) (long_behind text at p ps long) e in
    record { piece = w.piece; found = w.found; says = w.says; within = w.within }

pub all_at : {A : Type 0} (P : A → Type 0) (xs : List A) (k : ℕ) (x : A) → AllByRecursion P xs → slice_get xs k ≡ Some x → P x
all_at P [] k x h e = none_some e
all_at P (y ∷ xs) zero x h e = let is : y ≡ x = cc in subst P is h.0
all_at P (y ∷ xs) (suc k) x h e = all_at P xs k x h.1 e
