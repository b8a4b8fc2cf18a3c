-- The pieces of a text by their spans.
use Rattle.std.proofs.Common.{◌≡◌, ℕ, ◌+◌, ◌<◌, ◌≤◌, List, [], ◌∷◌, length, take, drop, map, refl, ap, sym, subst, ◌∙◌, slice_index_or, zero, suc, arith, length-append}
use Rattle.std.proofs.lemmas.List.{drop-drop, take_at, drop_at}
use Rattle.std.specs.List.{concat}
use Rattle.att_lexer.specs.declared.pieces.Span.{Span}
use Rattle.att_lexer.specs.Pieces.{pieces, spans_of}
use Rattle.att_lexer.proofs.PiecesLaws.{are_pieces}
use Rattle.asm_writer.specs.Unit.{bytes_at}
use Rattle.mao_core.specs.Pieces.{LieWithin}

-- the spans of pieces name the pieces
pub spans_read : (text : List ℕ) (at : ℕ) (ps : List (List ℕ)) → drop at text ≡ concat ps → map (bytes_at text) (spans_of at ps) ≡ ps
spans_read text at [] here = refl
spans_read text at (p ∷ ps) here =
    ap (λ l. l ∷ map (bytes_at text) (spans_of (at + length p) ps)) (ap (take (length p)) here ∙ take_at p (concat ps) (length p) refl)
    ∙ ap (λ l. p ∷ l) (spans_read text (at + length p) ps (sym (drop-drop (length p) at text) ∙ ap (drop (length p)) here ∙ drop_at p (concat ps) (length p) refl))

pub pieces_read : (text : List ℕ) (spans : List Span) → spans ≡ spans_of 0 (pieces text) → map (bytes_at text) spans ≡ pieces text
pieces_read text spans cut = ap (map (bytes_at text)) cut ∙ spans_read text 0 (pieces text) (sym (are_pieces text).whole)

-- spans lie within the text that they cut
lies : (text : List ℕ) (at : ℕ) (ps : List (List ℕ)) → at + length (concat ps) ≡ length text → (k : ℕ) (d : Span) → k < length (spans_of at ps) → (slice_index_or (spans_of at ps) k d).start + (slice_index_or (spans_of at ps) k d).len ≤ length text
lies text at [] e k d lt = absurd (omega (arith, lt))
lies text at (p ∷ ps) e zero d lt = omega (arith, e, length-append p (concat ps))
lies text at (p ∷ ps) e (suc k) d lt = lies text (at + length p) ps (omega (arith, e, length-append p (concat ps))) k d (omega (arith, lt))

pub spans_lie : (text : List ℕ) (spans : List Span) → spans ≡ spans_of 0 (pieces text) → LieWithin text spans
spans_lie text spans cut = subst (LieWithin text) (sym cut) (lies text 0 (pieces text) (omega (arith, ap length (are_pieces text).whole)))
