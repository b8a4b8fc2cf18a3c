-- Entries of a text that are numbered from 1.
use Rattle.std.proofs.Common.{◌≡◌, ℕ, suc, ◌+◌, List, [], ◌∷◌, map, length, refl, ap, sym, ◌∙◌, subst, arith}
use Rattle.std.proofs.lemmas.List.{length-map}
use Rattle.att_lexer.specs.declared.pieces.Span.{Span}
use Rattle.att_lexer.specs.Pieces.{pieces, spans_of}
use Rattle.insn_ir.specs.declared.entry.EntryKind.{EntryKind}
use Rattle.insn_ir.specs.declared.entry.Entry.{Entry}
use Rattle.insn_ir.specs.Entries.{kinds_of}
use Rattle.asm_unit.specs.Held as Held
use Rattle.mao_core.specs.Entries.{numbered, kinds_of_text, entries_of}

pub are_numbered_from : (n m : ℕ) (ks : List EntryKind) → m ≡ suc n → Held.AreNumbered n (numbered m ks)
are_numbered_from n m [] e = tt
are_numbered_from n m (k ∷ ks) e = (e, are_numbered_from (suc n) (m + 1) ks (omega (arith, e)))

pub text_numbered : (text : List ℕ) → Held.AreNumbered 0 (entries_of text)
text_numbered text = are_numbered_from 0 1 (kinds_of_text text) refl

pub are_numbered : (text : List ℕ) (es : List Entry) → es ≡ entries_of text → Held.AreNumbered 0 es
are_numbered text es e = subst (Held.AreNumbered 0) (sym e) (text_numbered text)

pub kinds_numbered : (n : ℕ) (ks : List EntryKind) → kinds_of (numbered n ks) ≡ ks
kinds_numbered n [] = refl
kinds_numbered n (k ∷ ks) = ap (λ l. k ∷ l) (kinds_numbered (n + 1) ks)

pub length_spans : (at : ℕ) (ps : List (List ℕ)) → length (spans_of at ps) ≡ length ps
length_spans at [] = refl
length_spans at (p ∷ ps) = ap suc (length_spans (at + length p) ps)

length_numbered : (n : ℕ) (ks : List EntryKind) → length (numbered n ks) ≡ length ks
length_numbered n [] = refl
length_numbered n (k ∷ ks) = ap suc (length_numbered (n + 1) ks)

-- there is an entry for each piece
pub length_of_entries : (text : List ℕ) → length (entries_of text) ≡ length (pieces text)
length_of_entries text = length_numbered 1 (kinds_of_text text) ∙ length-map (pieces text) _

pub as_many : (text : List ℕ) (spans : List Span) (es : List Entry) → spans ≡ spans_of 0 (pieces text) → es ≡ entries_of text → length spans ≡ length es
as_many text spans es cut e = ap length cut ∙ length_spans 0 (pieces text) ∙ sym (length_of_entries text) ∙ ap length (sym e)
