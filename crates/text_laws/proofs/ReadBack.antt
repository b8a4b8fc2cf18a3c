-- The text of edited entries, read again, and what may be written.
use Rattle.std.proofs.Common.{◌≡◌, ℕ, ◌+◌, ◌<◌, List, [], ◌∷◌, ◌++◌, map, length, Option, Some, None, refl, ap, sym, subst, ◌∙◌, arith}
use Rattle.std.specs.Prelude.{slice_get}
use Rattle.std.specs.List.{AllByRecursion, concat}
use Rattle.insn_ir.specs.declared.entry.EntryKind.{EntryKind}
use Rattle.att_lexer.specs.declared.pieces.Span.{Span}
use Rattle.att_lexer.specs.Pieces.{NoneEarlier, ArePieces, pieces}
use Rattle.att_lexer.proofs.PiecesLaws.{are_pieces, only_pieces}
use Rattle.att_grammar.specs.Entries.{kind_of_piece}
use Rattle.asm_unit.specs.declared.held.Held.{Held}
use Rattle.asm_writer.specs.Unit.{entry_text, unit_text, IsWritable, AreWritable}
use Rattle.text_laws.specs.Edited.{IsPieceOf, ComesOf, written, IsEditOf}
use Rattle.text_laws.proofs.Lines.{IsReadAs, new_reads, new_profile}
use Rattle.text_laws.proofs.Lies.{Lies, lies, all_at}

abbrev AllCome : List ℕ → List Held → Type 0
AllCome text hs = AllByRecursion (λ h. ComesOf text h.entry.kind h.span) hs

of_piece : (text : List ℕ) (k : EntryKind) (span : Span) (h : IsPieceOf text k span) → Lies text span (pieces text) h.place
of_piece text k span h =
    let long : 0 + length (concat (pieces text)) ≡ length text = omega (arith, ap length (are_pieces text).whole) in
    lies text span 0 (pieces text) h.place (sym (are_pieces text).whole) long h.lies

pub piece_says : (text : List ℕ) (k : EntryKind) (span : Span) (h : IsPieceOf text k span) → slice_get (pieces text) h.place ≡ Some (entry_text text k (Some span))
piece_says text k span h = let w = of_piece text k span h in w.found ∙ ap Some (sym w.says)

reads : (text : List ℕ) (k : EntryKind) (o : Option Span) → ComesOf text k o → IsReadAs k (entry_text text k o)
reads text k None h = new_reads k h
reads text k (Some span) h =
    let w = of_piece text k span h in record {
      some = subst (λ p. 0 < length p) (sym w.says) (all_at (λ p. 0 < length p) (pieces text) h.place w.piece (are_pieces text).no_empty w.found);
      earliest = subst NoneEarlier (sym w.says) (all_at NoneEarlier (pieces text) h.place w.piece (are_pieces text).earliest w.found);
      kind = sym h.kind;
    }

whole : (text : List ℕ) (hs : List Held) → concat (map (written text) hs) ≡ unit_text text hs
whole text [] = refl
whole text (h ∷ hs) = ap (λ l. written text h ++ l) (whole text hs)

no_empty : (text : List ℕ) (hs : List Held) → AllCome text hs → AllByRecursion (λ p. 0 < length p) (map (written text) hs)
no_empty text [] h = tt
no_empty text (x ∷ hs) h = ((reads text x.entry.kind x.span h.0).some, no_empty text hs h.1)

earliest : (text : List ℕ) (hs : List Held) → AllCome text hs → AllByRecursion NoneEarlier (map (written text) hs)
earliest text [] h = tt
earliest text (x ∷ hs) h = ((reads text x.entry.kind x.span h.0).earliest, earliest text hs h.1)

kinds : (text : List ℕ) (hs : List Held) → AllCome text hs → map kind_of_piece (map (written text) hs) ≡ map (λ h. h.entry.kind) hs
kinds text [] h = refl
kinds text (x ∷ hs) h =
    ap (λ k. k ∷ map kind_of_piece (map (written text) hs)) (reads text x.entry.kind x.span h.0).kind ∙ ap (λ ks. x.entry.kind ∷ ks) (kinds text hs h.1)

pub pieces_back : (text : List ℕ) (hs : List Held) → IsEditOf text hs → pieces (unit_text text hs) ≡ map (written text) hs
pieces_back text hs h = sym (only_pieces (map (written text) hs) (unit_text text hs) are)
  where
    are : ArePieces (map (written text) hs) (unit_text text hs)
    are = record { whole = whole text hs; no_empty = no_empty text hs h.each; ended = h.ended; earliest = earliest text hs h.each }

pub kinds_back : (text : List ℕ) (hs : List Held) → IsEditOf text hs → map kind_of_piece (pieces (unit_text text hs)) ≡ map (λ h. h.entry.kind) hs
kinds_back text hs h = ap (map kind_of_piece) (pieces_back text hs h) ∙ kinds text hs h.each

writable_one : (text : List ℕ) (k : EntryKind) (o : Option Span) → ComesOf text k o → IsWritable text k o
writable_one text k None h = new_profile k h
writable_one text k (Some span) h = (of_piece text k span h).within

writable_all : (text : List ℕ) (hs : List Held) → AllCome text hs → AreWritable text hs
writable_all text [] h = tt
writable_all text (x ∷ hs) h = (writable_one text x.entry.kind x.span h.0, writable_all text hs h.1)

pub writable : (text : List ℕ) (hs : List Held) → IsEditOf text hs → AreWritable text hs
writable text hs h = writable_all text hs h.each
