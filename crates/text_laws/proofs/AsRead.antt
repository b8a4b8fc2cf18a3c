-- The entries of a text as it is read.
use Rattle.std.proofs.Common.{◌≡◌, ℕ, zero, suc, ◌+◌, nat_eq, false, cond, List, [], ◌∷◌, map, length, drop, Some, refl, ap, sym, subst, ◌∙◌, arith}
use Rattle.std.specs.Prelude.{slice_get, find}
use Rattle.std.specs.List.{AllByRecursion, concat}
use Rattle.std.proofs.lemmas.Bool.{eq-eqb, ne_eqb}
use Rattle.att_lexer.specs.Pieces.{AllButLast, IsEnded, pieces, spans_of}
use Rattle.att_lexer.proofs.PiecesLaws.{are_pieces}
use Rattle.att_grammar.specs.Entries.{kind_of_piece}
use Rattle.asm_unit.specs.declared.held.Held.{Held}
use Rattle.asm_unit.specs.Held.{AreNumbered, entries_of, serial_is}
use Rattle.asm_writer.specs.Unit.{entry_text}
use Rattle.text_laws.specs.Edited.{AreRead, ComesOf, InOrder, IsEditOf, written, found_text, text_at}
use Rattle.text_laws.proofs.Lies.{none_some, piece_at, pieces_behind}

-- entries with the spans of pieces, from a place on
abbrev Stand : List Held → ℕ → List (List ℕ) → Type 0
Stand hs at ps = map (λ h. h.span) hs ≡ map Some (spans_of at ps)

-- the first of them
record First (text : List ℕ) (h : Held) (hs : List Held) (at : ℕ) (p : List ℕ) (ps : List (List ℕ)) : Type 0 where
  span : h.span ≡ Some (record { start = at; len = length p })
  says : written text h ≡ p
  behind : drop (at + length p) text ≡ concat ps
  rest : Stand hs (at + length p) ps

first_of : (text : List ℕ) (h : Held) (hs : List Held) (at : ℕ) (p : List ℕ) (ps : List (List ℕ)) → drop at text ≡ concat (p ∷ ps) → Stand (h ∷ hs) at (p ∷ ps) → First text h hs at p ps
first_of text h hs at p ps here e =
    let span : h.span ≡ Some (record { start = at; len = length p }) = cc in record {
      span = span;
      says = ap (entry_text text h.entry.kind) span ∙ piece_at text at p ps here;
      behind = pieces_behind text at p ps here;
      rest = cc;
    }

no_more : {P : Type 0} (at : ℕ) (p : List ℕ) (ps : List (List ℕ)) → Stand [] at (p ∷ ps) → P
no_more at p ps e = absurd (cc)

too_many : {P : Type 0} (h : Held) (hs : List Held) (at : ℕ) → Stand (h ∷ hs) at [] → P
too_many h hs at e = absurd (cc)

says_pieces : (text : List ℕ) (hs : List Held) (at : ℕ) (ps : List (List ℕ)) → drop at text ≡ concat ps → Stand hs at ps → map (written text) hs ≡ ps
says_pieces text [] at [] here e = refl
says_pieces text [] at (p ∷ ps) here e = no_more at p ps e
says_pieces text (h ∷ hs) at [] here e = too_many h hs at e
says_pieces text (h ∷ hs) at (p ∷ ps) here e =
    let f = first_of text h hs at p ps here e in
    ap (λ l. l ∷ map (written text) hs) f.says ∙ ap (λ l. p ∷ l) (says_pieces text hs (at + length p) ps f.behind f.rest)

ordered : (at : ℕ) (ps : List (List ℕ)) → InOrder at (map Some (spans_of at ps))
ordered at [] = tt
ordered at (p ∷ ps) = (omega arith, ordered (at + length p) ps)

-- spans among all spans of the text, n places on
abbrev AreAt : List ℕ → ℕ → ℕ → List (List ℕ) → Type 0
AreAt text n at ps = (i : ℕ) → slice_get (spans_of 0 (pieces text)) (n + i) ≡ slice_get (spans_of at ps) i

next_at : (text : List ℕ) (n at : ℕ) (p : List ℕ) (ps : List (List ℕ)) → AreAt text n at (p ∷ ps) → AreAt text (suc n) (at + length p) ps
next_at text n at p ps all i =
    let same : suc n + i ≡ n + suc i = omega arith in
    ap (slice_get (spans_of 0 (pieces text))) same ∙ all (suc i)

all_come : (text : List ℕ) (hs : List Held) (n at : ℕ) (ps : List (List ℕ)) → drop at text ≡ concat ps → Stand hs at ps → map (λ h. h.entry.kind) hs ≡ map kind_of_piece ps → AreAt text n at ps
    → AllByRecursion (λ h. ComesOf text h.entry.kind h.span) hs
all_come text [] n at ps here e ks all = tt
all_come text (h ∷ hs) n at [] here e ks all = too_many h hs at e
all_come text (h ∷ hs) n at (p ∷ ps) here e ks all =
    let f = first_of text h hs at p ps here e in
    let kind : h.entry.kind ≡ kind_of_piece p = cc in
    let others : map (λ h. h.entry.kind) hs ≡ map kind_of_piece ps = cc in (
      subst (ComesOf text h.entry.kind) (sym f.span) (record { place = n + 0; lies = all 0; kind = kind ∙ ap kind_of_piece (sym (piece_at text at p ps here)) }),
      all_come text hs (suc n) (at + length p) ps f.behind f.rest others (next_at text n at p ps all),
    )

pub as_read : (text : List ℕ) (hs : List Held) → AreRead text hs → IsEditOf text hs
as_read text hs h = record {
  each = all_come text hs 0 0 (pieces text) here h.spans h.kinds (λ i. ap (slice_get (spans_of 0 (pieces text))) (from_zero i));
  ended = subst (AllButLast IsEnded) (sym (says_pieces text hs 0 (pieces text) here h.spans)) (are_pieces text).ended;
  order = subst (InOrder 0) (sym h.spans) (ordered 0 (pieces text));
}
  where
    here : text ≡ concat (pieces text)
    here = sym (are_pieces text).whole

    from_zero : (i : ℕ) → 0 + i ≡ i
    from_zero i = omega arith

-- the entry of a piece's serial says the piece
at_serial : (text : List ℕ) (hs : List Held) (n at : ℕ) (ps : List (List ℕ)) (k s : ℕ) (p : List ℕ) → drop at text ≡ concat ps → Stand hs at ps → AreNumbered n (entries_of hs)
    → slice_get ps k ≡ Some p → s ≡ suc (n + k) → text_at text hs s ≡ p
at_serial text hs n at [] k s p here e numbers found is = none_some found
at_serial text [] n at (q ∷ qs) k s p here e numbers found is = no_more at q qs e
at_serial text (h ∷ hs) n at (q ∷ qs) zero s p here e numbers found is =
    let f = first_of text h hs at q qs here e in
    let same : q ≡ p = cc in
    let own : h.entry.serial ≡ s = omega (arith, numbers.0, is) in
    ap (λ b. found_text text (cond b (Some h) (find (serial_is s) hs))) (eq-eqb h.entry.serial s own) ∙ f.says ∙ same
at_serial text (h ∷ hs) n at (q ∷ qs) (suc k) s p here e numbers found is =
    let f = first_of text h hs at q qs here e in
    let differs : nat_eq h.entry.serial s ≡ false = ne_eqb h.entry.serial s (λ same. omega (arith, numbers.0, is, same)) in
    ap (λ b. found_text text (cond b (Some h) (find (serial_is s) hs))) differs
    ∙ at_serial text hs (suc n) (at + length q) qs k s p f.behind f.rest numbers.1 found (omega (arith, is))

pub serials_say : (text : List ℕ) (hs : List Held) (place : ℕ) (piece : List ℕ) → AreRead text hs → AreNumbered 0 (entries_of hs) → slice_get (pieces text) place ≡ Some piece → text_at text hs (place + 1) ≡ piece
serials_say text hs place piece h numbers found =
    at_serial text hs 0 0 (pieces text) place (place + 1) piece (sym (are_pieces text).whole) h.spans numbers found (omega arith)
