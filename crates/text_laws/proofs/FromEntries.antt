-- Kinds of entries, from what a unit is built of.
use Rattle.std.proofs.Common.{◌≡◌, ℕ, List, [], ◌∷◌, map, Some, refl, ap, sym, ◌∙◌}
use Rattle.insn_ir.specs.declared.entry.Entry.{Entry}
use Rattle.att_lexer.specs.Pieces.{pieces, spans_of}
use Rattle.att_grammar.specs.Entries.{kind_of_piece}
use Rattle.asm_unit.specs.declared.held.Held.{Held}
use Rattle.asm_unit.specs.Held.{entries_of}
use Rattle.asm_writer.specs.Unit.{unit_text}
use Rattle.text_laws.specs.Edited.{AreRead, IsEditOf}
use Rattle.text_laws.proofs.ReadBack.{kinds_back}

pub entry_kinds : (hs : List Held) → map (λ e. e.kind) (entries_of hs) ≡ map (λ h. h.entry.kind) hs
entry_kinds [] = refl
entry_kinds (h ∷ hs) = ap (λ ks. h.entry.kind ∷ ks) (entry_kinds hs)

-- entries that have the kinds of pieces were read
pub read_entries : (text : List ℕ) (hs : List Held) (es : List Entry) → entries_of hs ≡ es → map (λ e. e.kind) es ≡ map kind_of_piece (pieces text) → map (λ h. h.span) hs ≡ map Some (spans_of 0 (pieces text)) → AreRead text hs
read_entries text hs es built read lie = record { kinds = sym (entry_kinds hs) ∙ ap (map (λ e. e.kind)) built ∙ read; spans = lie }

-- what is written is read again as the kinds of the entries
pub entries_back : (text : List ℕ) (hs : List Held) → IsEditOf text hs → map kind_of_piece (pieces (unit_text text hs)) ≡ map (λ e. e.kind) (entries_of hs)
entries_back text hs h = kinds_back text hs h ∙ sym (entry_kinds hs)
