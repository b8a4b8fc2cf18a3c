-- What becomes of the codes of a unit, where one of its entries goes or changes, or another one comes.
use Rattle.std.proofs.Common.{◌≡◌, ◌∙◌, ℕ, true, false, List, Option, Some, None, ap, sym, subst, refl, option_map}
use Rattle.std.specs.Prelude.{slice_get, slice_set}
use Rattle.insn_ir.specs.declared.entry.DirectiveKind.{DirectiveKind}
use Rattle.insn_ir.specs.declared.entry.Entry.{Entry}
use Rattle.insn_ir.specs.declared.entry.EntryKind.{EntryKind}
use Rattle.insn_ir.specs.declared.insn.Insn.{Insn}
use Rattle.insn_ir.specs.Code.{Code, One}
use Rattle.insn_ir.specs.Edits as LineEdits
use Rattle.insn_ir.specs.Entries.{is_nop_entry}
use Rattle.jump_tables.specs.Sections.{placed, text}
use Rattle.asm_unit.specs.CodeLines.{lines_before, IsInsnOf}
use Rattle.asm_unit.specs.Decisions.{Decision, codes}
use Rattle.asm_unit.specs.Edits.{has_serial, SameEach}
use Rattle.asm_unit.specs.Functions.{Part, code_part, functions, is_align_kind}
use Rattle.asm_unit.specs.Held.{Held, AreUnique, holds_serial, entry_of, entries_of, held_without, held_put, held_inserted, new_held}
use Rattle.asm_unit.specs.Tables.{is_among}
use Rattle.asm_unit.specs.Unit.{is_insn, is_insn_entry, is_removable, is_removable_entry}
use Rattle.asm_unit.proofs.ComeLaws.{aligns_same, align_comes, nop_comes}
use Rattle.asm_unit.proofs.InsertFits.{entries_inserted, lacks_entries}
use Rattle.asm_unit.proofs.LineLaws.{code_without_line, code_with_line}
use Rattle.asm_unit.proofs.PutLaws.{entries_put}
use Rattle.asm_unit.proofs.StandLaws.{once_placed}
use Rattle.asm_unit.proofs.UnitLaws.{entries_without, entry_found, one_goes}

no : {P : Type 0} → false ≡ true → P
no e = absurd (cc)

record IsInsnAt (o : Option Entry) : Type 0 where
  insn : Insn
  is : option_map (λ e. e.kind) o ≡ Some (EntryKind.Insn insn)

insn_at : (o : Option Entry) → is_insn_entry o ≡ true → IsInsnAt o
insn_at None e = no e
insn_at (Some x) e = let w = of_kind x.kind e in record { insn = w.0; is = ap Some w.1 }
  where
    of_kind : (k : EntryKind) → is_insn k ≡ true → (i : Insn) × (k ≡ EntryKind.Insn i)
    of_kind (EntryKind.Insn i) q = (i, refl)
    of_kind _ q = no q

is_align : (k : EntryKind) → is_removable k ≡ true → is_insn k ≡ false → is_align_kind k ≡ true
is_align (EntryKind.Insn i) e n = no (sym n)
is_align (EntryKind.Directive (DirectiveKind.Align p f m)) e n = refl
is_align (EntryKind.Directive _) e n = no e
is_align _ e n = no e

module _ (ds : List Decision) (hs : List Held) (s k : ℕ) (f : Part) (c : Code) (unique : AreUnique hs) (insn : is_insn_entry (entry_of hs s) ≡ true)
    (part : slice_get (functions (placed (entries_of hs))) k ≡ Some f) (code : slice_get (codes ds (entries_of hs)) k ≡ Some c) (among : is_among s (code_part f) ≡ true) where
  at : IsInsnAt (entry_of hs s)
  at = insn_at (entry_of hs s) insn

  is_of : IsInsnOf (entries_of hs) s at.insn f
  is_of = record { once = once_placed s text hs unique; insn = ap (option_map (λ e. e.kind)) (entry_found s hs) ∙ at.is; among = among }

  pub line_dropped : codes ds (entries_of (held_without s hs)) ≡ slice_set (codes ds (entries_of hs)) k (LineEdits.without c (lines_before s (code_part f)))
  line_dropped = ap (codes ds) (entries_without s hs) ∙ code_without_line ds (entries_of hs) k s f at.insn c part is_of code

  pub line_put : (new : Insn) → codes ds (entries_of (held_put s (EntryKind.Insn new) hs)) ≡ slice_set (codes ds (entries_of hs)) k (LineEdits.with_line c (lines_before s (code_part f)) (One new))
  line_put new = ap (codes ds) (entries_put s (EntryKind.Insn new) hs) ∙ code_with_line ds (entries_of hs) k s f at.insn c part is_of code new

pub align_dropped : (ds : List Decision) (hs : List Held) (s : ℕ) → AreUnique hs → is_removable_entry (entry_of hs s) ≡ true → is_insn_entry (entry_of hs s) ≡ false
    → codes ds (entries_of (held_without s hs)) ≡ codes ds (entries_of hs)
align_dropped ds hs s unique removable other =
    ap (codes ds) (entries_without s hs)
    ∙ aligns_same (has_serial s) ds (entries_of hs)
    (one_goes (λ k. is_align_kind k ≡ true) s hs unique (λ e is. is_align e.kind (ap is_removable_entry (sym is) ∙ removable) (ap is_insn_entry (sym is) ∙ other)))

pub nop_inserted : (ds : List Decision) (hs : List Held) (b n : ℕ) (k : EntryKind) → holds_serial n hs ≡ false → is_nop_entry k ≡ true → SameEach (codes ds (entries_of hs)) (codes ds (entries_of (held_inserted b (new_held n k) hs)))
nop_inserted ds hs b n k fresh nop =
    subst (λ es. SameEach (codes ds (entries_of hs)) (codes ds es)) (sym (entries_inserted b n k hs)) (nop_comes b (record { serial = n; kind = k }) ds (entries_of hs) (lacks_entries n hs fresh) nop)

pub align_inserted : (ds : List Decision) (hs : List Held) (b n : ℕ) (k : EntryKind) → holds_serial n hs ≡ false → is_align_kind k ≡ true → codes ds (entries_of (held_inserted b (new_held n k) hs)) ≡ codes ds (entries_of hs)
align_inserted ds hs b n k fresh align = ap (codes ds) (entries_inserted b n k hs) ∙ align_comes b (record { serial = n; kind = k }) ds (entries_of hs) (lacks_entries n hs fresh) align
