-- Where a `nop` or an alignment goes or comes, each function behaves as before.
use Rattle.std.proofs.Common.{◌≡◌, ◌⊎◌, inl, inr, ℕ, suc, Bool, true, false, List, [], ◌∷◌, Option, Some, None, refl, sym, ap, ◌∙◌, subst}
use Rattle.std.specs.Prelude.{◌||◌}
use Rattle.insn_ir.specs.Code.{Code}
use Rattle.insn_ir.specs.Entries.{is_nop_entry}
use Rattle.insn_ir.specs.declared.entry.DirectiveKind.{DirectiveKind}
use Rattle.insn_ir.specs.declared.entry.Entry.{Entry}
use Rattle.insn_ir.specs.declared.entry.EntryKind.{EntryKind}
use Rattle.insn_ir.proofs.SameLaws.{same_refl}
use Rattle.asm_unit.specs.Decisions.{Decision, codes}
use Rattle.asm_unit.specs.Edits.{has_serial, SameEach}
use Rattle.asm_unit.specs.Functions.{is_align_kind}
use Rattle.asm_unit.specs.declared.held.Held.{Held}
use Rattle.asm_unit.specs.Held.{AreUnique, entry_of, entries_of, held_without}
use Rattle.asm_unit.specs.Unit.{Unit, is_insn, is_insn_entry, is_removable, is_removable_entry, nop_kind, align_kind}
use Rattle.asm_unit.proofs.EditCodes.{align_dropped, nop_inserted, align_inserted}
use Rattle.asm_unit.proofs.NopLaw.{nops_same}
use Rattle.asm_unit.proofs.UnitLaws.{entries_without, one_goes}
use Rattle.unit_edits.specs.declared.edit.Edit.{Edit}
use Rattle.unit_edits.specs.Replay.{edited, is_there}
use Rattle.edit_laws.specs.Stays.{IsSound, IsOfPadding, is_padding}
use Rattle.edit_laws.proofs.Sound.{unit_without, unit_grown, fresh}
use Rattle.edit_laws.proofs.Steps.{if_there, grown_is}

no : {P : Type 0} → false ≡ true → P
no e = absurd (cc)

each_same : (cs : List Code) → SameEach cs cs
each_same [] = tt
each_same (c ∷ cs) = (same_refl c, each_same cs)

same_as : (cs ds : List Code) → ds ≡ cs → SameEach cs ds
same_as cs ds e = subst (SameEach cs) (sym e) (each_same cs)

abbrev IsNop : Option Entry → Type 0
IsNop o = (e : Entry) → o ≡ Some e → is_nop_entry e.kind ≡ true

abbrev IsAlign : Option Entry → Type 0
IsAlign o = (is_removable_entry o ≡ true) × (is_insn_entry o ≡ false)

either : (a b : Bool) → (a || b) ≡ true → (a ≡ true) ⊎ (b ≡ true)
either true b e = inl refl
either false b e = inr e

of_align : (k : EntryKind) → is_align_kind k ≡ true → (is_removable k ≡ true) × (is_insn k ≡ false)
of_align (EntryKind.Directive (DirectiveKind.Align p f m)) e = (refl, refl)
of_align (EntryKind.Directive _) e = no e
of_align _ e = no e

which : (o : Option Entry) → is_padding o ≡ true → IsNop o ⊎ IsAlign o
which None e = no e
which (Some x) e = elim (either (is_nop_entry x.kind) (is_align_kind x.kind) e) [
  | inl n ↦ inl (λ y is. ap (λ o. nop_of o) (sym is) ∙ n)
  | inr a ↦ inr (of_align x.kind a)
]
  where
    nop_of : Option Entry → Bool
    nop_of None = false
    nop_of (Some y) = is_nop_entry y.kind

pub padding_goes : (ds : List Decision) (hs : List Held) (s : ℕ) → AreUnique hs → is_padding (entry_of hs s) ≡ true → SameEach (codes ds (entries_of hs)) (codes ds (entries_of (held_without s hs)))
padding_goes ds hs s unique padding = elim (which (entry_of hs s) padding) [
  | inl nop ↦ subst (λ es. SameEach (codes ds (entries_of hs)) (codes ds es)) (sym (entries_without s hs)) (nops_same (has_serial s) ds (entries_of hs) (one_goes (λ k. is_nop_entry k ≡ true) s hs unique nop))
  | inr align ↦ same_as (codes ds (entries_of hs)) (codes ds (entries_of (held_without s hs))) (align_dropped ds hs s unique align.0 align.1)
]

-- the codes, with what was decided when the file was read
abbrev pub CodesStay : Unit → Unit → Type 0
CodesStay u v = SameEach (codes u.decided (entries_of u.held)) (codes u.decided (entries_of v.held))

pub codes_stay : (u v : Unit) (e : Edit) → IsSound u → IsOfPadding u e → edited e u ≡ Some v → CodesStay u v
codes_stay u v (Edit.Remove s) sound padding h =
    subst (CodesStay u) (if_there (is_there s u) (unit_without s u) v h).1 (padding_goes u.decided u.held s sound.once padding)
codes_stay u v (Edit.Put s i) sound padding h = absurd padding
codes_stay u v (Edit.Merge first second i) sound padding h = absurd padding
codes_stay u v (Edit.InsertNop b n) sound padding h =
    subst (CodesStay u) (grown_is b n nop_kind u v h) (nop_inserted u.decided u.held b (suc u.last) nop_kind (fresh u.last u.held sound.given) refl)
codes_stay u v (Edit.InsertAlign b n power) sound padding h =
    subst (CodesStay u) (grown_is b n (align_kind power) u v h)
    (same_as (codes u.decided (entries_of u.held)) (codes u.decided (entries_of (unit_grown b (align_kind power) u).held)) (align_inserted u.decided u.held b (suc u.last) (align_kind power) (fresh u.last u.held sound.given) refl))
