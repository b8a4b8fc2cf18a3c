-- The text of a unit under edits.
use Rattle.std.proofs.Common.{◌≡◌, ℕ, Bool, true, false, cond, List, Option, Some, None, ap, sym, subst, refl, ◌∙◌}
use Rattle.std.specs.Option.{option_and_then}
use Rattle.insn_ir.specs.declared.entry.EntryKind.{EntryKind}
use Rattle.asm_unit.specs.declared.held.Held.{Held}
use Rattle.asm_unit.specs.Held.{held_without, held_put, held_inserted, new_held}
use Rattle.asm_unit.specs.Unit.{Unit, nop_kind, align_kind}
use Rattle.unit_edits.specs.declared.edit.Edit.{Edit}
use Rattle.unit_edits.specs.Proper.{IsProper}
use Rattle.unit_edits.specs.Replay.{edited}
use Rattle.text_laws.specs.Edited.{IsEditOf}
use Rattle.text_laws.proofs.Edits.{dropped, put, inserted_nop, inserted_align}

-- a unit that is there where a test holds
there : (b : Bool) (w v : Unit) → cond b (Some w) None ≡ Some v → v ≡ w
there true w v e = cc
there false w v e = let none : None ≡ Some v = e in absurd (cc)

-- a unit after an edit has its entries from it
held_as : (text : List ℕ) (hs : List Held) (v w : Unit) → v ≡ w → w.held ≡ hs → IsEditOf text hs → IsEditOf text v.held
held_as text hs v w e h i = subst (IsEditOf text) (sym (ap (λ x. x.held) e ∙ h)) i

-- the entries of a unit that come of a text by edits still do after one more
pub text_stays : (text : List ℕ) (f : ℕ) (e : Edit) (u v : Unit) → IsEditOf text u.held → IsProper u f e → edited e u ≡ Some v → IsEditOf text v.held
text_stays text f (Edit.Remove s) u v h p r = held_as text _ v _ (there _ _ v r) refl (dropped text u.held s h)
text_stays text f (Edit.Put s i) u v h p r = held_as text _ v _ (there _ _ v r) refl (put text s (EntryKind.Insn i.value) p.1 u.held h)
text_stays text f (Edit.InsertNop before s) u v h p r = held_as text _ v _ (there _ _ v r) refl (inserted_nop text before s u.held h)
text_stays text f (Edit.InsertAlign before s power) u v h p r = held_as text _ v _ (there _ _ v r) refl (inserted_align text before s power p.1 u.held h)
text_stays text f (Edit.Merge first second i) u v h p r = merged (edited (Edit.Remove first) u) refl r
  where
    merged : (o : Option Unit) → edited (Edit.Remove first) u ≡ o → option_and_then (edited (Edit.Put second i)) o ≡ Some v → IsEditOf text v.held
    merged None q r = let none : None ≡ Some v = r in absurd (cc)
    merged (Some t) q r =
        held_as text _ v _ (there _ _ v r) refl
        (put text second (EntryKind.Insn i.value) p.3 t.held (held_as text _ t _ (there _ _ t q) refl (dropped text u.held first h)))

-- edits keep why a file is kept as it is
pub file_stays : (e : Edit) (u v : Unit) → edited e u ≡ Some v → v.file ≡ u.file
file_stays (Edit.Remove s) u v r = ap (λ x. x.file) (there _ _ v r)
file_stays (Edit.Put s i) u v r = ap (λ x. x.file) (there _ _ v r)
file_stays (Edit.InsertNop before s) u v r = ap (λ x. x.file) (there _ _ v r)
file_stays (Edit.InsertAlign before s power) u v r = ap (λ x. x.file) (there _ _ v r)
file_stays (Edit.Merge first second i) u v r = merged (edited (Edit.Remove first) u) refl r
  where
    merged : (o : Option Unit) → edited (Edit.Remove first) u ≡ o → option_and_then (edited (Edit.Put second i)) o ≡ Some v → v.file ≡ u.file
    merged None q r = let none : None ≡ Some v = r in absurd (cc)
    merged (Some t) q r = ap (λ x. x.file) (there _ _ v r) ∙ ap (λ x. x.file) (there _ _ t q)
