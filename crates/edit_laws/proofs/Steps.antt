-- Each edit within a function is a removal, a put or an insertion, or a removal and then a put.
use Rattle.std.proofs.Common.{◌≡◌, ◌≢◌, ◌<◌, ℕ, zero, suc, Bool, true, false, cond, List, [], ◌∷◌, length, nat_eq, Option, Some, None, refl, sym, ap, ◌∙◌, subst, arith}
use Rattle.std.specs.Prelude.{slice_index_or, ◌&&◌}
use Rattle.std.specs.Option.{option_and_then}
use Rattle.std.proofs.lemmas.Grind.{common_steps}
use Rattle.std.proofs.lemmas.Bool.{eqb-true, ne_eqb}
use Rattle.insn_ir.specs.declared.insn.Insn.{Insn}
use Rattle.insn_ir.specs.declared.entry.EntryKind.{EntryKind}
use Rattle.asm_unit.specs.Functions.{Part, nothing, code_part}
use Rattle.asm_unit.specs.Held.{held_entry, entry_of, new_held, held_inserted}
use Rattle.asm_unit.specs.Tables.{is_among}
use Rattle.asm_unit.specs.Unit.{Unit, functions_of, is_removable, is_removable_entry, is_insn_entry, nop_kind, align_kind}
use Rattle.asm_unit.proofs.OtherEntries.{other_without}
use Rattle.asm_unit.proofs.UnitLaws.{takes_no_frame, among_left, insn_removable}
use Rattle.unit_edits.specs.declared.edit.Edit.{Edit}
use Rattle.unit_edits.specs.Proper.{IsOfCode, IsInsnOfCode, IsProper}
use Rattle.unit_edits.specs.Replay.{edited, is_there, inserted, put}
use Rattle.edit_laws.specs.Stays.{IsSound}
use Rattle.edit_laws.proofs.Sound.{unit_without, unit_put, unit_grown, sound_without, sound_put, sound_grown}

-- a relation of units in which each such step stands, and that goes on from one to the next
pub record OfSteps (f : ℕ) (R : Unit → Unit → Type 0) : Type 0 where
  pub both : (u v w : Unit) → R u v → R v w → R u w
  pub goes : (u : Unit) (s : ℕ) → IsSound u → IsOfCode u f s → is_removable_entry (entry_of u.held s) ≡ true → R u (unit_without s u)
  pub becomes : (u : Unit) (s : ℕ) (i : Insn) → IsSound u → IsOfCode u f s → is_insn_entry (entry_of u.held s) ≡ true → R u (unit_put s (EntryKind.Insn i) u)
  pub comes : (u : Unit) (b : ℕ) (k : EntryKind) → IsSound u → IsOfCode u f b → is_removable k ≡ true → R u (unit_grown b k u)

some_one : (u v : Unit) → Some u ≡ Some v → u ≡ v
some_one u v h = grind (arith, common_steps)

no_some : (v : Unit) → None ≡ Some v → ⊥
no_some v h = grind (arith, common_steps)

no : {P : Type 0} → false ≡ true → P
no e = absurd (cc)

-- what comes where a test holds
pub if_there : (b : Bool) (w v : Unit) → cond b (Some w) None ≡ Some v → (b ≡ true) × (w ≡ v)
if_there true w v h = (refl, some_one w v h)
if_there false w v h = absurd (no_some v h)

-- an insertion brings the next serial
pub grown_is : (b n : ℕ) (k : EntryKind) (u v : Unit) → inserted b n k u ≡ Some v → unit_grown b k u ≡ v
grown_is b n k u v h = by_tests (is_there b u) (nat_eq n (suc u.last)) refl h
  where
    by_tests : (p q : Bool) → nat_eq n (suc u.last) ≡ q → cond (p && q) (Some (record u { held = held_inserted b (new_held n k) u.held; last = n })) None ≡ Some v → unit_grown b k u ≡ v
    by_tests true true e g =
        ap (λ m. (let x : Unit = record u { held = held_inserted b (new_held m k) u.held; last = m } in x)) (sym (eqb-true n (suc u.last) e)) ∙ some_one _ v g
    by_tests true false e g = absurd (no_some v g)
    by_tests false q e g = absurd (no_some v g)

-- there is a function in whose code an entry stands
pub within : (fs : List Part) (f s : ℕ) → is_among s (code_part (slice_index_or fs f nothing)) ≡ true → f < length fs
within [] f s e = no e
within (x ∷ fs) zero s e = omega arith
within (x ∷ fs) (suc f) s e = let r = within fs f s e in omega (arith, r)

-- an instruction of a code is still one where another entry goes
pub insn_left : (u : Unit) (f first second : ℕ) → IsSound u → first ≢ second → is_removable_entry (entry_of u.held first) ≡ true → IsInsnOfCode u f second → IsInsnOfCode (unit_without first u) f second
insn_left u f first second sound apart removable insn = (
  among_left first second f u.held (takes_no_frame first u.held sound.once removable) (within (functions_of u) f second insn.0) (ne_eqb second first (λ e. apart (sym e))) ∙ insn.0,
  ap (λ o. is_insn_entry (held_entry o)) (other_without first second (λ e. apart (sym e)) u.held) ∙ insn.1,
)

module _ (f : ℕ) (R : Unit → Unit → Type 0) (of : OfSteps f R) where
  removal : (u v : Unit) (s : ℕ) → IsSound u → IsProper u f (Edit.Remove s) → edited (Edit.Remove s) u ≡ Some v → R u v
  removal u v s sound p h = subst (R u) (if_there (is_there s u) (unit_without s u) v h).1 (of.goes u s sound p.0 p.1)

  change : (u v : Unit) (s : ℕ) (i : Insn) → IsSound u → IsInsnOfCode u f s → put s (EntryKind.Insn i) u ≡ Some v → R u v
  change u v s i sound p h = subst (R u) (if_there (is_there s u) (unit_put s (EntryKind.Insn i) u) v h).1 (of.becomes u s i sound p.0 p.1)

  insertion : (u v : Unit) (b n : ℕ) (k : EntryKind) → IsSound u → IsOfCode u f b → is_removable k ≡ true → inserted b n k u ≡ Some v → R u v
  insertion u v b n k sound p r h = subst (R u) (grown_is b n k u v h) (of.comes u b k sound p r)

  merged : (u v : Unit) (first second : ℕ) (i : Insn) → IsSound u → IsInsnOfCode u f first → IsInsnOfCode u f second → first ≢ second
      → (o : Option Unit) → edited (Edit.Remove first) u ≡ o → option_and_then (put second (EntryKind.Insn i)) o ≡ Some v → R u v
  merged u v first second i sound p q apart None e h = absurd (no_some v h)
  merged u v first second i sound p q apart (Some w) e h =
      let removable = insn_removable (entry_of u.held first) p.1 in
      let is = (if_there (is_there first u) (unit_without first u) w e).1 in
      of.both u w v
      (removal u w first sound (p.0, removable) e)
      (change w v second i (subst IsSound is (sound_without first u sound)) (subst (λ x. IsInsnOfCode x f second) is (insn_left u f first second sound apart removable q)) h)

  pub of_edit : (u v : Unit) (e : Edit) → IsSound u → IsProper u f e → edited e u ≡ Some v → R u v
  of_edit u v (Edit.Remove s) sound p h = removal u v s sound p h
  of_edit u v (Edit.Put s i) sound p h = change u v s i.value sound p.0 h
  of_edit u v (Edit.Merge first second i) sound p h = merged u v first second i.value sound p.0 p.1 p.2 (edited (Edit.Remove first) u) refl h
  of_edit u v (Edit.InsertNop b n) sound p h = insertion u v b n nop_kind sound p refl h
  of_edit u v (Edit.InsertAlign b n power) sound p h = insertion u v b n (align_kind power) sound p.0 refl h

-- so each edit keeps units sound
pub edit_sound : (f : ℕ) (u v : Unit) (e : Edit) → IsSound u → IsProper u f e → edited e u ≡ Some v → IsSound v
edit_sound f u v e sound p h = of_edit f (λ x y. IsSound x → IsSound y) steps u v e sound p h sound
  where
    steps : OfSteps f (λ x y. IsSound x → IsSound y)
    steps = record {
      both = λ x y z a b s. b (a s);
      goes = λ x s w among removable. sound_without s x;
      becomes = λ x s i w among insn. sound_put s (EntryKind.Insn i) x;
      comes = λ x b k w among removable. sound_grown b k x;
    }
