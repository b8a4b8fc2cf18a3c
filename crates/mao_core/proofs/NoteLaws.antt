-- Notes on functions, one after another.
use Rattle.std.proofs.Common.{◌≡◌, ℕ, zero, suc, ◌+◌, List, [], ◌∷◌, ◌++◌, drop, Option, Some, None, ap, ◌∙◌, arith, append_assoc, sym}
use Rattle.std.specs.Prelude.{option_map, slice_get}
use Rattle.std.specs.List.{flat_map}
use Rattle.asm_unit.specs.declared.cause.FreezeCause.{FreezeCause}
use Rattle.asm_unit.specs.Decisions.{Decision}
use Rattle.mao_core.specs.Notes.{frozen_note}

abbrev pub frozen_notes : List ℕ → List Decision → List ℕ
frozen_notes lines ds = flat_map (λ d. frozen_note lines d.name d.cause) ds

none_is_not : {A : Type 0} (x : A) → None ≡ Some x → ⊥
none_is_not x e = cc

note_here : (lines name : List ℕ) (cause : Option FreezeCause) (ds : List Decision) (f : ℕ) → option_map (λ d. d.name) (slice_get ds f) ≡ Some name → option_map (λ d. d.cause) (slice_get ds f) ≡ Some cause
    → frozen_notes lines (drop f ds) ≡ frozen_note lines name cause ++ frozen_notes lines (drop (f + 1) ds)
note_here lines name cause [] f n e = absurd (none_is_not name n)
note_here lines name cause (d ∷ ds) zero n e =
    let name_is : d.name ≡ name = cc in
    let cause_is : d.cause ≡ cause = cc in
    ap (λ x. frozen_note lines x d.cause ++ frozen_notes lines ds) name_is ∙ ap (λ x. frozen_note lines name x ++ frozen_notes lines ds) cause_is
note_here lines name cause (d ∷ ds) (suc f) n e =
    let next : suc (f + 1) ≡ suc f + 1 = omega arith in
    note_here lines name cause ds f n e ∙ ap (λ i. frozen_note lines name cause ++ frozen_notes lines (drop i (d ∷ ds))) next

pub note_more : (lines name : List ℕ) (cause : Option FreezeCause) (ds : List Decision) (f : ℕ) (text more all : List ℕ) → option_map (λ d. d.name) (slice_get ds f) ≡ Some name → option_map (λ d. d.cause) (slice_get ds f) ≡ Some cause
    → more ≡ text ++ frozen_note lines name cause → text ++ frozen_notes lines (drop f ds) ≡ all → more ++ frozen_notes lines (drop (f + 1) ds) ≡ all
note_more lines name cause ds f text more all n e m h =
    ap (λ l. l ++ frozen_notes lines (drop (f + 1) ds)) m
    ∙ append_assoc text (frozen_note lines name cause) (frozen_notes lines (drop (f + 1) ds))
    ∙ ap (λ l. text ++ l) (sym (note_here lines name cause ds f n e))
    ∙ h
