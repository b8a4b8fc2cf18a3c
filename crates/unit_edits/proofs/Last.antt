-- More edits in the last part.
use Rattle.std.proofs.Common.{◌≡◌, ◌<◌, ℕ, List, [], ◌∷◌, ◌++◌, length, slice_set, suc, zero, ap, refl, slice_index_or, ◌∙◌, sym, arith}
use Rattle.std.specs.Prelude.{slice_get, Some, Result, Ok, Err, OnOk}
use Rattle.std.proofs.lemmas.Grind.{common_steps}
use Rattle.unit_edits.specs.declared.edit.Edit.{Edit}
use Rattle.unit_edits.specs.declared.journal.Part.{Part}
use Rattle.unit_edits.specs.Journal.{onto_last}

pub onto_last_at : (es : List Edit) (ps : List Part) (n : ℕ) (p : Part) → length ps ≡ suc n → slice_get ps n ≡ Some p
    → slice_set ps n (record p { edits = p.edits ++ es }) ≡ onto_last es ps
onto_last_at es [] n p l g = refl
onto_last_at es (q ∷ []) zero p l g = grind (arith, common_steps)
onto_last_at es (q ∷ []) (suc n) p l g = absurd (omega arith)
onto_last_at es (q ∷ r ∷ ps) zero p l g = absurd (omega arith)
onto_last_at es (q ∷ r ∷ ps) (suc n) p l g = ap (λ t. q ∷ t) (onto_last_at es (r ∷ ps) n p (omega arith) g)

pub on_ok_map : {T E : Type 0} (r : Result T E) (P Q : Type 0) → OnOk r P → (P → Q) → OnOk r Q
on_ok_map (Ok x) P Q p f = f p
on_ok_map (Err e) P Q p f = tt

get_part : (ps : List Part) (n : ℕ) (d : Part) → n < length ps → slice_get ps n ≡ Some (slice_index_or ps n d)
get_part [] n d l = absurd (omega arith)
get_part (x ∷ ps) zero d l = refl
get_part (x ∷ ps) (suc n) d l = get_part ps n d (omega arith)

pub push_onto : (x : Edit) (ps : List Part) (at : ℕ) (p d : Part) (new : List Edit) → length ps ≡ suc at → p ≡ slice_index_or ps at d
    → new ≡ p.edits ++ x ∷ [] → slice_set ps at (record p { edits = new }) ≡ onto_last (x ∷ []) ps
push_onto x ps at p d new l v e =
    ap (λ es. slice_set ps at (record p { edits = es })) e
    ∙ onto_last_at (x ∷ []) ps at p l (get_part ps at d (omega arith) ∙ ap Some (sym v))
