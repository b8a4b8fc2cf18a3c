-- Edits one after another.
use Rattle.std.proofs.Common.{◌≡◌, ℕ, List, [], ◌∷◌, ◌++◌, length, suc, ap, refl, arith, sym, subst, ◌∙◌, cond, true, false, Bool, Some, None, Option, ◌&&◌}
use Rattle.std.specs.Prelude.{⊤}
use Rattle.std.specs.Option.{IsSomeAnd, option_and_then}
use Rattle.std.proofs.lemmas.Grind.{common_steps}
use Rattle.asm_unit.specs.Unit.{Unit}
use Rattle.unit_edits.specs.declared.edit.Edit.{Edit}
use Rattle.unit_edits.specs.declared.journal.Part.{Part}
use Rattle.unit_edits.specs.Journal.{onto_last}
use Rattle.unit_edits.specs.Proper.{IsProper, AllProper}
use Rattle.unit_edits.specs.Replay.{edited, replay}

pub replay_append : (es fs : List Edit) (u : Unit) → replay (es ++ fs) u ≡ option_and_then (replay fs) (replay es u)
replay_append [] fs u = refl
replay_append (e ∷ es) fs u =
    elim (edited e u) as (λ o. option_and_then (replay (es ++ fs)) o ≡ option_and_then (replay fs) (option_and_then (replay es) o)) [ None ↦ refl | Some v ↦ replay_append es fs v ]

-- one edit more
pub replay_more : (es : List Edit) (e : Edit) (u v w : Unit) → replay es u ≡ Some v → edited e v ≡ Some w → replay (es ++ e ∷ []) u ≡ Some w
replay_more es e u v w r d =
    replay_append es (e ∷ []) u ∙ ap (option_and_then (replay (e ∷ []))) r ∙ ap (option_and_then (replay [])) d

pub onto_nothing : (j : List Part) → onto_last [] j ≡ j
onto_nothing [] = refl
onto_nothing (p ∷ []) = grind (arith, common_steps)
onto_nothing (p ∷ q ∷ j) = ap (λ t. p ∷ t) (onto_nothing (q ∷ j))

pub onto_append : (es fs : List Edit) (j : List Part) → onto_last (es ++ fs) j ≡ onto_last fs (onto_last es j)
onto_append es fs [] = refl
onto_append es fs (p ∷ []) = grind (arith, common_steps)
onto_append es fs (p ∷ q ∷ []) = grind (arith, common_steps)
onto_append es fs (p ∷ q ∷ r ∷ j) = ap (λ t. p ∷ t) (onto_append es fs (q ∷ r ∷ j))

pub length_onto : (es : List Edit) (j : List Part) → length (onto_last es j) ≡ length j
length_onto es [] = refl
length_onto es (p ∷ []) = refl
length_onto es (p ∷ q ∷ j) = ap suc (length_onto es (q ∷ j))

some_one : (u v : Unit) → Some u ≡ Some v → u ≡ v
some_one u v h = grind (arith, common_steps)

no_some : (v : Unit) → None ≡ Some v → ⊥
no_some v h = grind (arith, common_steps)

-- a value that is there
pub some_and : (o : Option Unit) (v : Unit) (P : Unit → Type 0) → o ≡ Some v → P v → IsSomeAnd o P
some_and o v P e p = subst (λ x. IsSomeAnd x P) (sym e) p

-- edits within a function, and one more
pub proper_more : (f : ℕ) (es : List Edit) (e : Edit) (u v w : Unit) → AllProper f u es → replay es u ≡ Some v → IsProper v f e → edited e v ≡ Some w
    → AllProper f u (es ++ e ∷ [])
proper_more f [] e u v w a r p d =
    let same : v ≡ u = sym (some_one u v r) in
    (subst (λ x. IsProper x f e) same p, some_and (edited e u) w (λ v. ⊤) (ap (edited e) (sym same) ∙ d) tt)
proper_more f (x ∷ es) e u v w a r p d =
    let next : (o : Option Unit) → edited x u ≡ o → IsSomeAnd o (λ t. AllProper f t es) → option_and_then (replay es) o ≡ Some v → IsSomeAnd o (λ t. AllProper f t (es ++ e ∷ [])) =
    λ o. elim o as (λ o. edited x u ≡ o → IsSomeAnd o (λ t. AllProper f t es) → option_and_then (replay es) o ≡ Some v → IsSomeAnd o (λ t. AllProper f t (es ++ e ∷ []))) [
      | None ↦ λ q h r'. h
      | Some t ↦ λ q h r'. proper_more f es e t v w h r' p d
    ] in
    (a.0, next (edited x u) refl a.1 r)

-- what holds of a unit and is kept by each edit holds after edits
pub along : (P : Unit → Type 0) (f : ℕ) (es : List Edit) (u v : Unit) → ((e : Edit) (x y : Unit) → P x → IsProper x f e → edited e x ≡ Some y → P y)
    → P u → AllProper f u es → replay es u ≡ Some v → P v
along P f [] u v keeps p a r = subst P (some_one u v r) p
along P f (e ∷ es) u v keeps p a r =
    let next : (o : Option Unit) → edited e u ≡ o → IsSomeAnd o (λ t. AllProper f t es) → option_and_then (replay es) o ≡ Some v → P v =
    λ o. elim o as (λ o. edited e u ≡ o → IsSomeAnd o (λ t. AllProper f t es) → option_and_then (replay es) o ≡ Some v → P v) [
      | None ↦ λ q h r'. absurd (no_some v r')
      | Some t ↦ λ q h r'. along P f es t v keeps (keeps e u t p a.0 q) h r'
    ] in
    next (edited e u) refl a.1 r

if_some : (b : Bool) (u v w : Unit) → cond b (Some w) None ≡ Some v → w.decided ≡ u.decided → v.decided ≡ u.decided
if_some true u v w h e = ap (λ x. x.decided) (sym (some_one w v h)) ∙ e
if_some false u v w h e = absurd (no_some v h)

-- edits keep what is decided
pub edit_keeps : (e : Edit) (u v : Unit) → edited e u ≡ Some v → v.decided ≡ u.decided
edit_keeps (Edit.Remove n) u v h = if_some _ u v _ h refl
edit_keeps (Edit.Put n i) u v h = if_some _ u v _ h refl
edit_keeps (Edit.InsertNop b n) u v h = if_some _ u v _ h refl
edit_keeps (Edit.InsertAlign b n p) u v h = if_some _ u v _ h refl
edit_keeps (Edit.Merge a b i) u v h = merged (edited (Edit.Remove a) u) refl h
  where
    merged : (o : Option Unit) → edited (Edit.Remove a) u ≡ o → option_and_then (edited (Edit.Put b i)) o ≡ Some v → v.decided ≡ u.decided
    merged None q r = absurd (no_some v r)
    merged (Some t) q r = if_some _ t v _ r refl ∙ if_some _ u t _ q refl

pub replay_keeps : (es : List Edit) (u v : Unit) → replay es u ≡ Some v → v.decided ≡ u.decided
replay_keeps [] u v h = ap (λ x. x.decided) (sym (some_one u v h))
replay_keeps (e ∷ es) u v h =
    let next : (o : Option Unit) → edited e u ≡ o → option_and_then (replay es) o ≡ Some v → v.decided ≡ u.decided =
    λ o. elim o as (λ o. edited e u ≡ o → option_and_then (replay es) o ≡ Some v → v.decided ≡ u.decided) [
      | None ↦ λ q h'. absurd (no_some v h')
      | Some w ↦ λ q h'. replay_keeps es w v h' ∙ edit_keeps e u w q
    ] in
    next (edited e u) refl h
