-- The journal of a run: its parts are of functions that are there, and what it brings are values of the profile.
use Rattle.std.proofs.Common.{◌≡◌, ◌<◌, ℕ, zero, suc, List, [], ◌∷◌, length, Option, Some, None, true, refl, ap, sym, subst, ◌∙◌, arith}
use Rattle.std.specs.Prelude.{slice_get, option_map}
use Rattle.std.specs.Option.{IsSomeAnd}
use Rattle.std.specs.List.{AllByRecursion}
use Rattle.asm_unit.specs.Decisions.{Decision, is_clear}
use Rattle.asm_unit.specs.Unit.{Unit}
use Rattle.pass_script.specs.declared.script.Step.{Step}
use Rattle.pass_base.specs.Books.{BoxView}
use Rattle.pass_driver.specs.Plan.{Task, AreDone, clear_places, script_tasks}
use Rattle.pass_driver.specs.Outcome.{IsRun}
use Rattle.pass_driver.proofs.Laws.{AreClear, script_clear}
use Rattle.unit_edits.specs.declared.edit.Edit.{Edit}
use Rattle.unit_edits.specs.declared.journal.Part.{Part}
use Rattle.unit_edits.specs.Proper.{IsProper, AllProper}
use Rattle.unit_edits.specs.Replay.{edited}
use Rattle.journal_lines.specs.Lines.{IsOfProfile, AreOfProfile, AreOfFunctions}

one_of_profile : (u : Unit) (f : ℕ) (e : Edit) → IsProper u f e → IsOfProfile e
one_of_profile u f (Edit.Remove s) p = tt
one_of_profile u f (Edit.Put s i) p = p.1
one_of_profile u f (Edit.Merge a b i) p = p.3
one_of_profile u f (Edit.InsertNop b s) p = tt
one_of_profile u f (Edit.InsertAlign b s power) p = tt

edits_of_profile : (f : ℕ) (es : List Edit) (u : Unit) → AllProper f u es → AllByRecursion IsOfProfile es
edits_of_profile f [] u a = tt
edits_of_profile f (e ∷ es) u a =
    let next : (o : Option Unit) → IsSomeAnd o (λ v. AllProper f v es) → AllByRecursion IsOfProfile es =
    λ o. elim o as (λ o. IsSomeAnd o (λ v. AllProper f v es) → AllByRecursion IsOfProfile es) [ None ↦ λ h. absurd h | Some v ↦ λ h. edits_of_profile f es v h ] in
    (one_of_profile u f e a.0, next (edited e u) a.1)

done_of_profile : (ts : List Task) (ps : List Part) (u w : Unit) → AreDone ts ps u w → AreOfProfile ps
done_of_profile [] [] u w d = tt
done_of_profile [] (p ∷ ps) u w d = absurd d
done_of_profile (t ∷ ts) [] u w d = absurd d
done_of_profile (t ∷ ts) (p ∷ ps) u w d = (edits_of_profile t.f p.edits u d.2.1.within, done_of_profile ts ps d.2.0 w d.2.2)

pub of_profile : (steps : List Step) (j : List Part) (u v : Unit) (before after : List BoxView) → IsRun steps j u v before after → AreOfProfile j
of_profile steps j u v before after r = done_of_profile (script_tasks 1 steps (clear_places u.decided)) j u v r.done

-- a place of which something is decided is one of them
there : (ds : List Decision) (f : ℕ) → option_map is_clear (slice_get ds f) ≡ Some true → f < length ds
there [] f e = let none : None ≡ Some true = e in absurd (cc)
there (d ∷ ds) zero e = omega arith
there (d ∷ ds) (suc f) e = omega (arith, there ds f e)

done_of_functions : (ts : List Task) (ps : List Part) (u0 u w v : Unit) → AreClear u0 ts → v.decided ≡ u0.decided → AreDone ts ps u w → AreOfFunctions v ps
done_of_functions [] [] u0 u w v c k d = tt
done_of_functions [] (p ∷ ps) u0 u w v c k d = absurd d
done_of_functions (t ∷ ts) [] u0 u w v c k d = absurd d
done_of_functions (t ∷ ts) (p ∷ ps) u0 u w v c k d = (
  subst (λ f. f < length v.decided) (sym d.1) (subst (λ ds. t.f < length ds) (sym k) (there u0.decided t.f c.0)),
  done_of_functions ts ps u0 d.2.0 w v c.1 k d.2.2,
)

pub of_functions : (steps : List Step) (j : List Part) (u v : Unit) (before after : List BoxView) → IsRun steps j u v before after → AreOfFunctions v j
of_functions steps j u v before after r =
    done_of_functions (script_tasks 1 steps (clear_places u.decided)) j u u v v (script_clear u 1 steps) r.decided r.done
