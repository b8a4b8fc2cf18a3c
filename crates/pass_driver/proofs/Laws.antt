-- What follows of tasks that were done.
use Rattle.std.proofs.Common.{◌≡◌, ℕ, suc, ◌+◌, List, [], ◌∷◌, ◌++◌, refl, ap, sym, subst, ◌∙◌, cond, true, false, arith}
use Rattle.std.specs.Prelude.{⊤, Bool, Some, slice_get, option_map}
use Rattle.std.specs.Option.{option_and_then}
use Rattle.asm_unit.specs.Decisions.{Decision, is_clear}
use Rattle.asm_unit.specs.Unit.{Unit}
use Rattle.pass_script.specs.declared.script.Step.{Step}
use Rattle.unit_edits.specs.declared.edit.Edit.{Edit}
use Rattle.unit_edits.specs.declared.journal.Part.{Part}
use Rattle.unit_edits.specs.Bodies.{IsClearAt}
use Rattle.unit_edits.specs.Proper.{IsProper}
use Rattle.unit_edits.specs.Replay.{edited, replay_parts}
use Rattle.unit_edits.proofs.Replayed.{along, edit_keeps, replay_keeps}
use Rattle.pass_base.specs.Books.{BoxView}
use Rattle.pass_base.specs.Runs.{BehaveAlike}
use Rattle.pass_base.proofs.Steps.{alike_refl, alike_trans}
use Rattle.pass_driver.specs.Plan.{Task, AreDone, clear_from, clear_places, step_tasks, script_tasks}
use Rattle.pass_driver.specs.Outcome.{IsRun}

-- the replay of all parts
pub done_replays : (ts : List Task) (ps : List Part) (u w : Unit) → AreDone ts ps u w → replay_parts ps u ≡ Some w
done_replays [] [] u w d = ap Some d
done_replays [] (p ∷ ps) u w d = absurd d
done_replays (t ∷ ts) [] u w d = absurd d
done_replays (t ∷ ts) (p ∷ ps) u w d = ap (option_and_then (replay_parts ps)) d.2.1.replayed ∙ done_replays ts ps d.2.0 w d.2.2

-- what is decided stands
pub done_keeps : (ts : List Task) (ps : List Part) (u w : Unit) → AreDone ts ps u w → w.decided ≡ u.decided
done_keeps [] [] u w d = ap (λ x. x.decided) (sym d)
done_keeps [] (p ∷ ps) u w d = absurd d
done_keeps (t ∷ ts) [] u w d = absurd d
done_keeps (t ∷ ts) (p ∷ ps) u w d = done_keeps ts ps d.2.0 w d.2.2 ∙ replay_keeps p.edits u d.2.0 d.2.1.replayed

-- each function does what it did
pub done_alike : (ts : List Task) (ps : List Part) (u w : Unit) → AreDone ts ps u w → BehaveAlike u w
done_alike [] [] u w d = subst (BehaveAlike u) d (alike_refl u)
done_alike [] (p ∷ ps) u w d = absurd d
done_alike (t ∷ ts) [] u w d = absurd d
done_alike (t ∷ ts) (p ∷ ps) u w d =
    alike_trans u d.2.0 w (replay_keeps p.edits u d.2.0 d.2.1.replayed) d.2.1.same (done_alike ts ps d.2.0 w d.2.2)

-- each task is on a function that is clear
abbrev pub AreClear : Unit → List Task → Type 0
AreClear u [] = ⊤
AreClear u (t ∷ ts) = IsClearAt u t.f × AreClear u ts

clear_append : (u : Unit) (ts ts' : List Task) → AreClear u ts → AreClear u ts' → AreClear u (ts ++ ts')
clear_append u [] ts' a b = b
clear_append u (t ∷ ts) ts' a b = (a.0, clear_append u ts ts' a.1 b)

-- each place is one of a function that is clear
abbrev AllClear : Unit → List ℕ → Type 0
AllClear u [] = ⊤
AllClear u (f ∷ fs) = IsClearAt u f × AllClear u fs

places_clear : (u : Unit) (n : ℕ) (ds : List Decision) → ((i : ℕ) → slice_get ds i ≡ slice_get u.decided (n + i)) → AllClear u (clear_from n ds)
places_clear u n [] h = tt
places_clear u n (d ∷ ds) h =
    let e : n ≡ n + 0 = omega arith in
    let here : slice_get u.decided n ≡ Some d = ap (slice_get u.decided) e ∙ sym (h 0) in
    let later : AllClear u (clear_from (suc n) ds) =
    places_clear u (suc n) ds (λ i. let s : n + suc i ≡ suc n + i = omega arith in h (suc i) ∙ ap (slice_get u.decided) s) in
    by_test (is_clear d) refl here later
  where
    by_test : (b : Bool) → is_clear d ≡ b → slice_get u.decided n ≡ Some d → AllClear u (clear_from (suc n) ds) → AllClear u (cond b (n ∷ clear_from (suc n) ds) (clear_from (suc n) ds))
    by_test true t here later = (ap (option_map is_clear) here ∙ ap Some t, later)
    by_test false t here later = later

step_clear : (u : Unit) (n : ℕ) (s : Step) (fs : List ℕ) → AllClear u fs → AreClear u (step_tasks n s fs)
step_clear u n s [] h = tt
step_clear u n s (f ∷ fs) h = (h.0, step_clear u n s fs h.1)

steps_clear : (u : Unit) (n : ℕ) (ss : List Step) (fs : List ℕ) → AllClear u fs → AreClear u (script_tasks n ss fs)
steps_clear u n [] fs h = tt
steps_clear u n (s ∷ ss) fs h = clear_append u (step_tasks n s fs) (script_tasks (suc n) ss fs) (step_clear u n s fs h) (steps_clear u (suc n) ss fs h)

-- a script's tasks are on functions that are clear
pub script_clear : (u : Unit) (n : ℕ) (ss : List Step) → AreClear u (script_tasks n ss (clear_places u.decided))
script_clear u n ss = steps_clear u n ss (clear_places u.decided) (places_clear u 0 u.decided (λ i. let e : i ≡ 0 + i = omega arith in ap (slice_get u.decided) e))

clear_kept : (u v : Unit) (ts : List Task) → v.decided ≡ u.decided → AreClear u ts → AreClear v ts
clear_kept u v [] e h = tt
clear_kept u v (t ∷ ts) e h = (subst (λ ds. option_map is_clear (slice_get ds t.f) ≡ Some true) (sym e) h.0, clear_kept u v ts e h.1)

-- What holds of a unit and is kept by each edit within a clear function holds after the tasks.
pub done_along : (P : Unit → Type 0) (ts : List Task) (ps : List Part) (u w : Unit)
    → ((f : ℕ) (e : Edit) (x y : Unit) → P x → IsClearAt x f → IsProper x f e → edited e x ≡ Some y → P y)
    → P u → AreClear u ts → AreDone ts ps u w → P w
done_along P [] [] u w keeps p c d = subst P d p
done_along P [] (q ∷ ps) u w keeps p c d = absurd d
done_along P (t ∷ ts) [] u w keeps p c d = absurd d
done_along P (t ∷ ts) (q ∷ ps) u w keeps p c d =
    done_along P ts ps d.2.0 w keeps part.0 (clear_kept u d.2.0 ts (replay_keeps q.edits u d.2.0 d.2.1.replayed) c.1) d.2.2
  where
    more : (e : Edit) (x y : Unit) → P x × IsClearAt x t.f → IsProper x t.f e → edited e x ≡ Some y → P y × IsClearAt y t.f
    more e x y h g r = (keeps t.f e x y h.0 h.1 g r, subst (λ ds. option_map is_clear (slice_get ds t.f) ≡ Some true) (sym (edit_keeps e x y r)) h.1)

    part : P d.2.0 × IsClearAt d.2.0 t.f
    part = along (λ x. P x × IsClearAt x t.f) t.f q.edits u d.2.0 more (p, c.0) d.2.1.within d.2.1.replayed

-- The same of a script.
pub run_along : (P : Unit → Type 0) (ss : List Step) (j : List Part) (u v : Unit) (before after : List BoxView)
    → ((f : ℕ) (e : Edit) (x y : Unit) → P x → IsClearAt x f → IsProper x f e → edited e x ≡ Some y → P y)
    → P u → IsRun ss j u v before after → P v
run_along P ss j u v before after keeps p r = done_along P (script_tasks 1 ss (clear_places u.decided)) j u v keeps p (script_clear u 1 ss) r.done
