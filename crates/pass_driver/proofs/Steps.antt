-- What steps on functions add.
use Rattle.std.proofs.Common.{take, slice_index_or, subst, cond, true, false, suc, zero, ◌<◌, ◌≤◌, ◌≡◌, ℕ, ◌+◌, ◌-◌, ◌^◌, List, [], ◌∷◌, ◌++◌, length, refl, ap, sym, ◌∙◌, arith, IsTrue}
use Rattle.std.proofs.lemmas.Bool.{cond-true, cond-false}
use Rattle.std.specs.Prelude.{⊤, Bool, slice_get, Option, Some, None, option_map, is_none, is_some}
use Rattle.std.specs.Option.{option_map_or}
use Rattle.asm_unit.specs.declared.cause.FreezeCause.{FreezeCause}
use Rattle.asm_unit.specs.Decisions.{Decision, is_clear}
use Rattle.asm_unit.specs.Unit.{Unit}
use Rattle.pass_script.specs.declared.kinds.PassKind.{PassKind}
use Rattle.pass_script.specs.declared.script.Step.{Step}
use Rattle.pass_script.specs.Catalogue.{same_kind}
use Rattle.unit_edits.specs.declared.edit.Edit.{Edit}
use Rattle.unit_edits.specs.declared.journal.Part.{Part}
use Rattle.unit_edits.specs.Bodies.{IsClearAt}
use Rattle.unit_edits.specs.Journal.{onto_last}
use Rattle.pass_rules.specs.Rules.{Rule}
use Rattle.pass_base.specs.Books.{BoxView, has_box, opts_of, count_of, with_count}
use Rattle.pass_base.specs.Runs.{Ran, last_is, raised}
use Rattle.pass_driver.specs.Plan.{Task, task, step_tasks, script_tasks, AreDone, clear_from, clear_places}
use Rattle.pass_driver.specs.Outcome.{is_of, edits_of, IsRun}
use Rattle.pass_driver.specs.walks.Reached.{is_clear_at, if_clear, edits_in, HasOpts, Reaches}
use Rattle.pass_driver.proofs.Counts.{counted_one, raised_none, raised_twice}
use Rattle.pass_driver.proofs.Laws.{done_replays, done_keeps, done_alike}

pub last_end : (f : ℕ) (j : List Part) (p : Part) → p.f ≡ f → last_is f (j ++ p ∷ [])
last_end f [] p e = e
last_end f (q ∷ []) p e = e
last_end f (q ∷ r ∷ j) p e = last_end f (r ∷ j) p e

onto_end : (es : List Edit) (j : List Part) (p : Part) → onto_last es (j ++ p ∷ []) ≡ j ++ (record p { edits = p.edits ++ es }) ∷ []
onto_end es [] p = refl
onto_end es (q ∷ []) p = refl
onto_end es (q ∷ r ∷ j) p = ap (λ t. q ∷ t) (onto_end es (r ∷ j) p)

assoc : {A : Type 0} (xs ys zs : List A) → xs ++ ys ++ zs ≡ xs ++ (ys ++ zs)
assoc [] ys zs = refl
assoc (x ∷ xs) ys zs = ap (λ l. x ∷ l) (assoc xs ys zs)

end_nil : {A : Type 0} (xs : List A) → xs ++ [] ≡ xs
end_nil [] = refl
end_nil (x ∷ xs) = ap (λ l. x ∷ l) (end_nil xs)

-- one step on one function
pub reach_one : (n : ℕ) (s : Step) (f : ℕ) (j j1 j2 : List Part) (u v : Unit) (bs cs : List BoxView) (m : ℕ)
    → HasOpts s.kind s.opts bs → IsTrue (has_box s.kind bs) → ((k : PassKind) → count_of k bs ≤ 2 ^ 64 - 1)
    → j1 ≡ j ++ record { step = n; f = f; edits = [] } ∷ [] → cs ≡ with_count s.kind m bs
    → Ran s.kind (opts_of s.kind bs) f u v j1 j2 m → Reaches (task n s f ∷ []) j j2 u v bs cs
reach_one n s f j j1 j2 u v bs cs m has there small e c r =
    let p : Part = record { step = n; f = f; edits = r.leads.edits } in
    record {
      parts = p ∷ [];
      journal = r.leads.journal ∙ ap (onto_last r.leads.edits) e ∙ onto_end r.leads.edits j (record { step = n; f = f; edits = [] });
      done = (
        refl,
        refl,
        (
          v,
          record {
            replayed = r.leads.replayed;
            within = r.leads.within;
            rule = subst (λ x. Rule s.kind x f u r.leads.edits v) (has there) r.rule;
            same = r.leads.same;
          },
          refl,
        ),
      );
      counted = λ k. ap (count_of k) c ∙ counted_one s.kind m bs there small k
          ∙ ap (λ x. raised (count_of k bs) (cond (same_kind s.kind k) x 0 + 0)) r.leads.counted;
    }

pub reach_none : (j : List Part) (u : Unit) (bs cs : List BoxView) → ((k : PassKind) → count_of k bs ≤ 2 ^ 64 - 1)
    → ((k : PassKind) → count_of k cs ≡ count_of k bs) → Reaches [] j j u u bs cs
reach_none j u bs cs small e = record {
  parts = [];
  journal = sym (end_nil j);
  done = refl;
  counted = λ k. e k ∙ raised_none (count_of k bs) (small k);
}

done_append : (ts ts' : List Task) (ps ps' : List Part) (u v w : Unit) → AreDone ts ps u v → AreDone ts' ps' v w → AreDone (ts ++ ts') (ps ++ ps') u w
done_append [] ts' [] ps' u v w d e = subst (λ x. AreDone ts' ps' x w) (sym d) e
done_append [] ts' (p ∷ ps) ps' u v w d e = absurd d
done_append (t ∷ ts) ts' [] ps' u v w d e = absurd d
done_append (t ∷ ts) ts' (p ∷ ps) ps' u v w d e = (d.0, d.1, (d.2.0, d.2.1, done_append ts ts' ps ps' d.2.0 v w d.2.2 e))

edits_append : (k : PassKind) (ts ts' : List Task) (ps ps' : List Part) (u v : Unit) → AreDone ts ps u v
    → edits_in k (ts ++ ts') (ps ++ ps') ≡ edits_in k ts ps + edits_in k ts' ps'
edits_append k [] ts' [] ps' u v d = omega arith
edits_append k [] ts' (p ∷ ps) ps' u v d = absurd d
edits_append k (t ∷ ts) ts' [] ps' u v d = absurd d
edits_append k (t ∷ ts) ts' (p ∷ ps) ps' u v d =
    let i : edits_in k (ts ++ ts') (ps ++ ps') ≡ edits_in k ts ps + edits_in k ts' ps' = edits_append k ts ts' ps ps' d.2.0 v d.2.2 in omega arith

reach_more : (ts ts' : List Task) (j j1 j2 : List Part) (u v w : Unit) (bs cs ds : List BoxView)
    → Reaches ts j j1 u v bs cs → Reaches ts' j1 j2 v w cs ds → Reaches (ts ++ ts') j j2 u w bs ds
reach_more ts ts' j j1 j2 u v w bs cs ds a b = record {
  parts = a.parts ++ b.parts;
  journal = b.journal ∙ ap (λ l. l ++ b.parts) a.journal ∙ assoc j a.parts b.parts;
  done = done_append ts ts' a.parts b.parts u v w a.done b.done;
  counted = λ k. b.counted k ∙ ap (λ x. raised x (edits_in k ts' b.parts)) (a.counted k)
      ∙ raised_twice (count_of k bs) (edits_in k ts a.parts) (edits_in k ts' b.parts)
      ∙ ap (raised (count_of k bs)) (sym (edits_append k ts ts' a.parts b.parts u v a.done));
}

reach_keeps : (ts : List Task) (j j' : List Part) (u v : Unit) (bs cs : List BoxView) → Reaches ts j j' u v bs cs → v.decided ≡ u.decided
reach_keeps ts j j' u v bs cs r = done_keeps ts r.parts u v r.done

clear_take : (n f : ℕ) (ds : List Decision) → f < length ds → clear_from n (take (suc f) ds) ≡ clear_from n (take f ds) ++ cond (is_clear_at ds f) ((n + f) ∷ []) []
clear_take n f [] l = absurd (omega arith)
clear_take n zero (d ∷ ds) l =
    let e : n ≡ n + 0 = omega arith in
    elim (is_clear d) as (λ b. cond b (n ∷ []) [] ≡ cond b ((n + 0) ∷ []) []) [ true ↦ ap (λ x. x ∷ []) e | false ↦ refl ]
clear_take n (suc f) (d ∷ ds) l =
    let e : suc n + f ≡ n + suc f = omega arith in
    let i : clear_from (suc n) (take (suc f) ds) ≡ clear_from (suc n) (take f ds) ++ cond (is_clear_at ds f) ((n + suc f) ∷ []) [] =
    clear_take (suc n) f ds (omega arith) ∙ ap (λ x. clear_from (suc n) (take f ds) ++ cond (is_clear_at ds f) (x ∷ []) []) e in
    elim (is_clear d) as (λ b. cond b (n ∷ clear_from (suc n) (take (suc f) ds)) (clear_from (suc n) (take (suc f) ds))
    ≡ cond b (n ∷ clear_from (suc n) (take f ds)) (clear_from (suc n) (take f ds)) ++ cond (is_clear_at ds f) ((n + suc f) ∷ []) [])
    [ true ↦ ap (λ t. n ∷ t) i | false ↦ i ]

tasks_append : (n : ℕ) (s : Step) (fs gs : List ℕ) → step_tasks n s (fs ++ gs) ≡ step_tasks n s fs ++ step_tasks n s gs
tasks_append n s [] gs = refl
tasks_append n s (f ∷ fs) gs = ap (λ l. task n s f ∷ l) (tasks_append n s fs gs)

-- the tasks of a step, up to a function
abbrev pub tasks_before : ℕ → Step → ℕ → List Decision → List Task
tasks_before n s f ds = step_tasks n s (clear_places (take f ds))

tasks_next : (n : ℕ) (s : Step) (f : ℕ) (ds : List Decision) → f < length ds → tasks_before n s (f + 1) ds ≡ tasks_before n s f ds ++ step_tasks n s (if_clear ds f)
tasks_next n s f ds l =
    let e : f + 1 ≡ suc f = omega arith in
    let z : 0 + f ≡ f = omega arith in
    ap (λ m. tasks_before n s m ds) e ∙ ap (step_tasks n s) (clear_take 0 f ds l ∙ ap (λ x. clear_places (take f ds) ++ cond (is_clear_at ds f) (x ∷ []) []) z)
    ∙ tasks_append n s (clear_places (take f ds)) (if_clear ds f)

-- what a function's cause tells
pub told_clear : (o : Option Decision) (c : Option FreezeCause) (t : Bool) → option_map (λ d. d.cause) o ≡ Some c → is_none c ≡ t → option_map is_clear o ≡ Some t
told_clear None c t h e = grind_no h
  where
    grind_no : {A : Type 0} → None ≡ Some c → A
    grind_no q = absurd (subst (λ x. cond (is_some x) ⊥ ⊤) q tt)
told_clear (Some d) c t h e = ap (option_map is_none) h ∙ ap Some e

clear_by : (o : Option Decision) (t : Bool) → option_map is_clear o ≡ Some t → option_map_or is_clear o false ≡ t
clear_by None t h = absurd (subst (λ x. cond (is_some x) ⊥ ⊤) h tt)
clear_by (Some d) t h = ap (λ x. option_map_or (λ b. b) x false) h

pub is_clear_by : (ds : List Decision) (f : ℕ) (t : Bool) → option_map is_clear (slice_get ds f) ≡ Some t → is_clear_at ds f ≡ t
is_clear_by ds f t h = clear_by (slice_get ds f) t h

-- a function that is clear, and one that isn't
pub reach_clear : (n : ℕ) (s : Step) (f : ℕ) (j j' : List Part) (u v : Unit) (bs cs : List BoxView) → IsClearAt u f
    → Reaches (task n s f ∷ []) j j' u v bs cs → Reaches (step_tasks n s (if_clear u.decided f)) j j' u v bs cs
reach_clear n s f j j' u v bs cs t r = subst (λ fs. Reaches (step_tasks n s fs) j j' u v bs cs) (sym (cond-true _ _ _ (is_clear_by u.decided f true t))) r

pub reach_skipped : (n : ℕ) (s : Step) (f : ℕ) (j : List Part) (u : Unit) (bs : List BoxView) → ((k : PassKind) → count_of k bs ≤ 2 ^ 64 - 1)
    → option_map is_clear (slice_get u.decided f) ≡ Some false → Reaches (step_tasks n s (if_clear u.decided f)) j j u u bs bs
reach_skipped n s f j u bs small t =
    subst (λ fs. Reaches (step_tasks n s fs) j j u u bs bs) (sym (cond-false _ _ _ (is_clear_by u.decided f false t))) (reach_none j u bs bs small (λ k. refl))

pub next_function : (n : ℕ) (s : Step) (f : ℕ) (j j1 j2 : List Part) (u v w : Unit) (bs cs ds : List BoxView) → f < length u.decided
    → Reaches (tasks_before n s f u.decided) j j1 u v bs cs → Reaches (step_tasks n s (if_clear v.decided f)) j1 j2 v w cs ds
    → Reaches (tasks_before n s (f + 1) u.decided) j j2 u w bs ds
next_function n s f j j1 j2 u v w bs cs ds l a b =
    let kept : v.decided ≡ u.decided = reach_keeps (tasks_before n s f u.decided) j j1 u v bs cs a in
    let b' : Reaches (step_tasks n s (if_clear u.decided f)) j1 j2 v w cs ds = subst (λ c. Reaches (step_tasks n s (if_clear c f)) j1 j2 v w cs ds) kept b in
    subst (λ ts. Reaches ts j j2 u w bs ds) (sym (tasks_next n s f u.decided l))
    (reach_more (tasks_before n s f u.decided) (step_tasks n s (if_clear u.decided f)) j j1 j2 u v w bs cs ds a b')

pub within_kept : (ts : List Task) (f : ℕ) (j j' : List Part) (u v : Unit) (bs cs : List BoxView) → Reaches ts j j' u v bs cs → f < length u.decided → f < length v.decided
within_kept ts f j j' u v bs cs r l = subst (λ c. f < length c) (sym (reach_keeps ts j j' u v bs cs r)) l

take_all : {A : Type 0} (n : ℕ) (xs : List A) → length xs ≤ n → take n xs ≡ xs
take_all zero [] l = refl
take_all zero (x ∷ xs) l = absurd (omega arith)
take_all (suc n) [] l = refl
take_all (suc n) (x ∷ xs) l = ap (λ t. x ∷ t) (take_all n xs (omega arith))

pub step_end : (n : ℕ) (s : Step) (f : ℕ) (cl : List Decision) (j j1 : List Part) (u v : Unit) (bs cs : List BoxView) → length cl ≤ f
    → Reaches (tasks_before n s f cl) j j1 u v bs cs → Reaches (step_tasks n s (clear_places cl)) j j1 u v bs cs
step_end n s f cl j j1 u v bs cs l a = subst (λ x. Reaches (step_tasks n s (clear_places x)) j j1 u v bs cs) (take_all f cl l) a

script_next : (n i : ℕ) (ss : List Step) (d : Step) (fs : List ℕ) → i < length ss
    → script_tasks n (take (suc i) ss) fs ≡ script_tasks n (take i ss) fs ++ step_tasks (n + i) (slice_index_or ss i d) fs
script_next n i [] d fs l = absurd (omega arith)
script_next n zero (s ∷ ss) d fs l = let e : n ≡ n + 0 = omega arith in end_nil (step_tasks n s fs) ∙ ap (λ m. step_tasks m s fs) e
script_next n (suc i) (s ∷ ss) d fs l =
    let e : suc n + i ≡ n + suc i = omega arith in
    ap (λ t. step_tasks n s fs ++ t) (script_next (suc n) i ss d fs (omega arith) ∙ ap (λ m. script_tasks (suc n) (take i ss) fs ++ step_tasks m (slice_index_or ss i d) fs) e)
    ∙ sym (assoc (step_tasks n s fs) (script_tasks (suc n) (take i ss) fs) (step_tasks (n + suc i) (slice_index_or ss i d) fs))

pub reach_step : (i number : ℕ) (ss : List Step) (d : Step) (j j1 j2 : List Part) (u v w : Unit) (bs cs ds : List BoxView) → i < length ss → number ≡ i + 1
    → Reaches (script_tasks 1 (take i ss) (clear_places u.decided)) j j1 u v bs cs
    → Reaches (step_tasks number (slice_index_or ss i d) (clear_places v.decided)) j1 j2 v w cs ds
    → Reaches (script_tasks 1 (take (i + 1) ss) (clear_places u.decided)) j j2 u w bs ds
reach_step i number ss d j j1 j2 u v w bs cs ds l e a b =
    let s : suc i ≡ i + 1 = omega arith in
    let m : number ≡ 1 + i = omega arith in
    let kept : v.decided ≡ u.decided = reach_keeps _ j j1 u v bs cs a in
    let b' : Reaches (step_tasks (1 + i) (slice_index_or ss i d) (clear_places u.decided)) j1 j2 v w cs ds
    = subst (λ x. Reaches (step_tasks x (slice_index_or ss i d) (clear_places u.decided)) j1 j2 v w cs ds) m
    (subst (λ c. Reaches (step_tasks number (slice_index_or ss i d) (clear_places c)) j1 j2 v w cs ds) kept b) in
    subst (λ x. Reaches (script_tasks 1 (take x ss) (clear_places u.decided)) j j2 u w bs ds) s
    (subst (λ ts. Reaches ts j j2 u w bs ds) (sym (script_next 1 i ss d (clear_places u.decided) l))
    (reach_more (script_tasks 1 (take i ss) (clear_places u.decided)) (step_tasks (1 + i) (slice_index_or ss i d) (clear_places u.decided)) j j1 j2 u v w bs cs ds a b'))

-- each task's step is the script's step of its number
abbrev AreNumbered : List Step → List Task → Type 0
AreNumbered ss [] = ⊤
AreNumbered ss (t ∷ ts) = (slice_get ss (t.number - 1) ≡ Some t.step) × AreNumbered ss ts

edits_are : (k : PassKind) (ss : List Step) (ts : List Task) (ps : List Part) (u w : Unit) → AreNumbered ss ts → AreDone ts ps u w → edits_in k ts ps ≡ edits_of k ss ps
edits_are k ss [] [] u w n d = refl
edits_are k ss [] (p ∷ ps) u w n d = absurd d
edits_are k ss (t ∷ ts) [] u w n d = absurd d
edits_are k ss (t ∷ ts) (p ∷ ps) u w n d =
    let i : edits_in k ts ps ≡ edits_of k ss ps = edits_are k ss ts ps d.2.0 w n.1 d.2.2 in
    let s : is_of k ss p ≡ same_kind t.step.kind k = ap (λ x. option_map_or (λ s. same_kind s.kind k) (slice_get ss (x - 1)) false) d.0 ∙ ap (λ o. option_map_or (λ s. same_kind s.kind k) o false) n.0 in
    ap (λ x. cond x (length p.edits) 0 + edits_in k ts ps) (sym s) ∙ ap (λ x. cond (is_of k ss p) (length p.edits) 0 + x) i

numbered_append : (ss : List Step) (ts ts' : List Task) → AreNumbered ss ts → AreNumbered ss ts' → AreNumbered ss (ts ++ ts')
numbered_append ss [] ts' a b = b
numbered_append ss (t ∷ ts) ts' a b = (a.0, numbered_append ss ts ts' a.1 b)

numbered_step : (ss : List Step) (n : ℕ) (s : Step) (fs : List ℕ) → slice_get ss (n - 1) ≡ Some s → AreNumbered ss (step_tasks n s fs)
numbered_step ss n s [] h = tt
numbered_step ss n s (f ∷ fs) h = (h, numbered_step ss n s fs h)

numbered_from : (all : List Step) (n : ℕ) (ss : List Step) (fs : List ℕ) → ((i : ℕ) (s : Step) → slice_get ss i ≡ Some s → slice_get all (n + i - 1) ≡ Some s)
    → AreNumbered all (script_tasks n ss fs)
numbered_from all n [] fs h = tt
numbered_from all n (s ∷ ss) fs h =
    let z : n + 0 - 1 ≡ n - 1 = omega arith in
    numbered_append all (step_tasks n s fs) (script_tasks (suc n) ss fs)
    (numbered_step all n s fs (subst (λ m. slice_get all m ≡ Some s) z (h 0 s refl)))
    (numbered_from all (suc n) ss fs (λ i x g. let m : n + suc i - 1 ≡ suc n + i - 1 = omega arith in subst (λ m. slice_get all m ≡ Some x) m (h (suc i) x g)))

numbered : (ss : List Step) (fs : List ℕ) → AreNumbered ss (script_tasks 1 ss fs)
numbered ss fs = numbered_from ss 1 ss fs (λ i s g. let m : i ≡ 1 + i - 1 = omega arith in subst (λ n. slice_get ss n ≡ Some s) m g)

script_end : (i : ℕ) (ss : List Step) (j j' : List Part) (u v : Unit) (bs cs : List BoxView) → length ss ≤ i
    → Reaches (script_tasks 1 (take i ss) (clear_places u.decided)) j j' u v bs cs → Reaches (script_tasks 1 ss (clear_places u.decided)) j j' u v bs cs
script_end i ss j j' u v bs cs l r = subst (λ x. Reaches (script_tasks 1 x (clear_places u.decided)) j j' u v bs cs) (take_all i ss l) r

pub is_run : (i : ℕ) (ss : List Step) (j0 j : List Part) (u v : Unit) (bs cs : List BoxView) → j0 ≡ [] → length ss ≤ i
    → Reaches (script_tasks 1 (take i ss) (clear_places u.decided)) j0 j u v bs cs → IsRun ss j u v bs cs
is_run i ss j0 j u v bs cs e l h =
    let ts : List Task = script_tasks 1 ss (clear_places u.decided) in
    let r : Reaches ts j0 j u v bs cs = script_end i ss j0 j u v bs cs l h in
    let same : j ≡ r.parts = r.journal ∙ ap (λ x. x ++ r.parts) e in
    subst (λ x. IsRun ss x u v bs cs) (sym same) (record {
      done = r.done;
      replayed = done_replays ts r.parts u v r.done;
      same = done_alike ts r.parts u v r.done;
      decided = done_keeps ts r.parts u v r.done;
      counted = λ k. r.counted k ∙ ap (raised (count_of k bs)) (edits_are k ss ts r.parts u v (numbered ss (clear_places u.decided)) r.done);
    })
