-- What comes of steps.
use Rattle.std.proofs.Common.{◌≡◌, ◌≢◌, refl, ap, sym, ◌∙◌, arith, ℕ, ◌+◌, ◌<◌, ◌≤◌, zero, suc, length, length-append, append_assoc, true, false, cond, List, [], ◌∷◌, ◌++◌, ◌==◌, Some, None}
use Rattle.std.specs.Prelude.{slice_get, All}
use Rattle.std.specs.List.{prefix_len, take_while}
use Rattle.std.proofs.lemmas.Bool.{eqb-true}
use Rattle.std.proofs.lemmas.List.Elements.{All-append}
use Rattle.pass_script.specs.declared.kinds.PassKind.{PassKind}
use Rattle.pass_script.specs.declared.options.PassOpts.{PassOpts}
use Rattle.pass_script.specs.declared.script.Step.{Step}
use Rattle.pass_script.specs.declared.script.ScriptFault.{ScriptFault}
use Rattle.pass_script.specs.Catalogue.{kind_of, AreInRange}
use Rattle.pass_script.specs.Grammar.{Next, Word, is_name_byte, reading, read_on, with_words}
use Rattle.pass_script.specs.Script.{first_step, fault_of}
use Rattle.pass_script.specs.walks.Left.{Left, past, reads, outcome, with_steps, behind_step, options_outcome, GivesOptions, FailsInOptions, step_outcome, GivesStep, FailsInStep}
use Rattle.pass_script.proofs.Runs.{StopsAt, run_stops, goes_on, stops_here, no_pass, pass_word}
use Rattle.pass_script.proofs.Bytes.{Opens}
use Rattle.pass_script.proofs.Order.{IsFrom, from_later, read_on_from}
use Rattle.pass_script.proofs.Outcomes.{pass_begins, pass_is_unknown, one_too_many}
use Rattle.pass_script.proofs.InOptions.{IsNamed, next_step}

name_there : (at behind : Left) (name : List ℕ) → IsNamed at behind name
    → reads Next.StepName at ≡ with_words (Word.PassName at.place name ∷ []) (reads Next.InStepName behind)
name_there at behind name h =
    pass_word at.place at.bytes h.some
    ∙ ap (λ n. with_words (Word.PassName at.place n ∷ []) (reads Next.InStepName (past (prefix_len is_name_byte at.bytes) at))) (sym h.taken)
    ∙ ap (λ u. with_words (Word.PassName at.place name ∷ []) (reads Next.InStepName u)) (sym h.rest)

behind_name : (at behind : Left) (name : List ℕ) → IsNamed at behind name → IsFrom (at.place + 1) (reads Next.InStepName behind)
behind_name at behind name h =
    let far : behind.place ≡ at.place + prefix_len is_name_byte at.bytes = ap (λ u. u.place) h.rest in
    from_later (at.place + 1) behind.place _ (omega (arith, h.some)) (read_on_from Next.InStepName behind.place behind.bytes)

pub step_is_missing : (at : Left) (place : ℕ) → place ≡ at.place → prefix_len is_name_byte at.bytes ≡ 0 → FailsInStep at (ScriptFault.Malformed place)
step_is_missing at place e none steps few =
    ap (λ r. (outcome steps None [] r).fault) (no_pass at.place at.bytes none) ∙ ap (λ p. Some (ScriptFault.Malformed p)) (sym e)

pub step_is_unknown : (at behind : Left) (name : List ℕ) (place : ℕ) → place ≡ at.place → IsNamed at behind name → kind_of name ≡ None → FailsInStep at (ScriptFault.UnknownPass place)
step_is_unknown at behind name place e h none steps few =
    ap (λ r. (outcome steps None [] r).fault) (name_there at behind name h)
    ∙ pass_is_unknown steps at.place name (reads Next.InStepName behind) few none (behind_name at behind name h)
    ∙ ap (λ p. Some (ScriptFault.UnknownPass p)) (sym e)

to_kind : (at behind : Left) (name : List ℕ) (k : PassKind) → IsNamed at behind name → kind_of name ≡ Some k → (steps : ℕ) → steps < 32
    → step_outcome steps at ≡ outcome (steps + 1) (Some (first_step k)) [] (reads Next.InStepName behind)
to_kind at behind name k h known steps few =
    ap (outcome steps None []) (name_there at behind name h) ∙ pass_begins steps at.place name k (reads Next.InStepName behind) few known

at_equals : (n m : ℕ) (bs cs : List ℕ) → bs ≡ 61 ∷ cs → m ≡ n + 1 → read_on Next.InStepName n bs ≡ read_on Next.OptionName m cs
at_equals n m bs cs e f = ap (read_on Next.InStepName n) e ∙ ap (λ k. read_on Next.OptionName k cs) (sym f)

to_options : (at behind from : Left) (name : List ℕ) (k : PassKind) → IsNamed at behind name → kind_of name ≡ Some k → Opens 61 behind from → (steps : ℕ) → steps < 32
    → step_outcome steps at ≡ options_outcome (steps + 1) k from
to_options at behind from name k h known there steps few =
    to_kind at behind name k h known steps few
    ∙ ap (outcome (steps + 1) (Some (first_step k)) []) (at_equals behind.place from.place behind.bytes from.bytes there.0 there.1)

pub options_fail : (at behind from : Left) (name : List ℕ) (k : PassKind) (fault : ScriptFault) → IsNamed at behind name → kind_of name ≡ Some k → Opens 61 behind from
    → FailsInOptions from k fault → FailsInStep at fault
options_fail at behind from name k fault h known there f steps few = ap (λ q. q.fault) (to_options at behind from name k h known there steps few) ∙ f (steps + 1)

pub options_are_read : (at behind from rest : Left) (name : List ℕ) (k : PassKind) (opts : PassOpts) → IsNamed at behind name → kind_of name ≡ Some k → Opens 61 behind from
    → GivesOptions from k opts rest → GivesStep at (record { kind = k; opts = opts }) rest
options_are_read at behind from rest name k opts h known there g steps few = to_options at behind from name k h known there steps few ∙ g (steps + 1)

name_ends : (steps : ℕ) (s : Step) (n : ℕ) (bs : List ℕ) → StopsAt is_name_byte bs → slice_get bs 0 ≢ Some 61
    → outcome steps (Some s) [] (read_on Next.InStepName n bs) ≡ behind_step steps s n bs
name_ends steps s n [] stop h = refl
name_ends steps s n (b ∷ bs) stop h =
    let no_equals : (b == 61) ≡ false = elim (b == 61) as (λ t. (b == 61) ≡ t → t ≡ false) [ true ↦ λ e. absurd (h (ap Some (eqb-true b 61 e))) | false ↦ λ e. refl ] refl in
    elim (b == 58) as (λ t. (b == 58) ≡ t →
    outcome steps (Some s) [] (read_on Next.InStepName n (b ∷ bs))
    ≡ cond t (with_steps (s ∷ []) (outcome steps None [] (read_on Next.StepName (n + 1) bs))) (record { fault = Some (ScriptFault.Malformed n); steps = s ∷ [] })) [
      | true ↦ λ e. ap (outcome steps (Some s) []) (goes_on Next.InStepName Next.StepName n b bs (rw stop (rw no_equals (rw e refl)))) ∙ next_step steps s [] (n + 1) bs
      | false ↦ λ e. ap (outcome steps (Some s) []) (stops_here Next.InStepName n b bs (rw stop (rw no_equals (rw e refl))))
    ] refl

stops : (at behind : Left) (name : List ℕ) → IsNamed at behind name → StopsAt is_name_byte behind.bytes
stops at behind name h = let e = ap (λ u. u.bytes) h.rest in rw e (run_stops is_name_byte at.bytes)

pub step_is_bare : (at behind : Left) (name : List ℕ) (k : PassKind) (opts : PassOpts) → IsNamed at behind name → kind_of name ≡ Some k → slice_get behind.bytes 0 ≢ Some 61
    → opts ≡ (first_step k).opts → GivesStep at (record { kind = k; opts = opts }) behind
step_is_bare at behind name k opts h known ends e steps few =
    to_kind at behind name k h known steps few
    ∙ name_ends (steps + 1) (first_step k) behind.place behind.bytes (stops at behind name h) ends
    ∙ ap (λ o. behind_step (steps + 1) (record { kind = k; opts = o }) behind.place behind.bytes) (sym e)

-- the steps that were read, and where the next begins
pub record IsAt (text : List ℕ) (steps : List Step) (at : Left) : Type 0 where
  pub few : length steps ≤ 32
  pub leads : outcome 0 None [] (reading text) ≡ with_steps steps (step_outcome (length steps) at)

pub starts : (text : List ℕ) (at : Left) → text ≢ [] → at ≡ record { place = 0; bytes = text } → IsAt text [] at
starts [] at h e = absurd (h refl)
starts (b ∷ bs) at h e = record { few = omega arith; leads = ap (step_outcome 0) (sym e) }

too_many : (at : Left) (n : ℕ) → prefix_len is_name_byte at.bytes ≡ n → (step_outcome 32 at).fault ≡ Some (ScriptFault.Malformed at.place)
too_many at zero none = ap (λ r. (outcome 32 None [] r).fault) (no_pass at.place at.bytes none)
too_many at (suc n) some =
    let named : IsNamed at (past (prefix_len is_name_byte at.bytes) at) (take_while is_name_byte at.bytes) = record { some = omega arith; taken = refl; rest = refl } in
    ap (λ r. (outcome 32 None [] r).fault) (name_there at _ _ named)
    ∙ one_too_many at.place (take_while is_name_byte at.bytes) (reads Next.InStepName (past (prefix_len is_name_byte at.bytes) at)) (behind_name at _ _ named)

pub there_are_too_many : (text : List ℕ) (steps : List Step) (at : Left) (place : ℕ) → IsAt text steps at → length steps ≡ 32 → place ≡ at.place → fault_of text ≡ Some (ScriptFault.Malformed place)
there_are_too_many text steps at place h all e =
    ap (λ q. q.fault) h.leads ∙ ap (λ n. (step_outcome n at).fault) all ∙ too_many at _ refl ∙ ap (λ p. Some (ScriptFault.Malformed p)) (sym e)

pub step_fails : (text : List ℕ) (steps : List Step) (at : Left) (fault : ScriptFault) → IsAt text steps at → length steps < 32 → FailsInStep at fault → fault_of text ≡ Some fault
step_fails text steps at fault h few f = ap (λ q. q.fault) h.leads ∙ f (length steps) few

behind_it : (text : List ℕ) (steps : List Step) (at rest : Left) (s : Step) → IsAt text steps at → length steps < 32 → GivesStep at s rest
    → outcome 0 None [] (reading text) ≡ with_steps steps (behind_step (length steps + 1) s rest.place rest.bytes)
behind_it text steps at rest s h few g = h.leads ∙ ap (with_steps steps) (g (length steps) few)

at_colon : (steps : ℕ) (s : Step) (n m : ℕ) (bs cs : List ℕ) → bs ≡ 58 ∷ cs → m ≡ n + 1 → behind_step steps s n bs ≡ with_steps (s ∷ []) (outcome steps None [] (read_on Next.StepName m cs))
at_colon steps s n m bs cs e f = ap (behind_step steps s n) e ∙ ap (λ k. with_steps (s ∷ []) (outcome steps None [] (read_on Next.StepName k cs))) (sym f)

pub step_follows : (text : List ℕ) (steps steps' : List Step) (at rest next : Left) (s : Step) → IsAt text steps at → length steps < 32 → GivesStep at s rest → Opens 58 rest next
    → steps' ≡ steps ++ s ∷ [] → IsAt text steps' next
step_follows text steps steps' at rest next s h few g there e =
    let one : length (steps ++ s ∷ []) ≡ length steps + 1 = length-append steps (s ∷ []) in
    rw e (record {
      few = omega arith;
      leads =
          behind_it text steps at rest s h few g
          ∙ ap (with_steps steps) (at_colon (length steps + 1) s rest.place next.place rest.bytes next.bytes there.0 there.1)
          ∙ ap (λ ss. record { fault = (step_outcome (length steps + 1) next).fault; steps = ss }) (sym (append_assoc steps (s ∷ []) (step_outcome (length steps + 1) next).steps))
          ∙ ap (λ n. with_steps (steps ++ s ∷ []) (step_outcome n next)) (sym one);
    })

-- the whole was read
pub record IsRead (text : List ℕ) (steps : List Step) : Type 0 where
  pub few : length steps ≤ 32
  pub leads : outcome 0 None [] (reading text) ≡ record { fault = None; steps = steps }

pub step_is_last : (text : List ℕ) (steps steps' : List Step) (at rest : Left) (s : Step) → IsAt text steps at → length steps < 32 → GivesStep at s rest → rest.bytes ≡ []
    → steps' ≡ steps ++ s ∷ [] → IsRead text steps'
step_is_last text steps steps' at rest s h few g none e =
    let one : length (steps ++ s ∷ []) ≡ length steps + 1 = length-append steps (s ∷ []) in
    rw e (record {
      few = omega arith;
      leads = behind_it text steps at rest s h few g ∙ ap (λ bs. with_steps steps (behind_step (length steps + 1) s rest.place bs)) none;
    })

bad_byte : (steps : ℕ) (s : Step) (n : ℕ) (bs : List ℕ) → bs ≢ [] → slice_get bs 0 ≢ Some 58 → (behind_step steps s n bs).fault ≡ Some (ScriptFault.Malformed n)
bad_byte steps s n [] some h = absurd (some refl)
bad_byte steps s n (b ∷ bs) some h =
    let no_colon : (b == 58) ≡ false = elim (b == 58) as (λ t. (b == 58) ≡ t → t ≡ false) [ true ↦ λ e. absurd (h (ap Some (eqb-true b 58 e))) | false ↦ λ e. refl ] refl in
    rw no_colon refl

pub step_is_cut : (text : List ℕ) (steps : List Step) (at rest : Left) (s : Step) (place : ℕ) → IsAt text steps at → length steps < 32 → GivesStep at s rest → rest.bytes ≢ []
    → slice_get rest.bytes 0 ≢ Some 58 → place ≡ rest.place → fault_of text ≡ Some (ScriptFault.Malformed place)
step_is_cut text steps at rest s place h few g some ends e =
    ap (λ q. q.fault) (behind_it text steps at rest s h few g) ∙ bad_byte (length steps + 1) s rest.place rest.bytes some ends ∙ ap (λ p. Some (ScriptFault.Malformed p)) (sym e)

pub all_in_range : (steps steps' : List Step) (s : Step) → All (λ t. AreInRange t.opts) steps → AreInRange s.opts → steps' ≡ steps ++ s ∷ [] → All (λ t. AreInRange t.opts) steps'
all_in_range steps steps' s a b e =
    let one : All (λ t. AreInRange t.opts) (s ∷ []) = λ k d h. (let z : k ≡ 0 = omega arith in rw z b) in
    rw e (All-append (λ t. AreInRange t.opts) steps (s ∷ []) a one)
