-- What comes of the options of a step.
use Rattle.std.proofs.Common.{◌≡◌, ◌≢◌, refl, ap, sym, ◌∙◌, arith, ℕ, ◌+◌, ◌-◌, ◌<◌, ◌≤◌, length, length-drop, Bool, true, false, cond, List, [], ◌∷◌, ◌==◌, Some, None}
use Rattle.std.specs.Prelude.{◌||◌, slice_get, bytes_eq, find, IsTrue}
use Rattle.std.specs.List.{prefix_len, take_while, list_any}
use Rattle.std.proofs.lemmas.Bool.{eqb-true}
use Rattle.std.proofs.lemmas.Bool.Decides.{nat_tests}
use Rattle.std.proofs.lemmas.Grind.{common_steps}
use Rattle.std.proofs.lemmas.Slice.Eq.{bytes_eq-Decides}
use Rattle.pass_script.specs.declared.kinds.PassKind.{PassKind}
use Rattle.pass_script.specs.declared.options.PassOption.{PassOption}
use Rattle.pass_script.specs.declared.options.PassOpts.{PassOpts}
use Rattle.pass_script.specs.declared.script.Step.{Step}
use Rattle.pass_script.specs.declared.script.ScriptFault.{ScriptFault}
use Rattle.pass_script.specs.Catalogue.{option_of, options_of, name_of_option, with_number, is_in_range, AreInRange}
use Rattle.pass_script.specs.Grammar.{Next, Word, Reading, is_name_byte, read_on, stopped, with_words}
use Rattle.pass_script.specs.Script.{first_step}
use Rattle.pass_script.specs.walks.Given.{same_option}
use Rattle.pass_script.specs.walks.Left.{Left, past, reads, behind_byte, outcome, with_steps, behind_step, number_outcome, options_outcome, IsWithin, GivesNumber, FailsInNumber, GivesOptions, FailsInOptions}
use Rattle.pass_script.proofs.Runs.{goes_on, stops_here, no_option, option_word}
use Rattle.pass_script.proofs.Bytes.{Opens, something_taken}
use Rattle.pass_script.proofs.Order.{IsFrom, from_later, behind_byte_from}
use Rattle.pass_script.proofs.Outcomes.{option_begins, option_is_unknown, option_is_repeated}

found : {X : Type 0} (p : X → Bool) (xs : List X) (x : X) → find p xs ≡ Some x → p x ≡ true
found p [] x e = cc
found p (y ∷ ys) x e =
    elim (p y) as (λ t. p y ≡ t → cond t (Some y) (find p ys) ≡ Some x → p x ≡ true) [
      | true ↦ λ h e. (let same : y ≡ x = cc in rw (← same) h)
      | false ↦ λ h e. found p ys x e
    ] refl e

pub option_name : (k : PassKind) (name : List ℕ) (o : PassOption) → option_of k name ≡ Some o → name_of_option o ≡ name
option_name k name o e = (bytes_eq-Decides (name_of_option o) name).0 (found (λ x. bytes_eq (name_of_option x) name) (options_of k) o e)

-- a name stands in front, with what follows it
pub record IsNamed (at behind : Left) (name : List ℕ) : Type 0 where
  pub some : 0 < prefix_len is_name_byte at.bytes
  pub taken : name ≡ take_while is_name_byte at.bytes
  pub rest : behind ≡ past (prefix_len is_name_byte at.bytes) at

pub is_named : (at behind : Left) (name : List ℕ) (b : Bool) → name ≡ take_while is_name_byte at.bytes → behind ≡ past (prefix_len is_name_byte at.bytes) at
    → b ≡ (length name == 0) → b ≡ false → IsNamed at behind name
is_named at behind name b taken rest is full = record { some = something_taken is_name_byte at.bytes name b taken is full; taken = taken; rest = rest }

pub not_longer : (at behind : Left) (name : List ℕ) → IsNamed at behind name → length behind.bytes ≤ length at.bytes
not_longer at behind name h =
    let e : length behind.bytes ≡ length at.bytes - prefix_len is_name_byte at.bytes = ap (λ u. length u.bytes) h.rest ∙ length-drop (prefix_len is_name_byte at.bytes) at.bytes in
    omega arith

abbrev step_of : PassKind → PassOpts → Step
step_of kind opts = record { kind = kind; opts = opts }

name_there : (at behind : Left) (name : List ℕ) → IsNamed at behind name
    → reads Next.OptionName at ≡ with_words (Word.OptionName at.place name ∷ []) (behind_byte 91 Next.Digits behind.place behind.bytes)
name_there at behind name h =
    option_word at.place at.bytes h.some
    ∙ ap (λ n. with_words (Word.OptionName at.place n ∷ []) (behind_byte 91 Next.Digits (at.place + prefix_len is_name_byte at.bytes) (past (prefix_len is_name_byte at.bytes) at).bytes)) (sym h.taken)
    ∙ ap (λ u. with_words (Word.OptionName at.place name ∷ []) (behind_byte 91 Next.Digits u.place u.bytes)) (sym h.rest)

-- the bytes behind a name stand behind its place
behind_name : (at behind : Left) (name : List ℕ) → IsNamed at behind name → IsFrom (at.place + 1) (behind_byte 91 Next.Digits behind.place behind.bytes)
behind_name at behind name h =
    let far : behind.place ≡ at.place + prefix_len is_name_byte at.bytes = ap (λ u. u.place) h.rest in
    from_later (at.place + 1) behind.place _ (omega (arith, h.some)) (behind_byte_from 91 Next.Digits behind.place behind.bytes)

pub option_is_missing : (l at : Left) (kind : PassKind) (opts : PassOpts) (has : PassOption → Bool) (place : ℕ) → IsWithin l kind opts has at → place ≡ at.place
    → prefix_len is_name_byte at.bytes ≡ 0 → FailsInOptions l kind (ScriptFault.Malformed place)
option_is_missing l at kind opts has place w e none steps =
    ap (λ q. q.fault) (w.leads steps) ∙ ap (λ r. (outcome steps (Some (step_of kind opts)) w.names r).fault) (no_option at.place at.bytes none)
    ∙ ap (λ p. Some (ScriptFault.Malformed p)) (sym e)

pub option_is_foreign : (l at behind : Left) (kind : PassKind) (opts : PassOpts) (has : PassOption → Bool) (name : List ℕ) (place : ℕ) → IsWithin l kind opts has at → place ≡ at.place
    → IsNamed at behind name → option_of kind name ≡ None → FailsInOptions l kind (ScriptFault.UnknownOption place)
option_is_foreign l at behind kind opts has name place w e h none steps =
    ap (λ q. q.fault) (w.leads steps ∙ ap (outcome steps (Some (step_of kind opts)) w.names) (name_there at behind name h))
    ∙ option_is_unknown steps at.place (step_of kind opts) w.names name (behind_byte 91 Next.Digits behind.place behind.bytes) (w.known name none) none (behind_name at behind name h)
    ∙ ap (λ p. Some (ScriptFault.UnknownOption p)) (sym e)

pub option_is_twice : (l at behind : Left) (kind : PassKind) (opts : PassOpts) (has : PassOption → Bool) (name : List ℕ) (place : ℕ) (o : PassOption) → IsWithin l kind opts has at → place ≡ at.place
    → IsNamed at behind name → option_of kind name ≡ Some o → has o ≡ true → FailsInOptions l kind (ScriptFault.Malformed place)
option_is_twice l at behind kind opts has name place o w e h known twice steps =
    ap (λ q. q.fault) (w.leads steps ∙ ap (outcome steps (Some (step_of kind opts)) w.names) (name_there at behind name h))
    ∙ option_is_repeated steps at.place (step_of kind opts) w.names name (behind_byte 91 Next.Digits behind.place behind.bytes)
    (ap (λ n. list_any (bytes_eq n) w.names) (sym (option_name kind name o known)) ∙ sym (w.given o) ∙ twice) (behind_name at behind name h)
    ∙ ap (λ p. Some (ScriptFault.Malformed p)) (sym e)

-- an option begins that the step has not given yet
pub record IsNew (l at behind : Left) (kind : PassKind) (opts : PassOpts) (has : PassOption → Bool) (name : List ℕ) (o : PassOption) : Type 0 where
  pub within : IsWithin l kind opts has at
  pub named : IsNamed at behind name
  pub known : option_of kind name ≡ Some o
  pub fresh : has o ≡ false

to_number : (l at behind : Left) (kind : PassKind) (opts : PassOpts) (has : PassOption → Bool) (name : List ℕ) (o : PassOption) (h : IsNew l at behind kind opts has name o) (steps : ℕ)
    → options_outcome steps kind l ≡ number_outcome steps (step_of kind opts) name h.within.names behind
to_number l at behind kind opts has name o h steps =
    h.within.leads steps ∙ ap (outcome steps (Some (step_of kind opts)) h.within.names) (name_there at behind name h.named)
    ∙ option_begins steps at.place (step_of kind opts) h.within.names name o (behind_byte 91 Next.Digits behind.place behind.bytes)
    (ap (λ n. list_any (bytes_eq n) h.within.names) (sym (option_name kind name o h.known)) ∙ sym (h.within.given o) ∙ h.fresh) h.known

pub number_fails : (l at behind : Left) (kind : PassKind) (opts : PassOpts) (has : PassOption → Bool) (name : List ℕ) (o : PassOption) (fault : ScriptFault) → IsNew l at behind kind opts has name o
    → FailsInNumber behind o fault → FailsInOptions l kind fault
number_fails l at behind kind opts has name o fault h f steps =
    ap (λ q. q.fault) (to_number l at behind kind opts has name o h steps) ∙ f steps (step_of kind opts) name h.within.names h.known

to_end : (l at behind u : Left) (kind : PassKind) (opts : PassOpts) (has : PassOption → Bool) (name : List ℕ) (o : PassOption) (n : ℕ) (h : IsNew l at behind kind opts has name o)
    → GivesNumber behind o n u → (steps : ℕ)
    → options_outcome steps kind l ≡ outcome steps (Some (step_of kind (with_number o n opts))) (name ∷ h.within.names) (reads Next.OptionEnd u)
to_end l at behind u kind opts has name o n h g steps =
    to_number l at behind kind opts has name o h steps ∙ g steps (step_of kind opts) name h.within.names h.known

at_comma : (n m : ℕ) (bs cs : List ℕ) → bs ≡ 44 ∷ cs → m ≡ n + 1 → read_on Next.OptionEnd n bs ≡ read_on Next.OptionName m cs
at_comma n m bs cs e f = ap (read_on Next.OptionEnd n) e ∙ ap (λ k. read_on Next.OptionName k cs) (sym f)

pub more_options : (l at behind u next : Left) (kind : PassKind) (opts : PassOpts) (has has' : PassOption → Bool) (name : List ℕ) (o : PassOption) (n : ℕ) → IsNew l at behind kind opts has name o
    → GivesNumber behind o n u → Opens 44 u next → ((x : PassOption) → has' x ≡ (same_option x o || has x)) → IsWithin l kind (with_number o n opts) has' next
more_options l at behind u next kind opts has has' name o n h g there more = record {
  names = name ∷ h.within.names;
  given = λ x. more x ∙ ap (λ m. bytes_eq (name_of_option x) m || has x) (option_name kind name o h.known) ∙ ap (λ b. bytes_eq (name_of_option x) name || b) (h.within.given x);
  known = λ m none. (
      let other : bytes_eq m name ≡ false = elim (bytes_eq m name) as (λ t. bytes_eq m name ≡ t → t ≡ false) [
        | true ↦ λ e. absurd (let same : option_of kind m ≡ option_of kind name = ap (option_of kind) ((bytes_eq-Decides m name).0 e) in let k = h.known in cc (none, same, k))
        | false ↦ λ e. refl
      ] refl in
      rw other (h.within.known m none)
      );
  leads = λ steps.
      to_end l at behind u kind opts has name o n h g steps
      ∙ ap (outcome steps (Some (step_of kind (with_number o n opts))) (name ∷ h.within.names)) (at_comma u.place next.place u.bytes next.bytes there.0 there.1);
}

-- nothing of a step is kept where the next begins
pub next_step : (steps : ℕ) (s : Step) (given : List (List ℕ)) (n : ℕ) (bs : List ℕ)
    → outcome steps (Some s) given (read_on Next.StepName n bs) ≡ with_steps (s ∷ []) (outcome steps None [] (read_on Next.StepName n bs))
next_step steps s given n [] = refl
next_step steps s given n (b ∷ bs) =
    elim (is_name_byte b) as (λ t.
    let r : Reading = elim (cond t (Some Next.InStepName) None) as (λ _. Reading) [
      | None ↦ stopped n
      | Some after ↦ with_words (Word.PassName n (take_while is_name_byte (b ∷ bs)) ∷ []) (read_on after (n + 1) bs)
    ] in
    outcome steps (Some s) given r ≡ with_steps (s ∷ []) (outcome steps None [] r)) [ true ↦ refl | false ↦ refl ]

option_ends : (steps : ℕ) (s : Step) (given : List (List ℕ)) (n : ℕ) (bs : List ℕ) → slice_get bs 0 ≢ Some 44
    → outcome steps (Some s) given (read_on Next.OptionEnd n bs) ≡ behind_step steps s n bs
option_ends steps s given n [] h = refl
option_ends steps s given n (b ∷ bs) h =
    let no_comma : (b == 44) ≡ false = elim (b == 44) as (λ t. (b == 44) ≡ t → t ≡ false) [ true ↦ λ e. absurd (h (ap Some (eqb-true b 44 e))) | false ↦ λ e. refl ] refl in
    elim (b == 58) as (λ t. (b == 58) ≡ t →
    outcome steps (Some s) given (read_on Next.OptionEnd n (b ∷ bs))
    ≡ cond t (with_steps (s ∷ []) (outcome steps None [] (read_on Next.StepName (n + 1) bs))) (record { fault = Some (ScriptFault.Malformed n); steps = s ∷ [] })) [
      | true ↦ λ e. ap (outcome steps (Some s) given) (goes_on Next.OptionEnd Next.StepName n b bs (rw no_comma (rw e refl))) ∙ next_step steps s given (n + 1) bs
      | false ↦ λ e. ap (outcome steps (Some s) given) (stops_here Next.OptionEnd n b bs (rw no_comma (rw e refl)))
    ] refl

pub options_end : (l at behind u : Left) (kind : PassKind) (opts : PassOpts) (has : PassOption → Bool) (name : List ℕ) (o : PassOption) (n : ℕ) → IsNew l at behind kind opts has name o
    → GivesNumber behind o n u → slice_get u.bytes 0 ≢ Some 44 → GivesOptions l kind (with_number o n opts) u
options_end l at behind u kind opts has name o n h g ends steps =
    to_end l at behind u kind opts has name o n h g steps ∙ option_ends steps (step_of kind (with_number o n opts)) (name ∷ h.within.names) u.place u.bytes ends

pub begins_within : (l : Left) (kind : PassKind) (has : PassOption → Bool) → ((o : PassOption) → has o ≡ false) → IsWithin l kind (first_step kind).opts has l
begins_within l kind has none = record { names = []; given = none; known = λ n e. refl; leads = λ steps. refl }

pub in_range : (o : PassOption) (n : ℕ) (opts : PassOpts) → IsTrue (is_in_range o n) → AreInRange opts → AreInRange (with_number o n opts)
in_range PassOption.Seed n opts h a = record { seed = (omega arith, grind (arith, nat_tests, common_steps)); density = a.density; align = a.align; max = a.max }
in_range PassOption.Density n opts h a = record { seed = a.seed; density = (omega arith, grind (arith, nat_tests, common_steps)); align = a.align; max = a.max }
in_range PassOption.Align n opts h a = record { seed = a.seed; density = a.density; align = (omega arith, grind (arith, nat_tests, common_steps)); max = a.max }
in_range PassOption.Max n opts h a = record { seed = a.seed; density = a.density; align = a.align; max = (grind (arith, nat_tests, common_steps), grind (arith, nat_tests, common_steps)) }
