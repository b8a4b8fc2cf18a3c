-- What is left of a script behind a place, and what comes of it.
use Rattle.std.specs.Prelude.{◌≡◌, ℕ, ◌+◌, ◌<◌, Bool, false, List, [], ◌∷◌, ◌++◌, drop, Option, Some, None, option_map, ◌==◌, if◌then◌else◌, bytes_eq}
use Rattle.std.specs.List.{list_any}
use Rattle.pass_script.specs.declared.kinds.PassKind.{PassKind}
use Rattle.pass_script.specs.declared.options.PassOption.{PassOption}
use Rattle.pass_script.specs.declared.options.PassOpts.{PassOpts}
use Rattle.pass_script.specs.declared.script.Step.{Step}
use Rattle.pass_script.specs.declared.script.ScriptFault.{ScriptFault}
use Rattle.pass_script.specs.Catalogue.{option_of, name_of_option, with_number}
use Rattle.pass_script.specs.Grammar.{Next, Reading, read_on, stopped}
use Rattle.pass_script.specs.Script.{word_faults, stop_fault, least, steps_from, first_step}

-- the bytes from a place on
pub record Left : Type 0 where
  pub place : ℕ
  pub bytes : List ℕ

-- what follows so many bytes
abbrev pub past : ℕ → Left → Left
past n l = record { place = l.place + n; bytes = drop n l.bytes }

abbrev pub reads : Next → Left → Reading
reads next l = read_on next l.place l.bytes

-- the reading behind a byte that has to stand there
abbrev pub behind_byte : ℕ → Next → ℕ → List ℕ → Reading
behind_byte b next place [] = stopped place
behind_byte b next place (c ∷ cs) = if c == b then read_on next (place + 1) cs else stopped place

-- the fault and the steps
pub record Outcome : Type 0 where
  pub fault : Option ScriptFault
  pub steps : List Step

abbrev pub last_name : List (List ℕ) → List ℕ
last_name [] = []
last_name (name ∷ given) = name

-- what comes of a reading behind so many steps, where a step has begun that gave options of these names
abbrev pub outcome : ℕ → Option Step → List (List ℕ) → Reading → Outcome
outcome steps step given r = record {
  fault = least (word_faults steps (option_map (λ s. s.kind) step) given r.words ++ stop_fault r.stop);
  steps = steps_from step (last_name given) r.words;
}

abbrev pub with_steps : List Step → Outcome → Outcome
with_steps ss o = record o { steps = ss ++ o.steps }

-- what comes of the bytes behind a step, as the last of so many
abbrev pub behind_step : ℕ → Step → ℕ → List ℕ → Outcome
behind_step steps s place [] = record { fault = None; steps = s ∷ [] }
behind_step steps s place (b ∷ bs) =
    if b == 58 then with_steps (s ∷ []) (outcome steps None [] (read_on Next.StepName (place + 1) bs))
    else record { fault = Some (ScriptFault.Malformed place); steps = s ∷ [] }

-- behind the name of an option, where its number in brackets begins
abbrev pub number_outcome : ℕ → Step → List ℕ → List (List ℕ) → Left → Outcome
number_outcome steps s name given l = outcome steps (Some s) (name ∷ given) (behind_byte 91 Next.Digits l.place l.bytes)

-- a number in brackets was read, with what follows it
abbrev pub GivesNumber : Left → PassOption → ℕ → Left → Type 0
GivesNumber l o number rest =
    (steps : ℕ) (s : Step) (name : List ℕ) (given : List (List ℕ)) → option_of s.kind name ≡ Some o
    → number_outcome steps s name given l ≡ outcome steps (Some (record s { opts = with_number o number s.opts })) (name ∷ given) (reads Next.OptionEnd rest)

abbrev pub FailsInNumber : Left → PassOption → ScriptFault → Type 0
FailsInNumber l o fault =
    (steps : ℕ) (s : Step) (name : List ℕ) (given : List (List ℕ)) → option_of s.kind name ≡ Some o
    → (number_outcome steps s name given l).fault ≡ Some fault

-- behind the `=` of a step
abbrev pub options_outcome : ℕ → PassKind → Left → Outcome
options_outcome steps kind l = outcome steps (Some (first_step kind)) [] (reads Next.OptionName l)

-- options were read, with what follows them
abbrev pub GivesOptions : Left → PassKind → PassOpts → Left → Type 0
GivesOptions l kind opts rest = (steps : ℕ) → options_outcome steps kind l ≡ behind_step steps (record { kind = kind; opts = opts }) rest.place rest.bytes

-- some options were read: those of the names given, the last one first
pub record IsWithin (l : Left) (kind : PassKind) (opts : PassOpts) (is_given : PassOption → Bool) (rest : Left) : Type 0 where
  pub names : List (List ℕ)
  pub given : (o : PassOption) → is_given o ≡ list_any (bytes_eq (name_of_option o)) names
  pub known : (name : List ℕ) → option_of kind name ≡ None → list_any (bytes_eq name) names ≡ false
  pub leads : (steps : ℕ) → options_outcome steps kind l ≡ outcome steps (Some (record { kind = kind; opts = opts })) names (reads Next.OptionName rest)

abbrev pub FailsInOptions : Left → PassKind → ScriptFault → Type 0
FailsInOptions l kind fault = (steps : ℕ) → (options_outcome steps kind l).fault ≡ Some fault

-- what comes of the bytes where a step begins, behind so many steps
abbrev pub step_outcome : ℕ → Left → Outcome
step_outcome steps l = outcome steps None [] (reads Next.StepName l)

-- a step was read, with what follows it
abbrev pub GivesStep : Left → Step → Left → Type 0
GivesStep l s rest = (steps : ℕ) → steps < 32 → step_outcome steps l ≡ behind_step (steps + 1) s rest.place rest.bytes

abbrev pub FailsInStep : Left → ScriptFault → Type 0
FailsInStep l fault = (steps : ℕ) → steps < 32 → (step_outcome steps l).fault ≡ Some fault
