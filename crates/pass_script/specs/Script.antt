-- The steps of a script, and its first fault.
use Rattle.std.specs.Prelude.{ℕ, ◌+◌, ◌-◌, ◌*◌, Bool, true, false, not, List, [], ◌∷◌, ◌++◌, length, Option, Some, None, option_map, ◌==◌, ◌&&◌, ◌||◌, nat_le, nat_lt, if◌then◌else◌, is_some, bytes_eq, fold}
use Rattle.std.specs.Option.{option_and_then, option_map_or}
use Rattle.std.specs.List.{list_any}
use Rattle.pass_script.specs.declared.kinds.PassKind.{PassKind}
use Rattle.pass_script.specs.declared.options.PassOption.{PassOption}
use Rattle.pass_script.specs.declared.script.Step.{Step}
use Rattle.pass_script.specs.declared.script.ScriptFault.{ScriptFault}
use Rattle.pass_script.specs.Catalogue.{kind_of, option_of, is_in_range, defaults, with_number}
use Rattle.pass_script.specs.Grammar.{Word, reading}

-- the option that a name is, in a step of a kind, if that is known
abbrev pub option_in : Option PassKind → List ℕ → Option PassOption
option_in kind name = option_and_then (λ k. option_of k name) kind

-- decimal
abbrev pub number_of : List ℕ → ℕ
number_of digits = fold (λ n d. n * 10 + (d - 48)) 0 digits

-- whether a number has at most 20 digits and lies in the range of its option, if that is known
abbrev pub is_good : Option PassOption → List ℕ → Bool
is_good option digits = nat_le (length digits) 20 && option_map_or (λ o. is_in_range o (number_of digits)) option true

-- a fault, unless something holds
abbrev pub unless : Bool → ScriptFault → List ScriptFault
unless b fault = if b then [] else fault ∷ []

-- The faults of words, behind so many steps, in a step of a kind that gave options of these names, the last one first.
-- A number is that of the option before it.
abbrev pub word_faults : ℕ → Option PassKind → List (List ℕ) → List Word → List ScriptFault
word_faults steps kind given [] = []
word_faults steps kind given (Word.PassName place name ∷ ws) =
    unless (nat_lt steps 32) (ScriptFault.Malformed place)
    ++ unless (is_some (kind_of name)) (ScriptFault.UnknownPass place)
    ++ word_faults (steps + 1) (kind_of name) [] ws
word_faults steps kind given (Word.OptionName place name ∷ ws) =
    unless (not (list_any (bytes_eq name) given)) (ScriptFault.Malformed place)
    ++ unless (is_some (option_in kind name)) (ScriptFault.UnknownOption place)
    ++ word_faults steps kind (name ∷ given) ws
word_faults steps kind [] (Word.Number place digits ∷ ws) = word_faults steps kind [] ws
word_faults steps kind (name ∷ given) (Word.Number place digits ∷ ws) =
    unless (is_good (option_in kind name) digits) (ScriptFault.BadNumber place)
    ++ word_faults steps kind (name ∷ given) ws

abbrev pub stop_fault : Option ℕ → List ScriptFault
stop_fault None = []
stop_fault (Some n) = ScriptFault.Malformed n ∷ []

-- all faults of a script
abbrev pub faults : List ℕ → List ScriptFault
faults text = let r = reading text in word_faults 0 None [] r.words ++ stop_fault r.stop

abbrev pub place_of_fault : ScriptFault → ℕ
place_of_fault (ScriptFault.UnknownPass n) = n
place_of_fault (ScriptFault.UnknownOption n) = n
place_of_fault (ScriptFault.BadNumber n) = n
place_of_fault (ScriptFault.Malformed n) = n
place_of_fault ScriptFault.NoMemory = 0

abbrev pub is_malformed : ScriptFault → Bool
is_malformed (ScriptFault.Malformed n) = true
is_malformed _ = false

-- whether a fault stands before another: at a lesser place, or malformed at the same one
abbrev pub is_before : ScriptFault → ScriptFault → Bool
is_before a b = nat_lt (place_of_fault a) (place_of_fault b) || (place_of_fault a == place_of_fault b && is_malformed a)

abbrev pub earlier : ScriptFault → Option ScriptFault → ScriptFault
earlier a None = a
earlier a (Some b) = if is_before b a then b else a

abbrev pub least : List ScriptFault → Option ScriptFault
least [] = None
least (f ∷ fs) = Some (earlier f (least fs))

-- the fault of a script: that of the least place, and at one place the malformed one
abbrev pub fault_of : List ℕ → Option ScriptFault
fault_of text = least (faults text)

abbrev pub first_step : PassKind → Step
first_step k = record { kind = k; opts = defaults }

-- a step in which the option of a name has a number
abbrev pub with_option : List ℕ → ℕ → Step → Step
with_option name n s = record s { opts = option_map_or (λ o. with_number o n s.opts) (option_of s.kind name) s.opts }

abbrev pub as_list : Option Step → List Step
as_list None = []
as_list (Some s) = s ∷ []

-- The steps of words, where a step has begun and the last option's name in it is known. An option that isn't given has
-- its default.
abbrev pub steps_from : Option Step → List ℕ → List Word → List Step
steps_from step name [] = as_list step
steps_from step name (Word.PassName place pass ∷ ws) = as_list step ++ steps_from (option_map first_step (kind_of pass)) [] ws
steps_from step name (Word.OptionName place option ∷ ws) = steps_from step option ws
steps_from step name (Word.Number place digits ∷ ws) = steps_from (option_map (with_option name (number_of digits)) step) name ws

-- the steps of a script without a fault
abbrev pub steps_of : List ℕ → List Step
steps_of text = steps_from None [] (reading text).words
