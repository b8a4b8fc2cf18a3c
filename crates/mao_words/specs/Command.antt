-- The command `mao`, as its words are taken, and what its arguments give.
use Rattle.std.specs.Prelude.{◌≡◌, Bool, false, List, [], ◌∷◌, Some, codes, unwrap_or, bytes_eq, fold}
use Rattle.std.specs.Option.{option_map_or}
use Rattle.clap.specs.Words.{App, Row, Rule, Text, fault_of, first_of, matches_of, new_app, new_rule, with_rule}
use Rattle.clap.specs.declared.builder.action.ArgAction.TheVariants.{Set, SetTrue}

-- `--mao`, with one text
abbrev pub script_rule : Rule
script_rule = record (new_rule (codes "mao")) { long = Some (codes "mao"); action = Some Set }

-- `--journal`, which is given or not
abbrev pub journal_rule : Rule
journal_rule = record (new_rule (codes "journal")) { long = Some (codes "journal"); action = Some SetTrue }

-- the arguments, none of them required
abbrev pub rules : List Rule
rules =
    script_rule
    ∷ journal_rule
    ∷ []

abbrev pub mao_app : App
mao_app = fold with_rule (new_app (codes "mao")) rules

-- the script that matches give, empty where they give none
abbrev pub script_in : List Row → Text
script_in rows = unwrap_or (first_of (codes "mao") rows) []

-- whether matches give a flag: one that is given has the text `true`, and one that isn't `false`
abbrev pub is_given : Text → List Row → Bool
is_given id rows = option_map_or (λ text. bytes_eq text (codes "true")) (first_of id rows) false

-- `clap` finds no fault in words
abbrev pub AreFaultless : List Text → Type 0
AreFaultless words = fault_of mao_app words ≡ []

-- the script of words, and whether they ask for the journal
abbrev pub script_of_words : List Text → Text
script_of_words words = script_in (matches_of mao_app words)

abbrev pub asks_for_journal : List Text → Bool
asks_for_journal words = is_given (codes "journal") (matches_of mao_app words)
