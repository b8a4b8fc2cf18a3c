-- What comes of a script, word by word.
use Rattle.std.proofs.Common.{◌≡◌, refl, ap, ◌∙◌, arith, ℕ, ◌+◌, ◌<◌, true, false, List, [], ◌∷◌, ◌++◌, Some, None, append_assoc}
use Rattle.std.specs.Prelude.{nat_lt, bytes_eq, is_some}
use Rattle.std.specs.List.{list_any}
use Rattle.std.proofs.lemmas.Bool.Decides.{nat_tests}
use Rattle.pass_script.specs.declared.kinds.PassKind.{PassKind}
use Rattle.pass_script.specs.declared.options.PassOption.{PassOption}
use Rattle.pass_script.specs.declared.script.Step.{Step}
use Rattle.pass_script.specs.declared.script.ScriptFault.{ScriptFault}
use Rattle.pass_script.specs.Catalogue.{kind_of, option_of, with_number}
use Rattle.pass_script.specs.Grammar.{Word, Reading, with_words}
use Rattle.pass_script.specs.Script.{unless, word_faults, stop_fault, is_good, number_of, least, first_step, with_option, steps_from}
use Rattle.pass_script.specs.walks.Left.{outcome, Outcome}
use Rattle.pass_script.proofs.Order.{IsFrom, faults_from, first_is_least, malformed_is_least}

pub pass_begins : (steps place : ℕ) (name : List ℕ) (k : PassKind) (r : Reading) → steps < 32 → kind_of name ≡ Some k
    → outcome steps None [] (with_words (Word.PassName place name ∷ []) r) ≡ outcome (steps + 1) (Some (first_step k)) [] r
pass_begins steps place name k r few e =
    let below : nat_lt steps 32 ≡ true = grind (arith, nat_tests) in
    rw below (rw e refl)

pub pass_is_unknown : (steps place : ℕ) (name : List ℕ) (r : Reading) → steps < 32 → kind_of name ≡ None → IsFrom (place + 1) r
    → (outcome steps None [] (with_words (Word.PassName place name ∷ []) r)).fault ≡ Some (ScriptFault.UnknownPass place)
pass_is_unknown steps place name r few e behind =
    let below : nat_lt steps 32 ≡ true = grind (arith, nat_tests) in
    rw below (rw e (first_is_least (ScriptFault.UnknownPass place) _ (faults_from (place + 1) (steps + 1) None [] r behind)))

-- behind 32 steps no other begins
pub one_too_many : (place : ℕ) (name : List ℕ) (r : Reading) → IsFrom (place + 1) r
    → (outcome 32 None [] (with_words (Word.PassName place name ∷ []) r)).fault ≡ Some (ScriptFault.Malformed place)
one_too_many place name r behind =
    ap least (ap (λ fs. ScriptFault.Malformed place ∷ fs) (append_assoc (unless (is_some (kind_of name)) (ScriptFault.UnknownPass place)) _ _))
    ∙ malformed_is_least place (is_some (kind_of name)) (ScriptFault.UnknownPass place) _ refl refl (faults_from (place + 1) 33 (kind_of name) [] r behind)

pub option_begins : (steps place : ℕ) (s : Step) (given : List (List ℕ)) (name : List ℕ) (o : PassOption) (r : Reading)
    → list_any (bytes_eq name) given ≡ false → option_of s.kind name ≡ Some o
    → outcome steps (Some s) given (with_words (Word.OptionName place name ∷ []) r) ≡ outcome steps (Some s) (name ∷ given) r
option_begins steps place s given name o r fresh e = rw fresh (rw e refl)

pub option_is_unknown : (steps place : ℕ) (s : Step) (given : List (List ℕ)) (name : List ℕ) (r : Reading)
    → list_any (bytes_eq name) given ≡ false → option_of s.kind name ≡ None → IsFrom (place + 1) r
    → (outcome steps (Some s) given (with_words (Word.OptionName place name ∷ []) r)).fault ≡ Some (ScriptFault.UnknownOption place)
option_is_unknown steps place s given name r fresh e behind =
    rw fresh (rw e (first_is_least (ScriptFault.UnknownOption place) _ (faults_from (place + 1) steps (Some s.kind) (name ∷ given) r behind)))

pub option_is_repeated : (steps place : ℕ) (s : Step) (given : List (List ℕ)) (name : List ℕ) (r : Reading)
    → list_any (bytes_eq name) given ≡ true → IsFrom (place + 1) r
    → (outcome steps (Some s) given (with_words (Word.OptionName place name ∷ []) r)).fault ≡ Some (ScriptFault.Malformed place)
option_is_repeated steps place s given name r repeated behind =
    rw repeated (
    ap least (ap (λ fs. ScriptFault.Malformed place ∷ fs) (append_assoc (unless (is_some (option_of s.kind name)) (ScriptFault.UnknownOption place)) _ _))
    ∙ malformed_is_least place (is_some (option_of s.kind name)) (ScriptFault.UnknownOption place) _ refl refl (faults_from (place + 1) steps (Some s.kind) (name ∷ given) r behind)
    )

with_known : (s : Step) (name : List ℕ) (o : PassOption) (n : ℕ) → option_of s.kind name ≡ Some o
    → with_option name n s ≡ record s { opts = with_number o n s.opts }
with_known s name o n e = rw e refl

pub number_is_good : (steps place : ℕ) (s : Step) (given : List (List ℕ)) (name digits : List ℕ) (o : PassOption) (r : Reading)
    → option_of s.kind name ≡ Some o → is_good (Some o) digits ≡ true
    → outcome steps (Some s) (name ∷ given) (with_words (Word.Number place digits ∷ []) r)
    ≡ outcome steps (Some (record s { opts = with_number o (number_of digits) s.opts })) (name ∷ given) r
number_is_good steps place s given name digits o r e good =
    let from : Step → Outcome = λ q. record { fault = least (word_faults steps (Some s.kind) (name ∷ given) r.words ++ stop_fault r.stop); steps = steps_from (Some q) name r.words } in
    rw e (rw good (ap from (with_known s name o (number_of digits) e)))

pub number_is_bad : (steps place : ℕ) (s : Step) (given : List (List ℕ)) (name digits : List ℕ) (o : PassOption) (r : Reading)
    → option_of s.kind name ≡ Some o → is_good (Some o) digits ≡ false → IsFrom (place + 1) r
    → (outcome steps (Some s) (name ∷ given) (with_words (Word.Number place digits ∷ []) r)).fault ≡ Some (ScriptFault.BadNumber place)
number_is_bad steps place s given name digits o r e bad behind =
    rw e (rw bad (first_is_least (ScriptFault.BadNumber place) _ (faults_from (place + 1) steps (Some s.kind) (name ∷ given) r behind)))
