-- What comes of a number in brackets.
use Rattle.std.proofs.Common.{◌≡◌, ◌≢◌, ap, sym, ◌∙◌, arith, ℕ, ◌+◌, ◌-◌, ◌<◌, suc, length, length-drop, true, false, List, [], ◌∷◌, Some}
use Rattle.std.specs.Prelude.{slice_get}
use Rattle.std.specs.List.{prefix_len, take_while}
use Rattle.pass_script.specs.declared.options.PassOption.{PassOption}
use Rattle.pass_script.specs.declared.script.ScriptFault.{ScriptFault}
use Rattle.pass_script.specs.declared.script.Step.{Step}
use Rattle.pass_script.specs.Catalogue.{option_of, with_number}
use Rattle.pass_script.specs.Grammar.{Next, Word, Reading, is_digit, stopped, with_words}
use Rattle.pass_script.specs.Script.{is_good, number_of}
use Rattle.pass_script.specs.walks.Left.{Left, past, reads, behind_byte, outcome, number_outcome, GivesNumber, FailsInNumber}
use Rattle.pass_script.proofs.Runs.{no_number, number_word}
use Rattle.pass_script.proofs.Bytes.{Opens, byte_there, no_byte}
use Rattle.pass_script.proofs.Order.{from_later, behind_byte_from}
use Rattle.pass_script.proofs.Outcomes.{number_is_good, number_is_bad}

-- the reading of a number in brackets
abbrev number_at : Left → Reading
number_at l = behind_byte 91 Next.Digits l.place l.bytes

-- what follows the digits
abbrev pub behind_digits : Left → Left
behind_digits r = past (prefix_len is_digit r.bytes) r

number_there : (l r : Left) → Opens 91 l r → 0 < prefix_len is_digit r.bytes
    → number_at l ≡ with_words (Word.Number r.place (take_while is_digit r.bytes) ∷ []) (behind_byte 93 Next.OptionEnd (behind_digits r).place (behind_digits r).bytes)
number_there l r o some = byte_there 91 Next.Digits l r o ∙ number_word r.place r.bytes some

pub number_is_missing : (l r : Left) (o : PassOption) (place : ℕ) → Opens 91 l r → place ≡ r.place → prefix_len is_digit r.bytes ≡ 0 → FailsInNumber l o (ScriptFault.Malformed place)
number_is_missing l r o place there at none steps s name given e =
    ap (λ q. (outcome steps (Some s) (name ∷ given) q).fault) (byte_there 91 Next.Digits l r there ∙ no_number r.place r.bytes none)
    ∙ ap (λ p. Some (ScriptFault.Malformed p)) (sym at)

pub number_is_out : (l r : Left) (o : PassOption) (place : ℕ) (digits : List ℕ) → Opens 91 l r → place ≡ r.place → 0 < prefix_len is_digit r.bytes
    → digits ≡ take_while is_digit r.bytes → is_good (Some o) digits ≡ false → FailsInNumber l o (ScriptFault.BadNumber place)
number_is_out l r o place digits there at some taken bad steps s name given e =
    ap (λ q. (outcome steps (Some s) (name ∷ given) q).fault) (number_there l r there some)
    ∙ number_is_bad steps r.place s given name (take_while is_digit r.bytes) o _ e (ap (is_good (Some o)) (sym taken) ∙ bad)
    (from_later (r.place + 1) _ _ (omega arith) (behind_byte_from 93 Next.OptionEnd (behind_digits r).place (behind_digits r).bytes))
    ∙ ap (λ p. Some (ScriptFault.BadNumber p)) (sym at)

-- the step that is given a number
abbrev pub given_to : Step → PassOption → ℕ → Step
given_to s o n = record s { opts = with_number o n s.opts }

-- digits stand in brackets that are good, with what follows them
pub record AreGood (l r t : Left) (o : PassOption) (digits : List ℕ) : Type 0 where
  pub there : Opens 91 l r
  pub some : 0 < prefix_len is_digit r.bytes
  pub taken : digits ≡ take_while is_digit r.bytes
  pub rest : t ≡ behind_digits r
  pub good : is_good (Some o) digits ≡ true

-- whatever follows them
good_number : (l r t : Left) (o : PassOption) (digits : List ℕ) → AreGood l r t o digits → (q : Reading) → behind_byte 93 Next.OptionEnd t.place t.bytes ≡ q
    → (steps : ℕ) (s : Step) (name : List ℕ) (given : List (List ℕ)) → option_of s.kind name ≡ Some o
    → number_outcome steps s name given l ≡ outcome steps (Some (given_to s o (number_of digits))) (name ∷ given) q
good_number l r t o digits h q is steps s name given e =
    ap (outcome steps (Some s) (name ∷ given)) (
    number_there l r h.there h.some
    ∙ ap (λ ds. with_words (Word.Number r.place ds ∷ []) (behind_byte 93 Next.OptionEnd (behind_digits r).place (behind_digits r).bytes)) (sym h.taken)
    ∙ ap (λ u. with_words (Word.Number r.place digits ∷ []) (behind_byte 93 Next.OptionEnd u.place u.bytes)) (sym h.rest)
    )
    ∙ number_is_good steps r.place s given name digits o (behind_byte 93 Next.OptionEnd t.place t.bytes) e h.good
    ∙ ap (outcome steps (Some (given_to s o (number_of digits))) (name ∷ given)) is

pub number_is_read : (l r t u : Left) (o : PassOption) (digits : List ℕ) (n : ℕ) → AreGood l r t o digits → n ≡ number_of digits → Opens 93 t u → GivesNumber l o n u
number_is_read l r t u o digits n h is ends steps s name given e =
    good_number l r t o digits h (reads Next.OptionEnd u) (byte_there 93 Next.OptionEnd t u ends) steps s name given e
    ∙ ap (λ m. outcome steps (Some (given_to s o m)) (name ∷ given) (reads Next.OptionEnd u)) (sym is)

pub number_is_open : (l r t : Left) (o : PassOption) (digits : List ℕ) (place : ℕ) → AreGood l r t o digits → place ≡ t.place → slice_get t.bytes 0 ≢ Some 93
    → FailsInNumber l o (ScriptFault.Malformed place)
number_is_open l r t o digits place h at ends steps s name given e =
    ap (λ q. q.fault) (good_number l r t o digits h (stopped t.place) (no_byte 93 Next.OptionEnd t.place t.bytes ends) steps s name given e)
    ∙ ap (λ p. Some (ScriptFault.Malformed p)) (sym at)

pub shorter : (l r t u : Left) → Opens 91 l r → t ≡ behind_digits r → Opens 93 t u → length u.bytes < length l.bytes
shorter l r t u o e p =
    let a : length l.bytes ≡ suc (length r.bytes) = ap length o.0 in
    let b : length t.bytes ≡ length r.bytes - prefix_len is_digit r.bytes = ap (λ x. length x.bytes) e ∙ length-drop (prefix_len is_digit r.bytes) r.bytes in
    let d : length t.bytes ≡ suc (length u.bytes) = ap length p.0 in
    omega arith
