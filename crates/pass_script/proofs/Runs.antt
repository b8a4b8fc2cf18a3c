-- Words are longest runs: how a reading goes through one.
use Rattle.std.proofs.Common.{◌≡◌, refl, ap, ◌∙◌, arith, ℕ, suc, ◌+◌, ◌<◌, Bool, true, false, cond, List, [], ◌∷◌, ◌==◌, drop, Some, None}
use Rattle.std.specs.List.{prefix_len, take_while}
use Rattle.pass_script.specs.Grammar.{Next, Word, read_on, stopped, with_words, behind, begins, may_end, is_digit, is_name_byte}
use Rattle.pass_script.specs.walks.Left.{behind_byte}

-- the first byte doesn't pass
abbrev pub StopsAt : (ℕ → Bool) → List ℕ → Type 0
StopsAt p [] = Unit {0}
StopsAt p (b ∷ bs) = p b ≡ false

pub run_stops : (p : ℕ → Bool) (bs : List ℕ) → StopsAt p (drop (prefix_len p bs) bs)
run_stops p [] = tt
run_stops p (b ∷ bs) =
    elim (p b) as (λ t. p b ≡ t → StopsAt p (drop (cond t (1 + prefix_len p bs) 0) (b ∷ bs))) [
      | true ↦ λ e. (let one : 1 + prefix_len p bs ≡ suc (prefix_len p bs) = omega arith in rw one (run_stops p bs))
      | false ↦ λ e. e
    ] refl

-- a byte that can stand here
pub goes_on : (next after : Next) (n b : ℕ) (bs : List ℕ) → behind next b ≡ Some after
    → read_on next n (b ∷ bs) ≡ with_words (begins next n (b ∷ bs)) (read_on after (n + 1) bs)
goes_on next after n b bs e = rw (e, read_on) refl

-- a byte that can't
pub stops_here : (next : Next) (n b : ℕ) (bs : List ℕ) → behind next b ≡ None → read_on next n (b ∷ bs) ≡ stopped n
stops_here next n b bs e = rw (e, read_on) refl

-- a state that a run stays in, and no word begins in
pub record Stays (after : Next) (p : ℕ → Bool) : Type 0 where
  pub stays : (b : ℕ) → p b ≡ true → behind after b ≡ Some after
  pub silent : (n : ℕ) (bs : List ℕ) → begins after n bs ≡ []

run_on : (after : Next) (p : ℕ → Bool) → Stays after p → (n : ℕ) (bs : List ℕ)
    → read_on after n bs ≡ read_on after (n + prefix_len p bs) (drop (prefix_len p bs) bs)
run_on after p s n [] = let e : n ≡ n + 0 = omega arith in ap (λ m. read_on after m []) e
run_on after p s n (b ∷ bs) =
    elim (p b) as (λ t. p b ≡ t → read_on after n (b ∷ bs) ≡ read_on after (n + cond t (1 + prefix_len p bs) 0) (drop (cond t (1 + prefix_len p bs) 0) (b ∷ bs))) [
      | true ↦ λ e. (
          let one : 1 + prefix_len p bs ≡ suc (prefix_len p bs) = omega arith in
          let far : (n + 1) + prefix_len p bs ≡ n + suc (prefix_len p bs) = omega arith in
          rw one (goes_on after after n b bs (s.stays b e) ∙ ap (λ w. with_words w (read_on after (n + 1) bs)) (s.silent n (b ∷ bs)) ∙ run_on after p s (n + 1) bs ∙ ap (λ m. read_on after m (drop (prefix_len p bs) bs)) far)
          )
      | false ↦ λ e. (let e : n ≡ n + 0 = omega arith in ap (λ m. read_on after m (b ∷ bs)) e)
    ] refl

-- a state in which a run begins
pub record Enters (next after : Next) (p : ℕ → Bool) : Type 0 where
  pub enters : (b : ℕ) → p b ≡ true → behind next b ≡ Some after
  pub refuses : (b : ℕ) → p b ≡ false → behind next b ≡ None
  pub needs : may_end next ≡ false

word_on : (next after : Next) (p : ℕ → Bool) → Enters next after p → Stays after p → (n : ℕ) (bs : List ℕ) → 0 < prefix_len p bs
    → read_on next n bs ≡ with_words (begins next n bs) (read_on after (n + prefix_len p bs) (drop (prefix_len p bs) bs))
word_on next after p i s n [] some = absurd (omega arith)
word_on next after p i s n (b ∷ bs) some =
    elim (p b) as (λ t. p b ≡ t → 0 < cond t (1 + prefix_len p bs) 0 → read_on next n (b ∷ bs) ≡ with_words (begins next n (b ∷ bs)) (read_on after (n + cond t (1 + prefix_len p bs) 0) (drop (cond t (1 + prefix_len p bs) 0) (b ∷ bs)))) [
      | true ↦ λ e _. (
          let one : 1 + prefix_len p bs ≡ suc (prefix_len p bs) = omega arith in
          let far : (n + 1) + prefix_len p bs ≡ n + suc (prefix_len p bs) = omega arith in
          rw one (goes_on next after n b bs (i.enters b e) ∙ ap (with_words (begins next n (b ∷ bs))) (run_on after p s (n + 1) bs ∙ ap (λ m. read_on after m (drop (prefix_len p bs) bs)) far))
          )
      | false ↦ λ e none. absurd (omega arith)
    ] refl some

no_word : (next after : Next) (p : ℕ → Bool) → Enters next after p → (n : ℕ) (bs : List ℕ) → prefix_len p bs ≡ 0 → read_on next n bs ≡ stopped n
no_word next after p i n [] none = rw i.needs refl
no_word next after p i n (b ∷ bs) none =
    elim (p b) as (λ t. p b ≡ t → cond t (1 + prefix_len p bs) 0 ≡ 0 → read_on next n (b ∷ bs) ≡ stopped n) [
      | true ↦ λ e none. absurd (omega arith)
      | false ↦ λ e none. stops_here next n b bs (i.refuses b e)
    ] refl none

in_step_name : Stays Next.InStepName is_name_byte
in_step_name = record { stays = λ b e. rw e refl; silent = λ n bs. refl }

in_option_name : Stays Next.InOptionName is_name_byte
in_option_name = record { stays = λ b e. rw e refl; silent = λ n bs. refl }

in_digits : Stays Next.InDigits is_digit
in_digits = record { stays = λ b e. rw e refl; silent = λ n bs. refl }

to_step_name : Enters Next.StepName Next.InStepName is_name_byte
to_step_name = record { enters = λ b e. rw e refl; refuses = λ b e. rw e refl; needs = refl }

to_option_name : Enters Next.OptionName Next.InOptionName is_name_byte
to_option_name = record { enters = λ b e. rw e refl; refuses = λ b e. rw e refl; needs = refl }

to_digits : Enters Next.Digits Next.InDigits is_digit
to_digits = record { enters = λ b e. rw e refl; refuses = λ b e. rw e refl; needs = refl }

name_ends : (n : ℕ) (bs : List ℕ) → StopsAt is_name_byte bs → read_on Next.InOptionName n bs ≡ behind_byte 91 Next.Digits n bs
name_ends n [] s = refl
name_ends n (b ∷ bs) s =
    elim (b == 91) as (λ t. (b == 91) ≡ t → read_on Next.InOptionName n (b ∷ bs) ≡ cond t (read_on Next.Digits (n + 1) bs) (stopped n)) [
      | true ↦ λ e. goes_on Next.InOptionName Next.Digits n b bs (rw s (rw e refl))
      | false ↦ λ e. stops_here Next.InOptionName n b bs (rw s (rw e refl))
    ] refl

digits_end : (n : ℕ) (bs : List ℕ) → StopsAt is_digit bs → read_on Next.InDigits n bs ≡ behind_byte 93 Next.OptionEnd n bs
digits_end n [] s = refl
digits_end n (b ∷ bs) s =
    elim (b == 93) as (λ t. (b == 93) ≡ t → read_on Next.InDigits n (b ∷ bs) ≡ cond t (read_on Next.OptionEnd (n + 1) bs) (stopped n)) [
      | true ↦ λ e. goes_on Next.InDigits Next.OptionEnd n b bs (rw s (rw e refl))
      | false ↦ λ e. stops_here Next.InDigits n b bs (rw s (rw e refl))
    ] refl

-- the bytes behind a run
abbrev pub tail : (ℕ → Bool) → List ℕ → List ℕ
tail p bs = drop (prefix_len p bs) bs

pub pass_word : (n : ℕ) (bs : List ℕ) → 0 < prefix_len is_name_byte bs
    → read_on Next.StepName n bs ≡ with_words (Word.PassName n (take_while is_name_byte bs) ∷ []) (read_on Next.InStepName (n + prefix_len is_name_byte bs) (tail is_name_byte bs))
pass_word n bs some = word_on _ _ is_name_byte to_step_name in_step_name n bs some

pub option_word : (n : ℕ) (bs : List ℕ) → 0 < prefix_len is_name_byte bs
    → read_on Next.OptionName n bs ≡ with_words (Word.OptionName n (take_while is_name_byte bs) ∷ []) (behind_byte 91 Next.Digits (n + prefix_len is_name_byte bs) (tail is_name_byte bs))
option_word n bs some =
    word_on _ _ is_name_byte to_option_name in_option_name n bs some
    ∙ ap (with_words (Word.OptionName n (take_while is_name_byte bs) ∷ [])) (name_ends (n + prefix_len is_name_byte bs) (tail is_name_byte bs) (run_stops is_name_byte bs))

pub number_word : (n : ℕ) (bs : List ℕ) → 0 < prefix_len is_digit bs
    → read_on Next.Digits n bs ≡ with_words (Word.Number n (take_while is_digit bs) ∷ []) (behind_byte 93 Next.OptionEnd (n + prefix_len is_digit bs) (tail is_digit bs))
number_word n bs some =
    word_on _ _ is_digit to_digits in_digits n bs some
    ∙ ap (with_words (Word.Number n (take_while is_digit bs) ∷ [])) (digits_end (n + prefix_len is_digit bs) (tail is_digit bs) (run_stops is_digit bs))

pub no_pass : (n : ℕ) (bs : List ℕ) → prefix_len is_name_byte bs ≡ 0 → read_on Next.StepName n bs ≡ stopped n
no_pass n bs none = no_word _ _ is_name_byte to_step_name n bs none

pub no_option : (n : ℕ) (bs : List ℕ) → prefix_len is_name_byte bs ≡ 0 → read_on Next.OptionName n bs ≡ stopped n
no_option n bs none = no_word _ _ is_name_byte to_option_name n bs none

pub no_number : (n : ℕ) (bs : List ℕ) → prefix_len is_digit bs ≡ 0 → read_on Next.Digits n bs ≡ stopped n
no_number n bs none = no_word _ _ is_digit to_digits n bs none
