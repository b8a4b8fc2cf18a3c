-- The fault that is met first is the least.
use Rattle.std.proofs.Common.{◌≡◌, refl, ap, ◌∙◌, arith, ℕ, ◌+◌, ◌≤◌, Bool, true, false, cond, not, List, [], ◌∷◌, ◌++◌, Some, None, Option, ◌==◌}
use Rattle.std.specs.Prelude.{nat_lt, bytes_eq, is_some}
use Rattle.std.specs.List.{list_any}
use Rattle.std.proofs.lemmas.Bool.Decides.{nat_tests}
use Rattle.pass_script.specs.declared.kinds.PassKind.{PassKind}
use Rattle.pass_script.specs.declared.script.ScriptFault.{ScriptFault}
use Rattle.pass_script.specs.Catalogue.{kind_of}
use Rattle.pass_script.specs.Grammar.{Next, Word, Reading, read_on, stopped, with_words, behind, begins, may_end}
use Rattle.pass_script.specs.Script.{option_in, is_good, unless, word_faults, stop_fault, place_of_fault, is_malformed, is_before, earlier, least}
use Rattle.pass_script.specs.walks.Left.{behind_byte}

-- every fault stands at a place or behind it
abbrev pub AreFrom : ℕ → List ScriptFault → Type 0
AreFrom n [] = Unit {0}
AreFrom n (f ∷ fs) = (n ≤ place_of_fault f) × AreFrom n fs

abbrev pub place_of_word : Word → ℕ
place_of_word (Word.PassName place name) = place
place_of_word (Word.OptionName place name) = place
place_of_word (Word.Number place digits) = place

abbrev pub WordsFrom : ℕ → List Word → Type 0
WordsFrom n [] = Unit {0}
WordsFrom n (w ∷ ws) = (n ≤ place_of_word w) × WordsFrom n ws

-- what is read stands at a place or behind it
pub record IsFrom (n : ℕ) (r : Reading) : Type 0 where
  pub words : WordsFrom n r.words
  pub stop : AreFrom n (stop_fault r.stop)

from_append : (n : ℕ) (fs gs : List ScriptFault) → AreFrom n fs → AreFrom n gs → AreFrom n (fs ++ gs)
from_append n [] gs a b = b
from_append n (f ∷ fs) gs a b = (a.0, from_append n fs gs a.1 b)

unless_from : (n : ℕ) (b : Bool) (f : ScriptFault) (rest : List ScriptFault) → n ≤ place_of_fault f → AreFrom n rest → AreFrom n (unless b f ++ rest)
unless_from n true f rest h a = a
unless_from n false f rest h a = (h, a)

either_from : (n : ℕ) (b c : Bool) (f g : ScriptFault) (rest : List ScriptFault) → n ≤ place_of_fault f → n ≤ place_of_fault g → AreFrom n rest
    → AreFrom n (unless b f ++ unless c g ++ rest)
either_from n true c f g rest h i a = unless_from n c g rest i a
either_from n false c f g rest h i a = (h, unless_from n c g rest i a)

word_faults_from : (n steps : ℕ) (kind : Option PassKind) (given : List (List ℕ)) (ws : List Word) → WordsFrom n ws → AreFrom n (word_faults steps kind given ws)
word_faults_from n steps kind given [] h = tt
word_faults_from n steps kind given (Word.PassName place name ∷ ws) h =
    either_from n (nat_lt steps 32) (is_some (kind_of name)) (ScriptFault.Malformed place) (ScriptFault.UnknownPass place) _ h.0 h.0
    (word_faults_from n (steps + 1) (kind_of name) [] ws h.1)
word_faults_from n steps kind given (Word.OptionName place name ∷ ws) h =
    either_from n (not (list_any (bytes_eq name) given)) (is_some (option_in kind name)) (ScriptFault.Malformed place) (ScriptFault.UnknownOption place) _ h.0 h.0
    (word_faults_from n steps kind (name ∷ given) ws h.1)
word_faults_from n steps kind [] (Word.Number place digits ∷ ws) h = word_faults_from n steps kind [] ws h.1
word_faults_from n steps kind (name ∷ given) (Word.Number place digits ∷ ws) h =
    unless_from n (is_good (option_in kind name) digits) (ScriptFault.BadNumber place) _ h.0 (word_faults_from n steps kind (name ∷ given) ws h.1)

pub faults_from : (n steps : ℕ) (kind : Option PassKind) (given : List (List ℕ)) (r : Reading) → IsFrom n r
    → AreFrom n (word_faults steps kind given r.words ++ stop_fault r.stop)
faults_from n steps kind given r h = from_append n (word_faults steps kind given r.words) (stop_fault r.stop) (word_faults_from n steps kind given r.words h.words) h.stop

fewer : (m n : ℕ) (fs : List ScriptFault) → m ≤ n → AreFrom n fs → AreFrom m fs
fewer m n [] h a = tt
fewer m n (f ∷ fs) h a = (omega (arith, a.0), fewer m n fs h a.1)

fewer_words : (m n : ℕ) (ws : List Word) → m ≤ n → WordsFrom n ws → WordsFrom m ws
fewer_words m n [] h a = tt
fewer_words m n (w ∷ ws) h a = (omega (arith, a.0), fewer_words m n ws h a.1)

pub from_later : (m n : ℕ) (r : Reading) → m ≤ n → IsFrom n r → IsFrom m r
from_later m n r h a = record { words = fewer_words m n r.words h a.words; stop = fewer m n (stop_fault r.stop) h a.stop }

with_begun : (next : Next) (n : ℕ) (bs : List ℕ) (r : Reading) → IsFrom n r → IsFrom n (with_words (begins next n bs) r)
with_begun Next.StepName n bs r a = record { words = (omega arith, a.words); stop = a.stop }
with_begun Next.OptionName n bs r a = record { words = (omega arith, a.words); stop = a.stop }
with_begun Next.Digits n bs r a = record { words = (omega arith, a.words); stop = a.stop }
with_begun Next.InStepName n bs r a = a
with_begun Next.InOptionName n bs r a = a
with_begun Next.InDigits n bs r a = a
with_begun Next.OptionEnd n bs r a = a

stopped_from : (n : ℕ) → IsFrom n (stopped n)
stopped_from n = record { words = tt; stop = (omega arith, tt) }

pub read_on_from : (next : Next) (n : ℕ) (bs : List ℕ) → IsFrom n (read_on next n bs)
read_on_from next n [] =
    elim (may_end next) as (λ t. IsFrom n (cond t (record { words = []; stop = None }) (stopped n))) [
      | true ↦ record { words = tt; stop = tt }
      | false ↦ stopped_from n
    ]
read_on_from next n (b ∷ bs) =
    elim (behind next b) as (λ o. IsFrom n (elim o as (λ _. Reading) [ None ↦ stopped n | Some after ↦ with_words (begins next n (b ∷ bs)) (read_on after (n + 1) bs) ])) [
      | None ↦ stopped_from n
      | Some after ↦ with_begun next n (b ∷ bs) _ (from_later n (n + 1) _ (omega arith) (read_on_from after (n + 1) bs))
    ]

pub behind_byte_from : (b : ℕ) (next : Next) (n : ℕ) (bs : List ℕ) → IsFrom n (behind_byte b next n bs)
behind_byte_from b next n [] = stopped_from n
behind_byte_from b next n (c ∷ cs) =
    elim (c == b) as (λ t. IsFrom n (cond t (read_on next (n + 1) cs) (stopped n))) [
      | true ↦ from_later n (n + 1) _ (omega arith) (read_on_from next (n + 1) cs)
      | false ↦ stopped_from n
    ]

abbrev pub LeastFrom : ℕ → Option ScriptFault → Type 0
LeastFrom n None = Unit {0}
LeastFrom n (Some f) = n ≤ place_of_fault f

earlier_from : (n : ℕ) (f : ScriptFault) (o : Option ScriptFault) → n ≤ place_of_fault f → LeastFrom n o → n ≤ place_of_fault (earlier f o)
earlier_from n f None a b = a
earlier_from n f (Some g) a b = elim (is_before g f) as (λ t. n ≤ place_of_fault (cond t g f)) [ true ↦ b | false ↦ a ]

least_from : (n : ℕ) (fs : List ScriptFault) → AreFrom n fs → LeastFrom n (least fs)
least_from n [] h = tt
least_from n (f ∷ fs) h = earlier_from n f (least fs) h.0 (least_from n fs h.1)

stays : (f : ScriptFault) (o : Option ScriptFault) → LeastFrom (place_of_fault f + 1) o → earlier f o ≡ f
stays f None h = refl
stays f (Some g) h =
    let e : is_before g f ≡ false = grind (arith, nat_tests) in
    rw e refl

-- the first fault, where all others stand behind it
pub first_is_least : (f : ScriptFault) (fs : List ScriptFault) → AreFrom (place_of_fault f + 1) fs → least (f ∷ fs) ≡ Some f
first_is_least f fs h = ap Some (stays f (least fs) (least_from (place_of_fault f + 1) fs h))

-- a malformed place comes before another fault at it
pub malformed_is_least : (place : ℕ) (b : Bool) (g : ScriptFault) (fs : List ScriptFault) → place_of_fault g ≡ place → is_malformed g ≡ false
    → AreFrom (place + 1) fs → least (ScriptFault.Malformed place ∷ unless b g ++ fs) ≡ Some (ScriptFault.Malformed place)
malformed_is_least place true g fs e m h = first_is_least (ScriptFault.Malformed place) fs h
malformed_is_least place false g fs e m h =
    let l : least (g ∷ fs) ≡ Some g = first_is_least g fs (rw e h) in
    let n : is_before g (ScriptFault.Malformed place) ≡ false = rw (m) (grind (arith, nat_tests)) in
    ap (λ o. Some (earlier (ScriptFault.Malformed place) o)) l ∙ rw n refl
