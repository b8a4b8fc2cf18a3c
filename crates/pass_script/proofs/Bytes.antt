-- A reading at one byte.
use Rattle.std.proofs.Common.{◌≡◌, ◌≢◌, refl, ap, sym, ◌∙◌, arith, ℕ, ◌+◌, ◌<◌, Bool, true, false, cond, List, [], ◌∷◌, ◌==◌, length, Some, eq-eqb}
use Rattle.std.specs.Prelude.{slice_get}
use Rattle.std.specs.List.{prefix_len, take_while}
use Rattle.std.proofs.lemmas.Bool.{eqb-true}
use Rattle.std.proofs.lemmas.List.Folds.{length-prefix_len}
use Rattle.std.proofs.lemmas.Bool.Decides.{nat_tests}
use Rattle.pass_script.specs.Grammar.{Next, read_on, stopped}
use Rattle.pass_script.specs.walks.Left.{Left, reads, behind_byte}

-- a byte stands in front, and what follows it
abbrev pub Opens : ℕ → Left → Left → Type 0
Opens b l r = (l.bytes ≡ b ∷ r.bytes) × (r.place ≡ l.place + 1)

at_byte : (b : ℕ) (next : Next) (n m : ℕ) (bs cs : List ℕ) → bs ≡ b ∷ cs → m ≡ n + 1 → behind_byte b next n bs ≡ read_on next m cs
at_byte b next n m bs cs e f =
    ap (behind_byte b next n) e
    ∙ (let same : (b == b) ≡ true = eq-eqb b b refl in rw same refl)
    ∙ ap (λ k. read_on next k cs) (sym f)

pub byte_there : (b : ℕ) (next : Next) (l r : Left) → Opens b l r → behind_byte b next l.place l.bytes ≡ reads next r
byte_there b next l r o = at_byte b next l.place r.place l.bytes r.bytes o.0 o.1

pub no_byte : (b : ℕ) (next : Next) (n : ℕ) (bs : List ℕ) → slice_get bs 0 ≢ Some b → behind_byte b next n bs ≡ stopped n
no_byte b next n [] h = refl
no_byte b next n (c ∷ cs) h =
    elim (c == b) as (λ t. (c == b) ≡ t → cond t (read_on next (n + 1) cs) (stopped n) ≡ stopped n) [
      | true ↦ λ e. absurd (h (ap Some (eqb-true c b e)))
      | false ↦ λ e. refl
    ] refl

pub taken_len : (p : ℕ → Bool) (bs xs : List ℕ) → xs ≡ take_while p bs → length xs ≡ prefix_len p bs
taken_len p bs xs e = ap length e ∙ length-prefix_len p bs

pub nothing_taken : (p : ℕ → Bool) (bs xs : List ℕ) (b : Bool) → xs ≡ take_while p bs → b ≡ (length xs == 0) → b ≡ true → prefix_len p bs ≡ 0
nothing_taken p bs xs b e is empty = let len = taken_len p bs xs e in let none : length xs ≡ 0 = eqb-true (length xs) 0 (sym is ∙ empty) in omega arith

pub something_taken : (p : ℕ → Bool) (bs xs : List ℕ) (b : Bool) → xs ≡ take_while p bs → b ≡ (length xs == 0) → b ≡ false → 0 < prefix_len p bs
something_taken p bs xs b e is full =
    let len = taken_len p bs xs e in
    let some : (length xs == 0) ≡ false = sym is ∙ full in
    grind (arith, nat_tests)
