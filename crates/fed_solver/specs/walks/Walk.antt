-- A work list under way.
use Rattle.std.specs.Prelude.{◌≡◌, ℕ, ◌<◌, ◌^◌, Bool, true, false, not, ◌&&◌, cond, nat_eq, List, [], ◌∷◌, ◌++◌, length, slice_index, slice_index_or, slice_set, bit_or}
use Rattle.std.specs.List.{All}
use Rattle.blocks_cfg.specs.Fed.{Fed, IsClosedBut, is_among}
use Rattle.fed_solver.specs.declared.work.Work.{Work}
use Rattle.fed_solver.specs.Graph.{fed_by, has_bit, system_of}

pub record Walk : Type 0 where
  pub rows : List ℕ
  pub listed : List Bool
  pub list : List ℕ

abbrev pub walk_of : Work → Walk
walk_of w = record { rows = w.rows.items; listed = w.listed.items; list = w.list.items }

-- a place waits
abbrev pub waits : Walk → ℕ → Bool
waits w p = slice_index_or w.listed p false

-- a place was given bits that may be new to it
abbrev pub handed_to : ℕ → Walk → ℕ → Bool → Walk
handed_to grown w p new = record {
  rows = slice_set w.rows p grown;
  listed = cond new (slice_set w.listed p true) w.listed;
  list = cond new (w.list ++ p ∷ []) w.list;
}

-- a place was given bits, and waits if one is new to it
abbrev pub handed : ℕ → Walk → ℕ → Walk
handed give w p =
    let row = slice_index w.rows p in
    let grown = bit_or row give in
    handed_to grown w p (not (nat_eq grown row) && not (waits w p))

-- the last place came off the list
pub record IsPopped (place : ℕ) (v w : Walk) : Type 0 where
  pub within : place < length v.listed
  pub list : v.list ≡ w.list ++ place ∷ []
  pub rows : w.rows ≡ v.rows
  pub listed : w.listed ≡ slice_set v.listed place false

-- all places below n, in any order
pub record HasAll (n : ℕ) (places : List ℕ) : Type 0 where
  pub within : All (λ p. p < n) places
  pub all : (p : ℕ) → p < n → is_among p places ≡ true

-- n rows and marks, and each place with a mark is on the list
pub record IsWalk (n : ℕ) (w : Walk) : Type 0 where
  pub rows : length w.rows ≡ n
  pub listed : length w.listed ≡ n
  pub words : All (λ r. r < 2 ^ 64) w.rows
  pub within : All (λ p. p < n) w.list
  pub waiting : (p : ℕ) → waits w p ≡ true → is_among p w.list ≡ true

-- all places wait, and those below `upto` have emitted
pub record IsBegun (n : ℕ) (starts targets begins emits : List ℕ) (upto : ℕ) (w : Walk) : Type 0 where
  pub walk : IsWalk n w
  pub waiting : (p : ℕ) → p < n → waits w p ≡ true
  pub sound : (b p : ℕ) → has_bit w.rows b p ≡ true → Fed (system_of starts targets begins emits [] b) p
  pub started : (b p : ℕ) → has_bit begins b p ≡ true → has_bit w.rows b p ≡ true
  pub given : (b q p : ℕ) → q < upto → is_among p (fed_by starts targets q) ≡ true → has_bit emits b q ≡ true → has_bit w.rows b p ≡ true

-- each bit has its reason, and what places have still to pass on waits
pub record IsGoing (n : ℕ) (starts targets begins emits passes : List ℕ) (w : Walk) : Type 0 where
  pub walk : IsWalk n w
  pub sound : (b p : ℕ) → has_bit w.rows b p ≡ true → Fed (system_of starts targets begins emits passes b) p
  pub closed : (b : ℕ) → IsClosedBut (system_of starts targets begins emits passes b) (has_bit w.rows b) (waits w)
