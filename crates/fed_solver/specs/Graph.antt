-- A graph as two lists, and the systems whose sets are bits of words.
use Rattle.std.specs.Prelude.{◌≡◌, ℕ, ◌+◌, ◌<◌, ◌≤◌, Bool, nat_eq, List, length, slice_index, slice_range}
use Rattle.std.specs.List.{All}
use Rattle.std.specs.Int.{bit_at}
use Rattle.blocks_cfg.specs.Fed.{System, Fed, Decides, is_among}

-- n places have n + 1 starts, which never fall and are no more than the targets, and each target is a place
pub record IsGraph (n : ℕ) (starts targets : List ℕ) : Type 0 where
  pub count : length starts ≡ n + 1
  pub rises : (q : ℕ) → q < n → slice_index starts q ≤ slice_index starts (q + 1)
  pub within : (q : ℕ) → q < n → slice_index starts (q + 1) ≤ length targets
  pub places : All (λ p. p < n) targets

-- the places that q feeds
abbrev pub fed_by : (starts targets : List ℕ) → ℕ → List ℕ
fed_by starts targets q = slice_range targets (slice_index starts q) (slice_index starts (q + 1))

-- whether bit b is set in the row of p
abbrev pub has_bit : List ℕ → ℕ → ℕ → Bool
has_bit rows b p = nat_eq (bit_at (slice_index rows p) b) 1

-- system b
abbrev pub system_of : (starts targets begins emits passes : List ℕ) → ℕ → System
system_of starts targets begins emits passes b =
    record { feeds = λ q p. is_among p (fed_by starts targets q); begins = has_bit begins b; emits = has_bit emits b; passes = has_bit passes b }

-- each bit is set at exactly the places that have it in its system
abbrev pub AreLeast : (starts targets begins emits passes rows : List ℕ) → Type 0
AreLeast starts targets begins emits passes rows =
    (b : ℕ) → Decides (has_bit rows b) (Fed (system_of starts targets begins emits passes b))
