-- The sizes of a round, from those of the round before.
use Rattle.std.specs.Prelude.{◌≡◌, ◌⊎◌, ◌<◌, ℕ, Bool, true, false, List, Some, All, Contains, length, slice_get, slice_index}
use Rattle.relaxer.specs.declared.item.Item.{Item}
use Rattle.relaxer.specs.declared.item.Item.TheVariants.{Align}
use Rattle.relaxer.specs.Layout.{size_at, sizes_of, next_round}
use Rattle.relaxer.specs.walks.Growth.{HasUnfit}

abbrev pub is_alignment : Item → Bool
is_alignment (Align power max) = true
is_alignment _ = false

-- the places of the alignments, in order
pub record AreAlignments (items : List Item) (places : List ℕ) : Type 0 where
  pub there : All (λ i. i < length items) places
  pub sorted : (p q : ℕ) → p < q → q < length places → slice_index places p < slice_index places q
  pub all : (i : ℕ) (item : Item) → slice_get items i ≡ Some item → is_alignment item ≡ true → Contains places i

-- what stays but at some places
abbrev pub StaysBut : List ℕ → List ℕ → List ℕ → Type 0
StaysBut places before after = (j : ℕ) → (slice_index after j ≡ slice_index before j) ⊎ Contains places j

-- sizes in which these entries have theirs, as if all stood at offset 0
pub record IsSetAt (items : List Item) (places before after : List ℕ) : Type 0 where
  pub long : length after ≡ length before
  pub others : StaysBut places before after
  pub set : (j : ℕ) (item : Item) → Contains places j → slice_get items j ≡ Some item → slice_index after j ≡ size_at 0 item

-- sizes of which all but those of alignments are right
pub record AreRightBut (items : List Item) (sizes : List ℕ) : Type 0 where
  pub long : length sizes ≡ length items
  pub fixed : (j : ℕ) (item : Item) → slice_get items j ≡ Some item → is_alignment item ≡ false → slice_index sizes j ≡ size_at 0 item

-- a round and the sizes of the one before, of which these have all jumps that grew
pub record IsNextOf (sizes : List ℕ) (items : List Item) (places : List ℕ) : Type 0 where
  pub before : List Item
  pub sizes_were : sizes ≡ sizes_of before
  pub next : items ≡ next_round before
  pub all : HasUnfit before places
  pub there : All (λ i. i < length items) places
