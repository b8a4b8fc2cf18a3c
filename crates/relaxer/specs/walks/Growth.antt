-- Which jumps grow in a round.
use Rattle.std.specs.Prelude.{◌≡◌, ℕ, false, List, Some, slice_get, Contains}
use Rattle.relaxer.specs.declared.item.Item.{Item}
use Rattle.relaxer.specs.Layout.{fits, sizes_of}

-- entry i is a short jump that doesn't reach its target
abbrev pub IsUnfit : List Item → ℕ → Type 0
IsUnfit items i = (item : Item) × (slice_get items i ≡ Some item) × (fits (sizes_of items) i item ≡ false)

-- a list that has all of these
abbrev pub HasUnfit : List Item → List ℕ → Type 0
HasUnfit items places = (i : ℕ) → IsUnfit items i → Contains places i
