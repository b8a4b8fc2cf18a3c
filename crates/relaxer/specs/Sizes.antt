-- The sizes of entries.
use Rattle.std.specs.Prelude.{ℕ, ◌<◌, ◌≤◌, ◌^◌, List, length, All}
use Rattle.relaxer.specs.declared.item.Item.{Item}
use Rattle.relaxer.specs.declared.item.Item.TheVariants.{Fixed, Short, Near, Align}

-- fewer than 2^32 sizes, each at most 4,095: an instruction has at most 15 bytes, and a padding to a power of at most 12 fewer
-- than 4,096
pub record AreSizes (sizes : List ℕ) : Type 0 where
  pub few : length sizes < 2 ^ 32
  pub small : All (λ size. size ≤ 4095) sizes

-- an entry that takes at most 4,095 bytes wherever it stands
abbrev pub IsItem : Item → Type 0
IsItem (Fixed size) = size ≤ 4095
IsItem (Short size near target) = (size ≤ 4095) × (near ≤ 4095)
IsItem (Near size target) = size ≤ 4095
IsItem (Align power max) = power ≤ 12

-- fewer than 2^32 such entries
pub record AreItems (items : List Item) : Type 0 where
  pub few : length items < 2 ^ 32
  pub each : All IsItem items
