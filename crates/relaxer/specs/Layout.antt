-- Layout of a code: which direct jumps are short and which are near, and how many bytes each entry takes (GNU as, "Relaxation" of
-- its internals: a jump begins short and grows where its target is out of reach).
use Rattle.std.specs.Prelude.{◌≡◌, ◌+◌, ◌-◌, ◌%◌, ◌^◌, ◌<◌, ◌≤◌, ◌⊎◌, ◌-ℤ◌, ◌&&◌, ⊤, ℕ, zero, suc, ℤ, pos, negsuc, Bool, true, false, if◌then◌else◌, IsTrue, nat_lt, List, [], ◌∷◌, Option, Some, None, take, sum, count_by}
use Rattle.relaxer.specs.declared.item.Item.{Item}
use Rattle.relaxer.specs.declared.item.Item.TheVariants.{Fixed, Short, Near, Align}

-- An alignment skips to the next multiple of 2^power, and nothing at all where that takes more than its maximum (GNU as manual,
-- `.p2align`).
abbrev pub padding_within : ℕ → Option ℕ → ℕ
padding_within gap None = gap
padding_within gap (Some max) = if nat_lt max gap then 0 else gap

abbrev pub padding : ℕ → ℕ → Option ℕ → ℕ
padding at power max = padding_within ((2 ^ power - at % 2 ^ power) % 2 ^ power) max

-- the size of an entry at an offset
abbrev pub size_at : ℕ → Item → ℕ
size_at at (Fixed size) = size
size_at at (Short size near target) = size
size_at at (Near size target) = size
size_at at (Align power max) = padding at power max

-- the sizes of entries of which the first has this offset
abbrev pub sizes_from : ℕ → List Item → List ℕ
sizes_from at [] = []
sizes_from at (item ∷ items) = size_at at item ∷ sizes_from (at + size_at at item) items

abbrev pub sizes_of : List Item → List ℕ
sizes_of items = sizes_from 0 items

-- the offset of an entry, or of the end
abbrev pub offset_of : List ℕ → ℕ → ℕ
offset_of sizes i = sum (take i sizes)

-- from the end of the jump at entry i to its target
abbrev pub displacement : List ℕ → ℕ → ℕ → ℤ
displacement sizes i target = pos (offset_of sizes target) -ℤ pos (offset_of sizes (i + 1))

-- from -128 to 127, as a short jump can reach (SDM volume 2, JMP and Jcc: rel8)
abbrev pub is_in_reach : ℤ → Bool
is_in_reach (pos n) = nat_lt n 128
is_in_reach (negsuc n) = nat_lt n 128

abbrev pub fits : List ℕ → ℕ → Item → Bool
fits sizes i (Short size near target) = is_in_reach (displacement sizes i target)
fits sizes i _ = true

abbrev pub fit_from : List ℕ → ℕ → List Item → Bool
fit_from sizes i [] = true
fit_from sizes i (item ∷ items) = fits sizes i item && fit_from sizes (i + 1) items

-- each short jump reaches its target
abbrev pub AllFit : List Item → Type 0
AllFit items = IsTrue (fit_from (sizes_of items) 0 items)

abbrev pub grown : List ℕ → ℕ → Item → Item
grown sizes i (Short size near target) = if is_in_reach (displacement sizes i target) then Short size near target else Near near target
grown sizes i item = item

abbrev pub grown_from : List ℕ → ℕ → List Item → List Item
grown_from sizes i [] = []
grown_from sizes i (item ∷ items) = grown sizes i item ∷ grown_from sizes (i + 1) items

-- Round 0 has all jumps as they are given, short. Each next round makes each short jump near that doesn't reach its target, all by the
-- offsets of the round before it.
abbrev pub next_round : List Item → List Item
next_round items = grown_from (sizes_of items) 0 items

abbrev pub round : ℕ → List Item → List Item
round zero items = items
round (suc n) items = next_round (round n items)

-- the layout is that of the first round in which all fit
pub record IsLayout (items : List Item) (n : ℕ) : Type 0 where
  pub fit : AllFit (round n items)
  pub first : (m : ℕ) → m < n → AllFit (round m items) → ⊥

-- the entries and their sizes as they are in the layout
pub record HasLayout (items laid : List Item) (sizes : List ℕ) : Type 0 where
  pub rounds : ℕ
  pub last : IsLayout items rounds
  pub entries : laid ≡ round rounds items
  pub offsets : sizes ≡ sizes_of laid

abbrev pub is_short : Item → Bool
is_short (Short size near target) = true
is_short _ = false

-- how many jumps are short
abbrev pub short_count : List Item → ℕ
short_count items = count_by is_short items

-- the entries from the end of the jump at entry i to its target, or from its target to its end where it goes back: their sizes make
-- the displacement
abbrev pub Spans : ℕ → ℕ → ℕ → Type 0
Spans i target k = ((i < k) × (k < target)) ⊎ ((target ≤ k) × (k ≤ i))

-- what keeps the size of an entry in the next round: a short jump reaches its target, and the offset of an alignment moves by a
-- multiple of 2^power
abbrev pub KeepsSize : List Item → ℕ → Item → Type 0
KeepsSize items i (Fixed size) = ⊤
KeepsSize items i (Short size near target) = IsTrue (is_in_reach (displacement (sizes_of items) i target))
KeepsSize items i (Near size target) = ⊤
KeepsSize items i (Align power max) = offset_of (sizes_of (next_round items)) i % 2 ^ power ≡ offset_of (sizes_of items) i % 2 ^ power

-- entry k stands so near to the end of the jump at entry i that a short jump can span it
pub record IsNearby (sizes : List ℕ) (i k : ℕ) : Type 0 where
  pub ahead : offset_of sizes k ≤ offset_of sizes (i + 1) + 127
  pub back : offset_of sizes (i + 1) ≤ offset_of sizes k + 128
