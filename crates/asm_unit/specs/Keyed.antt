-- Entries under keys, and the table from serials to keys.
use Rattle.std.specs.Prelude.{◌≡◌, ◌<◌, ◌+◌, ◌^◌, ℕ, zero, suc, List, [], ◌∷◌, length, Option, Some, None, slice_index_or, if◌then◌else◌}
use Rattle.entry_list.specs.Listed.{AreDistinct, values_of}
use Rattle.asm_unit.specs.Held.{Held, serial_is, AreUnique}

-- the key under which the entry of a serial stands
abbrev pub key_at : List (ℕ × Held) → ℕ → Option ℕ
key_at [] serial = None
key_at (p ∷ ps) serial = if serial_is serial p.1 then Some p.0 else key_at ps serial

-- a key is stored as the next number, and nothing as 0
abbrev pub number_key : ℕ → Option ℕ
number_key zero = None
number_key (suc k) = Some k

abbrev pub key_in : List ℕ → ℕ → Option ℕ
key_in keys serial = number_key (slice_index_or keys serial 0)

-- the table has a place for 0 and for each serial given, and tells the key of each entry
pub record Keyed (ps : List (ℕ × Held)) (keys : List ℕ) : Type 0 where
  pub tells : (serial : ℕ) → key_in keys serial ≡ key_at ps serial
  pub distinct : AreDistinct ps
  pub unique : AreUnique (values_of ps)
  pub some : 0 < length keys
  pub few : length keys < 2 ^ 32 + 1
