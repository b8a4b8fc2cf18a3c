-- What a walk over the entries finds of an owner.
use Rattle.std.specs.Prelude.{◌≡◌, ℕ, ◌-◌, Bool, true, List, find, Option, option_map, nat_eq, slice_index_or}
use Rattle.asm_unit.specs.Held.{Held, holds_serial, behind}

-- the first behind the entry of a serial whose serial passes a test
abbrev pub next_where : (ℕ → Bool) → List Held → ℕ → Option ℕ
next_where test hs serial = option_map (λ h. h.entry.serial) (find (λ h. test h.entry.serial) (behind serial hs))

-- a test tells which entries have this owner
abbrev pub TellsOwner : (ℕ → Bool) → List Held → List ℕ → ℕ → Type 0
TellsOwner test hs owners number = (serial : ℕ) → holds_serial serial hs ≡ true → test serial ≡ nat_eq (slice_index_or owners (serial - 1) 0) number
