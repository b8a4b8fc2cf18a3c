-- A unit holds no more entries than serials were given.
use Rattle.std.proofs.Common.{◌≡◌, ◌≤◌, ℕ, suc, Bool, true, false, not, cond, List, [], ◌∷◌, length, refl, ap, arith}
use Rattle.insn_ir.specs.declared.entry.EntryKind.{EntryKind}
use Rattle.asm_unit.specs.declared.held.Held.{Held}
use Rattle.asm_unit.specs.Held.{serial_is, new_held, held_without, held_put, held_inserted}
use Rattle.asm_unit.specs.Unit.{Unit}
use Rattle.edit_laws.proofs.Steps.{OfSteps}

fewer : (s : ℕ) (hs : List Held) → length (held_without s hs) ≤ length hs
fewer s [] = omega arith
fewer s (x ∷ hs) = by_test (serial_is s x) (fewer s hs)
  where
    by_test : (b : Bool) → length (held_without s hs) ≤ length hs → length (cond (not b) (x ∷ held_without s hs) (held_without s hs)) ≤ suc (length hs)
    by_test true e = omega (arith, e)
    by_test false e = omega (arith, e)

as_many : (s : ℕ) (k : EntryKind) (hs : List Held) → length (held_put s k hs) ≡ length hs
as_many s k [] = refl
as_many s k (x ∷ hs) = ap suc (as_many s k hs)

one_more : (b : ℕ) (new : Held) (hs : List Held) → length (held_inserted b new hs) ≤ suc (length hs)
one_more b new [] = omega arith
one_more b new (x ∷ hs) = by_test (serial_is b x) (one_more b new hs)
  where
    by_test : (t : Bool) → length (held_inserted b new hs) ≤ suc (length hs) → length (cond t (new ∷ x ∷ hs) (x ∷ held_inserted b new hs)) ≤ suc (suc (length hs))
    by_test true e = omega arith
    by_test false e = omega (arith, e)

abbrev pub RoomStays : Unit → Unit → Type 0
RoomStays u v = length u.held ≤ u.last → length v.held ≤ v.last

pub room_stays : (f : ℕ) → OfSteps f RoomStays
room_stays f = record {
  both = λ u v w a b r. b (a r);
  goes = λ u s sound among removable r. let e = fewer s u.held in omega (arith, e, r);
  becomes = λ u s i sound among insn r. let e = as_many s (EntryKind.Insn i) u.held in omega (arith, e, r);
  comes = λ u b k sound among removable r. let e = one_more b (new_held (suc u.last) k) u.held in omega (arith, e, r);
}
