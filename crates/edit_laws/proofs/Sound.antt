-- Units stay sound where an entry goes, changes or comes.
use Rattle.std.proofs.Common.{◌≡◌, ℕ, suc, Bool, true, false, cond, List, [], ◌∷◌, refl, ap, ◌∙◌, ◌≤◌, arith}
use Rattle.std.specs.Prelude.{◌||◌}
use Rattle.std.specs.List.{AllByRecursion}
use Rattle.std.proofs.lemmas.Bool.{ne_eqb}
use Rattle.insn_ir.specs.declared.entry.EntryKind.{EntryKind}
use Rattle.asm_unit.specs.declared.held.Held.{Held}
use Rattle.asm_unit.specs.Held.{serial_is, holds_serial, new_held, held_without, held_put, held_inserted}
use Rattle.asm_unit.specs.Unit.{Unit}
use Rattle.asm_unit.proofs.KeyLaws.{unique_without, unique_put, unique_inserted}
use Rattle.asm_unit.proofs.OnceLaws.{all_kept}
use Rattle.edit_laws.specs.Stays.{IsSound}

-- the unit without an entry
abbrev pub unit_without : ℕ → Unit → Unit
unit_without s u = record u { held = held_without s u.held }

-- with another kind of entry
abbrev pub unit_put : ℕ → EntryKind → Unit → Unit
unit_put s k u = record u { held = held_put s k u.held }

-- with a new entry, of the next serial, before another
abbrev pub unit_grown : ℕ → EntryKind → Unit → Unit
unit_grown b k u = record u { held = held_inserted b (new_held (suc u.last) k) u.held; last = suc u.last }

abbrev IsGiven : ℕ → Held → Type 0
IsGiven last h = h.entry.serial ≤ last

-- the next serial is that of no entry
pub fresh : (last : ℕ) (hs : List Held) → AllByRecursion (IsGiven last) hs → holds_serial (suc last) hs ≡ false
fresh last [] h = refl
fresh last (x ∷ hs) h =
    ap (λ b. b || holds_serial (suc last) hs) (ne_eqb x.entry.serial (suc last) (λ e. omega (arith, e, h.0))) ∙ fresh last hs h.1

given_put : (s last : ℕ) (k : EntryKind) (hs : List Held) → AllByRecursion (IsGiven last) hs → AllByRecursion (IsGiven last) (held_put s k hs)
given_put s last k [] h = tt
given_put s last k (x ∷ hs) h = (by_test (serial_is s x), given_put s last k hs h.1)
  where
    by_test : (b : Bool) → (cond b (new_held x.entry.serial k) x).entry.serial ≤ last
    by_test true = h.0
    by_test false = h.0

given_more : (last : ℕ) (hs : List Held) → AllByRecursion (IsGiven last) hs → AllByRecursion (IsGiven (suc last)) hs
given_more last [] h = tt
given_more last (x ∷ hs) h = (omega (arith, h.0), given_more last hs h.1)

given_inserted : (b last : ℕ) (k : EntryKind) (hs : List Held) → AllByRecursion (IsGiven last) hs → AllByRecursion (IsGiven (suc last)) (held_inserted b (new_held (suc last) k) hs)
given_inserted b last k [] h = tt
given_inserted b last k (x ∷ hs) h = by_test (serial_is b x) (given_inserted b last k hs h.1)
  where
    by_test : (t : Bool) → AllByRecursion (IsGiven (suc last)) (held_inserted b (new_held (suc last) k) hs)
        → AllByRecursion (IsGiven (suc last)) (cond t (new_held (suc last) k ∷ x ∷ hs) (x ∷ held_inserted b (new_held (suc last) k) hs))
    by_test true rest = (omega arith, given_more last (x ∷ hs) h)
    by_test false rest = (omega (arith, h.0), rest)

pub sound_without : (s : ℕ) (u : Unit) → IsSound u → IsSound (unit_without s u)
sound_without s u h = record {
  once = unique_without s u.held h.once;
  given = all_kept (IsGiven u.last) _ u.held h.given;
}

pub sound_put : (s : ℕ) (k : EntryKind) (u : Unit) → IsSound u → IsSound (unit_put s k u)
sound_put s k u h = record {
  once = unique_put s k u.held h.once;
  given = given_put s u.last k u.held h.given;
}

pub sound_grown : (b : ℕ) (k : EntryKind) (u : Unit) → IsSound u → IsSound (unit_grown b k u)
sound_grown b k u h = record {
  once = unique_inserted b (new_held (suc u.last) k) u.held h.once (fresh u.last u.held h.given);
  given = given_inserted b u.last k u.held h.given;
}
