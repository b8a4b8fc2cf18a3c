-- Edited entries stay so under each edit.
use Rattle.std.proofs.Common.{ℕ, ◌<◌, ◌≤◌, Bool, true, false, not, cond, List, [], ◌∷◌, map, filter, length, arith, refl}
use Rattle.std.specs.List.{AllByRecursion}
use Rattle.insn_ir.specs.declared.entry.EntryKind.{EntryKind}
use Rattle.att_lexer.specs.Pieces.{AllButLast, IsEnded}
use Rattle.asm_unit.specs.declared.held.Held.{Held}
use Rattle.asm_unit.specs.Held.{serial_is, held_without, new_held, put_held, held_put, held_inserted}
use Rattle.asm_unit.specs.Unit.{nop_kind, align_kind}
use Rattle.text_laws.specs.Edited.{IsNewKind, ComesOf, InOrder, IsEditOf, written}
use Rattle.text_laws.proofs.Chains.{onto, first, rest, order_off, order_onto}
use Rattle.text_laws.proofs.Lines.{new_ended}

module _ (text : List ℕ) where
  abbrev Comes : Held → Type 0
  Comes h = ComesOf text h.entry.kind h.span

  abbrev AreEnded : List Held → Type 0
  AreEnded hs = AllButLast IsEnded (map (written text) hs)

  abbrev AreOrdered : ℕ → List Held → Type 0
  AreOrdered at hs = InOrder at (map (λ h. h.span) hs)

  first_ended : (x : Held) (hs : List Held) → AreEnded (x ∷ hs) → 0 < length (map (written text) hs) → IsEnded (written text x)
  first_ended x hs h lt = first IsEnded (written text x) (map (written text) hs) h lt

  rest_ended : (x : Held) (hs : List Held) → AreEnded (x ∷ hs) → AreEnded hs
  rest_ended x hs h = rest IsEnded (written text x) (map (written text) hs) h

  onto_ended : (x : Held) (hs : List Held) → (0 < length (map (written text) hs) → IsEnded (written text x)) → AreEnded hs → AreEnded (x ∷ hs)
  onto_ended x hs h k = onto IsEnded (written text x) (map (written text) hs) h k

  -- some entries go
  module _ (keep : Held → Bool) where
    each_left : (hs : List Held) → AllByRecursion Comes hs → AllByRecursion Comes (filter keep hs)
    each_left [] h = tt
    each_left (x ∷ hs) h = by_test (keep x) (each_left hs h.1)
      where
        by_test : (b : Bool) → AllByRecursion Comes (filter keep hs) → AllByRecursion Comes (cond b (x ∷ filter keep hs) (filter keep hs))
        by_test true r = (h.0, r)
        by_test false r = r

    some_left : (hs : List Held) → 0 < length (map (written text) (filter keep hs)) → 0 < length (map (written text) hs)
    some_left [] lt = lt
    some_left (x ∷ hs) lt = omega arith

    ended_left : (hs : List Held) → AreEnded hs → AreEnded (filter keep hs)
    ended_left [] h = tt
    ended_left (x ∷ hs) h = by_test (keep x) (ended_left hs (rest_ended x hs h))
      where
        by_test : (b : Bool) → AreEnded (filter keep hs) → AreEnded (cond b (x ∷ filter keep hs) (filter keep hs))
        by_test true r = onto_ended x (filter keep hs) (λ lt. first_ended x hs h (some_left hs lt)) r
        by_test false r = r

    order_left : (hs : List Held) (at : ℕ) → AreOrdered at hs → AreOrdered at (filter keep hs)
    order_left [] at h = tt
    order_left (x ∷ hs) at h = by_test (keep x) (order_left hs)
      where
        by_test : (b : Bool) → ((next : ℕ) → AreOrdered next hs → AreOrdered next (filter keep hs)) → AreOrdered at (cond b (x ∷ filter keep hs) (filter keep hs))
        by_test true r = order_onto at x.span (map (λ h. h.span) hs) (map (λ h. h.span) (filter keep hs)) r h
        by_test false r = r at (order_off at x.span (map (λ h. h.span) hs) h)

  pub left : (keep : Held → Bool) (hs : List Held) → IsEditOf text hs → IsEditOf text (filter keep hs)
  left keep hs h = record { each = each_left keep hs h.each; ended = ended_left keep hs h.ended; order = order_left keep hs 0 h.order }

  pub dropped : (hs : List Held) (s : ℕ) → IsEditOf text hs → IsEditOf text (held_without s hs)
  dropped hs s h = left (λ x. not (serial_is s x)) hs h

  -- one is put for another
  module _ (s : ℕ) (k : EntryKind) (new : IsNewKind k) where
    each_put : (hs : List Held) → AllByRecursion Comes hs → AllByRecursion Comes (held_put s k hs)
    each_put [] h = tt
    each_put (x ∷ hs) h = (by_test (serial_is s x), each_put hs h.1)
      where
        by_test : (b : Bool) → Comes (cond b (new_held x.entry.serial k) x)
        by_test true = new
        by_test false = h.0

    some_put : (hs : List Held) → 0 < length (map (written text) (held_put s k hs)) → 0 < length (map (written text) hs)
    some_put [] lt = lt
    some_put (x ∷ hs) lt = omega arith

    ended_put : (hs : List Held) → AreEnded hs → AreEnded (held_put s k hs)
    ended_put [] h = tt
    ended_put (x ∷ hs) h = onto_ended (put_held s k x) (held_put s k hs) (λ lt. by_test (serial_is s x) (first_ended x hs h (some_put hs lt))) (ended_put hs (rest_ended x hs h))
      where
        by_test : (b : Bool) → IsEnded (written text x) → IsEnded (written text (cond b (new_held x.entry.serial k) x))
        by_test true e = new_ended k new
        by_test false e = e

    order_put : (hs : List Held) (at : ℕ) → AreOrdered at hs → AreOrdered at (held_put s k hs)
    order_put [] at h = tt
    order_put (x ∷ hs) at h = by_test (serial_is s x) (order_put hs)
      where
        by_test : (b : Bool) → ((next : ℕ) → AreOrdered next hs → AreOrdered next (held_put s k hs)) → AreOrdered at (cond b (new_held x.entry.serial k) x ∷ held_put s k hs)
        by_test true r = r at (order_off at x.span (map (λ h. h.span) hs) h)
        by_test false r = order_onto at x.span (map (λ h. h.span) hs) (map (λ h. h.span) (held_put s k hs)) r h

    pub put : (hs : List Held) → IsEditOf text hs → IsEditOf text (held_put s k hs)
    put hs h = record { each = each_put hs h.each; ended = ended_put hs h.ended; order = order_put hs 0 h.order }

  -- one comes before another
  module _ (before s : ℕ) (k : EntryKind) (new : IsNewKind k) where
    each_inserted : (hs : List Held) → AllByRecursion Comes hs → AllByRecursion Comes (held_inserted before (new_held s k) hs)
    each_inserted [] h = tt
    each_inserted (x ∷ hs) h = by_test (serial_is before x) (each_inserted hs h.1)
      where
        by_test : (b : Bool) → AllByRecursion Comes (held_inserted before (new_held s k) hs) → AllByRecursion Comes (cond b (new_held s k ∷ x ∷ hs) (x ∷ held_inserted before (new_held s k) hs))
        by_test true r = (new, h)
        by_test false r = (h.0, r)

    some_inserted : (hs : List Held) → 0 < length (map (written text) (held_inserted before (new_held s k) hs)) → 0 < length (map (written text) hs)
    some_inserted [] lt = lt
    some_inserted (x ∷ hs) lt = omega arith

    ended_inserted : (hs : List Held) → AreEnded hs → AreEnded (held_inserted before (new_held s k) hs)
    ended_inserted [] h = tt
    ended_inserted (x ∷ hs) h = by_test (serial_is before x) (ended_inserted hs (rest_ended x hs h))
      where
        by_test : (b : Bool) → AreEnded (held_inserted before (new_held s k) hs) → AreEnded (cond b (new_held s k ∷ x ∷ hs) (x ∷ held_inserted before (new_held s k) hs))
        by_test true r = (new_ended k new, h)
        by_test false r = onto_ended x (held_inserted before (new_held s k) hs) (λ lt. first_ended x hs h (some_inserted hs lt)) r

    order_inserted : (hs : List Held) (at : ℕ) → AreOrdered at hs → AreOrdered at (held_inserted before (new_held s k) hs)
    order_inserted [] at h = tt
    order_inserted (x ∷ hs) at h = by_test (serial_is before x) (order_inserted hs)
      where
        by_test : (b : Bool) → ((next : ℕ) → AreOrdered next hs → AreOrdered next (held_inserted before (new_held s k) hs))
            → AreOrdered at (cond b (new_held s k ∷ x ∷ hs) (x ∷ held_inserted before (new_held s k) hs))
        by_test true r = h
        by_test false r = order_onto at x.span (map (λ h. h.span) hs) (map (λ h. h.span) (held_inserted before (new_held s k) hs)) r h

    pub inserted : (hs : List Held) → IsEditOf text hs → IsEditOf text (held_inserted before (new_held s k) hs)
    inserted hs h = record { each = each_inserted hs h.each; ended = ended_inserted hs h.ended; order = order_inserted hs 0 h.order }

  nop_new : IsNewKind nop_kind
  nop_new = record { width = refl; operands = (tt, tt, tt) }

  pub inserted_nop : (before s : ℕ) (hs : List Held) → IsEditOf text hs → IsEditOf text (held_inserted before (new_held s nop_kind) hs)
  inserted_nop before s hs h = inserted before s nop_kind nop_new hs h

  pub inserted_align : (before s power : ℕ) → power ≤ 12 → (hs : List Held) → IsEditOf text hs → IsEditOf text (held_inserted before (new_held s (align_kind power)) hs)
  inserted_align before s power le hs h = inserted before s (align_kind power) (le, tt, tt) hs h
