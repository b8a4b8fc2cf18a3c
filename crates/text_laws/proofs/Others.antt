-- An edit changes no entry of another serial.
use Rattle.std.proofs.Common.{◌≡◌, ℕ, Bool, true, false, not, cond, List, [], ◌∷◌, Some, refl, ap, sym, ◌∙◌}
use Rattle.std.specs.Prelude.{◌≢◌, find}
use Rattle.std.proofs.lemmas.Bool.{eqb-true, ne_eqb}
use Rattle.insn_ir.specs.declared.entry.EntryKind.{EntryKind}
use Rattle.asm_unit.specs.declared.held.Held.{Held}
use Rattle.asm_unit.specs.Held.{serial_is, held_without, new_held, held_put, held_inserted}

module _ (s other : ℕ) (differ : other ≢ s) where
  is_other : (x : Held) → serial_is s x ≡ true → serial_is other x ≡ false
  is_other x own = ne_eqb x.entry.serial other (λ same. differ (sym same ∙ eqb-true x.entry.serial s own))

  pub other_left : (hs : List Held) → find (serial_is other) (held_without s hs) ≡ find (serial_is other) hs
  other_left [] = refl
  other_left (x ∷ hs) = by_test (serial_is s x) refl (other_left hs)
    where
      by_test : (b : Bool) → serial_is s x ≡ b → find (serial_is other) (held_without s hs) ≡ find (serial_is other) hs
          → find (serial_is other) (cond (not b) (x ∷ held_without s hs) (held_without s hs)) ≡ cond (serial_is other x) (Some x) (find (serial_is other) hs)
      by_test true own rest = rest ∙ ap (λ b. cond b (Some x) (find (serial_is other) hs)) (sym (is_other x own))
      by_test false own rest = ap (cond (serial_is other x) (Some x)) rest

  pub other_put : (k : EntryKind) (hs : List Held) → find (serial_is other) (held_put s k hs) ≡ find (serial_is other) hs
  other_put k [] = refl
  other_put k (x ∷ hs) = by_test (serial_is s x) refl (other_put k hs)
    where
      by_test : (b : Bool) → serial_is s x ≡ b → find (serial_is other) (held_put s k hs) ≡ find (serial_is other) hs
          → find (serial_is other) (cond b (new_held x.entry.serial k) x ∷ held_put s k hs) ≡ cond (serial_is other x) (Some x) (find (serial_is other) hs)
      by_test true own rest =
          ap (λ b. cond b (Some (new_held x.entry.serial k)) (find (serial_is other) (held_put s k hs))) (is_other x own)
          ∙ rest
          ∙ ap (λ b. cond b (Some x) (find (serial_is other) hs)) (sym (is_other x own))
      by_test false own rest = ap (cond (serial_is other x) (Some x)) rest

pub other_inserted : (before other : ℕ) (new : Held) → other ≢ new.entry.serial → (hs : List Held) → find (serial_is other) (held_inserted before new hs) ≡ find (serial_is other) hs
other_inserted before other new differ [] = refl
other_inserted before other new differ (x ∷ hs) = by_test (serial_is before x) (other_inserted before other new differ hs)
  where
    by_test : (b : Bool) → find (serial_is other) (held_inserted before new hs) ≡ find (serial_is other) hs
        → find (serial_is other) (cond b (new ∷ x ∷ hs) (x ∷ held_inserted before new hs)) ≡ cond (serial_is other x) (Some x) (find (serial_is other) hs)
    by_test true rest = ap (λ b. cond b (Some new) (find (serial_is other) (x ∷ hs))) (ne_eqb new.entry.serial other (λ same. differ (sym same)))
    by_test false rest = ap (cond (serial_is other x) (Some x)) rest
