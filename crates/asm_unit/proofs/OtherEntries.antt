-- What an edit leaves of the entries by their serials: all but the one that it names.
use Rattle.std.proofs.Common.{◌≡◌, ◌≢◌, ℕ, Bool, true, false, not, cond, List, [], ◌∷◌, Some, None, refl, sym, ap, ◌∙◌}
use Rattle.std.specs.Prelude.{find, is_some}
use Rattle.std.proofs.lemmas.Bool.{eq-eqb, ne_eqb, eqb-true, or_parts}
use Rattle.insn_ir.specs.declared.entry.EntryKind.{EntryKind}
use Rattle.asm_unit.specs.Held.{Held, serial_is, holds_serial, held_entry, entry_of, new_held, held_without, held_put, held_inserted}

no : {P : Type 0} → false ≡ true → P
no e = absurd (cc)

-- an entry of one serial isn't that of another
is_other : (s other : ℕ) (x : Held) → other ≢ s → serial_is s x ≡ true → serial_is other x ≡ false
is_other s other x d g = ne_eqb x.entry.serial other (λ q. d (sym q ∙ eqb-true x.entry.serial s g))

module _ (s other : ℕ) (apart : other ≢ s) where
  pub other_without : (hs : List Held) → find (serial_is other) (held_without s hs) ≡ find (serial_is other) hs
  other_without [] = refl
  other_without (x ∷ hs) = by_test (serial_is s x) refl (other_without hs)
    where
      by_here : (t : Bool) → find (serial_is other) (held_without s hs) ≡ find (serial_is other) hs → cond t (Some x) (find (serial_is other) (held_without s hs)) ≡ cond t (Some x) (find (serial_is other) hs)
      by_here true e = refl
      by_here false e = e

      by_test : (t : Bool) → serial_is s x ≡ t → find (serial_is other) (held_without s hs) ≡ find (serial_is other) hs
          → find (serial_is other) (cond (not t) (x ∷ held_without s hs) (held_without s hs)) ≡ cond (serial_is other x) (Some x) (find (serial_is other) hs)
      by_test true g e = e ∙ sym (ap (λ t. cond t (Some x) (find (serial_is other) hs)) (is_other s other x apart g))
      by_test false g e = by_here (serial_is other x) e

  pub other_put : (k : EntryKind) (hs : List Held) → find (serial_is other) (held_put s k hs) ≡ find (serial_is other) hs
  other_put k [] = refl
  other_put k (x ∷ hs) = by_test (serial_is s x) refl (other_put k hs)
    where
      by_here : (t : Bool) → find (serial_is other) (held_put s k hs) ≡ find (serial_is other) hs → cond t (Some x) (find (serial_is other) (held_put s k hs)) ≡ cond t (Some x) (find (serial_is other) hs)
      by_here true e = refl
      by_here false e = e

      by_test : (t : Bool) → serial_is s x ≡ t → find (serial_is other) (held_put s k hs) ≡ find (serial_is other) hs
          → cond (serial_is other (cond t (new_held x.entry.serial k) x)) (Some (cond t (new_held x.entry.serial k) x)) (find (serial_is other) (held_put s k hs)) ≡ cond (serial_is other x) (Some x) (find (serial_is other) hs)
      by_test true g e =
          ap (λ t. cond t (Some (new_held x.entry.serial k)) (find (serial_is other) (held_put s k hs))) (is_other s other x apart g)
          ∙ e
          ∙ sym (ap (λ t. cond t (Some x) (find (serial_is other) hs)) (is_other s other x apart g))
      by_test false g e = by_here (serial_is other x) e

  pub other_inserted : (b : ℕ) (k : EntryKind) (hs : List Held) → find (serial_is other) (held_inserted b (new_held s k) hs) ≡ find (serial_is other) hs
  other_inserted b k [] = refl
  other_inserted b k (x ∷ hs) = by_test (serial_is b x) (other_inserted b k hs)
    where
      by_here : (t : Bool) → find (serial_is other) (held_inserted b (new_held s k) hs) ≡ find (serial_is other) hs → cond t (Some x) (find (serial_is other) (held_inserted b (new_held s k) hs)) ≡ cond t (Some x) (find (serial_is other) hs)
      by_here true e = refl
      by_here false e = e

      by_test : (t : Bool) → find (serial_is other) (held_inserted b (new_held s k) hs) ≡ find (serial_is other) hs
          → find (serial_is other) (cond t (new_held s k ∷ x ∷ hs) (x ∷ held_inserted b (new_held s k) hs)) ≡ cond (serial_is other x) (Some x) (find (serial_is other) hs)
      by_test true e = ap (λ t. cond t (Some (new_held s k)) (cond (serial_is other x) (Some x) (find (serial_is other) hs))) (is_other s other (new_held s k) apart (eq-eqb s s refl))
      by_test false e = by_here (serial_is other x) e

-- and what it makes of that one

pub gone_without : (s : ℕ) (hs : List Held) → entry_of (held_without s hs) s ≡ None
gone_without s [] = refl
gone_without s (x ∷ hs) = by_test (serial_is s x) refl (gone_without s hs)
  where
    by_test : (t : Bool) → serial_is s x ≡ t → entry_of (held_without s hs) s ≡ None → entry_of (cond (not t) (x ∷ held_without s hs) (held_without s hs)) s ≡ None
    by_test true g e = e
    by_test false g e = ap (λ t. held_entry (cond t (Some x) (find (serial_is s) (held_without s hs)))) g ∙ e

pub now_put : (s : ℕ) (k : EntryKind) (hs : List Held) → is_some (entry_of hs s) ≡ true → find (serial_is s) (held_put s k hs) ≡ Some (new_held s k)
now_put s k [] h = no h
now_put s k (x ∷ hs) h = by_test (serial_is s x) refl h (now_put s k hs)
  where
    by_test : (t : Bool) → serial_is s x ≡ t → is_some (held_entry (cond t (Some x) (find (serial_is s) hs))) ≡ true
        → (is_some (entry_of hs s) ≡ true → find (serial_is s) (held_put s k hs) ≡ Some (new_held s k))
        → cond (serial_is s (cond t (new_held x.entry.serial k) x)) (Some (cond t (new_held x.entry.serial k) x)) (find (serial_is s) (held_put s k hs)) ≡ Some (new_held s k)
    by_test true g r rest =
        ap (λ t. cond t (Some (new_held x.entry.serial k)) (find (serial_is s) (held_put s k hs))) g
        ∙ ap (λ n. Some (new_held n k)) (eqb-true x.entry.serial s g)
    by_test false g r rest = ap (λ t. cond t (Some x) (find (serial_is s) (held_put s k hs))) g ∙ rest r

pub new_inserted : (b s : ℕ) (k : EntryKind) (hs : List Held) → is_some (entry_of hs b) ≡ true → holds_serial s hs ≡ false → find (serial_is s) (held_inserted b (new_held s k) hs) ≡ Some (new_held s k)
new_inserted b s k [] h fresh = no h
new_inserted b s k (x ∷ hs) h fresh =
    let w = or_parts (serial_is s x) (holds_serial s hs) fresh in
    by_test (serial_is b x) h w.0 (λ r. new_inserted b s k hs r w.1)
  where
    by_test : (t : Bool) → is_some (held_entry (cond t (Some x) (find (serial_is b) hs))) ≡ true → serial_is s x ≡ false
        → (is_some (entry_of hs b) ≡ true → find (serial_is s) (held_inserted b (new_held s k) hs) ≡ Some (new_held s k))
        → find (serial_is s) (cond t (new_held s k ∷ x ∷ hs) (x ∷ held_inserted b (new_held s k) hs)) ≡ Some (new_held s k)
    by_test true r g rest = ap (λ t. cond t (Some (new_held s k)) (find (serial_is s) (x ∷ hs))) (eq-eqb s s refl)
    by_test false r g rest = ap (λ t. cond t (Some x) (find (serial_is s) (held_inserted b (new_held s k) hs))) g ∙ rest r
