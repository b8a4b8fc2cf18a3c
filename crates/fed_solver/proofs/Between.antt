-- Lists of all places.
use Rattle.std.proofs.Common.{◌≡◌, ℕ, ◌<◌, ◌≤◌, true, false, ◌||◌, List, [], ◌∷◌, ◌++◌, ⊎_elim, ◌∙◌, arith}
use Rattle.std.specs.Prelude.{nat_eq}
use Rattle.std.specs.List.{All}
use Rattle.std.proofs.lemmas.Bool.{eq-eqb, cases_eq, or_left, or_right}
use Rattle.std.proofs.lemmas.List.Elements.{All-nil, All-push}
use Rattle.std.proofs.lemmas.List.Folds.{list_any-append}
use Rattle.blocks_cfg.specs.Fed.{is_among}

-- the places from low on and below high, and none from n on
pub record HasBetween (n low high : ℕ) (places : List ℕ) : Type 0 where
  pub within : All (λ p. p < n) places
  pub all : (p : ℕ) → low ≤ p → p < high → is_among p places ≡ true

pub between_none : (n low high : ℕ) → high ≤ low → HasBetween n low high []
between_none n low high h = record { within = All-nil (λ p. p < n); all = λ p a b. absurd (omega arith) }

-- with one place more, at either end
pub between_more : (n low high low' high' q : ℕ) (places : List ℕ) → HasBetween n low high places → q < n
    → ((p : ℕ) → low' ≤ p → p < high' → (p ≡ q → ⊥) → (low ≤ p) × (p < high)) → HasBetween n low' high' (places ++ q ∷ [])
between_more n low high low' high' q places h lt near = record {
  within = All-push (λ p. p < n) places q h.within lt;
  all = λ p a b. list_any-append (nat_eq p) places (q ∷ []) ∙ ⊎_elim
      (λ e. or_right (is_among p places) (nat_eq p q || false) (or_left (nat_eq p q) false (eq-eqb p q e)))
      (λ ne. let t = near p a b ne in or_left (is_among p places) (nat_eq p q || false) (h.all p t.0 t.1))
      (cases_eq p q);
}
