-- What holds of all but the last, and spans in order.
use Rattle.std.proofs.Common.{ℕ, ◌+◌, ◌<◌, ◌≤◌, List, [], ◌∷◌, length, Option, Some, None, arith}
use Rattle.att_lexer.specs.declared.pieces.Span.{Span}
use Rattle.att_lexer.specs.Pieces.{AllButLast}
use Rattle.text_laws.specs.Edited.{InOrder}

module _ (P : List ℕ → Type 0) where
  pub onto : (p : List ℕ) (ps : List (List ℕ)) → (0 < length ps → P p) → AllButLast P ps → AllButLast P (p ∷ ps)
  onto p [] h k = tt
  onto p (q ∷ qs) h k = (h (omega arith), k)

  pub first : (p : List ℕ) (ps : List (List ℕ)) → AllButLast P (p ∷ ps) → 0 < length ps → P p
  first p [] h lt = absurd (omega (arith, lt))
  first p (q ∷ qs) h lt = h.0

  pub rest : (p : List ℕ) (ps : List (List ℕ)) → AllButLast P (p ∷ ps) → AllButLast P ps
  rest p [] h = tt
  rest p (q ∷ qs) h = h.1

pub lower : (low at : ℕ) (spans : List (Option Span)) → low ≤ at → InOrder at spans → InOrder low spans
lower low at [] le h = tt
lower low at (None ∷ spans) le h = lower low at spans le h
lower low at (Some s ∷ spans) le h = (omega (arith, le, h.0), h.1)

-- the first goes
pub order_off : (at : ℕ) (o : Option Span) (spans : List (Option Span)) → InOrder at (o ∷ spans) → InOrder at spans
order_off at None spans h = h
order_off at (Some s) spans h = lower at (s.start + s.len) spans (omega (arith, h.0)) h.1

-- others stand behind the first
pub order_onto : (at : ℕ) (o : Option Span) (xs ys : List (Option Span)) → ((next : ℕ) → InOrder next xs → InOrder next ys) → InOrder at (o ∷ xs) → InOrder at (o ∷ ys)
order_onto at None xs ys f h = f at h
order_onto at (Some s) xs ys f h = (h.0, f (s.start + s.len) h.1)
