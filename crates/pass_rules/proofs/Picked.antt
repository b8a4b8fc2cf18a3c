-- What a predicate picks of a list is one list.
use Rattle.std.proofs.Common.{◌≡◌, ℕ, List, [], ◌∷◌, refl, ap}
use Rattle.pass_rules.specs.Branches.{ArePicked, none, picked, left}

pub one_pick : {P : ℕ → Type 0} (xs ys zs : List ℕ) → ArePicked P xs ys → ArePicked P xs zs → ys ≡ zs
one_pick [] ys zs none none = refl
one_pick (x ∷ xs) ys zs (picked _ _ vs p a) (picked _ _ ws q b) = ap (λ l. x ∷ l) (one_pick xs vs ws a b)
one_pick (x ∷ xs) ys zs (picked _ _ vs p a) (left _ _ ws q b) = absurd (q p)
one_pick (x ∷ xs) ys zs (left _ _ vs p a) (picked _ _ ws q b) = absurd (p q)
one_pick (x ∷ xs) ys zs (left _ _ vs p a) (left _ _ ws q b) = one_pick xs ys zs a b
