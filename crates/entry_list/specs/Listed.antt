-- A list of keys with their values, as contracts see it.
use Rattle.std.specs.Prelude.{◌≡◌, ℕ, Bool, false, ◌||◌, List, [], ◌∷◌, map, Option, Some, None, nat_eq, if◌then◌else◌, refl, ⊤}
use Rattle.std.specs.Coded.{Coded, code_by, coded×, coded_ℕ, coded_list}

-- the keys with their values in order, and how many more values fit with no allocation
pub record Listed (T : Type 0) : Type 0 where
  pub pairs : List (ℕ × T)
  pub spare : ℕ

abbrev pub listed_code : {T : Type 0} → Coded T → Coded (Listed T)
listed_code {T} code =
    code_by
    (List (ℕ × T) × ℕ)
    (coded× (coded_list (coded× coded_ℕ code)) coded_ℕ)
    (λ l. (l.pairs, l.spare))
    (λ p. record { pairs = p.0; spare = p.1 })
    (λ _. refl)

module _ {T : Type 0} where
  -- the values in order
  abbrev pub values_of : List (ℕ × T) → List T
  values_of ps = map (λ p. p.1) ps

  -- whether a key is in the list
  abbrev pub has_key : ℕ → List (ℕ × T) → Bool
  has_key k [] = false
  has_key k (p ∷ ps) = nat_eq p.0 k || has_key k ps

  -- no key comes twice
  abbrev pub AreDistinct : List (ℕ × T) → Type 0
  AreDistinct [] = ⊤
  AreDistinct (p ∷ ps) = (has_key p.0 ps ≡ false) × AreDistinct ps

  -- the value at a key
  abbrev pub value_at : List (ℕ × T) → ℕ → Option T
  value_at [] k = None
  value_at (p ∷ ps) k = if nat_eq p.0 k then Some p.1 else value_at ps k

  -- the key of the first pair
  abbrev pub first_key : List (ℕ × T) → Option ℕ
  first_key [] = None
  first_key (p ∷ ps) = Some p.0

  -- the key of the last pair, or this one where there is no pair
  abbrev pub last_from : Option ℕ → List (ℕ × T) → Option ℕ
  last_from before [] = before
  last_from before (p ∷ ps) = last_from (Some p.0) ps

  abbrev pub last_key : List (ℕ × T) → Option ℕ
  last_key ps = last_from None ps

  -- the key of the pair after that of a key, if there is one
  abbrev pub next_key : List (ℕ × T) → ℕ → Option ℕ
  next_key [] k = None
  next_key (p ∷ ps) k = if nat_eq p.0 k then first_key ps else next_key ps k

  -- the key of the pair before that of a key, where this one stands before the first
  abbrev pub prev_from : Option ℕ → List (ℕ × T) → ℕ → Option ℕ
  prev_from before [] k = None
  prev_from before (p ∷ ps) k = if nat_eq p.0 k then before else prev_from (Some p.0) ps k

  abbrev pub prev_key : List (ℕ × T) → ℕ → Option ℕ
  prev_key ps k = prev_from None ps k

  -- the pairs with one more directly before that of a key
  abbrev pub inserted : ℕ → ℕ × T → List (ℕ × T) → List (ℕ × T)
  inserted k q [] = []
  inserted k q (p ∷ ps) = if nat_eq p.0 k then q ∷ p ∷ ps else p ∷ inserted k q ps

  -- the pairs without that of a key
  abbrev pub without : ℕ → List (ℕ × T) → List (ℕ × T)
  without k [] = []
  without k (p ∷ ps) = if nat_eq p.0 k then ps else p ∷ without k ps

  -- the pairs with another value at a key
  abbrev pub replaced : ℕ → T → List (ℕ × T) → List (ℕ × T)
  replaced k v [] = []
  replaced k v (p ∷ ps) = if nat_eq p.0 k then (p.0, v) ∷ ps else p ∷ replaced k v ps
