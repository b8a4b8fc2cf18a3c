-- Lists of names.
use Rattle.std.specs.Prelude.{◌≡◌, ℕ, suc, Bool, false, List, [], ◌∷◌, ◌++◌, Option, Some, None, option_map, bytes_eq, ⊤, if◌then◌else◌}
use Rattle.std.specs.List.{list_any}

abbrev pub has : List ℕ → List (List ℕ) → Bool
has n ns = list_any (bytes_eq n) ns

-- whether two lists have a name in common
abbrev pub meets : List (List ℕ) → List (List ℕ) → Bool
meets ms ns = list_any (λ m. has m ns) ms

-- the first place of a name
abbrev pub place_of : List ℕ → List (List ℕ) → Option ℕ
place_of n [] = None
place_of n (m ∷ ms) = if bytes_eq n m then Some 0 else option_map suc (place_of n ms)

-- with one more name at the end, where it isn't among them
abbrev pub with_name : List (List ℕ) → List ℕ → List (List ℕ)
with_name ns n = if has n ns then ns else ns ++ n ∷ []

-- no name stands twice
abbrev pub AreDistinct : List (List ℕ) → Type 0
AreDistinct [] = ⊤
AreDistinct (n ∷ ns) = (has n ns ≡ false) × AreDistinct ns
