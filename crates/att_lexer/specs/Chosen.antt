-- Members of a list chosen by their numbers.
use Rattle.std.specs.Prelude.{ℕ, ◌+◌, Bool, List, [], ◌∷◌, if◌then◌else◌}

-- the members whose numbers a test keeps, where the first has the given number and each next one the next
abbrev pub chosen : {A : Type 0} → (ℕ → Bool) → ℕ → List A → List A
chosen keep n [] = []
chosen keep n (x ∷ xs) = if keep n then x ∷ chosen keep (n + 1) xs else chosen keep (n + 1) xs
