-- The nodes that hold a list of pairs.
use Rattle.std.specs.Prelude.{ℕ, List, [], ◌∷◌, Option, Some, None, nat_eq, if◌then◌else◌}
use Rattle.entry_list.specs.declared.node.Node.{Node}
use Rattle.entry_list.specs.Listed.{first_key}

module _ {T : Type 0} where
  -- the node at a key, where the key before the first pair is given: the value, with the keys before and after it
  abbrev pub node_from : Option ℕ → List (ℕ × T) → ℕ → Option (Node T)
  node_from before [] k = None
  node_from before (p ∷ ps) k =
      if nat_eq p.0 k then Some (record { value = p.1; prev = before; next = first_key ps }) else node_from (Some p.0) ps k

  -- the node at a key of a list, and nothing at every other key
  abbrev pub node_at : List (ℕ × T) → ℕ → Option (Node T)
  node_at ps k = node_from None ps k
