-- What the fields of a list hold, and what a write to a link makes of the nodes.
use Rattle.std.specs.Prelude.{◌≡◌, ◌≤◌, ℕ, zero, suc, ◌+◌, Bool, false, List, [], ◌∷◌, length, Option, Some, None, option_map, nat_eq, if◌then◌else◌}
use Rattle.slab.specs.Slab.{Slab, get, slab_len}
use Rattle.entry_list.specs.declared.node.Node.{Node}
use Rattle.entry_list.specs.Listed.{AreDistinct, first_key, last_key}
use Rattle.entry_list.specs.Nodes.{node_at}

-- whether this is the key
abbrev pub is_key : Option ℕ → ℕ → Bool
is_key None k = false
is_key (Some j) k = nat_eq j k

-- an end of the list, which changes where there is no node whose link changes
abbrev pub end_at : Option ℕ → Option ℕ → Option ℕ → Option ℕ
end_at None new old = new
end_at (Some k) new old = old

module _ {T : Type 0} where
  -- the pair at a key, and then what its link to the next leads to
  abbrev pub onto : ℕ → Option (Node T) → (Option ℕ → List (ℕ × T)) → List (ℕ × T)
  onto k None rest = []
  onto k (Some n) rest = (k, n.value) ∷ rest n.next

  -- the pairs that so many steps along `next` come to
  abbrev pub walk : ℕ → Slab (Node T) → Option ℕ → List (ℕ × T)
  walk zero s at = []
  walk (suc n) s None = []
  walk (suc n) s (Some k) = onto k (get s k) (walk n s)

  -- the pairs that stand in a slab, from the first along `next`
  abbrev pub pairs_of : Slab (Node T) → Option ℕ → List (ℕ × T)
  pairs_of s first = walk (slab_len s) s first

  -- the slab has the nodes of these pairs and nothing else, and room for so many more
  pub record Holds (ps : List (ℕ × T)) (s : Slab (Node T)) (first last : Option ℕ) (spare : ℕ) : Type 0 where
    pub nodes : (k : ℕ) → get s k ≡ node_at ps k
    pub distinct : AreDistinct ps
    pub len : slab_len s ≡ length ps
    pub first_is : first ≡ first_key ps
    pub last_is : last ≡ last_key ps
    pub room : slab_len s + spare ≤ s.capacity

  abbrev pub with_prev : Option ℕ → Node T → Node T
  with_prev k n = record n { prev = k }

  abbrev pub with_next : Option ℕ → Node T → Node T
  with_next k n = record n { next = k }

  abbrev pub with_value : T → Node T → Node T
  with_value v n = record n { value = v }

  -- nodes where another one, or none, is at a key
  abbrev pub put : ℕ → Option (Node T) → (ℕ → Option (Node T)) → ℕ → Option (Node T)
  put m n nodes k = if nat_eq m k then n else nodes k

  -- nodes where the one at a key, if it is a key, has another key before it, or after it
  abbrev pub prev_set : Option ℕ → Option ℕ → (ℕ → Option (Node T)) → ℕ → Option (Node T)
  prev_set at prev nodes k = if is_key at k then option_map (with_prev prev) (nodes k) else nodes k

  abbrev pub next_set : Option ℕ → Option ℕ → (ℕ → Option (Node T)) → ℕ → Option (Node T)
  next_set at next nodes k = if is_key at k then option_map (with_next next) (nodes k) else nodes k
