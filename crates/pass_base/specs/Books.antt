-- What contracts see of a book.
use Rattle.std.specs.Prelude.{ℕ, ◌+◌, ◌-◌, ◌^◌, min, Bool, false, List, [], ◌∷◌, if◌then◌else◌, Option, Some, None, ◌||◌}
use Rattle.pass_script.specs.declared.kinds.PassKind.{PassKind}
use Rattle.pass_script.specs.declared.options.PassOpts.{PassOpts}
use Rattle.pass_script.specs.Catalogue.{same_kind, defaults}
use Rattle.pass_base.specs.Runs.{raised}

-- a box: its kind, its options, and the count of its edits, a u64
pub record BoxView : Type 0 where
  pub kind : PassKind
  pub opts : PassOpts
  pub count : ℕ

-- What is seen of a box, by what its pass says of it. A count is seen up to the last value of a u64, where it stands still.
abbrev pub see : {B : Type 0} → (B → PassKind) → (B → PassOpts) → (B → ℕ) → B → BoxView
see k o c b = record { kind = k b; opts = o b; count = min (c b) (2 ^ 64 - 1) }

abbrev pub views : {B : Type 0} → (B → PassKind) → (B → PassOpts) → (B → ℕ) → List B → List BoxView
views k o c [] = []
views k o c (b ∷ bs) = see k o c b ∷ views k o c bs

-- the same, with the boxes first, for a crate that has the book and no box in its signatures
abbrev pub seen : {B : Type 0} → List B → (B → PassKind) → (B → PassOpts) → (B → ℕ) → List BoxView
seen bs k o c = views k o c bs

-- the first place, counted from a number on, where two lists of kinds differ
abbrev pub first_difference : ℕ → List PassKind → List PassKind → Option ℕ
first_difference n [] [] = None
first_difference n (a ∷ as') [] = Some n
first_difference n [] (b ∷ bs) = Some n
first_difference n (a ∷ as') (b ∷ bs) = if same_kind a b then first_difference (n + 1) as' bs else Some n

-- the place, counted from a number on, of the first box of a kind
abbrev pub first_of_kind : ℕ → PassKind → List PassKind → Option ℕ
first_of_kind n k [] = None
first_of_kind n k (x ∷ xs) = if same_kind x k then Some n else first_of_kind (n + 1) k xs

-- there is a box of the kind
abbrev pub has_box : PassKind → List BoxView → Bool
has_box k [] = false
has_box k (b ∷ bs) = same_kind b.kind k || has_box k bs

-- the options of the box of a kind
abbrev pub opts_of : PassKind → List BoxView → PassOpts
opts_of k [] = defaults
opts_of k (b ∷ bs) = if same_kind b.kind k then b.opts else opts_of k bs

-- the count of edits of the box of a kind
abbrev pub count_of : PassKind → List BoxView → ℕ
count_of k [] = 0
count_of k (b ∷ bs) = if same_kind b.kind k then b.count else count_of k bs

-- a book that is changed at the box of a kind, and nowhere else
abbrev pub at_kind : PassKind → (BoxView → BoxView) → List BoxView → List BoxView
at_kind k f [] = []
at_kind k f (b ∷ bs) = if same_kind b.kind k then f b ∷ bs else b ∷ at_kind k f bs

-- with other options there
abbrev pub with_opts : PassKind → PassOpts → List BoxView → List BoxView
with_opts k o bs = at_kind k (λ b. record b { opts = o }) bs

-- with more edits counted there
abbrev pub with_count : PassKind → ℕ → List BoxView → List BoxView
with_count k n bs = at_kind k (λ b. record b { count = raised b.count n }) bs
