-- The box of a kind, found and changed.
use Rattle.std.proofs.Common.{◌≡◌, ◌<◌, ◌≤◌, ◌+◌, ◌-◌, ◌^◌, ℕ, List, [], ◌∷◌, length, slice_set, suc, zero, ap, refl, arith, subst, sym, ◌∙◌, true, false, cond, slice_index_or, map, drop, IsTrue, ⊎_elim}
use Rattle.std.proofs.lemmas.Bool.{cond-true, cond-false, cases_Bool}
use Rattle.std.specs.Prelude.{slice_get, Option, Some, None, Result, Ok, Err, IfOk, OnOk, OnErr, min, ◌||◌}
use Rattle.std.proofs.lemmas.Grind.{common_steps}
use Rattle.pass_script.specs.declared.kinds.PassKind.{PassKind}
use Rattle.pass_script.specs.declared.options.PassOpts.{PassOpts}
use Rattle.pass_script.specs.Catalogue.{same_kind, defaults}
use Rattle.pass_base.proofs.Alike.{same_then}
use Rattle.pass_base.specs.Books.{BoxView, see, views, at_kind, first_difference, first_of_kind, has_box, opts_of, with_opts, with_count}
use Rattle.pass_base.specs.Runs.{raised, Ran}
use Rattle.asm_unit.specs.Unit.{Unit}
use Rattle.unit_edits.specs.declared.journal.Part.{Part}

pub get_there : {B : Type 0} (bs : List B) (n : ℕ) (d : B) → n < length bs → slice_get bs n ≡ Some (slice_index_or bs n d)
get_there [] n d l = absurd (omega arith)
get_there (x ∷ bs) zero d l = refl
get_there (x ∷ bs) (suc n) d l = get_there bs n d (omega arith)

pub ok_map : {T E : Type 0} (r : Result T E) (P Q : T → Type 0) → IfOk r P → ((x : T) → P x → Q x) → IfOk r Q
ok_map (Ok x) P Q p f = f x p
ok_map (Err e) P Q p f = tt

pub on_ok : {T E : Type 0} (r : Result T E) (P : Type 0) → P → OnOk r P
on_ok (Ok x) P p = p
on_ok (Err e) P p = tt

pub on_err_map : {T E : Type 0} (r : Result T E) (P Q : Type 0) → OnErr r P → (P → Q) → OnErr r Q
on_err_map (Ok x) P Q p f = tt
on_err_map (Err e) P Q p f = f p

pub ran_as : (k k' : PassKind) (o o' : PassOpts) (f : ℕ) (u v : Unit) (j j' : List Part) (n : ℕ) → k ≡ k' → o' ≡ o → Ran k o f u v j j' n → Ran k' o' f u v j j' n
ran_as k k' o o' f u v j j' n ek eo r = subst (λ x. Ran k' x f u v j j' n) (sym eo) (subst (λ x. Ran x o f u v j j' n) ek r)

-- a count that is seen up to the last value rises as the count does
raised_seen : (c n : ℕ) → min (raised c n) (2 ^ 64 - 1) ≡ raised (min c (2 ^ 64 - 1)) n
raised_seen c n = grind (arith, common_steps)

drop_none : {A : Type 0} (n : ℕ) (xs : List A) → length xs ≤ n → drop n xs ≡ []
drop_none zero [] l = refl
drop_none zero (x ∷ xs) l = absurd (omega arith)
drop_none (suc n) [] l = refl
drop_none (suc n) (x ∷ xs) l = drop_none n xs (omega arith)

some_left : {A : Type 0} (n : ℕ) (xs : List A) → n < length xs → 0 < length (drop n xs)
some_left n [] l = absurd (omega arith)
some_left zero (x ∷ xs) l = omega arith
some_left (suc n) (x ∷ xs) l = some_left n xs (omega arith)

more_boxes : {B : Type 0} (k : B → PassKind) (n : ℕ) (bs : List B) → 0 < length bs → first_difference n (map k bs) [] ≡ Some n
more_boxes k n [] l = absurd (omega arith)
more_boxes k n (b ∷ bs) l = refl

more_kinds : (n : ℕ) (ks : List PassKind) → 0 < length ks → first_difference n [] ks ≡ Some n
more_kinds n [] l = absurd (omega arith)
more_kinds n (k ∷ ks) l = refl

-- more boxes than kinds
pub left_over : {B : Type 0} (k : B → PassKind) (at : ℕ) (bs : List B) (ks : List PassKind) → length ks ≤ at → at < length bs
    → first_difference at (map k (drop at bs)) (drop at ks) ≡ Some at
left_over k at bs ks hi l = ap (first_difference at (map k (drop at bs))) (drop_none at ks hi) ∙ more_boxes k at (drop at bs) (some_left at bs l)

-- more kinds than boxes
pub too_few : {B : Type 0} (k : B → PassKind) (at : ℕ) (bs : List B) (ks : List PassKind) → length bs ≤ at → at < length ks
    → first_difference at (map k (drop at bs)) (drop at ks) ≡ Some at
too_few k at bs ks hi l = ap (λ xs. first_difference at (map k xs) (drop at ks)) (drop_none at bs hi) ∙ more_kinds at (drop at ks) (some_left at ks l)

-- what was found in the slice is found in the boxes
pub in_boxes : {B : Type 0} (k : B → PassKind) (kind : PassKind) (slice bs : List B) (r : Option ℕ) → slice ≡ bs → r ≡ first_of_kind 0 kind (map k slice)
    → first_of_kind 0 kind (map k bs) ≡ r
in_boxes k kind slice bs r e f = ap (λ x. first_of_kind 0 kind (map k x)) (sym e) ∙ sym f

at_kind_same : (k : PassKind) (bs : List BoxView) → at_kind k (λ x. x) bs ≡ bs
at_kind_same k [] = refl
at_kind_same k (b ∷ bs) =
    elim (same_kind b.kind k) as (λ t. cond t (b ∷ bs) (b ∷ at_kind k (λ x. x) bs) ≡ b ∷ bs) [ true ↦ refl | false ↦ ap (λ l. b ∷ l) (at_kind_same k bs) ]

module _ {B : Type 0} (k : B → PassKind) (o : B → PassOpts) (c : B → ℕ) where
  -- the box at a place is the one of a kind
  pub record IsThere (kind : PassKind) (bs : List B) (m : ℕ) : Type 0 where
    pub within : m < length bs
    pub has : IsTrue (has_box kind (views k o c bs))
    pub kind_is : (b : B) → slice_get bs m ≡ Some b → k b ≡ kind
    pub opts_are : (b : B) → slice_get bs m ≡ Some b → opts_of kind (views k o c bs) ≡ o b
    pub changed : (f : BoxView → BoxView) (b b' : B) → slice_get bs m ≡ Some b → see k o c b' ≡ f (see k o c b)
        → views k o c (slice_set bs m b') ≡ at_kind kind f (views k o c bs)

  here : (kind : PassKind) (b : B) (bs : List B) → same_kind (k b) kind ≡ true → IsThere kind (b ∷ bs) 0
  here kind b bs t = record {
    within = omega arith;
    has = subst (λ x. IsTrue (x || has_box kind (views k o c bs))) (sym t) refl;
    kind_is = λ x g. let same : b ≡ x = grind (arith, common_steps) in ap k (sym same) ∙ same_then (k b) kind t;
    opts_are = λ x g. let same : b ≡ x = grind (arith, common_steps) in cond-true _ _ _ t ∙ ap o same;
    changed = λ f x b' g e. let same : b ≡ x = grind (arith, common_steps) in
        ap (λ y. y ∷ views k o c bs) (e ∙ ap (λ y. f (see k o c y)) (sym same)) ∙ sym (cond-true _ _ _ t);
  }

  there : (kind : PassKind) (b : B) (bs : List B) (m : ℕ) → same_kind (k b) kind ≡ false → IsThere kind bs m → IsThere kind (b ∷ bs) (suc m)
  there kind b bs m t h = record {
    within = (let l : m < length bs = h.within in omega arith);
    has = subst (λ x. IsTrue (x || has_box kind (views k o c bs))) (sym t) h.has;
    kind_is = λ x g. h.kind_is x g;
    opts_are = λ x g. cond-false _ _ _ t ∙ h.opts_are x g;
    changed = λ f x b' g e. ap (λ l. see k o c b ∷ l) (h.changed f x b' g e) ∙ sym (cond-false _ _ _ t);
  }

  found_from : (n at : ℕ) (kind : PassKind) (bs : List B) → first_of_kind n kind (map k bs) ≡ Some at → (m : ℕ) × (at ≡ n + m) × IsThere kind bs m
  found_from n at kind [] e = grind (arith, common_steps)
  found_from n at kind (b ∷ bs) e =
      ⊎_elim
      (λ t. let s : Some n ≡ Some at = sym (cond-true _ _ _ t) ∙ e in
      let a : at ≡ n + 0 = grind (arith, common_steps) in (0, a, here kind b bs t))
      (λ t. let r = found_from (n + 1) at kind bs (sym (cond-false _ _ _ t) ∙ e) in
      let a : at ≡ n + 1 + r.0 = r.1 in (suc r.0, omega arith, there kind b bs r.0 t r.2))
      (cases_Bool (same_kind (k b) kind))

  pub found : (kind : PassKind) (bs : List B) (at : ℕ) → first_of_kind 0 kind (map k bs) ≡ Some at → IsThere kind bs at
  found kind bs at e = let r = found_from 0 at kind bs e in
      let a : at ≡ 0 + r.0 = r.1 in let s : r.0 ≡ at = omega arith in subst (λ m. IsThere kind bs m) s r.2

  pub not_found : (n : ℕ) (kind : PassKind) (f : BoxView → BoxView) (bs : List B) → first_of_kind n kind (map k bs) ≡ None → at_kind kind f (views k o c bs) ≡ views k o c bs
  not_found n kind f [] e = refl
  not_found n kind f (b ∷ bs) e =
      ⊎_elim
      (λ t. let s : Some n ≡ None = sym (cond-true _ _ _ t) ∙ e in grind (arith, common_steps))
      (λ t. cond-false _ _ _ t ∙ ap (λ l. see k o c b ∷ l) (not_found (n + 1) kind f bs (sym (cond-false _ _ _ t) ∙ e)))
      (cases_Bool (same_kind (k b) kind))

  pub box_there : (kind : PassKind) (bs : List B) (at : ℕ) → first_of_kind 0 kind (map k bs) ≡ Some at → IsTrue (has_box kind (views k o c bs))
  box_there kind bs at e = (found kind bs at e).has

  get_found : (kind : PassKind) (bs : List B) (at : ℕ) (b d : B) → first_of_kind 0 kind (map k bs) ≡ Some at → b ≡ slice_index_or bs at d → slice_get bs at ≡ Some b
  get_found kind bs at b d e v = get_there bs at d (found kind bs at e).within ∙ ap Some (sym v)

  pub box_opts : (kind : PassKind) (bs : List B) (at : ℕ) (b d : B) → first_of_kind 0 kind (map k bs) ≡ Some at → b ≡ slice_index_or bs at d → opts_of kind (views k o c bs) ≡ o b
  box_opts kind bs at b d e v = (found kind bs at e).opts_are b (get_found kind bs at b d e v)

  pub box_ran : (kind : PassKind) (bs : List B) (at : ℕ) (b b' d : B) (n : ℕ) → first_of_kind 0 kind (map k bs) ≡ Some at → b ≡ slice_index_or bs at d
      → k b' ≡ k b → o b' ≡ o b → c b' ≡ raised (c b) n
      → views k o c (slice_set bs at b') ≡ with_count kind n (views k o c bs)
  box_ran kind bs at b b' d n e v ek eo ec =
      let rise : min (c b') (2 ^ 64 - 1) ≡ raised (min (c b) (2 ^ 64 - 1)) n = ap (λ x. min x (2 ^ 64 - 1)) ec ∙ raised_seen (c b) n in
      (found kind bs at e).changed (λ x. record x { count = raised x.count n }) b b' (get_found kind bs at b d e v)
      (ap (λ x. record { kind = x; opts = o b'; count = min (c b') (2 ^ 64 - 1) }) ek
      ∙ ap (λ x. record { kind = k b; opts = x; count = min (c b') (2 ^ 64 - 1) }) eo
      ∙ ap (λ x. record { kind = k b; opts = o b; count = x }) rise)

  pub box_set : (kind : PassKind) (bs : List B) (at : ℕ) (b b' d : B) (p : PassOpts) → first_of_kind 0 kind (map k bs) ≡ Some at → b ≡ slice_index_or bs at d
      → k b' ≡ k b → o b' ≡ p → c b' ≡ c b
      → views k o c (slice_set bs at b') ≡ with_opts kind p (views k o c bs)
  box_set kind bs at b b' d p e v ek eo ec =
      (found kind bs at e).changed (λ x. record x { opts = p }) b b' (get_found kind bs at b d e v)
      (ap (λ x. record { kind = x; opts = o b'; count = min (c b') (2 ^ 64 - 1) }) ek
      ∙ ap (λ x. record { kind = k b; opts = x; count = min (c b') (2 ^ 64 - 1) }) eo
      ∙ ap (λ x. record { kind = k b; opts = p; count = min x (2 ^ 64 - 1) }) ec)

  pub box_left : (kind : PassKind) (bs : List B) (at : ℕ) (b b' d : B) → first_of_kind 0 kind (map k bs) ≡ Some at → b ≡ slice_index_or bs at d
      → k b' ≡ k b → o b' ≡ o b → c b' ≡ c b
      → views k o c (slice_set bs at b') ≡ views k o c bs
  box_left kind bs at b b' d e v ek eo ec =
      (found kind bs at e).changed (λ x. x) b b' (get_found kind bs at b d e v)
      (ap (λ x. record { kind = x; opts = o b'; count = min (c b') (2 ^ 64 - 1) }) ek
      ∙ ap (λ x. record { kind = k b; opts = x; count = min (c b') (2 ^ 64 - 1) }) eo
      ∙ ap (λ x. record { kind = k b; opts = o b; count = min x (2 ^ 64 - 1) }) ec)
      ∙ at_kind_same kind (views k o c bs)

pub box_within : {B : Type 0} (k : B → PassKind) (kind : PassKind) (bs : List B) (at : ℕ) → first_of_kind 0 kind (map k bs) ≡ Some at → at < length bs
box_within k kind bs at e = (found k (λ _. defaults) (λ _. 0) kind bs at e).within

pub box_kind : {B : Type 0} (k : B → PassKind) (kind : PassKind) (bs : List B) (at : ℕ) (b d : B) → first_of_kind 0 kind (map k bs) ≡ Some at → b ≡ slice_index_or bs at d → k b ≡ kind
box_kind k kind bs at b d e v = (found k (λ _. defaults) (λ _. 0) kind bs at e).kind_is b (get_found k (λ _. defaults) (λ _. 0) kind bs at b d e v)
