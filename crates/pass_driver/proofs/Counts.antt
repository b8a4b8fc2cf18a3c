-- Counts and options of boxes that were set or ran.
use Rattle.std.proofs.Common.{◌≡◌, ◌≤◌, ◌+◌, ◌-◌, ◌^◌, ℕ, true, false, cond, List, [], ◌∷◌, refl, ap, sym, ◌∙◌, subst, ⊎_elim, arith, IsTrue}
use Rattle.std.proofs.lemmas.Bool.{cond-true, cond-false, cases_Bool}
use Rattle.std.proofs.lemmas.Grind.{common_steps}
use Rattle.std.specs.Prelude.{min, ◌||◌}
use Rattle.pass_script.specs.declared.kinds.PassKind.{PassKind}
use Rattle.pass_script.specs.declared.options.PassOpts.{PassOpts}
use Rattle.pass_script.specs.Catalogue.{same_kind}
use Rattle.pass_base.proofs.Alike.{same_then}
use Rattle.pass_base.specs.Runs.{raised}
use Rattle.pass_base.specs.Books.{BoxView, views, has_box, opts_of, count_of, with_opts, with_count}
use Rattle.pass_driver.specs.walks.Reached.{HasOpts}

low : (a b : ℕ) → min a b ≤ b
low a b = grind (arith, common_steps)

-- a count that is seen is a u64's
pub seen_small : {B : Type 0} (k : B → PassKind) (o : B → PassOpts) (c : B → ℕ) (bs : List B) (kind : PassKind) → count_of kind (views k o c bs) ≤ 2 ^ 64 - 1
seen_small k o c [] kind = omega arith
seen_small k o c (b ∷ bs) kind =
    elim (same_kind (k b) kind) as (λ t. cond t (min (c b) (2 ^ 64 - 1)) (count_of kind (views k o c bs)) ≤ 2 ^ 64 - 1)
    [ true ↦ low (c b) (2 ^ 64 - 1) | false ↦ seen_small k o c bs kind ]

pub raised_none : (c : ℕ) → c ≤ 2 ^ 64 - 1 → c ≡ raised c 0
raised_none c l = grind (arith, common_steps)

pub raised_twice : (c m n : ℕ) → raised (raised c m) n ≡ raised c (m + n)
raised_twice c m n = grind (arith, common_steps)

pub count_set : (k kind : PassKind) (o : PassOpts) (bs : List BoxView) → count_of k (with_opts kind o bs) ≡ count_of k bs
count_set k kind o [] = refl
count_set k kind o (b ∷ bs) =
    elim (same_kind b.kind kind) as (λ t. count_of k (cond t (record b { opts = o } ∷ bs) (b ∷ with_opts kind o bs)) ≡ count_of k (b ∷ bs))
    [ true ↦ refl | false ↦ ap (λ x. cond (same_kind b.kind k) b.count x) (count_set k kind o bs) ]

has_count : (k kind : PassKind) (n : ℕ) (bs : List BoxView) → has_box k (with_count kind n bs) ≡ has_box k bs
has_count k kind n [] = refl
has_count k kind n (b ∷ bs) =
    elim (same_kind b.kind kind) as (λ t. has_box k (cond t (record b { count = raised b.count n } ∷ bs) (b ∷ with_count kind n bs)) ≡ has_box k (b ∷ bs))
    [ true ↦ refl | false ↦ ap (λ x. same_kind b.kind k || x) (has_count k kind n bs) ]

opts_count : (k kind : PassKind) (n : ℕ) (bs : List BoxView) → opts_of k (with_count kind n bs) ≡ opts_of k bs
opts_count k kind n [] = refl
opts_count k kind n (b ∷ bs) =
    elim (same_kind b.kind kind) as (λ t. opts_of k (cond t (record b { count = raised b.count n } ∷ bs) (b ∷ with_count kind n bs)) ≡ opts_of k (b ∷ bs))
    [ true ↦ refl | false ↦ ap (λ x. cond (same_kind b.kind k) b.opts x) (opts_count k kind n bs) ]

pub has_opts_count : (k kind : PassKind) (o : PassOpts) (n : ℕ) (bs : List BoxView) → HasOpts k o bs → HasOpts k o (with_count kind n bs)
has_opts_count k kind o n bs h = λ there. opts_count k kind n bs ∙ h (subst IsTrue (has_count k kind n bs) there)

no_box : {A : Type 0} → IsTrue false → A
no_box h = absurd (grind (arith, common_steps))

pub has_opts_set : (k : PassKind) (o : PassOpts) (bs : List BoxView) → HasOpts k o (with_opts k o bs)
has_opts_set k o [] = λ there. no_box there
has_opts_set k o (b ∷ bs) =
    ⊎_elim
    (λ t. λ there. ap (opts_of k) (cond-true _ _ _ t) ∙ cond-true _ _ _ t)
    (λ t. λ there.
    let e : with_opts k o (b ∷ bs) ≡ b ∷ with_opts k o bs = cond-false _ _ _ t in
    let rest : IsTrue (has_box k (with_opts k o bs)) = subst (λ x. IsTrue (x || has_box k (with_opts k o bs))) t (subst (λ l. IsTrue (has_box k l)) e there) in
    ap (opts_of k) e ∙ cond-false _ _ _ t ∙ has_opts_set k o bs rest)
    (cases_Bool (same_kind b.kind k))

count_same : (k : PassKind) (n : ℕ) (bs : List BoxView) → IsTrue (has_box k bs) → count_of k (with_count k n bs) ≡ raised (count_of k bs) n
count_same k n [] there = no_box there
count_same k n (b ∷ bs) there =
    ⊎_elim
    (λ t. ap (count_of k) (cond-true _ _ _ t) ∙ cond-true _ _ _ t ∙ ap (λ x. raised x n) (sym (cond-true _ _ _ t)))
    (λ t. ap (count_of k) (cond-false _ _ _ t) ∙ cond-false _ _ _ t
    ∙ count_same k n bs (subst (λ x. IsTrue (x || has_box k bs)) t there) ∙ ap (λ x. raised x n) (sym (cond-false _ _ _ t)))
    (cases_Bool (same_kind b.kind k))

count_other : (k kind : PassKind) (n : ℕ) (bs : List BoxView) → same_kind kind k ≡ false → count_of k (with_count kind n bs) ≡ count_of k bs
count_other k kind n [] d = refl
count_other k kind n (b ∷ bs) d =
    ⊎_elim
    (λ t. let q : same_kind b.kind k ≡ false = ap (λ x. same_kind x k) (same_then b.kind kind t) ∙ d in
    ap (count_of k) (cond-true _ _ _ t) ∙ cond-false _ _ _ q ∙ sym (cond-false _ _ _ q))
    (λ t. ap (count_of k) (cond-false _ _ _ t) ∙ ap (λ x. cond (same_kind b.kind k) b.count x) (count_other k kind n bs d))
    (cases_Bool (same_kind b.kind kind))

-- a box that ran counted its edits, and no other did
pub counted_one : (kind : PassKind) (n : ℕ) (bs : List BoxView) → IsTrue (has_box kind bs) → ((k : PassKind) → count_of k bs ≤ 2 ^ 64 - 1)
    → (k : PassKind) → count_of k (with_count kind n bs) ≡ raised (count_of k bs) (cond (same_kind kind k) n 0 + 0)
counted_one kind n bs there small k =
    ⊎_elim
    (λ t.
    let c : cond (same_kind kind k) n 0 ≡ n = cond-true _ _ _ t in
    let e : n ≡ cond (same_kind kind k) n 0 + 0 = omega arith in
    subst (λ x. count_of x (with_count kind n bs) ≡ raised (count_of x bs) n) (same_then kind k t) (count_same kind n bs there) ∙ ap (raised (count_of k bs)) e)
    (λ t.
    let c : cond (same_kind kind k) n 0 ≡ 0 = cond-false _ _ _ t in
    let e : 0 ≡ cond (same_kind kind k) n 0 + 0 = omega arith in
    count_other k kind n bs t ∙ raised_none (count_of k bs) (small k) ∙ ap (raised (count_of k bs)) e)
    (cases_Bool (same_kind kind k))
