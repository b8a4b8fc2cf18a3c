-- What is asked of goals, of LOOP16 and of BRALIGN leaves one answer.
use Rattle.std.proofs.Common.{◌≡◌, ◌⊎◌, ◌<◌, ◌≤◌, ℕ, suc, Bool, true, false, List, [], ◌∷◌, ◌++◌, length, replicate, Some, ⊎_elim, refl, sym, ◌∙◌, ap, subst, arith}
use Rattle.std.specs.Prelude.{◌-◌, ◌/◌, ◌%◌}
use Rattle.std.specs.Bool.{Decides}
use Rattle.asm_unit.specs.Decisions.{Decision, is_clear}
use Rattle.asm_unit.specs.Unit.{Unit}
use Rattle.pass_script.specs.declared.script.Step.{Step}
use Rattle.unit_edits.specs.declared.edit.Edit.{Edit}
use Rattle.unit_edits.specs.Bodies.{body_of}
use Rattle.unit_edits.specs.Replay.{edited, replay}
use Rattle.pass_rules.specs.Aligning.{IsLabelOf, BeginsAligned, WithBase, WhereLaidOut, IsAligned, AlignsHeads, AlignsLoops, leaves_heads, aligns_heads, IsMoved, AreApart, HaveOffsets, MovesBranches, AlignsBranches, leaves_branches, aligns_branches}
use Rattle.pass_rules.specs.Branches.{line_serials}
use Rattle.pass_rules.specs.Draws.{nops_before}
use Rattle.pass_rules.specs.Goals.{Goal, Aim, goal_of, aims_of, AreJudged, AreGoalsOf, AreGoalsIf, AreGoalsFrom, AreGoals}
use Rattle.pass_rules.proofs.Offsets.{one_offset}
use Rattle.pass_rules.proofs.Picked.{one_pick}

some_is : {A : Type 0} (x y : A) → Some x ≡ Some y → x ≡ y
some_is x y e = cc

cross : (b : Bool) → b ≡ true → b ≡ false → ⊥
cross b h k = let e : true ≡ false = sym h ∙ k in cc

-- ---- goals

met_is : {P : Type 0} (b c : Bool) → Decides b P → Decides c P → b ≡ c
met_is true true g h = refl
met_is false false g h = refl
met_is true false g h = sym (h.1 (g.0 refl))
met_is false true g h = g.1 (h.0 refl)

judged_is : (u : Unit) (f : ℕ) (aims : List Aim) (gs hs : List Goal) → AreJudged u f aims gs → AreJudged u f aims hs → gs ≡ hs
judged_is u f [] [] [] a b = refl
judged_is u f [] [] (h ∷ hs) a b = absurd b
judged_is u f [] (g ∷ gs) hs a b = absurd a
judged_is u f (x ∷ aims) [] hs a b = absurd a
judged_is u f (x ∷ aims) (g ∷ gs) [] a b = absurd b
judged_is u f (x ∷ aims) (g ∷ gs) (h ∷ hs) a b =
    let e : g ≡ h = a.0 ∙ ap (λ m. goal_of f x m) (met_is g.met h.met a.1 b.1) ∙ sym b.0 in
    ap (λ y. y ∷ gs) e ∙ ap (λ ys. h ∷ ys) (judged_is u f aims gs hs a.2 b.2)

goals_of_are : (steps : List Step) (u : Unit) (f : ℕ) (gs hs : List Goal) → AreGoalsOf steps u f gs → AreGoalsOf steps u f hs → gs ≡ hs
goals_of_are steps u f gs hs g h =
    let p : g.heads ≡ h.heads = one_pick (line_serials u f) g.heads h.heads g.are_heads h.are_heads in
    let q : g.branches ≡ h.branches = one_pick (line_serials u f) g.branches h.branches g.are_branches h.are_branches in
    judged_is u f (aims_of steps h.heads h.branches) gs hs
    (subst (λ bs. AreJudged u f (aims_of steps h.heads bs) gs) q (subst (λ xs. AreJudged u f (aims_of steps xs g.branches) gs) p g.judged))
    h.judged

goals_if_are : (clear : Bool) (steps : List Step) (u : Unit) (f : ℕ) (gs hs : List Goal) → AreGoalsIf clear steps u f gs → AreGoalsIf clear steps u f hs → gs ≡ hs
goals_if_are true steps u f gs hs g h = goals_of_are steps u f gs hs g h
goals_if_are false steps u f gs hs g h = g ∙ sym h

goals_from_are : (steps : List Step) (u : Unit) (f : ℕ) (ds : List Decision) (gs hs : List Goal) → AreGoalsFrom steps u f ds gs → AreGoalsFrom steps u f ds hs → gs ≡ hs
goals_from_are steps u f [] gs hs g h = g ∙ sym h
goals_from_are steps u f (d ∷ ds) gs hs g h =
    let x : g.0 ≡ h.0 = goals_if_are (is_clear d) steps u f g.0 h.0 g.3 h.3 in
    let y : g.1 ≡ h.1 = goals_from_are steps u (suc f) ds g.1 h.1 g.4 h.4 in
    g.2 ∙ ap (λ l. l ++ g.1) x ∙ ap (λ l. h.0 ++ l) y ∙ sym h.2

pub one_list_of_goals : (steps : List Step) (u : Unit) (gs hs : List Goal) → AreGoals steps u gs → AreGoals steps u hs → gs ≡ hs
one_list_of_goals steps u gs hs g h = goals_from_are steps u 0 u.decided gs hs g h

-- ---- LOOP16

abbrev pub OneList : (Unit → List Edit → Type 0) → Type 0
OneList P = (u : Unit) (es fs : List Edit) → P u es → P u fs → es ≡ fs

both_are_aligned : (f head : ℕ) (heads : List ℕ) → OneList (AlignsHeads f heads) → (u v w : Unit) (es fs ks ls : List Edit) → IsAligned f head u es v ks → IsAligned f head u fs w ls → AlignsHeads f heads v ks → AlignsHeads f heads w ls → es ≡ fs
both_are_aligned f head heads later u v w es fs ks ls k l m n =
    let e : v ≡ w = some_is v w (sym k.after ∙ l.after) in
    k.first
    ∙ ap (λ r. Edit.InsertAlign head (suc u.last) 4 ∷ r) (later w ks ls (subst (λ x. AlignsHeads f heads x ks) e m) n)
    ∙ sym l.first

heads_are_aligned_once : (f : ℕ) (heads : List ℕ) → OneList (AlignsHeads f heads)
heads_are_aligned_once f [] u es fs a b = a ∙ sym b
heads_are_aligned_once f (head ∷ heads) u es fs a b =
    ⊎_elim
    (λ k. ⊎_elim (λ l. heads_are_aligned_once f heads u es fs k.1 l.1) (λ l. absurd (cross _ k.0 l.2.unguarded)) b)
    (λ k. ⊎_elim (λ l. absurd (cross _ l.0 k.2.unguarded)) (λ l. both_are_aligned f head heads (heads_are_aligned_once f heads) u k.0 l.0 es fs k.1 l.1 k.2 l.2 k.3 l.3) b)
    a

label_is : (u : Unit) (f m n : ℕ) → IsLabelOf u f m → IsLabelOf u f n → m ≡ n
label_is u f m n a b = sym a.2 ∙ ap (λ p. p.entry.serial) (some_is a.0 b.0 (sym a.1 ∙ b.1)) ∙ b.2

with_base_is : (power f : ℕ) (P : Unit → List Edit → Type 0) → OneList P → OneList (WithBase power f P)
with_base_is power f P one u es fs a b =
    ⊎_elim
    (λ k. ⊎_elim (λ l. one u es fs k.1 l.1) (λ l. absurd (not_both k.0 l.2.lower)) b)
    (λ k. ⊎_elim (λ l. absurd (not_both l.0 k.2.lower)) (λ l. both k.0 l.0 k.1 l.1 k.2 l.2 k.3 l.3) b)
    a
  where
    not_both : {n : ℕ} → power ≤ n → n < power → ⊥
    not_both h k = omega (arith, h, k)

    both : (v w : Unit) (ks ls : List Edit) → BeginsAligned power f u es v ks → BeginsAligned power f u fs w ls → P v ks → P w ls → es ≡ fs
    both v w ks ls k l m n =
        let s : k.label ≡ l.label = label_is u f k.label l.label k.is_label l.is_label in
        let e : v ≡ w = some_is v w (sym k.after ∙ ap (λ x. edited (Edit.InsertAlign x (suc u.last) power) u) s ∙ l.after) in
        k.first
        ∙ ap (λ x. Edit.InsertAlign x (suc u.last) power ∷ ks) s
        ∙ ap (λ r. Edit.InsertAlign l.label (suc u.last) power ∷ r) (one w ks ls (subst (λ x. P x ks) e m) n)
        ∙ sym l.first

where_laid_out_is : (f : ℕ) (P : Unit → List Edit → Type 0) → OneList P → OneList (WhereLaidOut f P)
where_laid_out_is f P one u es fs a b =
    ⊎_elim
    (λ k. ⊎_elim (λ l. one u es fs k.1 l.1) (λ l. absurd (cross _ k.0 l.0)) b)
    (λ k. ⊎_elim (λ l. absurd (cross _ l.0 k.0)) (λ l. k.1 ∙ sym l.1) b)
    a

none_or_more : {A : Type 0} (x : ℕ) (xs : List ℕ) → [] ≡ x ∷ xs → A
none_or_more x xs e = cc

pub one_list_of_loops : (f : ℕ) → OneList (AlignsLoops f)
one_list_of_loops f u es fs (leaves_heads _ _ _ a) (leaves_heads _ _ _ b) = a ∙ sym b
one_list_of_loops f u es fs (leaves_heads hs is none a) (aligns_heads x xs js goes b) =
    ⊎_elim (λ e. none_or_more x xs (sym e ∙ one_pick (line_serials u f) hs (x ∷ xs) is js)) (λ e. absurd (cross _ e goes)) none
one_list_of_loops f u es fs (aligns_heads x xs js goes b) (leaves_heads hs is none a) =
    ⊎_elim (λ e. none_or_more x xs (sym e ∙ one_pick (line_serials u f) hs (x ∷ xs) is js)) (λ e. absurd (cross _ e goes)) none
one_list_of_loops f u es fs (aligns_heads x xs is _ a) (aligns_heads y ys js _ b) =
    let e : x ∷ xs ≡ y ∷ ys = one_pick (line_serials u f) (x ∷ xs) (y ∷ ys) is js in
    with_base_is 4 f (WhereLaidOut f (AlignsHeads f (y ∷ ys))) (where_laid_out_is f (AlignsHeads f (y ∷ ys)) (heads_are_aligned_once f (y ∷ ys))) u es fs
    (subst (λ hs. WithBase 4 f (WhereLaidOut f (AlignsHeads f hs)) u es) e a)
    b

-- ---- BRALIGN

offsets_are : (f last branch : ℕ) (u : Unit) (a b c d : ℕ) → HaveOffsets f last branch u a b → HaveOffsets f last branch u c d → (a ≡ c) × (b ≡ d)
offsets_are f last branch u a b c d h k =
    (one_offset (body_of u f) last a c h.last_there k.last_there, one_offset (body_of u f) branch b d h.there k.there)

moved_or_apart : (f left last branch : ℕ) (u v : Unit) (es rest : List Edit) → IsMoved f left last branch u es v rest → (left ≡ 0) ⊎ AreApart f last branch u → ⊥
moved_or_apart f left last branch u v es rest m h =
    ⊎_elim
    (λ e. omega (arith, e, m.allowed))
    (λ k. let p = offsets_are f last branch u m.from m.at k.from k.at m.offsets k.offsets in
    k.apart (ap (λ n. n / 32) (sym p.0) ∙ m.together ∙ ap (λ n. n / 32) p.1))
    h

abbrev moves : (last branch at : ℕ) → List Edit
moves last branch at = nops_before last (replicate (32 - at % 32) branch)

both_are_moved : (f left last branch : ℕ) (branches : List ℕ) → OneList (MovesBranches f (left - 1) branch branches) → (u v w : Unit) (es fs ks ls : List Edit) → IsMoved f left last branch u es v ks → IsMoved f left last branch u fs w ls → MovesBranches f (left - 1) branch branches v ks → MovesBranches f (left - 1) branch branches w ls → es ≡ fs
both_are_moved f left last branch branches later u v w es fs ks ls k l m n =
    let p : k.at ≡ l.at = (offsets_are f last branch u k.from k.at l.from l.at k.offsets l.offsets).1 in
    let e : v ≡ w = some_is v w (sym k.after ∙ ap (λ x. replay (moves u.last branch x) u) p ∙ l.after) in
    k.first
    ∙ ap (λ x. moves u.last branch x ++ ks) p
    ∙ ap (λ r. moves u.last branch l.at ++ r) (later w ks ls (subst (λ x. MovesBranches f (left - 1) branch branches x ks) e m) n)
    ∙ sym l.first

branches_are_moved_once : (f left last : ℕ) (branches : List ℕ) → OneList (MovesBranches f left last branches)
branches_are_moved_once f left last [] u es fs a b = a ∙ sym b
branches_are_moved_once f left last (branch ∷ branches) u es fs a b =
    ⊎_elim
    (λ k. ⊎_elim (λ l. both_are_moved f left last branch branches (branches_are_moved_once f (left - 1) branch branches) u k.0 l.0 es fs k.1 l.1 k.2 l.2 k.3 l.3) (λ l. absurd (moved_or_apart f left last branch u k.0 es k.1 k.2 l.0)) b)
    (λ k. ⊎_elim (λ l. absurd (moved_or_apart f left last branch u l.0 fs l.1 l.2 k.0)) (λ l. branches_are_moved_once f left branch branches u es fs k.1 l.1) b)
    a

abbrev MovesList : (f max : ℕ) → List ℕ → Unit → List Edit → Type 0
MovesList f max [] = λ u es. ⊥
MovesList f max (b ∷ bs) = WhereLaidOut f (MovesBranches f max b bs)

too_few : {A : Type 0} (x y : ℕ) (xs zs : List ℕ) → zs ≡ x ∷ y ∷ xs → length zs < 2 → A
too_few x y xs zs e h = absurd (few (length xs) (subst (λ l. length l < 2) e h))
  where
    few : (n : ℕ) → suc (suc n) < 2 → ⊥
    few n k = omega arith

pub one_list_of_branches : (max f : ℕ) → OneList (AlignsBranches max f)
one_list_of_branches max f u es fs (leaves_branches _ _ _ a) (leaves_branches _ _ _ b) = a ∙ sym b
one_list_of_branches max f u es fs (leaves_branches bs is few a) (aligns_branches x y xs js goes b) =
    ⊎_elim (λ k. too_few x y xs bs (one_pick (line_serials u f) bs (x ∷ y ∷ xs) is js) k) (λ e. absurd (cross _ e goes)) few
one_list_of_branches max f u es fs (aligns_branches x y xs js goes b) (leaves_branches bs is few a) =
    ⊎_elim (λ k. too_few x y xs bs (one_pick (line_serials u f) bs (x ∷ y ∷ xs) is js) k) (λ e. absurd (cross _ e goes)) few
one_list_of_branches max f u es fs (aligns_branches x y xs is _ a) (aligns_branches z w zs js _ b) =
    let e : x ∷ y ∷ xs ≡ z ∷ w ∷ zs = one_pick (line_serials u f) (x ∷ y ∷ xs) (z ∷ w ∷ zs) is js in
    with_base_is 5 f (WhereLaidOut f (MovesBranches f max z (w ∷ zs))) (where_laid_out_is f (MovesBranches f max z (w ∷ zs)) (branches_are_moved_once f max z (w ∷ zs))) u es fs
    (subst (λ bs. WithBase 5 f (MovesList f max bs) u es) e a)
    b
