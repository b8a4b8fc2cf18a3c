-- Goals of small units, met and lost.
use Rattle.std.proofs.Common.{◌≡◌, ℕ, Bool, true, false, [], ◌∷◌, Some, refl, sym, ◌∙◌, ap, subst, arith, lit≤}
use Rattle.std.specs.Prelude.{codes, ◌%◌, ◌/◌}
use Rattle.std.specs.Bool.{Decides}
use Rattle.insn_ir.specs.declared.op.Cond.{Cond}
use Rattle.relaxer.proofs.Rounds.{layout_at_once}
use Rattle.asm_unit.specs.Functions.{parts_from}
use Rattle.asm_unit.specs.Unit.{Unit}
use Rattle.asm_unit.specs.declared.cause.FreezeKind.{FreezeKind}
use Rattle.pass_script.specs.declared.kinds.PassKind.{PassKind}
use Rattle.pass_script.specs.declared.script.Step.{Step}
use Rattle.pass_script.specs.Catalogue.{defaults}
use Rattle.unit_edits.specs.Bodies.{body_of}
use Rattle.pass_rules.specs.Branches.{none, picked, left, AreHeads, AreBackBranches}
use Rattle.pass_rules.specs.Goals.{Goal, StandsAligned, StandApart, AreGoals}
use Rattle.pass_rules.specs.Layouts.{HasOffset, layout_items}
use Rattle.pass_rules.proofs.Offsets.{one_offset}
use Rattle.pass_rules.proofs.Small.{f, unit_of, ret, jmp, jcc, label, align}
use Rattle.pass_rules.proofs.RuleExamples.{name_is_no_head, place_is_no_head, label_is_no_branch, place_is_no_branch, counted, counted_code, counted_loop, counted_heads, counted_aligned, aligned_heads, two_loops, two_loops_code, first_loop, second_loop, two_back_branches, two_loops_aligned, two_loops_apart, first_at_3, second_at_8, second_then_at_32}

abbrev step : PassKind → Step
step k = record { kind = k; opts = defaults }

abbrev goal : PassKind → (first second : ℕ) → Bool → Goal
goal k first second met = record { f = 0; kind = k; first = first; second = second; met = met }

it_is : {P : Type 0} → P → Decides true P
it_is p = ((λ e. p), (λ q. refl))

it_is_not : {P : Type 0} → (P → ⊥) → Decides false P
it_is_not n = ((λ e. cc), (λ p. absurd (n p)))

-- ---- LOOP16

counted_branches : AreBackBranches counted 0 (11 ∷ [])
unfolding parts_from
counted_branches =
    left 4 _ _ (λ h. label_is_no_branch counted_code h.0 0 _ refl h.1)
    (left 6 _ _ (λ h. place_is_no_branch counted_code h.0 1 _ refl (λ n j. j) h.1)
    (left 7 _ _ (λ h. label_is_no_branch counted_code h.0 2 _ refl h.1)
    (left 9 _ _ (λ h. place_is_no_branch counted_code h.0 3 _ refl (λ n j. j) h.1)
    (left 10 _ _ (λ h. place_is_no_branch counted_code h.0 4 _ refl (λ n j. j) h.1)
    (picked 11 _ _ (2, counted_loop)
    (left 12 _ _ (λ h. place_is_no_branch counted_code h.0 6 _ refl (λ n j. j) h.1) none))))))

aligned_branches : AreBackBranches counted_aligned 0 (11 ∷ [])
unfolding parts_from
aligned_branches =
    left 4 _ _ (λ h. label_is_no_branch counted_code h.0 0 _ refl h.1)
    (left 6 _ _ (λ h. place_is_no_branch counted_code h.0 1 _ refl (λ n j. j) h.1)
    (left 7 _ _ (λ h. label_is_no_branch counted_code h.0 2 _ refl h.1)
    (left 9 _ _ (λ h. place_is_no_branch counted_code h.0 3 _ refl (λ n j. j) h.1)
    (left 10 _ _ (λ h. place_is_no_branch counted_code h.0 4 _ refl (λ n j. j) h.1)
    (picked 11 _ _ (2, counted_loop)
    (left 12 _ _ (λ h. place_is_no_branch counted_code h.0 6 _ refl (λ n j. j) h.1) none))))))

head_at_16 : HasOffset (body_of counted_aligned 0) 7 16
unfolding parts_from
head_at_16 = record { rounds = 0; layout = layout_at_once (layout_items (body_of counted_aligned 0)) refl; at = refl }

head_at_2 : HasOffset (body_of counted 0) 7 2
unfolding parts_from
head_at_2 = record { rounds = 0; layout = layout_at_once (layout_items (body_of counted 0)) refl; at = refl }

stands_aligned : StandsAligned counted_aligned 0 7
unfolding parts_from
stands_aligned = record { laid_out = refl; base = lit≤ tt; offset = 16; there = head_at_16; aligned = refl }

stands_odd : StandsAligned counted 0 7 → ⊥
unfolding parts_from
stands_odd h =
    let e : 2 % 16 ≡ 0 = subst (λ n. n % 16 ≡ 0) (one_offset (body_of counted 0) 7 h.offset 2 h.there head_at_2) h.aligned in cc

-- met with the alignment before the head
loop_is_met : AreGoals (step PassKind.Loop16 ∷ step PassKind.NopIn ∷ []) counted_aligned (goal PassKind.Loop16 7 7 true ∷ [])
unfolding parts_from
loop_is_met =
    (goal PassKind.Loop16 7 7 true ∷ [], [], refl, record { heads = 7 ∷ []; branches = 11 ∷ []; are_heads = aligned_heads; are_branches = aligned_branches; judged = (refl, it_is stands_aligned, tt) }, refl)

-- lost where a later step took the alignment out again
loop_is_lost : AreGoals (step PassKind.Loop16 ∷ step PassKind.NopKill ∷ []) counted (goal PassKind.Loop16 7 7 false ∷ [])
unfolding parts_from
loop_is_lost =
    (goal PassKind.Loop16 7 7 false ∷ [], [], refl, record { heads = 7 ∷ []; branches = 11 ∷ []; are_heads = counted_heads; are_branches = counted_branches; judged = (refl, it_is_not stands_odd, tt) }, refl)

-- one back branch alone makes no goal of BRALIGN, and without LOOP16 in the script there is none of the head
no_goal : AreGoals (step PassKind.BrAlign ∷ []) counted []
unfolding parts_from
no_goal = ([], [], refl, record { heads = 7 ∷ []; branches = 11 ∷ []; are_heads = counted_heads; are_branches = counted_branches; judged = tt }, refl)

-- `.L1: / jne .L1 / .p2align 5 / ret`: an alignment above the base power leaves no layout, so the head at 0 is lost
lost_without_a_base : StandsAligned (unit_of (label (codes ".L1") ∷ jcc Cond.Ne (codes ".L1") ∷ align 5 ∷ ret ∷ [])) 0 6 → ⊥
unfolding parts_from
lost_without_a_base h = let e = h.laid_out in cc

-- `.L1: / jne .L1 / jmp f`: so does a jump to the function's own name
lost_by_a_jump : StandsAligned (unit_of (label (codes ".L1") ∷ jcc Cond.Ne (codes ".L1") ∷ jmp f ∷ [])) 0 6 → ⊥
unfolding parts_from
lost_by_a_jump h = let e = h.laid_out in cc

-- ---- BRALIGN

first_then_at_3 : HasOffset (body_of two_loops_apart 0) 9 3
unfolding parts_from
first_then_at_3 = record { rounds = 0; layout = layout_at_once (layout_items (body_of two_loops_apart 0)) refl; at = refl }

stand_apart : StandApart two_loops_apart 0 9 13
unfolding parts_from
stand_apart =
    record { laid_out = refl; base = lit≤ tt; apart = record { from = 3; at = 32; offsets = record { last_there = first_then_at_3; there = second_then_at_32 }; apart = λ e. let k : 0 ≡ 1 = e in cc } }

-- at 3 and 8 they share 32 bytes
stand_together : StandApart two_loops_aligned 0 9 13 → ⊥
unfolding parts_from
stand_together h =
    h.apart.apart
    (ap (λ n. n / 32) (one_offset (body_of two_loops_aligned 0) 9 h.apart.from 3 h.apart.offsets.last_there first_at_3)
    ∙ sym (ap (λ n. n / 32) (one_offset (body_of two_loops_aligned 0) 13 h.apart.at 8 h.apart.offsets.there second_at_8)))

two_heads : AreHeads two_loops 0 (6 ∷ 10 ∷ [])
unfolding parts_from
two_heads =
    left 4 _ _ (λ h. name_is_no_head two_loops_code 0 h.0 refl h.1)
    (picked 6 _ _ (3, first_loop)
    (left 8 _ _ (λ h. place_is_no_head two_loops_code 2 h.0 _ refl h.1)
    (left 9 _ _ (λ h. place_is_no_head two_loops_code 3 h.0 _ refl h.1)
    (picked 10 _ _ (6, second_loop)
    (left 12 _ _ (λ h. place_is_no_head two_loops_code 5 h.0 _ refl h.1)
    (left 13 _ _ (λ h. place_is_no_head two_loops_code 6 h.0 _ refl h.1)
    (left 14 _ _ (λ h. place_is_no_head two_loops_code 7 h.0 _ refl h.1) none)))))))

-- the base power is 4
low_base : StandApart two_loops 0 9 13 → ⊥
unfolding parts_from
low_base h = absurd (omega (arith, h.base))

first_head_at_0 : StandsAligned two_loops 0 6
unfolding parts_from
first_head_at_0 =
    record { laid_out = refl; base = lit≤ tt; offset = 0; there = record { rounds = 0; layout = layout_at_once (layout_items (body_of two_loops 0)) refl; at = refl }; aligned = refl }

second_head_at_5 : StandsAligned two_loops 0 10 → ⊥
unfolding parts_from
second_head_at_5 h =
    let e : 5 % 16 ≡ 0 = subst (λ n. n % 16 ≡ 0) (one_offset (body_of two_loops 0) 10 h.offset 5 h.there (record { rounds = 0; layout = layout_at_once (layout_items (body_of two_loops 0)) refl; at = refl })) h.aligned in cc

-- goals of both passes: heads before branches, whichever step comes first
both_kinds : AreGoals (step PassKind.BrAlign ∷ step PassKind.Loop16 ∷ []) two_loops (goal PassKind.Loop16 6 6 true ∷ goal PassKind.Loop16 10 10 false ∷ goal PassKind.BrAlign 9 13 false ∷ [])
unfolding parts_from
both_kinds =
    (goal PassKind.Loop16 6 6 true ∷ goal PassKind.Loop16 10 10 false ∷ goal PassKind.BrAlign 9 13 false ∷ [], [], refl, record { heads = 6 ∷ 10 ∷ []; branches = 9 ∷ 13 ∷ []; are_heads = two_heads; are_branches = two_back_branches; judged = (refl, it_is first_head_at_0, (refl, it_is_not second_head_at_5, (refl, it_is_not low_base, tt))) }, refl)

-- a function that isn't clear has none
abbrev frozen : Unit
frozen = record two_loops { decided = record { name = codes "f"; home = false; cause = Some (record { kind = FreezeKind.UnknownLine; serial = 8 }); tables = [] } ∷ [] }

none_of_frozen : AreGoals (step PassKind.BrAlign ∷ step PassKind.Loop16 ∷ []) frozen []
none_of_frozen = ([], [], refl, refl, refl)
