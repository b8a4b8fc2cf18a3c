use Rattle.std.proofs.Common.{◌≡◌, ◌∙◌, ◌<◌, ◌≤◌, ℕ, zero, suc, inl, inr, ap, sym, arith, true, cond, slice_set, slice_index_or, nat_eq, length}
use Rattle.asm_unit.specs.declared.decide.DecidedFunction.{DecidedFunction}
use Rattle.asm_unit.specs.UnitFields.{power_behind}
use Rattle.asm_unit.proofs.InsertLaws.{leads_none, leads_left, leads_set, same_index}
use Rattle.asm_unit.proofs.edits.lead_on.Goals as goal

small : (n : ℕ) → (1 ≤ n → ⊥) → n < 1
small zero h = omega arith
small (suc n) h = absurd (h (omega arith))

pub returns-in_default : goal.returns-in_default
returns-in_default c = sym (leads_none 0 c.args.owner c.args.before c.args.power c.args.functions.now.items (inl (small c.args.owner c.in_default.ensures)))

pub returns-then-place-len : goal.returns-then-place-len
returns-then-place-len c =
    sym (leads_none 0 c.args.owner c.args.before c.args.power c.args.functions.now.items
    (inr (omega (arith, c.if-place-len.true, c.len.ensures, c.args.functions.now.ok.0, c.in-Some.ensures.0, c.in-Some.ensures.1))))

abbrev changed : DecidedFunction → ℕ → DecidedFunction
changed d base = record d { bounds = record d.bounds { base = base } }

pub returns-then-is_label : goal.returns-then-is_label
returns-then-is_label c =
    let fs = c.args.functions.now.items in
    let i = c.in-Some.place in
    let lt : i < length fs = omega (arith, c.if-place-len.false, c.len.ensures, c.args.functions.now.ok.0) in
    let d = c.index.result.now in
    let x = slice_index_or fs i d in
    let p = c.power_behind-base.result in
    let first : c.index_mut.result.now ≡ x = c.index_mut.ensures.value ∙ same_index fs i c.index_mut.result.now d lt in
    let then : c.index-then-is_label.result.now ≡ x = c.index-then-is_label.ensures ∙ same_index fs i c.index-then-is_label.result.now d lt in
    let test : nat_eq (suc x.bounds.label) c.args.before ≡ true = ap (λ y. nat_eq (suc y.bounds.label) c.args.before) (sym c.index.ensures) ∙ sym c.is_label.ensures ∙ c.if-is_label.true in
    ap (λ y. slice_set fs i (changed y p)) first
    ∙ ap (λ y. slice_set fs i (changed x y)) (c.power_behind-base.ensures ∙ ap (λ y. power_behind y.bounds.base c.args.power) then)
    ∙ ap (λ t. slice_set fs i (cond t (changed x (power_behind x.bounds.base c.args.power)) x)) (sym test)
    ∙ sym (leads_set 0 i c.args.owner c.args.before c.args.power fs d lt (omega (arith, c.in-Some.ensures.0, c.in-Some.ensures.1)))

pub returns-else-is_label : goal.returns-else-is_label
returns-else-is_label c =
    let fs = c.args.functions.now.items in
    let i = c.in-Some.place in
    let lt : i < length fs = omega (arith, c.if-place-len.false, c.len.ensures, c.args.functions.now.ok.0) in
    let d = c.index.result.now in
    sym (leads_left 0 i c.args.owner c.args.before c.args.power fs d lt (omega (arith, c.in-Some.ensures.0, c.in-Some.ensures.1))
    (ap (λ y. nat_eq (suc y.bounds.label) c.args.before) (sym c.index.ensures) ∙ sym c.is_label.ensures ∙ c.if-is_label.false))
