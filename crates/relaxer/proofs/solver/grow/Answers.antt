use Rattle.std.proofs.Common.{◌≡◌, ◌<◌, ◌++◌, ◌∷◌, [], length, take, get_or, arith, ap, ◌∙◌, sym, subst}
use Rattle.std.specs.Prelude.{Some, slice_get, slice_set}
use Rattle.std.proofs.lemmas.List.{take_more, take_all}
use Rattle.std.proofs.lemmas.List.Elements.{All-get_or}
use Rattle.std.proofs.lemmas.Option.{slice_get-get_or}
use Rattle.relaxer.specs.declared.item.Item.TheVariants.{Fixed}
use Rattle.relaxer.proofs.Changes.{length-sizes_of}
use Rattle.relaxer.proofs.Grown.{Grew, grew_over_by, grew_on_by, grew_all, grew_next}
use Rattle.relaxer.proofs.solver.grow.Goals as goal
use Rattle.relaxer.proofs.solver.grow.Goals.{in-Some+in_ok-push, in_default}

pub near_form-requires : goal.near_form-requires
near_form-requires c =
    let there = All-get_or (λ i. i < length c.args.items.now) c.args.suspects.now c.loop-i.i-index 0 (omega arith) c.requires.there in
    omega (arith, there, ap length c.requires.sizes, length-sizes_of c.args.items.now)

pub loop-i-preserved : goal.loop-i-preserved
loop-i-preserved c =
    let n = c.loop-i.i-index in
    let suspects = c.args.suspects.now in
    let i = get_or suspects n 0 in
    let longer = take_more suspects n 0 (omega arith) in
    let there : i < length c.args.items.now = All-get_or (λ i. i < length c.args.items.now) suspects n 0 (omega arith) c.requires.there in
    let item = get_or c.loop-i.items i (Fixed 0) in
    let long : length c.loop-i.items ≡ length c.args.items.now = c.loop-i.invariant.long in
    let is : slice_get c.loop-i.items i ≡ Some item = slice_get-get_or c.loop-i.items i (Fixed 0) (omega (arith, there, long)) in
    elim c.match-near_form.branch [
      | in-Some+in_ok-push w ↦
          (let grew =
          grew_on_by c.args.items.now (take n suspects) c.loop-i.items c.loop-i.grown.items c.args.offsets.now i item w.in-Some.near c.near_form.result
          c.loop-i.invariant c.requires.sizes (omega (arith, there, long)) is c.near_form.ensures w.in-Some.is in
          subst (λ xs. Grew c.args.items.now xs c.match-near_form.items c.match-near_form.grown.items) (sym longer)
          (subst (λ xs. Grew c.args.items.now (take n suspects ++ i ∷ []) xs c.match-near_form.grown.items) (sym w.items-is)
          (subst (λ xs. Grew c.args.items.now (take n suspects ++ i ∷ []) (slice_set c.loop-i.items i w.in-Some.near) xs)
          (sym (ap (λ v. v.items) w.grown-is ∙ w.in_ok-push.ensures.items)) grew)))
      | in_default w ↦
          (let grew =
          grew_over_by c.args.items.now (take n suspects) c.loop-i.items c.loop-i.grown.items c.args.offsets.now i item c.near_form.result
          c.loop-i.invariant c.requires.sizes is c.near_form.ensures w.in_default.is in
          subst (λ xs. Grew c.args.items.now xs c.match-near_form.items c.match-near_form.grown.items) (sym longer)
          (subst (λ xs. Grew c.args.items.now (take n suspects ++ i ∷ []) xs c.match-near_form.grown.items) (sym w.items-is)
          (subst (λ xs. Grew c.args.items.now (take n suspects ++ i ∷ []) c.loop-i.items xs) (sym (ap (λ v. v.items) w.grown-is)) grew)))
    ]

pub returns-clause-next : goal.returns-clause-next
returns-clause-next c =
    let every = take_all c.loop-i.i-index c.args.suspects.now c.loop-i-test.false in
    grew_next c.args.items.now c.args.suspects.now c.loop-i.items c.loop-i.grown.items c.requires.all
    (subst (λ xs. Grew c.args.items.now xs c.loop-i.items c.loop-i.grown.items) every c.loop-i.invariant)

pub returns-clause-grown : goal.returns-clause-grown
returns-clause-grown c =
    let every = take_all c.loop-i.i-index c.args.suspects.now c.loop-i-test.false in
    grew_all c.args.items.now c.args.suspects.now c.loop-i.items c.loop-i.grown.items c.requires.all
    (subst (λ xs. Grew c.args.items.now xs c.loop-i.items c.loop-i.grown.items) every c.loop-i.invariant)
