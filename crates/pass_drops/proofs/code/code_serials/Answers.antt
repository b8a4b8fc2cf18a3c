use Rattle.std.proofs.Common.{ap, arith, length, length-append, ◌∙◌, ◌∷◌, ◌++◌, []}
use Rattle.asm_unit.specs.Functions.{code_part}
use Rattle.unit_edits.specs.Bodies.{body_of}
use Rattle.pass_drops.proofs.Walked.{placed_serials, walk_begins, walk_more, walk_ends, not_longer}
use Rattle.pass_drops.proofs.code.code_serials.Goals as goal

pub loop-next-init : goal.loop-next-init
loop-next-init c =
    walk_begins c.args.unit.now c.args.f c.label-at.result c.push.new.self c.label-at.ensures (c.in_ok-push.ensures.ok ∙ ap (λ xs. xs ++ c.label-at.result ∷ []) c.new-serials.ensures)

pub loop-next-preserved : goal.loop-next-preserved
loop-next-preserved c =
    walk_more c.args.unit.now c.args.f c.first-first.ensures.unique c.loop-next.serials c.push-in-Some.new.self c.loop-next.at c.in-Some.next c.next_code.result
    c.loop-next.invariant c.next_code.ensures c.in-Some.is c.in_ok-push-2.ensures.ok

pub loop-next-smaller : goal.loop-next-smaller
loop-next-smaller c =
    let all = placed_serials (code_part (body_of c.args.unit.now c.args.f)) in
    let more = not_longer all c.push-in-Some.new.self c.in-Some.next (loop-next-preserved c) in
    let pushed = ap length c.in_ok-push-2.ensures.ok in
    let one = length-append c.loop-next.serials (c.in-Some.next ∷ []) in
    omega (arith, more, pushed, one)

pub returns-clause-serials : goal.returns-clause-serials
returns-clause-serials c =
    walk_ends c.args.unit.now c.args.f c.first-first.ensures.unique c.loop-next.serials c.loop-next.at c.next_code.result c.loop-next.invariant c.next_code.ensures c.in_default.is
