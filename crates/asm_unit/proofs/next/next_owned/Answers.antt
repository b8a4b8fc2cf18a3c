use Rattle.std.proofs.Common.{◌∙◌, sym, ap, refl}
use Rattle.std.proofs.lemmas.Bool.{eq-eqb, ne_eqb}
use Rattle.asm_unit.specs.OwnerWalk.{next_where}
use Rattle.asm_unit.proofs.NextLaws.{next_step, next_nothing, walk_on, walk_stops}
use Rattle.asm_unit.proofs.next.next_owned.Goals as goal

pub loop-at-init : goal.loop-at-init
loop-at-init c = λ test h. refl

pub loop-at-smaller : goal.loop-at-smaller
loop-at-smaller c = (next_step c.args.held.now.held c.loop-at.at c.in-Some.next c.requires (sym c.next.ensures ∙ c.in-Some.is)).less

pub loop-at-preserved : goal.loop-at-preserved
loop-at-preserved c = λ test h.
    c.loop-at.invariant test h ∙ walk_on test c.args.held.now.held c.args.owners.now c.args.number c.loop-at.at c.in-Some.next c.owner_of.result h (next_step c.args.held.now.held c.loop-at.at c.in-Some.next c.requires (sym c.next.ensures ∙ c.in-Some.is)) c.owner_of.ensures (ne_eqb _ _ c.if-owner_of-number.false)

pub returns-in_default : goal.returns-in_default
returns-in_default c = λ test h e. sym (c.loop-at.invariant test h ∙ next_nothing test c.args.held.now.held c.loop-at.at (sym c.next.ensures ∙ c.in_default.is))

pub returns-then-owner_of-number : goal.returns-then-owner_of-number
returns-then-owner_of-number c = λ test h e.
    sym (c.loop-at.invariant test h ∙ walk_stops test c.args.held.now.held c.args.owners.now c.args.number c.loop-at.at c.in-Some.next c.owner_of.result h (next_step c.args.held.now.held c.loop-at.at c.in-Some.next c.requires (sym c.next.ensures ∙ c.in-Some.is)) c.owner_of.ensures (eq-eqb _ _ c.if-owner_of-number.true))

pub returns : goal.returns
returns c = λ test h e. sym (c.loop-at.invariant test h ∙ ap (next_where test c.args.held.now.held) c.loop-at-test.false ∙ e)
