use Rattle.std.proofs.Common.{◌≡◌, ◌-◌, Some, cond, length, sym, ap, ◌∙◌}
use Rattle.std.specs.Prelude.{option_copied, slice_get}
use Rattle.std.proofs.lemmas.Bool.{eq-eqb, ne_eqb}
use Rattle.mao_core.proofs.LineLaws.{newlines_are}
use Rattle.mao_core.proofs.lines.newlines_in.Goals as goal

pub returns-then-last-eq10-clause-value : goal.returns-then-last-eq10-clause-value
returns-then-last-eq10-clause-value c =
    let p = c.args.piece.now in
    let last : slice_get p (length p - 1) ≡ Some c.in-Some.last.now = sym c.last.ensures.value ∙ ap option_copied c.in-Some.is in
    sym (newlines_are p c.in-Some.last.now c.requires last ∙ ap (λ b. cond b 1 0) (eq-eqb c.in-Some.last.now 10 c.if-last-eq10.true))

pub returns-else-last-eq10-clause-value : goal.returns-else-last-eq10-clause-value
returns-else-last-eq10-clause-value c =
    let p = c.args.piece.now in
    let last : slice_get p (length p - 1) ≡ Some c.in-Some.last.now = sym c.last.ensures.value ∙ ap option_copied c.in-Some.is in
    sym (newlines_are p c.in-Some.last.now c.requires last ∙ ap (λ b. cond b 1 0) (ne_eqb c.in-Some.last.now 10 c.if-last-eq10.false))
