use Rattle.std.proofs.Common.{ap, sym, subst, ◌∙◌}
use Rattle.att_lexer.specs.Pieces.{pieces, spans_of}
use Rattle.mao_core.specs.declared.preparing.Prepared.{Prepared}
use Rattle.mao_core.specs.Decided.{IsUnitOf}
use Rattle.mao_core.specs.Notes.{lines_from, notes_text}
use Rattle.mao_core.proofs.KeptLaws.{spans_lie}
use Rattle.mao_core.proofs.JournalLaws.{of_functions, of_profile}
use Rattle.mao_core.proofs.DoneLaws.{prepared}
use Rattle.mao_core.proofs.preparing.prepare_text.Goals as goal

pub lines_of_pieces-requires-clause-spans : goal.lines_of_pieces-requires-clause-spans
lines_of_pieces-requires-clause-spans g c =
    spans_lie c.deref.result.now c.as_slice.result.now (c.as_slice.ensures ∙ c.requires.cut ∙ ap (λ t. spans_of 0 (pieces t)) (sym c.deref.ensures.value))

pub notes_of_unit-requires-clause-functions : goal.notes_of_unit-requires-clause-functions
notes_of_unit-requires-clause-functions g c = of_functions _ _ _ _ _ _ c.in_ok-run_steps.ensures.run

pub notes_of_unit-requires-clause-profile : goal.notes_of_unit-requires-clause-profile
notes_of_unit-requires-clause-profile g c = of_profile _ _ _ _ _ _ c.in_ok-run_steps.ensures.run

pub returns-clause-prepared : goal.returns-clause-prepared
returns-clause-prepared g c =
    let p : Prepared = record { text = c.args.text; unit = c.run_steps.new.unit; journal = c.run_steps.new.journal; notes = c.in_ok-notes.notes } in
    prepared p c.in_ok-unit.unit c.in_ok-lines.lines.items c.as_slice-2.result.now c.args.asked.now.steps c.args.asked.now.journal _ _ c.as_slice-2.ensures
    (subst (λ t. IsUnitOf t c.in_ok-unit.unit) c.deref-2.ensures.value c.in_ok-unit.ensures)
    c.in_ok-run_steps.ensures.run
    (c.in_ok-lines.ensures ∙ ap (λ t. lines_from 1 (pieces t)) c.deref.ensures.value)
    (c.in_ok-notes.ensures
    ∙ ap (λ l. notes_text l p.unit.file p.unit.decided c.args.asked.now.steps c.args.asked.now.journal p.unit p.journal) c.deref-3.ensures.value)
