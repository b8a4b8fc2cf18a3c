use Rattle.mao_core.proofs.ToldLaws.{told_delivered}
use Rattle.mao_core.proofs.DoneLaws.{fine_of, cut_in_notes_of, cut_short_of}
use Rattle.mao_core.proofs.top.mao.Goals as goal

pub returns-in-Ok-prepare-clause-fine : goal.returns-in-Ok-prepare-clause-fine
returns-in-Ok-prepare-clause-fine g c = λ fine.
    fine_of _ c.in-Ok.asked.steps c.in-Ok.asked.journal c.in-Ok-prepare.prepared _ _ _ _ _
    c.in-Ok.ensures.steps c.in-Ok.ensures.journal c.deliver.ensures.journal c.in-Ok-prepare.ensures.whole c.in-Ok-prepare.ensures.few c.in-Ok-prepare.ensures.prepared
    _ _ _ _ _ _ _ _ _ c.deliver.ensures.status fine

pub returns-in-Ok-prepare-clause-cut_short : goal.returns-in-Ok-prepare-clause-cut_short
returns-in-Ok-prepare-clause-cut_short g c = λ fault.
    cut_short_of _ c.in-Ok.asked.steps c.in-Ok.asked.journal c.in-Ok-prepare.prepared _ _ _ _ _
    c.in-Ok.ensures.steps c.in-Ok.ensures.journal c.deliver.ensures.journal c.in-Ok-prepare.ensures.whole c.in-Ok-prepare.ensures.few c.in-Ok-prepare.ensures.prepared
    _ _ _ _ _ _ _ _ _ c.deliver.ensures.status fault

pub returns-in-Ok-prepare-clause-cut_in_notes : goal.returns-in-Ok-prepare-clause-cut_in_notes
returns-in-Ok-prepare-clause-cut_in_notes g c = λ fault.
    cut_in_notes_of _ c.in-Ok.asked.steps c.in-Ok.asked.journal c.in-Ok-prepare.prepared _ _ _ _ _
    c.in-Ok.ensures.steps c.in-Ok.ensures.journal c.deliver.ensures.journal c.in-Ok-prepare.ensures.whole c.in-Ok-prepare.ensures.few c.in-Ok-prepare.ensures.prepared
    _ _ _ _ _ _ _ _ _ c.deliver.ensures.status fault

pub returns-in-Ok-prepare-clause-told : goal.returns-in-Ok-prepare-clause-told
returns-in-Ok-prepare-clause-told g c = λ fine noted.
    told_delivered c.deliver.result.status _ c.in-Ok-prepare.prepared
    (g.O.Sink.taken c.args.out.now) (g.O.Sink.taken c.deliver.new.out) (g.O.Sink.faults c.args.out.now) (g.O.Sink.faults c.deliver.new.out)
    (g.N.Sink.taken c.args.notes.now) (g.N.Sink.taken c.deliver.new.notes) (g.N.Sink.faults c.args.notes.now) (g.N.Sink.faults c.deliver.new.notes)
    c.deliver.ensures.status fine noted
