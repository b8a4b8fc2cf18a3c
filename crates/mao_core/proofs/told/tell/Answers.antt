use Rattle.std.proofs.Common.{subst}
use Rattle.mao_core.specs.Told.{IsOffered}
use Rattle.mao_core.proofs.told.tell.Goals as goal

pub returns : goal.returns
returns g c =
    let sink = g.N.Sink in
    subst (IsOffered (sink.taken c.args.notes.now) (sink.taken c.offer.new.notes) (sink.faults c.args.notes.now) (sink.faults c.offer.new.notes)) c.status_line.ensures c.offer.ensures
