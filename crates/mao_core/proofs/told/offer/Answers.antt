use Rattle.mao_core.proofs.ToldLaws.{offered}
use Rattle.mao_core.proofs.told.offer.Goals as goal

pub returns : goal.returns
returns g c =
    let sink = g.N.Sink in
    offered (sink.taken c.args.notes.now) (sink.taken c.put_all.new.sink) (sink.faults c.args.notes.now) (sink.faults c.put_all.new.sink) c.args.line.now c.put_all.result c.put_all.ensures.all c.put_all.ensures.part c.put_all.ensures.cause
