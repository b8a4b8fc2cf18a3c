use Rattle.std.proofs.lemmas.Result.{err_from_is_err_and}
use Rattle.asm_writer.specs.Runs.{waits}
use Rattle.asm_writer.proofs.Puts.{put_whole, waiting_last}
use Rattle.asm_writer.proofs.unit.put_rest.Goals as goal

pub returns-in_err-put_gathered-clause-part : goal.returns-in_err-put_gathered-clause-part
returns-in_err-put_gathered-clause-part g c =
    let sink = g.K.Sink in
    let all = c.in_ok-gather.ensures.all in
    let p = err_from_is_err_and c.from_residual-in_err-put_gathered.result c.from_residual-in_err-put_gathered.ensures.1 in
    rw p.1 (waiting_last (sink.taken c.args.sink.now) (sink.taken c.gather.new.sink) (sink.taken c.put_gathered.new.sink) all.0 c.gather.new.gathered.items (waits c.args.gathered.now.items c.args.text.now c.args.run)
    all.1 all.2 c.in_err-put_gathered.ensures.part)

pub returns-clause-all : goal.returns-clause-all
returns-clause-all g c =
    let sink = g.K.Sink in
    let all = c.in_ok-gather.ensures.all in
    put_whole (sink.taken c.args.sink.now) (sink.taken c.gather.new.sink) (sink.taken c.put_gathered.new.sink) all.0 c.gather.new.gathered.items (waits c.args.gathered.now.items c.args.text.now c.args.run)
    all.1 all.2 c.in_ok-put_gathered.ensures.all
