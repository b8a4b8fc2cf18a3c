use Rattle.std.proofs.Common.{◌++◌, arith, length-append}
use Rattle.mao_core.proofs.Known.{stops_later, Consumes-append}
use Rattle.mao_core.proofs.reading.read_through.Goals as goal

pub returns-in-Err-clause-fault : goal.returns-in-Err-clause-fault
returns-in-Err-clause-fault g c =
    stops_later c.in-Err.fault _ (g.S.Source.left c.loop-source.source) _ _ (g.S.Source.faults c.loop-source.source) _ c.in-Err.ensures.not_big c.loop-source.invariant.later c.in-Err.ensures.fault

pub returns-in-Err-clause-read : goal.returns-in-Err-clause-read
returns-in-Err-clause-read g c =
    let more = c.read_on.ensures.read in
    let done = c.loop-source.text.items in (
      done ++ more.0,
      Consumes-append (g.S.Source.left c.args.source.now) (g.S.Source.left c.loop-source.source) (g.S.Source.left c.read_on.new.source) done more.0 c.loop-source.invariant.read more.1,
      omega (arith, more.2, length-append done more.0),
    )
