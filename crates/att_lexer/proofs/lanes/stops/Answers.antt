use Rattle.std.proofs.Common.{arith}
use Rattle.att_lexer.specs.Bytes.{is_stop, is_freeze_byte}
use Rattle.att_lexer.proofs.Vectors.{one, either, masked}
use Rattle.att_lexer.proofs.lanes.stops.Goals as goal

pub returns : goal.returns
unfolding is_stop is_freeze_byte
returns c =
    let v = c.args.v in
    let long = c.fits-v.0 in
    masked is_stop v _ (omega arith) (
    either _ _ v (either _ _ v (either _ _ v (either _ _ v (either _ _ v (one 10 16 v long) (one 58 16 v long)) (one 59 16 v long)) (one 34 16 v long)) (one 35 16 v long))
    (either _ _ v (either _ _ v (either _ _ v (one 39 16 v long) (one 47 16 v long)) (one 96 16 v long)) (one 92 16 v long))
    )
