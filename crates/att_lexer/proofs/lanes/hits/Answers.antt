use Rattle.std.proofs.Common.{arith}
use Rattle.att_lexer.specs.Bytes.{is_one_of}
use Rattle.att_lexer.proofs.Vectors.{one, either, masked}
use Rattle.att_lexer.proofs.lanes.hits.Goals as goal

pub returns : goal.returns
returns c =
    let v = c.args.v in
    let long = c.fits-v.0 in
    masked (is_one_of c.args.a c.args.b c.args.c) v _ (omega arith) (either _ _ v (either _ _ v (one c.args.a 16 v long) (one c.args.b 16 v long)) (one c.args.c 16 v long))
