use Rattle.std.proofs.Common.{arith, ap, append-nil, length}
use Rattle.mao_gen.proofs.Steps.{function_put, none_left}
use Rattle.mao_gen.proofs.Lengths.{length_generated}
use Rattle.mao_gen.proofs.text.generate.Goals as goal

pub loop-k-preserved : goal.loop-k-preserved
loop-k-preserved c =
    function_put c.loop-k.text.items c.loop-k.k c.args.n c.loop-k.words c.loop-k-test.true c.loop-k.invariant c.next_word.ensures c.of_word.ensures c.in_ok-put_function.ensures

pub returns-clause-text : goal.returns-clause-text
returns-clause-text c =
    let nothing = none_left c.loop-k.k c.args.n c.loop-k.words (omega arith) in
    let all = append-nil c.loop-k.text.items in
    let joined = c.loop-k.invariant in
    cc

pub returns-clause-short : goal.returns-clause-short
returns-clause-short c =
    omega (arith, length_generated c.args.n c.requires, ap length (returns-clause-text c))
