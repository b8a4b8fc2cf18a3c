use Rattle.std.proofs.Common.{sym, ap, ◌∙◌, arith}
use lib.Count.{count_trailing_zeros}
use Rattle.att_lexer.specs.Bytes.{is_one_of, is_none_of}
use Rattle.att_lexer.proofs.Vectors.{run_bound, run_through, run_stops}
use Rattle.att_lexer.proofs.lanes.hit_from.Goals as goal

pub returns-then-found-ne0-clause-value : goal.returns-then-found-ne0-clause-value
returns-then-found-ne0-clause-value c =
    let found = c.hits-found in
    let run = run_stops (is_one_of c.args.a c.args.b c.args.c) c.args.text.now c.loop-i.i 16 (omega arith) (omega arith) (omega (arith, found.ensures)) ∙ ap (count_trailing_zeros 64) (sym found.ensures) in
    omega (arith, run, c.loop-i.invariant.same)

pub returns-then-found-ne0-clause-bound : goal.returns-then-found-ne0-clause-bound
returns-then-found-ne0-clause-bound c =
    let found = c.hits-found in
    let run = run_stops (is_one_of c.args.a c.args.b c.args.c) c.args.text.now c.loop-i.i 16 (omega arith) (omega arith) (omega (arith, found.ensures)) ∙ ap (count_trailing_zeros 64) (sym found.ensures) in
    omega (arith, run, run_bound (is_none_of c.args.a c.args.b c.args.c) c.args.text.now c.loop-i.i c.loop-i.invariant.within)

pub loop-i-preserved : goal.loop-i-preserved
loop-i-preserved c =
    let run = run_through (is_one_of c.args.a c.args.b c.args.c) c.args.text.now c.loop-i.i 16 (omega arith) (omega (arith, c.hits-found.ensures)) in
    record { same = omega (arith, run, c.loop-i.invariant.same); within = omega arith }

pub returns-clause-bound : goal.returns-clause-bound
returns-clause-bound c = omega (arith, run_bound (is_none_of c.args.a c.args.b c.args.c) c.args.text.now c.loop-i.i c.loop-i.invariant.within)
