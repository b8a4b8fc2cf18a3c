use Rattle.std.proofs.Common.{sym, ap, ◌∙◌, arith}
use lib.Count.{count_trailing_zeros}
use Rattle.att_lexer.specs.Bytes.{is_symbol_byte}
use Rattle.att_lexer.proofs.Vectors.{run_bound, passed_through, passed_to}
use Rattle.att_lexer.proofs.lanes.symbol_run.Goals as goal

pub returns-then-found-ne0-clause-value : goal.returns-then-found-ne0-clause-value
returns-then-found-ne0-clause-value c =
    let found = c.breaks-found in
    let run = passed_to is_symbol_byte c.args.bytes.now c.loop-i.i 16 (omega arith) (omega arith) (omega (arith, found.ensures)) ∙ ap (count_trailing_zeros 64) (sym found.ensures) in
    omega (arith, run, c.loop-i.invariant.same)

pub returns-then-found-ne0-clause-bound : goal.returns-then-found-ne0-clause-bound
returns-then-found-ne0-clause-bound c =
    let found = c.breaks-found in
    let run = passed_to is_symbol_byte c.args.bytes.now c.loop-i.i 16 (omega arith) (omega arith) (omega (arith, found.ensures)) ∙ ap (count_trailing_zeros 64) (sym found.ensures) in
    omega (arith, run, run_bound is_symbol_byte c.args.bytes.now c.loop-i.i c.loop-i.invariant.within)

pub loop-i-preserved : goal.loop-i-preserved
loop-i-preserved c =
    let run = passed_through is_symbol_byte c.args.bytes.now c.loop-i.i 16 (omega arith) (omega (arith, c.breaks-found.ensures)) in
    record { same = omega (arith, run, c.loop-i.invariant.same); within = omega arith }
