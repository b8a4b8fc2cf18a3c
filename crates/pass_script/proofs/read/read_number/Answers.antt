use Rattle.pass_script.specs.Grammar.{is_digit}
use Rattle.pass_script.proofs.Bytes.{nothing_taken, something_taken}
use Rattle.pass_script.proofs.InBrackets.{AreGood, number_is_missing, number_is_out, number_is_read, number_is_open, shorter}
use Rattle.pass_script.proofs.read.read_number.Goals as goal

pub returns-then-is_empty-clause-err : goal.returns-then-is_empty-clause-err
returns-then-is_empty-clause-err c =
    number_is_missing c.args.at.now c.in-Some.at c.args.option c.place-place.result c.in-Some.ensures c.place-place.ensures
    (nothing_taken is_digit c.in-Some.at.bytes _ _ c.digits-at.ensures.digits c.is_empty.ensures c.if-is_empty.true)

pub returns-in_default-number_for-clause-err : goal.returns-in_default-number_for-clause-err
returns-in_default-number_for-clause-err c =
    number_is_out c.args.at.now c.in-Some.at c.args.option c.place-place.result c.digits-at.result.0.now c.in-Some.ensures c.place-place.ensures
    (something_taken is_digit c.in-Some.at.bytes _ _ c.digits-at.ensures.digits c.is_empty.ensures c.if-is_empty.false)
    c.digits-at.ensures.digits c.in_default-number_for.ensures.good

pub returns-in-Some-expect-clause-ok : goal.returns-in-Some-expect-clause-ok
returns-in-Some-expect-clause-ok c =
    let some = something_taken is_digit c.in-Some.at.bytes _ _ c.digits-at.ensures.digits c.is_empty.ensures c.if-is_empty.false in
    let good : AreGood c.args.at.now c.in-Some.at c.digits-at.result.1 c.args.option c.digits-at.result.0.now = record {
      there = c.in-Some.ensures;
      some = some;
      taken = c.digits-at.ensures.digits;
      rest = c.digits-at.ensures.rest;
      good = c.in-Some-number_for.ensures.good;
    } in
    number_is_read _ _ _ c.in-Some-expect.at _ _ c.in-Some-number_for.number good c.in-Some-number_for.ensures.value c.in-Some-expect.ensures

pub returns-in-Some-expect-clause-shorter : goal.returns-in-Some-expect-clause-shorter
returns-in-Some-expect-clause-shorter c = shorter c.args.at.now c.in-Some.at c.digits-at.result.1 c.in-Some-expect.at c.in-Some.ensures c.digits-at.ensures.rest c.in-Some-expect.ensures

pub returns-in-None-clause-err : goal.returns-in-None-clause-err
returns-in-None-clause-err c =
    let some = something_taken is_digit c.in-Some.at.bytes _ _ c.digits-at.ensures.digits c.is_empty.ensures c.if-is_empty.false in
    let good : AreGood c.args.at.now c.in-Some.at c.digits-at.result.1 c.args.option c.digits-at.result.0.now = record {
      there = c.in-Some.ensures;
      some = some;
      taken = c.digits-at.ensures.digits;
      rest = c.digits-at.ensures.rest;
      good = c.in-Some-number_for.ensures.good;
    } in
    number_is_open _ _ _ _ _ c.place-in-None.result good c.place-in-None.ensures c.in-None.ensures
