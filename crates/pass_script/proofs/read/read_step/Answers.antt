use Rattle.std.proofs.Common.{ap, sym, ◌∙◌, arith, length}
use Rattle.std.proofs.lemmas.Result.{err_from_is_err_and}
use Rattle.pass_script.specs.Grammar.{is_name_byte}
use Rattle.pass_script.proofs.Bytes.{nothing_taken}
use Rattle.pass_script.proofs.InOptions.{is_named, not_longer}
use Rattle.pass_script.proofs.InSteps.{step_is_missing, step_is_unknown, options_fail, options_are_read, step_is_bare}
use Rattle.pass_script.proofs.read.read_step.Goals as goal

pub returns-then-is_empty-clause-err : goal.returns-then-is_empty-clause-err
returns-then-is_empty-clause-err c =
    step_is_missing c.args.at.now c.place-place.result c.place-place.ensures
    (nothing_taken is_name_byte c.args.at.now.bytes _ _ c.name-at.ensures.name c.is_empty.ensures c.if-is_empty.true)

pub returns-in_default-clause-err : goal.returns-in_default-clause-err
returns-in_default-clause-err c =
    let named = is_named c.args.at.now c.name-at.result.1 c.name-at.result.0.now _ c.name-at.ensures.name c.name-at.ensures.rest c.is_empty.ensures c.if-is_empty.false in
    step_is_unknown c.args.at.now _ _ c.place-place.result c.place-place.ensures named (sym c.kind_of_name.ensures ∙ c.in_default.is)

pub returns-in_err-opts-in-Some-expect-clause-err : goal.returns-in_err-opts-in-Some-expect-clause-err
returns-in_err-opts-in-Some-expect-clause-err c =
    let named = is_named c.args.at.now c.name-at.result.1 c.name-at.result.0.now _ c.name-at.ensures.name c.name-at.ensures.rest c.is_empty.ensures c.if-is_empty.false in
    let p = err_from_is_err_and c.from_residual.result c.from_residual.ensures.1 in
    rw (p.1, p.2) (options_fail _ _ c.in-Some-expect.at _ c.in-Some.kind _ named (sym c.kind_of_name.ensures ∙ c.in-Some.is) c.in-Some-expect.ensures c.in_err-opts-in-Some-expect.ensures.err)

pub returns-in_ok-opts-in-Some-expect-clause-ok : goal.returns-in_ok-opts-in-Some-expect-clause-ok
returns-in_ok-opts-in-Some-expect-clause-ok c =
    let named = is_named c.args.at.now c.name-at.result.1 c.name-at.result.0.now _ c.name-at.ensures.name c.name-at.ensures.rest c.is_empty.ensures c.if-is_empty.false in
    options_are_read _ _ c.in-Some-expect.at c.in_ok-opts-in-Some-expect.at _ c.in-Some.kind c.in_ok-opts-in-Some-expect.opts named (sym c.kind_of_name.ensures ∙ c.in-Some.is)
    c.in-Some-expect.ensures c.in_ok-opts-in-Some-expect.ensures.ok

pub returns-in_ok-opts-in-Some-expect-clause-shorter : goal.returns-in_ok-opts-in-Some-expect-clause-shorter
returns-in_ok-opts-in-Some-expect-clause-shorter c =
    let named = is_named c.args.at.now c.name-at.result.1 c.name-at.result.0.now _ c.name-at.ensures.name c.name-at.ensures.rest c.is_empty.ensures c.if-is_empty.false in
    let less = not_longer c.args.at.now c.name-at.result.1 c.name-at.result.0.now named in
    let equals = ap length c.in-Some-expect.ensures.0 in
    omega (arith, less, equals, c.in_ok-opts-in-Some-expect.ensures.shorter)

pub returns-in-None-clause-ok : goal.returns-in-None-clause-ok
returns-in-None-clause-ok c =
    let named = is_named c.args.at.now c.name-at.result.1 c.name-at.result.0.now _ c.name-at.ensures.name c.name-at.ensures.rest c.is_empty.ensures c.if-is_empty.false in
    step_is_bare _ _ _ c.in-Some.kind c.default.result named (sym c.kind_of_name.ensures ∙ c.in-Some.is) c.in-None.ensures c.default.ensures
