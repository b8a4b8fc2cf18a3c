use Rattle.std.proofs.Common.{ap, sym, ◌∙◌, arith, length}
use Rattle.std.proofs.lemmas.Result.{err_from_is_err_and}
use Rattle.pass_script.specs.Grammar.{is_name_byte}
use Rattle.pass_script.specs.walks.Given.{gives}
use Rattle.pass_script.proofs.Bytes.{nothing_taken}
use Rattle.pass_script.proofs.InOptions.{IsNew, is_named, not_longer, option_is_missing, option_is_foreign, option_is_twice, number_fails, more_options, options_end, in_range}
use Rattle.pass_script.proofs.read.read_options.Goals as goal

pub returns-then-is_empty-clause-err : goal.returns-then-is_empty-clause-err
returns-then-is_empty-clause-err c =
    option_is_missing c.args.at c.loop-name.at c.args.kind c.loop-name.opts (gives c.loop-name.given) c.place-place.result c.loop-name.invariant.within c.place-place.ensures
    (nothing_taken is_name_byte c.loop-name.at.bytes _ _ c.name-behind.ensures.name c.is_empty.ensures c.if-is_empty.true)

pub returns-in_default-clause-err : goal.returns-in_default-clause-err
returns-in_default-clause-err c =
    let named = is_named c.loop-name.at c.name-behind.result.1 c.name-behind.result.0.now _ c.name-behind.ensures.name c.name-behind.ensures.rest c.is_empty.ensures c.if-is_empty.false in
    option_is_foreign c.args.at c.loop-name.at _ c.args.kind c.loop-name.opts (gives c.loop-name.given) _ c.place-place.result c.loop-name.invariant.within c.place-place.ensures named
    (sym c.of_name.ensures ∙ c.in_default.is)

pub returns-then-has-clause-err : goal.returns-then-has-clause-err
returns-then-has-clause-err c =
    let named = is_named c.loop-name.at c.name-behind.result.1 c.name-behind.result.0.now _ c.name-behind.ensures.name c.name-behind.ensures.rest c.is_empty.ensures c.if-is_empty.false in
    option_is_twice c.args.at c.loop-name.at _ c.args.kind c.loop-name.opts (gives c.loop-name.given) _ c.place-place.result c.in-Some.option c.loop-name.invariant.within c.place-place.ensures named
    (sym c.of_name.ensures ∙ c.in-Some.is) (sym c.has.ensures ∙ c.if-has.true)

pub returns-in_err-number-clause-err : goal.returns-in_err-number-clause-err
returns-in_err-number-clause-err c =
    let named = is_named c.loop-name.at c.name-behind.result.1 c.name-behind.result.0.now _ c.name-behind.ensures.name c.name-behind.ensures.rest c.is_empty.ensures c.if-is_empty.false in
    let new : IsNew c.args.at c.loop-name.at c.name-behind.result.1 c.args.kind c.loop-name.opts (gives c.loop-name.given) c.name-behind.result.0.now c.in-Some.option =
    record { within = c.loop-name.invariant.within; named = named; known = sym c.of_name.ensures ∙ c.in-Some.is; fresh = sym c.has.ensures ∙ c.if-has.false } in
    let p = err_from_is_err_and c.from_residual.result c.from_residual.ensures.1 in
    rw (p.1, p.2) (number_fails _ _ _ _ _ (gives c.loop-name.given) _ _ _ new c.in_err-number.ensures.err)

pub loop-name-preserved : goal.loop-name-preserved
loop-name-preserved c =
    let named = is_named c.loop-name.at c.name-behind.result.1 c.name-behind.result.0.now _ c.name-behind.ensures.name c.name-behind.ensures.rest c.is_empty.ensures c.if-is_empty.false in
    let new : IsNew c.args.at c.loop-name.at c.name-behind.result.1 c.args.kind c.loop-name.opts (gives c.loop-name.given) c.name-behind.result.0.now c.in-Some.option =
    record { within = c.loop-name.invariant.within; named = named; known = sym c.of_name.ensures ∙ c.in-Some.is; fresh = sym c.has.ensures ∙ c.if-has.false } in
    let less = not_longer c.loop-name.at c.name-behind.result.1 c.name-behind.result.0.now named in
    let comma = ap length c.in-Some-expect.ensures.0 in
    record {
      within = rw c.with-opts.ensures (more_options _ _ _ c.in_ok-number.behind c.in-Some-expect.next _ _ (gives c.loop-name.given) (gives c.with-given.result) _ _ c.in_ok-number.number
          new c.in_ok-number.ensures.ok c.in-Some-expect.ensures c.with-given.ensures);
      in_range = rw c.with-opts.ensures (in_range c.in-Some.option c.in_ok-number.number c.loop-name.opts c.in_ok-number.ensures.in_range c.loop-name.invariant.in_range);
      shorter = omega (arith, less, comma, c.in_ok-number.ensures.shorter, c.loop-name.invariant.shorter);
    }

pub returns-in-None-clause-ok : goal.returns-in-None-clause-ok
returns-in-None-clause-ok c =
    let named = is_named c.loop-name.at c.name-behind.result.1 c.name-behind.result.0.now _ c.name-behind.ensures.name c.name-behind.ensures.rest c.is_empty.ensures c.if-is_empty.false in
    let new : IsNew c.args.at c.loop-name.at c.name-behind.result.1 c.args.kind c.loop-name.opts (gives c.loop-name.given) c.name-behind.result.0.now c.in-Some.option =
    record { within = c.loop-name.invariant.within; named = named; known = sym c.of_name.ensures ∙ c.in-Some.is; fresh = sym c.has.ensures ∙ c.if-has.false } in
    rw c.with-opts.ensures (options_end _ _ _ c.in_ok-number.behind _ _ (gives c.loop-name.given) _ _ c.in_ok-number.number new c.in_ok-number.ensures.ok c.in-None.ensures)
