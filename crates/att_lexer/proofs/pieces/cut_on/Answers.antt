use Rattle.std.proofs.Common.{sym, ◌∙◌, arith}
use Rattle.att_lexer.specs.Walk.{past}
use Rattle.att_lexer.proofs.Cutting.{front_done}
use Rattle.att_lexer.proofs.Walk.{front_to, thaw_to, front_step, thaw_one, thaw_all, front_end}
use Rattle.att_lexer.proofs.pieces.cut_on.Goals as goal

pub loop-at-init : goal.loop-at-init
loop-at-init c = let text = c.args.text.now in let to = c.passed-at.ensures.value in record {
  some = omega arith;
  within = omega arith;
  front = front_to text c.args.from c.passed-at.result c.args.place to c.requires.front;
  thawed = thaw_to text c.args.from c.passed-at.result c.args.place c.args.found to c.requires.thawed;
}

pub loop-at-preserved : goal.loop-at-preserved
loop-at-preserved c =
    let text = c.args.text.now in
    let at = c.loop-at.at in
    let place = c.loop-at.place in
    let next = c.after-place.result in
    let to = c.passed-at-in-loop-at.ensures.value in
    record {
      some = omega arith;
      within = omega arith;
      front = front_step text at c.passed-at-in-loop-at.result place next (omega arith) c.loop-at.invariant.front (sym c.ends_at-ended.ensures ∙ c.if-ended.false) c.after-place.ensures to;
      thawed = thaw_to text _ c.passed-at-in-loop-at.result next c.found_at-found.result to
          (thaw_one text at place next c.loop-at.found c.found_at-found.result (omega arith) c.loop-at.invariant.thawed c.after-place.ensures c.found_at-found.ensures);
    }

pub returns-then-ended-clause-first : goal.returns-then-ended-clause-first
returns-then-ended-clause-first c =
    front_done c.args.text.now c.loop-at.at (past c.loop-at.place) (omega arith) c.loop-at.invariant.front (sym c.ends_at-ended.ensures ∙ c.if-ended.true)

pub returns-then-ended-clause-freeze : goal.returns-then-ended-clause-freeze
returns-then-ended-clause-freeze c =
    c.found_in_all.ensures
    ∙ thaw_all c.args.text.now _ c.after-place.result c.found_at-found.result
    (thaw_one c.args.text.now c.loop-at.at c.loop-at.place c.after-place.result c.loop-at.found c.found_at-found.result (omega arith) c.loop-at.invariant.thawed c.after-place.ensures c.found_at-found.ensures)

pub returns-clause-first : goal.returns-clause-first
returns-clause-first c = front_end c.args.text.now c.loop-at.at (past c.loop-at.place) (omega arith) (omega arith) c.loop-at.invariant.front

pub returns-clause-freeze : goal.returns-clause-freeze
returns-clause-freeze c = c.found_in_all-2.ensures ∙ thaw_all c.args.text.now c.loop-at.at c.loop-at.place c.loop-at.found c.loop-at.invariant.thawed
