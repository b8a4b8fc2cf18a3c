use Rattle.std.proofs.Common.{◌≡◌, [], ◌++◌, refl, sym, ap, subst, ◌∙◌, arith, append-nil}
use Rattle.std.specs.Io.KnownBytes.{Appends}
use Rattle.std.specs.Prelude.{is_some}
use Rattle.std.proofs.lemmas.Result.{err_from_is_err_and}
use Rattle.entry_list.specs.Listed.{first_key, values_of}
use Rattle.asm_writer.specs.Unit.{entry_text, unit_text}
use Rattle.asm_writer.specs.Runs.{waits}
use Rattle.asm_writer.proofs.Puts.{Appends-append, Appends-none, none_of, put_part}
use Rattle.asm_writer.proofs.UnitLaws.{from_key, from_first, node_where, visit, node_writable, next_there, shorter, text_split, none_left, whole_passed, whole_cut}
use Rattle.asm_writer.proofs.unit.write_list.Goals as goal

pub loop-at-init : goal.loop-at-init
loop-at-init g c =
    let ps = c.args.list.now.pairs in
    let text = c.args.text.now in
    let all = ap (λ o. from_key o ps) c.first-at.ensures ∙ from_first ps in
    record {
      there = c.first-at.ensures ∙ ap first_key (sym all);
      run = (omega arith, omega arith);
      put = (
        [],
        Appends-none (g.K.Sink.taken c.args.sink.now),
        ap (λ l. waits l text (record { from = 0; to = 0 }) ++ unit_text text (values_of (from_key c.first-at.result ps))) c.new-gathered.ensures
            ∙ ap (λ qs. unit_text text (values_of qs)) all,
      );
      idle = λ none. refl;
      later = omega arith;
    }

pub index-node-requires : goal.index-node-requires
index-node-requires g c =
    ap is_some (c.nodes-nodes.ensures.nodes c.in-Some.key) ∙ node_where c.args.list.now.pairs c.loop-at.at c.in-Some.key c.in-Some.is c.loop-at.invariant.there

pub pass-requires-clause-writable : goal.pass-requires-clause-writable
pass-requires-clause-writable g c =
    node_writable c.args.text.now c.args.list.now.pairs c.in-Some.key c.index-node.result.now c.requires.writable
    (sym (c.nodes-nodes.ensures.nodes c.in-Some.key) ∙ c.index-node.ensures)

pub returns-in_err-run-clause-part : goal.returns-in_err-run-clause-part
returns-in_err-run-clause-part g c =
    let sink = g.K.Sink in
    let ps = c.args.list.now.pairs in
    let text = c.args.text.now in
    let before = c.loop-at.invariant in
    let k = c.in-Some.key in
    let n = c.index-node.result.now in
    let here = entry_text text n.value.entry.kind n.value.span in
    let rest = unit_text text (values_of (from_key n.next ps)) in
    let all = unit_text text (values_of ps) in
    let split = text_split text ps c.loop-at.at k n (visit ps k n c.nodes-nodes.ensures.distinct (sym (c.nodes-nodes.ensures.nodes k) ∙ c.index-node.ensures)) c.in-Some.is in
    let p = err_from_is_err_and c.from_residual.result c.from_residual.ensures.1 in
    rw p.1 (put_part (sink.taken c.args.sink.now) (sink.taken c.loop-at.sink) (sink.taken c.pass.new.sink) before.put.0 (waits c.loop-at.gathered.items text c.loop-at.run ++ here) rest all
    before.put.1 c.in_err-run.ensures.part (whole_cut before.put.0 (waits c.loop-at.gathered.items text c.loop-at.run) here rest (unit_text text (values_of (from_key c.loop-at.at ps))) all split before.put.2))

pub returns-in_err-run-clause-idle : goal.returns-in_err-run-clause-idle
returns-in_err-run-clause-idle g c = λ none.
    let ps = c.args.list.now.pairs in
    let text = c.args.text.now in
    let before = c.loop-at.invariant in
    let k = c.in-Some.key in
    let n = c.index-node.result.now in
    let here = entry_text text n.value.entry.kind n.value.span in
    let rest = unit_text text (values_of (from_key n.next ps)) in
    let all = unit_text text (values_of ps) in
    let split = text_split text ps c.loop-at.at k n (visit ps k n c.nodes-nodes.ensures.distinct (sym (c.nodes-nodes.ensures.nodes k) ∙ c.index-node.ensures)) c.in-Some.is in
    let waiting = waits c.loop-at.gathered.items text c.loop-at.run in
    c.pass.ensures.idle (none_of before.put.0 (waiting ++ here) rest all (whole_cut before.put.0 waiting here rest (unit_text text (values_of (from_key c.loop-at.at ps))) all split before.put.2) none)
    ∙ before.idle none

pub loop-at-smaller : goal.loop-at-smaller
loop-at-smaller g c =
    let ps = c.args.list.now.pairs in
    let k = c.in-Some.key in
    let n = c.index-node.result.now in
    shorter ps c.loop-at.at k n (visit ps k n c.nodes-nodes.ensures.distinct (sym (c.nodes-nodes.ensures.nodes k) ∙ c.index-node.ensures)) c.in-Some.is

pub loop-at-preserved : goal.loop-at-preserved
loop-at-preserved g c =
    let sink = g.K.Sink in
    let ps = c.args.list.now.pairs in
    let text = c.args.text.now in
    let before = c.loop-at.invariant in
    let k = c.in-Some.key in
    let n = c.index-node.result.now in
    let here = entry_text text n.value.entry.kind n.value.span in
    let rest = unit_text text (values_of (from_key n.next ps)) in
    let left = unit_text text (values_of (from_key c.loop-at.at ps)) in
    let all = unit_text text (values_of ps) in
    let v = visit ps k n c.nodes-nodes.ensures.distinct (sym (c.nodes-nodes.ensures.nodes k) ∙ c.index-node.ensures) in
    let split = text_split text ps c.loop-at.at k n v c.in-Some.is in
    let waiting = waits c.loop-at.gathered.items text c.loop-at.run in
    let more = c.in_ok-run.ensures.all in
    record {
      there = next_there ps k n v;
      run = c.in_ok-run.ensures.run;
      put = (
        before.put.0 ++ more.0,
        Appends-append (sink.taken c.args.sink.now) (sink.taken c.loop-at.sink) (sink.taken c.pass.new.sink) before.put.0 more.0 before.put.1 more.1,
        whole_passed before.put.0 more.0 (waits c.pass.new.gathered.items text c.in_ok-run.run') waiting here rest left all more.2 split before.put.2,
      );
      idle = λ none.
          c.pass.ensures.idle (none_of before.put.0 (waiting ++ here) rest all (whole_cut before.put.0 waiting here rest left all split before.put.2) none)
          ∙ before.idle none;
      later = omega (arith, before.later, c.pass.ensures.cause.later);
    }

pub returns-in_err-put_rest-clause-part : goal.returns-in_err-put_rest-clause-part
returns-in_err-put_rest-clause-part g c =
    let sink = g.K.Sink in
    let ps = c.args.list.now.pairs in
    let text = c.args.text.now in
    let before = c.loop-at.invariant in
    let all = unit_text text (values_of ps) in
    let run = waits c.loop-at.gathered.items text c.loop-at.run in
    let none = none_left text ps c.loop-at.at c.in_default.is in
    let p = err_from_is_err_and c.from_residual-in_err-put_rest.result c.from_residual-in_err-put_rest.ensures.1 in
    rw p.1 (put_part (sink.taken c.args.sink.now) (sink.taken c.loop-at.sink) (sink.taken c.put_rest.new.sink) before.put.0 run [] all
    before.put.1 c.in_err-put_rest.ensures.part (ap (λ l. before.put.0 ++ (run ++ l)) (sym none) ∙ before.put.2))

pub returns-clause-all : goal.returns-clause-all
returns-clause-all g c =
    let sink = g.K.Sink in
    let ps = c.args.list.now.pairs in
    let text = c.args.text.now in
    let before = c.loop-at.invariant in
    let all = unit_text text (values_of ps) in
    let rest = waits c.loop-at.gathered.items text c.loop-at.run in
    let none = none_left text ps c.loop-at.at c.in_default.is in
    let whole : before.put.0 ++ rest ≡ all = ap (λ l. before.put.0 ++ l) (sym (append-nil rest)) ∙ ap (λ l. before.put.0 ++ (rest ++ l)) (sym none) ∙ before.put.2 in
    subst (Appends (sink.taken c.args.sink.now) (sink.taken c.put_rest.new.sink)) whole
    (Appends-append (sink.taken c.args.sink.now) (sink.taken c.loop-at.sink) (sink.taken c.put_rest.new.sink) before.put.0 rest before.put.1 c.in_ok-put_rest.ensures.all)

pub returns-clause-idle : goal.returns-clause-idle
returns-clause-idle g c = λ none.
    let ps = c.args.list.now.pairs in
    let text = c.args.text.now in
    let before = c.loop-at.invariant in
    let waiting = waits c.loop-at.gathered.items text c.loop-at.run in
    c.put_rest.ensures.idle (none_of before.put.0 waiting (unit_text text (values_of (from_key c.loop-at.at ps))) (unit_text text (values_of ps)) before.put.2 none) ∙ before.idle none
