use Rattle.std.proofs.Common.{[], ◌+◌, ◌++◌, sym, ap, subst, ◌∙◌, append_assoc}
use Rattle.std.proofs.lemmas.Result.{err_from_is_err_and}
use Rattle.asm_writer.specs.Unit.{new_text, entry_text}
use Rattle.asm_writer.specs.Runs.{run_text, waits}
use Rattle.asm_writer.proofs.Puts.{Appends-append, Appends-none, IsFront, last_part, put_front, put_whole, waiting_part}
use Rattle.asm_writer.proofs.RunLaws.{joins, begins, put_first}
use Rattle.asm_writer.proofs.unit.pass.Goals as goal

pub returns-in_err-gather-clause-part : goal.returns-in_err-gather-clause-part
returns-in_err-gather-clause-part g c =
    let sink = g.K.Sink in
    let before = waits c.args.gathered.now.items c.args.text.now c.args.run in
    let p = err_from_is_err_and c.from_residual.result c.from_residual.ensures.1 in
    rw p.1 (put_front (sink.taken c.args.sink.now) (sink.taken c.gather.new.sink) before (entry_text c.args.text.now c.args.kind.now c.args.span) c.in_err-gather.ensures.part)

pub returns-in_err-put_gathered-clause-part : goal.returns-in_err-put_gathered-clause-part
returns-in_err-put_gathered-clause-part g c =
    let sink = g.K.Sink in
    let before = waits c.args.gathered.now.items c.args.text.now c.args.run in
    let all = c.in_ok-gather.ensures.all in
    let p = err_from_is_err_and c.from_residual-in_err-put_gathered.result c.from_residual-in_err-put_gathered.ensures.1 in
    rw p.1 (waiting_part (sink.taken c.args.sink.now) (sink.taken c.gather.new.sink) (sink.taken c.put_gathered.new.sink) all.0 c.gather.new.gathered.items before (entry_text c.args.text.now c.args.kind.now c.args.span)
    all.1 all.2 c.in_err-put_gathered.ensures.part)

pub returns-in_err-put_new-clause-part : goal.returns-in_err-put_new-clause-part
returns-in_err-put_new-clause-part g c =
    let sink = g.K.Sink in
    let before = waits c.args.gathered.now.items c.args.text.now c.args.run in
    let all = c.in_ok-gather.ensures.all in
    let put = put_whole (sink.taken c.args.sink.now) (sink.taken c.gather.new.sink) (sink.taken c.put_gathered.new.sink) all.0 c.gather.new.gathered.items before all.1 all.2 c.in_ok-put_gathered.ensures.all in
    let p = err_from_is_err_and c.from_residual-in_err-put_new.result c.from_residual-in_err-put_new.ensures.1 in
    rw p.1 (subst (λ o. IsFront (sink.taken c.args.sink.now) (sink.taken c.put_new.new.sink) (before ++ entry_text c.args.text.now c.args.kind.now o)) (sym c.in_default.is)
    (last_part (sink.taken c.args.sink.now) (sink.taken c.put_gathered.new.sink) (sink.taken c.put_new.new.sink) before (new_text c.args.kind.now) put c.in_err-put_new.ensures.part))

pub returns-in_default-clause-all : goal.returns-in_default-clause-all
returns-in_default-clause-all g c =
    let sink = g.K.Sink in
    let text = c.args.text.now in
    let kind = c.args.kind.now in
    let before = waits c.args.gathered.now.items text c.args.run in
    let all = c.in_ok-gather.ensures.all in
    let put = put_whole (sink.taken c.args.sink.now) (sink.taken c.gather.new.sink) (sink.taken c.put_gathered.new.sink) all.0 c.gather.new.gathered.items before all.1 all.2 c.in_ok-put_gathered.ensures.all in (
      before ++ new_text kind,
      Appends-append (sink.taken c.args.sink.now) (sink.taken c.put_gathered.new.sink) (sink.taken c.put_new.new.sink) before (new_text kind) put c.in_ok-put_new.ensures.all,
      ap (λ l. (before ++ new_text kind) ++ waits l text (record { from = c.args.run.to; to = c.args.run.to })) c.in_ok-put_gathered.ensures.none
          ∙ put_first text kind c.args.span before c.args.run.to c.in_default.is,
    )

pub returns-then-start-run-clause-all : goal.returns-then-start-run-clause-all
returns-then-start-run-clause-all g c =
    let text = c.args.text.now in
    let kind = c.args.kind.now in
    let gathered = c.args.gathered.now.items in (
      [],
      Appends-none (g.K.Sink.taken c.args.sink.now),
      ap (λ l. gathered ++ l) (joins text kind c.args.span c.in-Some.span c.args.run c.in-Some.is c.if-start-run.true c.requires.run.0)
          ∙ sym (append_assoc gathered (run_text text c.args.run) (entry_text text kind c.args.span)),
    )

pub returns-in_err-gather-2-clause-part : goal.returns-in_err-gather-2-clause-part
returns-in_err-gather-2-clause-part g c =
    let sink = g.K.Sink in
    let before = waits c.args.gathered.now.items c.args.text.now c.args.run in
    let p = err_from_is_err_and c.from_residual-in_err-gather-2.result c.from_residual-in_err-gather-2.ensures.1 in
    rw p.1 (put_front (sink.taken c.args.sink.now) (sink.taken c.gather-2.new.sink) before (entry_text c.args.text.now c.args.kind.now c.args.span) c.in_err-gather-2.ensures.part)

pub returns-clause-all : goal.returns-clause-all
returns-clause-all g c =
    let text = c.args.text.now in
    let span = c.in-Some.span in
    let before = waits c.args.gathered.now.items text c.args.run in
    let all = c.in_ok-gather-2.ensures.all in
    let run = run_text text (record { from = span.start; to = span.start + span.len }) in (
      all.0,
      all.1,
      sym (append_assoc all.0 c.gather-2.new.gathered.items run)
          ∙ ap (λ l. l ++ run) all.2
          ∙ ap (λ l. before ++ l) (begins text c.args.kind.now c.args.span span c.in-Some.is),
    )
