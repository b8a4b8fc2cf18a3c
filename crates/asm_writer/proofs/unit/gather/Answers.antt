use Rattle.std.proofs.Common.{◌++◌, ap, subst, ◌∙◌, append-nil}
use Rattle.std.proofs.lemmas.Result.{err_from_is_err_and}
use Rattle.std.specs.Io.KnownBytes.{Appends}
use Rattle.asm_writer.proofs.Puts.{Appends-append, IsFront, put_front, last_part}
use Rattle.asm_writer.proofs.unit.gather.Goals as goal

pub returns-in_err-put_gathered-clause-part : goal.returns-in_err-put_gathered-clause-part
returns-in_err-put_gathered-clause-part g c =
    let old = g.K.Sink.taken c.args.sink.now in
    let new = g.K.Sink.taken c.put_gathered.new.sink in
    let gathered = c.args.gathered.now.items in
    let bytes = c.args.bytes.now in
    let cut = subst (IsFront old new) c.if-join.ensures.left c.in_err-put_gathered.ensures.part in
    let p = err_from_is_err_and c.from_residual.result c.from_residual.ensures.1 in
    rw p.1 (put_front old new gathered bytes cut)

pub returns-then-join-2-clause-all : goal.returns-then-join-2-clause-all
returns-then-join-2-clause-all g c =
    let old = g.K.Sink.taken c.args.sink.now in
    let new = g.K.Sink.taken c.put_gathered.new.sink in
    let put = subst (Appends old new) c.if-join.ensures.left c.in_ok-put_gathered.ensures.all in (
      c.args.gathered.now.items,
      put,
      ap (λ l. c.args.gathered.now.items ++ l) (c.if-join-2.ensures.joined ∙ ap (λ l. l ++ c.args.bytes.now) c.in_ok-put_gathered.ensures.none),
    )

pub returns-in_err-put_all-clause-part : goal.returns-in_err-put_all-clause-part
returns-in_err-put_all-clause-part g c =
    let old = g.K.Sink.taken c.args.sink.now in
    let mid = g.K.Sink.taken c.put_gathered.new.sink in
    let new = g.K.Sink.taken c.put_all.new.sink in
    let put = subst (Appends old mid) c.if-join.ensures.left c.in_ok-put_gathered.ensures.all in
    let p = err_from_is_err_and c.from_residual-in_err-put_all.result c.from_residual-in_err-put_all.ensures.1 in
    rw p.1 (last_part old mid new c.args.gathered.now.items c.args.bytes.now put c.in_err-put_all.ensures.part)

pub returns-clause-all : goal.returns-clause-all
returns-clause-all g c =
    let old = g.K.Sink.taken c.args.sink.now in
    let mid = g.K.Sink.taken c.put_gathered.new.sink in
    let new = g.K.Sink.taken c.put_all.new.sink in
    let gathered = c.args.gathered.now.items in
    let bytes = c.args.bytes.now in
    let put = subst (Appends old mid) c.if-join.ensures.left c.in_ok-put_gathered.ensures.all in (
      gathered ++ bytes,
      Appends-append old mid new gathered bytes put c.in_ok-put_all.ensures.all,
      ap (λ l. (gathered ++ bytes) ++ l) (c.if-join-2.ensures.left ∙ c.in_ok-put_gathered.ensures.none) ∙ append-nil (gathered ++ bytes),
    )
