use Rattle.std.proofs.Common.{[], ◌∷◌, refl}
use Rattle.std.proofs.lemmas.Result.{err_from_is_err_and}
use Rattle.asm_writer.specs.Fragments.{fragments_text}
use Rattle.att_grammar.specs.Canonical.{line_of}
use Rattle.asm_writer.proofs.Puts.{Appends-append, put_part, last_part}
use Rattle.asm_writer.proofs.unit.put_line.Goals as goal

pub returns-in_err-put_fragments-clause-part : goal.returns-in_err-put_fragments-clause-part
returns-in_err-put_fragments-clause-part g c =
    let sink = g.K.Sink in
    let text = fragments_text c.args.fragments.now in
    let p = err_from_is_err_and c.from_residual-in_err-put_fragments.result c.from_residual-in_err-put_fragments.ensures.1 in
    rw p.1 (put_part (sink.taken c.args.sink.now) (sink.taken c.put_all.new.sink) (sink.taken c.put_fragments.new.sink) (9 ∷ []) text (10 ∷ []) (line_of text) c.in_ok-put_all.ensures.all c.in_err-put_fragments.ensures.part refl)

pub returns-in_err-put_all-2-clause-part : goal.returns-in_err-put_all-2-clause-part
returns-in_err-put_all-2-clause-part g c =
    let sink = g.K.Sink in
    let text = fragments_text c.args.fragments.now in
    let p = err_from_is_err_and c.from_residual-in_err-put_all-2.result c.from_residual-in_err-put_all-2.ensures.1 in
    rw p.1 (last_part (sink.taken c.args.sink.now) (sink.taken c.put_fragments.new.sink) (sink.taken c.put_all-2.new.sink) (9 ∷ text) (10 ∷ [])
    (Appends-append (sink.taken c.args.sink.now) (sink.taken c.put_all.new.sink) (sink.taken c.put_fragments.new.sink) (9 ∷ []) text c.in_ok-put_all.ensures.all c.in_ok-put_fragments.ensures.all)
    c.in_err-put_all-2.ensures.part)
