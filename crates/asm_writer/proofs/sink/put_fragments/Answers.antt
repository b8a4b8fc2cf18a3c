use Rattle.std.proofs.Common.{◌+◌, [], ◌++◌, length, take, drop, get_or, sym, ap, ◌∙◌, subst, arith, append_assoc}
use Rattle.std.proofs.lemmas.Result.{err_from_is_err_and}
use Rattle.std.specs.Io.KnownBytes.{Appends}
use Rattle.asm_writer.specs.declared.fragment.Fragment.{Fragment}
use Rattle.asm_writer.specs.Fragments.{fragment_text, fragments_text}
use Rattle.asm_writer.proofs.Puts.{Appends-append, next_fragment, front_of}
use Rattle.asm_writer.proofs.sink.put_fragments.Goals as goal

abbrev nothing : Fragment
nothing = Fragment.Text (record { ref_ptr = (0, 0); now = [] })

pub loop-fragment-preserved : goal.loop-fragment-preserved
loop-fragment-preserved g c =
    let sink = g.K.Sink in
    let before = c.loop-fragment.invariant in
    let part = fragment_text (get_or c.args.fragments.now c.loop-fragment.fragment-index nothing) in
    let rest = fragments_text (drop (c.loop-fragment.fragment-index + 1) c.args.fragments.now) in
    let step = next_fragment c.args.fragments.now c.loop-fragment.fragment-index nothing c.loop-fragment-test.true in
    record {
      put = (
        before.put.0 ++ part,
        Appends-append (sink.taken c.args.sink.now) (sink.taken c.loop-fragment.sink) (sink.taken c.put_fragment.new.sink) before.put.0 part before.put.1 c.in_ok-put_fragment.ensures.all,
        append_assoc before.put.0 part rest ∙ ap (λ l. before.put.0 ++ l) (sym step) ∙ before.put.2,
      );
      later = omega (arith, before.later, c.put_fragment.ensures.cause.later);
    }

pub returns-in_err-put_fragment-clause-part : goal.returns-in_err-put_fragment-clause-part
returns-in_err-put_fragment-clause-part g c =
    let sink = g.K.Sink in
    let put = c.loop-fragment.invariant.put in
    let part = fragment_text (get_or c.args.fragments.now c.loop-fragment.fragment-index nothing) in
    let rest = fragments_text (drop (c.loop-fragment.fragment-index + 1) c.args.fragments.now) in
    let step = next_fragment c.args.fragments.now c.loop-fragment.fragment-index nothing c.loop-fragment-test.true in
    let cut = c.in_err-put_fragment.ensures.part in
    let front = front_of put.0 part rest (fragments_text c.args.fragments.now) cut.0 cut.1 (ap (λ l. put.0 ++ l) (sym step) ∙ put.2) in
    let p = err_from_is_err_and c.from_residual.result c.from_residual.ensures.1 in
    rw p.1 (
      length put.0 + cut.0,
      front.0,
      subst (λ l. Appends (sink.taken c.args.sink.now) (sink.taken c.put_fragment.new.sink) l) (sym front.1)
          (Appends-append (sink.taken c.args.sink.now) (sink.taken c.loop-fragment.sink) (sink.taken c.put_fragment.new.sink) put.0 (take cut.0 part) put.1 cut.2),
    )
