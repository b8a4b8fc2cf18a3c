use Rattle.std.proofs.Common.{◌≡◌, ◌+◌, ◌<◌, take, length, get_or, sym, subst, ◌∙◌, arith, None}
use Rattle.att_lexer.specs.Scan.{place_after}
use Rattle.att_lexer.specs.Walk.{past, front_scan, found_at, IsFront}
use Rattle.att_lexer.specs.declared.scan.Place.TheVariants.{Plain}
use Rattle.att_lexer.proofs.Cutting.{front_done}
use Rattle.att_lexer.proofs.Walk.{front_calm, front_stop, front_end, thaw_calm, thaw_next, thaw_one, thaw_all, ended_none, stop_at}
use Rattle.att_lexer.proofs.pieces.first_cut.Goals as goal

pub returns-then-front-text-clause-first : goal.returns-then-front-text-clause-first
returns-then-front-text-clause-first c =
    let text = c.args.text.now in
    let n = c.stop_from-front.result in
    front_end text n (front_scan (take n text)) (omega arith) (omega arith) (front_calm text n c.requires (omega (arith, c.stop_from-front.ensures.value)))

pub returns-then-front-text-clause-freeze : goal.returns-then-front-text-clause-freeze
returns-then-front-text-clause-freeze c =
    let text = c.args.text.now in
    let n = c.stop_from-front.result in
    thaw_all text n Plain None (thaw_calm text n (omega (arith, c.stop_from-front.ensures.value)))

pub returns-then-ends_front-clause-first : goal.returns-then-ends_front-clause-first
returns-then-ends_front-clause-first c =
    let text = c.args.text.now in
    let n = c.stop_from-front.result in
    front_done text n (front_scan (take n text)) (omega arith) (front_calm text n c.requires (omega (arith, c.stop_from-front.ensures.value))) (sym c.ends_front.ensures ∙ c.if-ends_front.true)

pub returns-then-ends_front-clause-freeze : goal.returns-then-ends_front-clause-freeze
returns-then-ends_front-clause-freeze c =
    let text = c.args.text.now in
    let n = c.stop_from-front.result in
    let b = get_or text n 0 in
    sym (ended_none (take n text) b (sym c.ends_front.ensures ∙ c.if-ends_front.true))
    ∙ thaw_all text _ (place_after Plain b) (found_at None Plain b)
    (thaw_next text n Plain None (omega arith) (thaw_calm text n (omega (arith, c.stop_from-front.ensures.value))))

pub cut_on-requires-clause-front : goal.cut_on-requires-clause-front
cut_on-requires-clause-front c =
    let text = c.args.text.now in
    let n = c.stop_from-front.result in
    let lt : n < length text = omega arith in
    let place : c.after.result ≡ place_after Plain (get_or text n 0) = c.after.ensures in
    subst (λ p. IsFront text (n + 1) (past p)) (sym place)
    (front_stop text n lt (front_calm text n c.requires (omega (arith, c.stop_from-front.ensures.value))) (stop_at text n (omega (arith, c.stop_from-front.ensures.value)) lt) (sym c.ends_front.ensures ∙ c.if-ends_front.false))

pub cut_on-requires-clause-thawed : goal.cut_on-requires-clause-thawed
cut_on-requires-clause-thawed c =
    let text = c.args.text.now in
    let n = c.stop_from-front.result in
    thaw_one text n Plain c.after.result None c.found_at-found.result (omega arith) (thaw_calm text n (omega (arith, c.stop_from-front.ensures.value))) c.after.ensures c.found_at-found.ensures
