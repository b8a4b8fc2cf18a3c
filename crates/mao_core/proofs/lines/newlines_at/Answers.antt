use Rattle.std.proofs.Common.{◌≡◌, ◌+◌, ◌-◌, take, drop, arith, subst}
use Rattle.att_lexer.specs.Pieces.{NoneEarlier}
use Rattle.mao_core.proofs.lines.newlines_at.Goals as goal

pub newlines_in-requires : goal.newlines_in-requires
newlines_in-requires c =
    let span = c.args.span in
    let same : span.len ≡ span.start + span.len - span.start = omega arith in
    subst (λ n. NoneEarlier (take n (drop span.start c.args.text.now))) same c.requires.piece
