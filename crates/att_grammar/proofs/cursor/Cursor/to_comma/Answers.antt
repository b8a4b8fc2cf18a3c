use Rattle.std.proofs.Common.{◌∷◌, take, drop, ap, sym, ◌∙◌, arith}
use Rattle.std.proofs.lemmas.List.{take_rest}
use Rattle.att_grammar.specs.Lexemes.{says_all}
use Rattle.att_grammar.specs.Directives.{cut_at_commas}
use Rattle.att_grammar.proofs.Cursors.{cut_more}
use Rattle.att_grammar.proofs.cursor.Cursor.to_comma.Goals as goal

pub returns-in-len1-up-clause-cut : goal.returns-in-len1-up-clause-cut
returns-in-len1-up-clause-cut c =
    let piece = c.self.inside.piece.now in
    let front = c.split_at.result.0.now in
    let back = c.split_at.result.1.now in
    let tokens = c.self.inside.tokens.now in
    let count = c.tokens_before_comma.ensures.value in
    ap cut_at_commas (sym c.self.view_is)
    ∙ cut_more piece tokens front back (c.split_at.ensures.front ∙ ap (λ n. take n tokens) count) (c.split_at.ensures.back ∙ ap (λ n. drop n tokens) count)
    (omega arith)
    ∙ ap (λ l. says_all piece front ∷ cut_at_commas (says_all piece l)) (sym (take_rest back 1))
