use Rattle.std.proofs.Common.{arith, ap, drop, length, sym, subst, ◌∙◌}
use Rattle.std.proofs.lemmas.List.{take_rest}
use Rattle.att_grammar.specs.Lexemes.{AreReadable}
use Rattle.att_grammar.proofs.Cursors.{tokens_readable, drop_readable}
use Rattle.directive_model.proofs.Empty.{directive_none}
use Rattle.directive_model.proofs.directive.read_directive.Goals as goal

pub new-at-requires : goal.new-at-requires
new-at-requires c = tokens_readable c.args.piece.now _ c.requires.length (c.as_slice-tokens.ensures ∙ c.requires.tokens)

pub named-requires : goal.named-requires
named-requires c =
    let tokens = c.as_slice-tokens.result.now in
    subst (AreReadable c.args.piece.now) (sym (take_rest tokens 1))
    (drop_readable c.args.piece.now 1 tokens (tokens_readable c.args.piece.now tokens c.requires.length (c.as_slice-tokens.ensures ∙ c.requires.tokens)))

pub returns-in_default : goal.returns-in_default
returns-in_default c = directive_none c.args.piece.now c.args.tokens.now (omega (arith, ap length c.as_slice-tokens.ensures, c.in_default.len_below))
