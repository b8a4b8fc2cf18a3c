use Rattle.std.proofs.Common.{sym, subst}
use Rattle.att_grammar.specs.Lexemes.{AreReadable}
use Rattle.att_grammar.proofs.Cursors.{drop_readable}
use Rattle.directive_model.proofs.layout.named_section.Goals as goal

pub new-requires : goal.new-requires
new-requires c =
    subst (AreReadable c.args.piece.now) (sym c.tokens_at.ensures) (drop_readable c.args.piece.now _ c.args.operands.now c.requires)
