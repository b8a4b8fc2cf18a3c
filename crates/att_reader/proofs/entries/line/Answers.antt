use Rattle.std.proofs.Common.{◌∙◌}
use Rattle.att_grammar.proofs.Cursors.{tokens_readable}
use Rattle.att_reader.proofs.entries.line.Goals as goal

pub new-at-requires : goal.new-at-requires
new-at-requires c = tokens_readable c.args.piece.now _ c.requires.length (c.as_slice-all.ensures ∙ c.in_ok-take_tokens.ensures.tokens)
