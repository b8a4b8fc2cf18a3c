use Rattle.std.proofs.Common.{◌≡◌, [], refl, sym, ap, ◌∙◌}
use Rattle.insn_ir.specs.declared.entry.EntryKind.{EntryKind}
use Rattle.att_lexer.specs.Tokens.{tokens_from}
use Rattle.att_grammar.specs.Entries.{kind_of_piece, is_inline_mark}
use Rattle.att_reader.proofs.known.KnownLine.none.Goals as goal

no_bytes : kind_of_piece [] ≡ EntryKind.Blank
unfolding kind_of_piece is_inline_mark tokens_from
no_bytes = refl

pub invariant_of-result : goal.invariant_of-result
invariant_of-result c = record { tells = sym (ap kind_of_piece c.new.ensures.items ∙ no_bytes) }
