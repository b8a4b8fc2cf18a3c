-- A piece without tokens.
use Rattle.std.proofs.Common.{◌≡◌, ℕ, ◌<◌, List, [], ◌∷◌, length, refl, arith}
use Rattle.insn_ir.specs.declared.entry.DirectiveKind.{DirectiveKind}
use Rattle.att_lexer.specs.declared.token.Token.{Token}
use Rattle.att_grammar.specs.Notions.{word_of}
use Rattle.att_grammar.specs.Directives.{directive_of}

pub directive_none : (piece : List ℕ) (ts : List Token) → length ts < 1 → DirectiveKind.Breaking ≡ directive_of piece ts
unfolding directive_of word_of
directive_none piece [] h = refl
directive_none piece (t ∷ ts) h = absurd (omega (arith, h))
