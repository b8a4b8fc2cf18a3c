use Rattle.std.proofs.Common.{refl, arith}
use Rattle.att_lexer.specs.declared.bytes.TheConstants.{CLASS}
use Rattle.att_lexer.specs.Bytes.{is_symbol_byte, is_letter, is_digit}
use Rattle.att_lexer.proofs.Tables.{agree_below, from_table}
use Rattle.att_lexer.proofs.bytes.is_symbol_byte.Goals as goal

pub returns : goal.returns
unfolding agree_below is_symbol_byte is_letter is_digit
returns c = from_table CLASS 1 is_symbol_byte c.args.b (omega arith) refl
