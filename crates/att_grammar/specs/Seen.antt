-- A token's content as the code has it.
use Rattle.att_grammar.specs.Lexemes.{Lexeme, word, number, text, mark, odd}
use Rattle.att_grammar.specs.declared.seen.Seen.{Seen}
use Rattle.att_grammar.specs.declared.seen.Seen.TheVariants.{Word, Number, Text, Mark, Odd}

abbrev pub says : Seen → Lexeme
says (Word bytes) = word bytes.now
says (Number value) = number value
says (Text bytes) = text bytes.now
says (Mark b) = mark b
says (Odd bytes) = odd bytes.now
