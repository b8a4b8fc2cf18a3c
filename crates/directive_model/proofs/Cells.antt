-- Cells that are still to be read.
use Rattle.std.proofs.Common.{ℕ, suc, List, [], length, Option, Some, None}
use Rattle.insn_ir.specs.declared.entry.Cell.{Cell}
use Rattle.att_grammar.specs.Lexemes.{Lexeme}
use Rattle.att_grammar.specs.Directives.{cells_of}

abbrev pub cells_left : Option (List Lexeme) → List Cell
cells_left None = []
cells_left (Some rest) = cells_of rest

abbrev pub lexemes_left : Option (List Lexeme) → ℕ
lexemes_left None = 0
lexemes_left (Some rest) = suc (length rest)
