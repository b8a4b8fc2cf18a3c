use Rattle.std.proofs.Common.{◌≡◌, ◌+◌, ◌≤◌, ◌++◌, drop, map, length}
use Rattle.std.specs.List.{concat}
use Rattle.att_lexer.specs.Pieces.{pieces}
use Rattle.asm_writer.specs.Unit.{bytes_at}
use Rattle.mao_core.specs.Notes.{lines_from}
use Rattle.mao_core.proofs.lines.lines_of_pieces.Given as goal

-- the lines so far, and those of the pieces that are left; a line number is at most 1 more than the bytes passed
abbrev pub invariant-loop-span : goal.invariant-loop-span
invariant-loop-span l = record {
  lines : l.lines.items ++ lines_from l.line (map (bytes_at l.text) (drop l.span-index l.spans)) ≡ lines_from 1 (pieces l.text);
  small : l.line + length (concat (map (bytes_at l.text) (drop l.span-index l.spans))) ≤ length l.text + 1;
}
