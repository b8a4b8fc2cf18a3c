use Rattle.std.proofs.Common.{◌≡◌, ◌++◌, ◌∙◌, ap, map, length, arith}
use Rattle.std.specs.List.{concat}
use Rattle.att_lexer.specs.Pieces.{pieces}
use Rattle.att_lexer.proofs.PiecesLaws.{are_pieces}
use Rattle.asm_writer.specs.Unit.{bytes_at}
use Rattle.mao_core.specs.Notes.{lines_from}
use Rattle.mao_core.proofs.KeptLaws.{pieces_read}
use Rattle.mao_core.proofs.LineLaws.{none_earlier_at}
use Rattle.mao_core.proofs.lines.lines_of_pieces.Goals as goal

pub loop-span-init : goal.loop-span-init
loop-span-init c =
    let text = c.args.text.now in
    let read : map (bytes_at text) c.args.spans.now ≡ pieces text = pieces_read text c.args.spans.now c.requires.cut in
    record {
      lines = ap (λ l. l ++ lines_from 1 (map (bytes_at text) c.args.spans.now)) c.in_ok-lines.ensures.items ∙ ap (lines_from 1) read;
      small = omega (arith, ap (λ ps. length (concat ps)) read, ap length (are_pieces text).whole);
    }

pub newlines_at-line-requires-clause-piece : goal.newlines_at-line-requires-clause-piece
newlines_at-line-requires-clause-piece c = none_earlier_at c.args.text.now c.args.spans.now c.loop-span.span-index _ c.requires.cut c.loop-span-test.true
