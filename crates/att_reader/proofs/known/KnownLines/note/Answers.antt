use Rattle.std.proofs.Common.{sym, ◌∙◌}
use Rattle.att_reader.proofs.Comments.{to_front}
use Rattle.att_reader.proofs.known.KnownLines.note.Goals as goal

pub keep-requires-else-line-le-LONGEST : goal.keep-requires-else-line-le-LONGEST
keep-requires-else-line-le-LONGEST c =
    let is = c.in-Insn.is in
    is ∙ sym (to_front c.in-Some.front.now c.args.line.now _ c.in-Some.ensures (sym c.requires ∙ is))
