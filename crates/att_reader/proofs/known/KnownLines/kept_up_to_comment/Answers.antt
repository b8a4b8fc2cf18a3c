use Rattle.std.proofs.Common.{ap, sym, ◌∙◌}
use Rattle.att_reader.specs.Plain.{kind_of}
use Rattle.att_reader.proofs.Comments.{from_front}
use Rattle.att_reader.proofs.known.KnownLines.kept_up_to_comment.Goals as goal

pub returns-in-Insn : goal.returns-in-Insn
returns-in-Insn c =
    let is = ap kind_of c.in-Insn.is in
    is ∙ sym (from_front c.in_ok-front.front.now c.args.line.now _ c.in_ok-front.ensures (sym c.in_ok-kind.ensures ∙ is))
