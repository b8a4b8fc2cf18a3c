use Rattle.std.proofs.Common.{◌++◌}
use Rattle.mao_core.proofs.NoteLaws.{frozen_notes, note_more}
use Rattle.mao_core.proofs.notes.put_frozen_notes.Goals as goal

pub loop-f-preserved : goal.loop-f-preserved
loop-f-preserved c =
    note_more c.args.lines.now c.name.result.now c.frozen.result c.args.unit.now.decided c.loop-f.f c.loop-f.text.items c.put_frozen_note.new.text.items (c.args.text.now.items ++ frozen_notes c.args.lines.now c.args.unit.now.decided)
    c.name.ensures c.frozen.ensures c.in_ok-put_frozen_note.ensures c.loop-f.invariant
