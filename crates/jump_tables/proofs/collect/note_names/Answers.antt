use Rattle.std.proofs.Common.{◌++◌}
use Rattle.jump_tables.specs.EntryNames.{lent_name}
use Rattle.jump_tables.proofs.UseLaws.{named_both}
use Rattle.jump_tables.proofs.collect.note_names.Goals as goal

pub returns : goal.returns
returns c =
    let e = c.args.entry.now in
    let ls = c.args.labels.now in
    let us = c.args.uses.now in
    let a = lent_name c.args.names.first in
    let b = lent_name c.args.names.second in
    let d = lent_name c.args.names.third in
    named_both e (a ++ b ++ d) c.args.names.rest.now ls us _ _
    (named_both e (a ++ b) d ls us _ _ (named_both e a b ls us _ _ c.note_lent.ensures c.note_lent-2.ensures) c.note_lent-3.ensures)
    c.note_list.ensures
