use Rattle.std.proofs.Common.{ap, ◌∙◌, [], sym, false}
use Rattle.jump_tables.specs.EntryNames.{lent_name}
use Rattle.jump_tables.specs.Collected.{for_each, named}
use Rattle.jump_tables.proofs.EachLaws.{each_stays}
use Rattle.jump_tables.proofs.UseLaws.{nothing_named, names_more}
use Rattle.jump_tables.proofs.collect.note_lent.Goals as goal

pub returns-in-Some : goal.returns-in-Some
returns-in-Some c =
    c.note_other.ensures
    ∙ names_more c.args.entry.now [] c.in-Some.name.now c.args.labels.now c.args.uses.now c.args.uses.now
    (sym (each_stays _ (nothing_named c.args.entry.now) c.args.labels.now c.args.uses.now))
    ∙ ap (λ o. for_each (named false c.args.entry.now (lent_name o)) c.args.labels.now c.args.uses.now) (sym c.in-Some.is)

pub returns-in_default : goal.returns-in_default
returns-in_default c =
    sym (each_stays _ (nothing_named c.args.entry.now) c.args.labels.now c.args.uses.now)
    ∙ ap (λ o. for_each (named false c.args.entry.now (lent_name o)) c.args.labels.now c.args.uses.now) (sym c.in_default.is)
