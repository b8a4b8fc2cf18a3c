use Rattle.std.proofs.Common.{ap, ◌∙◌, sym}
use Rattle.std.specs.Prelude.{option_map}
use Rattle.std.proofs.lemmas.Result.{on_ok_weaker}
use Rattle.jump_tables.proofs.UseLaws.{jump_noted, none_noted}
use Rattle.jump_tables.proofs.collect.note_entry.Goals as goal

pub returns-in-Some : goal.returns-in-Some
returns-in-Some c =
    on_ok_weaker c.note_user.result (λ h. h
    ∙ jump_noted c.args.debug c.args.entry.now c.in-Some.table.now c.args.labels.now c.args.uses.now c.note_others.new.uses (sym c.table_jump_of.ensures ∙ ap (option_map (λ n. n.now)) c.in-Some.is) c.note_others.ensures) c.note_user.ensures

pub returns-in-None : goal.returns-in-None
returns-in-None c =
    none_noted c.args.debug c.args.entry.now c.args.labels.now c.args.uses.now c.note_others.new.uses (sym c.table_jump_of.ensures ∙ ap (option_map (λ n. n.now)) c.in-None.is) c.note_others.ensures
