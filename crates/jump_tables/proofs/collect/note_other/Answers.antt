use Rattle.std.proofs.Common.{ap, ◌∙◌, sym, true, not, set}
use Rattle.jump_tables.specs.Uses.{is_table_jump}
use Rattle.jump_tables.specs.Names.{place_of}
use Rattle.jump_tables.specs.Collected.{for_each, at_name, with_other}
use Rattle.jump_tables.proofs.EachLaws.{each_at, each_absent, each_stays}
use Rattle.jump_tables.proofs.UseLaws.{at_name_stays}
use Rattle.jump_tables.proofs.collect.note_other.Goals as goal

pub returns-then-not-is_jump_by : goal.returns-then-not-is_jump_by
returns-then-not-is_jump_by c =
    ap (set c.args.uses.now c.in-Some.place) c.note_other.ensures
    ∙ sym (each_at c.args.name.now (with_other true c.args.entry.now.serial) c.args.labels.now c.args.uses.now c.in-Some.place c.index-uses-place.result
    (ap (λ n. place_of n c.args.labels.now) (sym c.as_slice.ensures) ∙ sym c.number_of.ensures.found ∙ c.in-Some.is)
    c.number_of.ensures.distinct c.requires)
    ∙ ap (λ b. for_each (at_name c.args.name.now (with_other (not b) c.args.entry.now.serial)) c.args.labels.now c.args.uses.now) (sym c.if-not-is_jump_by.true ∙ c.is_jump_by.ensures)

pub returns-else-not-is_jump_by : goal.returns-else-not-is_jump_by
returns-else-not-is_jump_by c =
    sym (each_stays _ (at_name_stays c.args.name.now c.args.entry.now.serial) c.args.labels.now c.args.uses.now)
    ∙ ap (λ b. for_each (at_name c.args.name.now (with_other (not b) c.args.entry.now.serial)) c.args.labels.now c.args.uses.now) (sym c.if-not-is_jump_by.false ∙ c.is_jump_by.ensures)

pub returns-in_default : goal.returns-in_default
returns-in_default c =
    sym (each_absent c.args.name.now (with_other (not (is_table_jump c.args.name.now c.args.entry.now.kind)) c.args.entry.now.serial) c.args.labels.now c.args.uses.now (ap (λ n. place_of n c.args.labels.now) (sym c.as_slice.ensures) ∙ sym c.number_of.ensures.found ∙ c.in_default.is))
