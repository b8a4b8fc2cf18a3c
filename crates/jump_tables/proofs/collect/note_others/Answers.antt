use Rattle.std.proofs.Common.{ap, ◌∙◌, sym, false}
use Rattle.jump_tables.specs.Uses.{names}
use Rattle.jump_tables.specs.Collected.{for_each, named}
use Rattle.jump_tables.proofs.EachLaws.{each_stays}
use Rattle.jump_tables.proofs.UseLaws.{debug_named}
use Rattle.jump_tables.proofs.collect.note_others.Goals as goal

pub returns-then-debug : goal.returns-then-debug
returns-then-debug c =
    sym (each_stays _ (debug_named c.args.entry.now (names c.args.entry.now.kind)) c.args.labels.now c.args.uses.now)
    ∙ ap (λ b. for_each (named b c.args.entry.now (names c.args.entry.now.kind)) c.args.labels.now c.args.uses.now) (sym c.if-debug.true)

pub returns : goal.returns
returns c =
    c.note_names.ensures
    ∙ ap (λ ms. for_each (named false c.args.entry.now ms) c.args.labels.now c.args.uses.now) c.names_of.ensures
    ∙ ap (λ b. for_each (named b c.args.entry.now (names c.args.entry.now.kind)) c.args.labels.now c.args.uses.now) (sym c.if-debug.false)
