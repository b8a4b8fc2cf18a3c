use Rattle.std.proofs.Common.{ap, ◌∙◌, ◌∷◌, ◌++◌, [], sym, false, take}
use Rattle.std.proofs.lemmas.List.{take_more}
use Rattle.jump_tables.specs.Collected.{for_each, named}
use Rattle.jump_tables.proofs.EachLaws.{each_stays}
use Rattle.jump_tables.proofs.UseLaws.{nothing_named, names_more}
use Rattle.jump_tables.proofs.collect.note_list.Goals as goal

pub loop-name-init : goal.loop-name-init
loop-name-init c = sym (each_stays _ (nothing_named c.args.entry.now) c.args.labels.now c.args.uses.now)

pub loop-name-preserved : goal.loop-name-preserved
loop-name-preserved c =
    let list = c.args.list.now in
    let i = c.loop-name.name-index in
    c.note_other.ensures
    ∙ names_more c.args.entry.now (take i list) c.name-item.result c.args.labels.now c.args.uses.now c.loop-name.uses c.loop-name.invariant
    ∙ ap (λ ms. for_each (named false c.args.entry.now ms) c.args.labels.now c.args.uses.now)
    (ap (λ n. take i list ++ n ∷ []) c.name-item.is ∙ sym (take_more list i c.name-item.result c.loop-name-test.true))
