use Rattle.std.proofs.Common.{◌≡◌, ◌-◌, length, suc, arith, ap, ◌∙◌, ◌++◌, ◌∷◌, [], slice_set}
use Rattle.std.proofs.lemmas.Grind.{common_steps}
use Rattle.unit_edits.proofs.Last.{on_ok_map, push_onto}
use Rattle.unit_edits.specs.Journal.{onto_last}
use Rattle.unit_edits.proofs.journal.PartList.push_edit.Goals as goal

pub returns-clause-ok : goal.returns-clause-ok
returns-clause-ok c =
    let l : length c.self.inside.items.items ≡ suc (c.len-last.result - 1) = grind (arith, common_steps) in
    let pushed : c.push.new.self ≡ c.index_mut.result.now.edits ++ c.args.edit ∷ []
    → slice_set c.self.inside.items.items (c.len-last.result - 1) (record c.index_mut.result.now { edits = c.push.new.self }) ≡ onto_last (c.args.edit ∷ []) c.args.self.now
    = λ e. push_onto c.args.edit c.self.inside.items.items (c.len-last.result - 1) _ _ _ l c.index_mut.ensures.value e ∙ ap (onto_last (c.args.edit ∷ [])) c.self.view_is in
    on_ok_map c.push.result _ _ c.push.ensures.ok pushed
