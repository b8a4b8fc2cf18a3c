use Rattle.std.proofs.Common.{◌≡◌, ◌∙◌, ap, map}
use Rattle.std.proofs.lemmas.Result.{IfOk-weaker}
use Rattle.jump_tables.specs.Tables.{tables_in}
use Rattle.jump_tables.specs.Collected.{looked_up, distinct_of}
use Rattle.jump_tables.proofs.StartLaws.{whole}
use Rattle.jump_tables.proofs.find.find_tables_by_class.Goals as goal

pub returns : goal.returns
returns c =
    let starts = c.in_ok-starts.starts.items in
    let labels = c.in_ok-labels.labels in
    let uses = c.deref-2.result.now in
    IfOk-weaker c.all_with_uses.result (λ ts. ts ≡ map (looked_up labels uses) starts) (λ ts. ts ≡ tables_in c.args.entries.now)
    (λ ts h. h ∙ whole c.args.entries.now labels uses starts c.in_ok-starts.ensures
    (c.in_ok-labels.ensures ∙ ap (λ ts. distinct_of (map (λ t. t.label) ts)) c.deref.ensures.value)
    (c.deref-2.ensures.value ∙ c.in_ok-uses.ensures))
    c.all_with_uses.ensures
