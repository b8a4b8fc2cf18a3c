use Rattle.std.proofs.Common.{ap, ◌∙◌, sym, true, set}
use Rattle.std.proofs.lemmas.Result.{on_ok_weaker}
use Rattle.jump_tables.specs.Names.{place_of}
use Rattle.jump_tables.specs.Collected.{with_user}
use Rattle.jump_tables.proofs.EachLaws.{each_at, each_absent}
use Rattle.jump_tables.proofs.collect.note_user.Goals as goal

pub returns-in-Some : goal.returns-in-Some
returns-in-Some c =
    on_ok_weaker c.note_user.result (λ h. ap (set c.args.uses.now c.in-Some.place) h
    ∙ sym (each_at c.args.table.now (with_user true c.args.serial) c.args.labels.now c.args.uses.now c.in-Some.place c.index-uses-place.result
    (ap (λ n. place_of n c.args.labels.now) (sym c.as_slice.ensures) ∙ sym c.number_of.ensures.found ∙ c.in-Some.is)
    c.number_of.ensures.distinct c.requires)) c.note_user.ensures

pub returns-in-None : goal.returns-in-None
returns-in-None c =
    sym (each_absent c.args.table.now (with_user true c.args.serial) c.args.labels.now c.args.uses.now (ap (λ n. place_of n c.args.labels.now) (sym c.as_slice.ensures) ∙ sym c.number_of.ensures.found ∙ c.in-None.is))
