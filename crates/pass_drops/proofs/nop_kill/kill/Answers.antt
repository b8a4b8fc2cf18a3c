use Rattle.std.proofs.Common.{◌≡◌, ◌∙◌, sym, ap, subst, filter, length}
use Rattle.unit_edits.specs.Journal.{onto_last}
use Rattle.pass_drops.specs.walks.Dropping.{goes_at, all_dropped, removes, CanDrop}
use Rattle.pass_drops.proofs.KillLaws.{gone, gone_can, kill_ran}
use Rattle.pass_drops.proofs.nop_kill.kill.Goals as goal

pub drop_all-requires-clause-may : goal.drop_all-requires-clause-may
drop_all-requires-clause-may c =
    let u = c.args.unit.now in
    let o = c.args.opts.now in
    let all = c.as_slice.ensures ∙ c.in_ok-code.ensures.serials in
    let these : c.as_slice-2.result.now ≡ gone o c.args.f u c.requires.clear c.code_serials.ensures.unique = c.as_slice-2.ensures ∙ c.in_ok-gone.ensures ∙ ap (filter (goes_at o.align u.held)) all in
    subst (CanDrop c.args.f u) (sym these) (gone_can o c.args.f u c.requires.clear c.code_serials.ensures.unique)

pub returns : goal.returns
returns c =
    let u = c.args.unit.now in
    let o = c.args.opts.now in
    let j = c.args.journal.now in
    let all = c.as_slice.ensures ∙ c.in_ok-code.ensures.serials in
    let these = c.in_ok-gone.ensures ∙ ap (filter (goes_at o.align u.held)) all in
    kill_ran o c.args.f u c.requires.clear c.code_serials.ensures.unique c.drop_all.new.unit j c.drop_all.new.journal (length c.as_slice-3.result.now)
    (c.in_ok-drop_all.ensures.dropped ∙ ap (λ ss. all_dropped ss u) (c.as_slice-2.ensures ∙ these))
    (c.in_ok-drop_all.ensures.journal ∙ ap (λ ss. onto_last (removes ss) j) (c.as_slice-2.ensures ∙ these))
    (ap length (c.as_slice-3.ensures ∙ these))
