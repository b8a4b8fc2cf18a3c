use Rattle.std.proofs.Common.{◌≡◌, ◌∙◌, sym, ap, subst, length, arith}
use Rattle.pass_rules.specs.Draws.{words_of}
use Rattle.pass_drops.specs.walks.Inserting.{picked, CanInsert, Inserts}
use Rattle.pass_drops.proofs.PickLaws.{places, places_can, places_few, insert_ran}
use Rattle.pass_drops.proofs.nop_in.insert.Goals as goal

pub insert_all-requires-clause-may : goal.insert_all-requires-clause-may
insert_all-requires-clause-may c =
    let u = c.args.unit.now in
    let o = c.args.opts.now in
    let all = c.as_slice.ensures ∙ c.in_ok-code.ensures.serials in
    let these : c.as_slice-2.result.now ≡ places o c.args.f u c.requires.clear c.code_serials.ensures.unique = c.as_slice-2.ensures ∙ c.in_ok-places.ensures ∙ ap (picked o.density u.held (words_of o.seed)) all in
    subst (CanInsert c.args.f u) (sym these) (places_can o c.args.f u c.requires.clear c.code_serials.ensures.unique)

pub insert_all-requires-clause-room : goal.insert_all-requires-clause-room
insert_all-requires-clause-room c =
    let u = c.args.unit.now in
    let o = c.args.opts.now in
    let all = c.as_slice.ensures ∙ c.in_ok-code.ensures.serials in
    let these : c.as_slice-2.result.now ≡ places o c.args.f u c.requires.clear c.code_serials.ensures.unique = c.as_slice-2.ensures ∙ c.in_ok-places.ensures ∙ ap (picked o.density u.held (words_of o.seed)) all in
    omega (arith, ap length these, places_few o c.args.f u c.requires.clear c.code_serials.ensures.unique, c.requires.serials)

pub returns : goal.returns
returns c =
    let u = c.args.unit.now in
    let o = c.args.opts.now in
    let all = c.as_slice.ensures ∙ c.in_ok-code.ensures.serials in
    let these : c.in_ok-places.places ≡ places o c.args.f u c.requires.clear c.code_serials.ensures.unique = c.in_ok-places.ensures ∙ ap (picked o.density u.held (words_of o.seed)) all in
    insert_ran o c.args.f u c.requires.clear c.code_serials.ensures.unique c.insert_all.new.unit c.args.journal.now c.insert_all.new.journal (length c.as_slice-3.result.now)
    (subst (λ xs. Inserts c.args.f u c.args.journal.now xs c.insert_all.new.unit c.insert_all.new.journal) (c.as_slice-2.ensures ∙ these) c.in_ok-insert_all.ensures)
    (ap length (c.as_slice-3.ensures ∙ these))
