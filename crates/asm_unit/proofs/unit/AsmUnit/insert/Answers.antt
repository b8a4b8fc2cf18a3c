use Rattle.std.proofs.Common.{◌≡◌, ◌∙◌, ◌++◌, ◌∷◌, ◌-◌, ℕ, suc, List, [], Option, ap, sym, subst, true, map, arith}
use Rattle.std.specs.Prelude.{slice_get, slice_index_or}
use Rattle.jump_tables.specs.Sections.{placed}
use Rattle.asm_unit.specs.declared.cause.FreezeCause.{FreezeCause}
use Rattle.asm_unit.specs.Decisions.{Decision, codes}
use Rattle.asm_unit.specs.Edits.{SameEach}
use Rattle.asm_unit.specs.UnitCodes.{codes_of}
use Rattle.asm_unit.proofs.EditCodes.{nop_inserted, align_inserted}
use Rattle.asm_unit.specs.DefinedNames.{Keeps}
use Rattle.asm_unit.specs.Functions.{functions}
use Rattle.asm_unit.specs.Grown.{part_with}
use Rattle.asm_unit.specs.Held.{Held, holds_serial, entries_of, new_held, held_inserted}
use Rattle.asm_unit.specs.Unit.{Unit, functions_of, in_clear_code, placed_new}
use Rattle.asm_unit.specs.UnitFields.{decided_from, lead_power, leads_with, owner_at, owner_between}
use Rattle.asm_unit.proofs.InsertFits.{keeps_inserted, functions_grown, clear_inserted}
use Rattle.asm_unit.proofs.InsertLaws.{decided_same}
use Rattle.asm_unit.proofs.OtherCodes.{others_inserted}
use Rattle.asm_unit.proofs.StandLaws.{clear_there}
use Rattle.asm_unit.proofs.UnitLaws.{holds_there, removable_quiet}
use Rattle.asm_unit.proofs.unit.AsmUnit.insert.Goals as goal

pub insert_before-requires-clause-there : goal.insert_before-requires-clause-there
insert_before-requires-clause-there c =
    let u = c.self.inside in
    let b = c.args.before in
    holds_there b u.held.held
    (clear_there (decided_from 0 u.functions.items u.tables u.table_owners.items) b u.held.held
    (ap (λ v. in_clear_code v.decided (functions_of v) b) c.self.view_is ∙ c.requires.clear))

pub invariant_of-self-2 : goal.invariant_of-self-2
invariant_of-self-2 c =
    let u = c.self.inside in
    let hs = u.held.held in
    let kept = u.functions.items in
    let os = u.owners.items in
    let b = c.args.before in
    let k = c.args.kind in
    let n = c.in_ok-serial.serial in
    let clear : in_clear_code (decided_from 0 kept u.tables u.table_owners.items) (functions (placed (entries_of hs))) b ≡ true = ap (λ v. in_clear_code v.decided (functions_of v) b) c.self.view_is ∙ c.requires.clear in
    let next : n ≡ suc u.held.last = omega (arith, c.in_ok-serial.ensures.serial) in
    let grown = keeps_inserted hs u.held.last kept os u.tables u.table_owners.items u.names b k c.self.invariant clear c.requires.kind n next c.in_ok-serial.ensures.fresh in
    let owner : c.owner_of-owner.result ≡ owner_at os b = c.owner_of-owner.ensures ∙ ap (λ xs. slice_index_or xs (b - 1) 0) (c.as_slice.ensures.value ∙ c.reserve.ensures.items) in
    let leads : c.lead_on.new.functions.items ≡ leads_with 0 (owner_at os b) b (lead_power k) kept =
    c.lead_on.ensures ∙ ap (λ o. leads_with 0 o b c.lead_power-power.result kept) owner ∙ ap (λ p. leads_with 0 (owner_at os b) b p kept) c.lead_power-power.ensures
    in
    let pushed : c.push_reserved.new.self.items ≡ os ++ owner_between hs os b ∷ [] =
    c.push_reserved.ensures.items ∙ ap (λ xs. xs ++ c.owner_between-between.result ∷ []) c.reserve.ensures.items
    ∙ ap (λ o. os ++ o ∷ []) (c.owner_between-between.ensures ∙ ap (λ xs. owner_between hs xs b) (c.as_slice-2.ensures.value ∙ c.reserve.ensures.items))
    in
    subst (λ l. Keeps l.held l.last c.lead_on.new.functions.items c.push_reserved.new.self.items u.tables u.table_owners.items u.names) (sym c.in_ok-serial.ensures.held)
    (subst (λ ds. Keeps (held_inserted b (new_held n k) hs) n ds c.push_reserved.new.self.items u.tables u.table_owners.items u.names) (sym leads)
    (subst (λ xs. Keeps (held_inserted b (new_held n k) hs) n (leads_with 0 (owner_at os b) b (lead_power k) kept) xs u.tables u.table_owners.items u.names) (sym pushed) grown))

abbrev unit_of : List Held → List Decision → Option FreezeCause → ℕ → Unit
unit_of hs ds f n = record { held = hs; decided = ds; file = f; last = n }

pub returns-clause-held : goal.returns-clause-held
returns-clause-held c =
    let u = c.self.inside in
    let b = c.args.before in
    let k = c.args.kind in
    let n = c.in_ok-serial.serial in
    let ts = u.tables in
    let us = u.table_owners.items in
    ap (λ l. unit_of l.held (decided_from 0 c.lead_on.new.functions.items ts us) u.file l.last) c.in_ok-serial.ensures.held
    ∙ ap (λ ds. unit_of (held_inserted b (new_held n k) u.held.held) ds u.file n)
    (ap (λ ds. decided_from 0 ds ts us) c.lead_on.ensures ∙ decided_same c.owner_of-owner.result b c.lead_power-power.result 0 u.functions.items ts us)
    ∙ ap (λ v. unit_of (held_inserted b (new_held n k) v.held) v.decided v.file n) c.self.view_is

pub returns-clause-functions : goal.returns-clause-functions
returns-clause-functions c =
    let u = c.self.inside in
    let hs = u.held.held in
    let kept = u.functions.items in
    let b = c.args.before in
    let k = c.args.kind in
    let n = c.in_ok-serial.serial in
    let clear : in_clear_code (decided_from 0 kept u.tables u.table_owners.items) (functions (placed (entries_of hs))) b ≡ true = ap (λ v. in_clear_code v.decided (functions_of v) b) c.self.view_is ∙ c.requires.clear in
    let next : n ≡ suc u.held.last = omega (arith, c.in_ok-serial.ensures.serial) in
    ap (λ l. functions (placed (entries_of l.held))) c.in_ok-serial.ensures.held
    ∙ functions_grown hs u.held.last kept u.owners.items u.tables u.table_owners.items u.names b k c.self.invariant clear c.requires.kind n next c.in_ok-serial.ensures.fresh
    ∙ ap (λ v. map (part_with b (placed_new b n k v)) (functions_of v)) c.self.view_is

pub returns-clause-codes : goal.returns-clause-codes
returns-clause-codes c = λ other d.
    let u = c.self.inside in
    let hs = u.held.held in
    let kept = u.functions.items in
    let b = c.args.before in
    let k = c.args.kind in
    let n = c.in_ok-serial.serial in
    let ts = u.tables in
    let us = u.table_owners.items in
    let clear : in_clear_code (decided_from 0 kept ts us) (functions (placed (entries_of hs))) b ≡ true = ap (λ v. in_clear_code v.decided (functions_of v) b) c.self.view_is ∙ c.requires.clear in
    let next : n ≡ suc u.held.last = omega (arith, c.in_ok-serial.ensures.serial) in
    ap (λ l. in_clear_code (decided_from 0 c.lead_on.new.functions.items ts us) (functions (placed (entries_of l.held))) other) c.in_ok-serial.ensures.held
    ∙ ap (λ ds. in_clear_code ds (functions (placed (entries_of (held_inserted b (new_held n k) hs)))) other)
    (ap (λ ds. decided_from 0 ds ts us) c.lead_on.ensures ∙ decided_same c.owner_of-owner.result b c.lead_power-power.result 0 kept ts us)
    ∙ clear_inserted hs u.held.last kept u.owners.items ts us u.names b k c.self.invariant clear c.requires.kind n next c.in_ok-serial.ensures.fresh (decided_from 0 kept ts us) other d
    ∙ ap (λ v. in_clear_code v.decided (functions_of v) other) c.self.view_is

pub returns-clause-fresh : goal.returns-clause-fresh
returns-clause-fresh c = ap (λ v. holds_serial c.in_ok-serial.serial v.held) (sym c.self.view_is) ∙ c.in_ok-serial.ensures.fresh

pub returns-clause-nop : goal.returns-clause-nop
returns-clause-nop c = λ nop.
    let u = c.self.inside in
    let hs = u.held.held in
    let kept = u.functions.items in
    let b = c.args.before in
    let k = c.args.kind in
    let n = c.in_ok-serial.serial in
    let ts = u.tables in
    let us = u.table_owners.items in
    let ds = decided_from 0 kept ts us in
    let after =
    ap (λ l. codes (decided_from 0 c.lead_on.new.functions.items ts us) (entries_of l.held)) c.in_ok-serial.ensures.held
    ∙ ap (λ xs. codes xs (entries_of (held_inserted b (new_held n k) hs)))
    (ap (λ xs. decided_from 0 xs ts us) c.lead_on.ensures ∙ decided_same c.owner_of-owner.result b c.lead_power-power.result 0 kept ts us)
    in
    subst (λ cs. SameEach (codes_of c.args.self.now) cs) (sym after)
    (subst (λ cs. SameEach cs (codes ds (entries_of (held_inserted b (new_held n k) hs)))) (ap codes_of c.self.view_is) (nop_inserted ds hs b n k c.in_ok-serial.ensures.fresh nop))

pub returns-clause-alignment : goal.returns-clause-alignment
returns-clause-alignment c = λ align.
    let u = c.self.inside in
    let hs = u.held.held in
    let kept = u.functions.items in
    let b = c.args.before in
    let k = c.args.kind in
    let n = c.in_ok-serial.serial in
    let ts = u.tables in
    let us = u.table_owners.items in
    ap (λ l. codes (decided_from 0 c.lead_on.new.functions.items ts us) (entries_of l.held)) c.in_ok-serial.ensures.held
    ∙ ap (λ xs. codes xs (entries_of (held_inserted b (new_held n k) hs)))
    (ap (λ xs. decided_from 0 xs ts us) c.lead_on.ensures ∙ decided_same c.owner_of-owner.result b c.lead_power-power.result 0 kept ts us)
    ∙ align_inserted (decided_from 0 kept ts us) hs b n k c.in_ok-serial.ensures.fresh align
    ∙ ap codes_of c.self.view_is

pub returns-clause-rest : goal.returns-clause-rest
returns-clause-rest c = λ i f code stands other apart.
    let u = c.self.inside in
    let hs = u.held.held in
    let kept = u.functions.items in
    let b = c.args.before in
    let k = c.args.kind in
    let n = c.in_ok-serial.serial in
    let ts = u.tables in
    let us = u.table_owners.items in
    ap (λ l. slice_get (codes (decided_from 0 c.lead_on.new.functions.items ts us) (entries_of l.held)) other) c.in_ok-serial.ensures.held
    ∙ ap (λ xs. slice_get (codes xs (entries_of (held_inserted b (new_held n k) hs))) other)
    (ap (λ xs. decided_from 0 xs ts us) c.lead_on.ensures ∙ decided_same c.owner_of-owner.result b c.lead_power-power.result 0 kept ts us)
    ∙ others_inserted (decided_from 0 kept ts us) hs b n k c.self.invariant.fits.unique (removable_quiet k c.requires.kind) c.in_ok-serial.ensures.fresh i f (ap (λ v. slice_get (functions_of v) i) c.self.view_is ∙ stands.function) stands.among other apart
    ∙ ap (λ v. slice_get (codes_of v) other) c.self.view_is
