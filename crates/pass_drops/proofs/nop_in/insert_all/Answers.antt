use Rattle.std.proofs.Common.{subst, sym, ◌<◌, length, slice_index_or}
use Rattle.unit_edits.proofs.Replayed.{length_onto}
use Rattle.pass_drops.proofs.InsertLaws.{IsNext, nothing_inserted, next_clear, still_can, one_inserted}
use Rattle.pass_drops.proofs.nop_in.insert_all.Goals as goal

pub loop-before-init : goal.loop-before-init
loop-before-init c = record { may = c.requires.may; so_far = nothing_inserted c.args.f c.args.unit.now c.args.journal.now; part = c.requires.part }

pub insert_nop-requires-clause-clear : goal.insert_nop-requires-clause-clear
insert_nop-requires-clause-clear c = next_clear c.args.f c.loop-before.before-index 0 c.args.places.now c.loop-before.unit c.loop-before-test.true c.loop-before.invariant.may

pub loop-before-preserved : goal.loop-before-preserved
loop-before-preserved c =
    let i = c.loop-before.before-index in
    let all = c.args.places.now in
    let v = c.loop-before.unit in
    let w = c.insert_nop.new.self in
    let s = c.in_ok-serial.serial in
    let told = c.in_ok-serial.ensures in
    let b = slice_index_or all i 0 in
    let next : IsNext v w b s = record { serial = told.serial; fresh = told.fresh; held = told.held; functions = told.functions; same = told.same } in
    record {
      may = still_can c.args.f v w b s all next c.parts_grow.ensures.others c.loop-before.invariant.may;
      so_far = one_inserted c.args.f i 0 c.args.unit.now v w c.args.journal.now c.loop-before.journal c.push.new.self all s c.loop-before-test.true c.loop-before.invariant.may c.loop-before.invariant.so_far next
          c.in_ok-push.ensures.ok;
      part = subst (λ k. 0 < length k) (sym c.in_ok-push.ensures.ok) (subst (λ n. 0 < n) (sym (length_onto _ c.loop-before.journal)) c.loop-before.invariant.part);
    }
