use Rattle.std.proofs.Common.{drop}
use Rattle.std.proofs.lemmas.List.{drop_all}
use Rattle.pass_drops.proofs.DropLaws.{one_dropped, next_can, all_journaled}
use Rattle.pass_drops.proofs.nop_kill.drop_all.Goals as goal

pub drop_entry-requires-clause-clear : goal.drop_entry-requires-clause-clear
drop_entry-requires-clause-clear c = next_can c.args.f c.loop-serial.serial-index 0 c.args.serials.now c.loop-serial.unit c.loop-serial-test.true c.loop-serial.invariant.may

pub loop-serial-preserved : goal.loop-serial-preserved
loop-serial-preserved c =
    one_dropped c.args.f c.loop-serial.serial-index 0 c.args.serials.now c.args.unit.now c.loop-serial.unit c.drop_entry.new.self c.args.journal.now c.loop-serial.journal c.push.new.self
    c.loop-serial-test.true c.loop-serial.invariant c.in_ok-push.ensures.ok c.drop_entry.ensures.left

pub returns-clause-journal : goal.returns-clause-journal
returns-clause-journal c =
    let left = drop c.loop-serial.serial-index c.args.serials.now in
    all_journaled c.args.f c.args.unit.now c.loop-serial.unit c.args.journal.now c.loop-serial.journal c.args.serials.now left c.loop-serial.invariant
    (drop_all c.loop-serial.serial-index c.args.serials.now c.loop-serial-test.false)
