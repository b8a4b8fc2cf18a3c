use Rattle.std.proofs.Common.{rules, ◌≡◌}
use Rattle.pass_driver.proofs.Undrawn.{ran_undrawn}
use Rattle.pass_driver.proofs.tests.UndrawnPass.run.Goals as goal

pub returns-then-self-eq0-clause-ran : goal.returns-then-self-eq0-clause-ran
returns-then-self-eq0-clause-ran c =
    let none : c.args.self.now.opts.density ≡ 0 = search rules in
    ran_undrawn c.args.self.now.opts c.args._f c.args._unit.now c.args._journal.now none
