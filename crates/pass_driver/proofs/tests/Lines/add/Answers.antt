use Rattle.std.proofs.Common.{rules, ◌≡◌, ◌+◌, length, subst, sym, arith}
use Rattle.asm_unit.specs.Held.{AreNumbered}
use Rattle.asm_unit.proofs.Numbered.{numbered_more}
use Rattle.pass_driver.proofs.tests.Lines.add.Goals as goal

pub returns-clause-numbered : goal.returns-clause-numbered
returns-clause-numbered c =
    subst (AreNumbered 0) (sym c.in_ok-push.ensures.items)
    (numbered_more 0 c.args.self.now.entries.items (record { serial = c.len.result + 1; kind = c.args.kind }) c.requires.numbered (let l : c.len.result ≡ length c.args.self.now.entries.items = search rules in omega (arith, l)))
