use Rattle.std.proofs.Common.{rules, ◌-◌, ◌/◌, ◌<◌, ◌≤◌, ◌^◌, length}
use Rattle.pass_driver.proofs.Entries.{entries_counted, serials_free}
use Rattle.pass_driver.proofs.check_serials.Goals as goal

pub returns-then-entries-left : goal.returns-then-entries-left
returns-then-entries-left c =
    let counted : length c.args.unit.now.held ≤ c.len-entries.result =
    entries_counted c.nodes.result.now _ c.args.unit.now.held c.len-entries.result c.len-entries.ensures c.list.ensures c.nodes.ensures.nodes c.nodes.ensures.distinct in
    let last : c.args.unit.now.last < 2 ^ 32 = search rules in
    let free : c.len-entries.result ≤ (2 ^ 32 - 1 - c.args.unit.now.last) / 31 = search rules in
    serials_free (length c.args.unit.now.held) c.len-entries.result c.args.unit.now.last counted last free
