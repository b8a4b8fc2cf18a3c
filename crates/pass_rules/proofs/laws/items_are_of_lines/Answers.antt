use Rattle.pass_rules.proofs.ItemLaws.{items_are_of_lines}
use Rattle.pass_rules.proofs.laws.items_are_of_lines.Goals as goal

pub returns : goal.returns
returns c d body = items_are_of_lines body
