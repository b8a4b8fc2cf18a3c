use Rattle.std.proofs.Common.{ap, ◌∙◌}
use Rattle.std.specs.Prelude.{is_some}
use Rattle.jump_tables.proofs.NameLaws.{some_place}
use Rattle.jump_tables.proofs.borrowed_symbols.BorrowedSymbols.has_late.Goals as goal

pub returns-else-is_last : goal.returns-else-is_last
returns-else-is_last c = c.is_some.ensures ∙ ap is_some c.number_of.ensures.found ∙ some_place c.args.name.now c.args.self.now
