use Rattle.std.proofs.Common.{◌∙◌, sym, rules, tests}
use Rattle.std.proofs.lemmas.Iterator.{YieldsList-from_slice}
use Rattle.std.proofs.lemmas.Iterator.Search.{all_from_yields_List}
use Rattle.jump_tables.specs.Tables.{is_symbol}
use Rattle.jump_tables.proofs.StartLaws.{not_empty}
use Rattle.jump_tables.proofs.find.are_symbols.Goals as goal

pub returns-then-not-is_empty : goal.returns-then-not-is_empty
returns-then-not-is_empty c =
    not_empty c.args.cells.now c.all.result (sym c.is_empty.ensures ∙ c.if-not-is_empty.true)
    (all_from_yields_List is_symbol _ _ c.all.result c.all.ensures.ran (YieldsList-from_slice c.args.cells.now cc) (λ x b q k. search (rules, tests)))
