use Rattle.std.proofs.Common.{ap, ◌∙◌}
use Rattle.jump_tables.specs.Names.{place_of}
use Rattle.jump_tables.proofs.NameLaws.{position_is, place_found}
use Rattle.jump_tables.proofs.symbols.Symbols.number_of.Goals as goal

pub returns-clause-found : goal.returns-clause-found
returns-clause-found c =
    c.get_index_of.ensures.index
    ∙ position_is (λ k. k.bytes.items) c.args.name.now c.self.inside.set.keys
    ∙ ap (place_of c.args.name.now) c.self.view_is

pub returns-clause-within : goal.returns-clause-within
returns-clause-within c =
    place_found c.args.name.now c.args.self.now c.get_index_of.result (returns-clause-found c)
