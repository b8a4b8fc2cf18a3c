use Rattle.std.proofs.Common.{◌≡◌, ap, ◌∙◌, subst, Some}
use Rattle.std.specs.Prelude.{bytes_eq, option_copied}
use Rattle.std.specs.Bool.{OnTrue}
use Rattle.jump_tables.specs.Names.{place_of}
use Rattle.jump_tables.proofs.NameLaws.{place_at_key}
use Rattle.jump_tables.proofs.symbols.Symbols.is_at.Goals as goal

pub returns-in-Some-clause-at : goal.returns-in-Some-clause-at
returns-in-Some-clause-at c =
    subst (λ ns. OnTrue c.eq.result (place_of c.args.name.now ns ≡ Some c.args.number)) c.self.view_is
    (place_at_key (λ k. k.bytes.items) c.self.inside.set.keys c.args.number (option_copied c.get_index.result) c.in-Some.symbol.now c.args.name.now c.eq.result c.self.invariant c.get_index.ensures.key (ap option_copied c.in-Some.is) (c.eq.ensures ∙ ap (λ m. bytes_eq m c.args.name.now) c.as_slice.ensures.value))
