use Rattle.std.proofs.Common.{◌≡◌, ◌-◌, length, map, true, ap, subst}
use Rattle.std.specs.Prelude.{option_copied}
use Rattle.std.specs.Bool.{OnTrue}
use Rattle.jump_tables.specs.Names.{has}
use Rattle.jump_tables.proofs.NameLaws.{place_at_key, there_at}
use Rattle.jump_tables.proofs.borrowed_symbols.BorrowedSymbols.is_last.Goals as goal

pub returns-in-Some : goal.returns-in-Some
returns-in-Some c =
    let keys = c.self.inside.set.keys in
    let n = c.args.name.now in
    subst (λ ns. OnTrue c.eq.result (has n ns ≡ true)) c.self.view_is
    (there_at n (map (λ k. k.bytes.now) keys) (length keys - 1) c.eq.result
    (place_at_key (λ k. k.bytes.now) keys (length keys - 1) (option_copied c.last.result) c.in-Some.symbol.now n c.eq.result c.self.invariant c.last.ensures.key (ap option_copied c.in-Some.is) c.eq.ensures))
