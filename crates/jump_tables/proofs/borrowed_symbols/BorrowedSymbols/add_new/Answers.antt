use Rattle.std.proofs.Common.{◌≡◌, not, map, subst, sym, refl, ap, ◌∙◌}
use Rattle.jump_tables.specs.Names.{has, with_name, AreDistinct}
use Rattle.jump_tables.proofs.NameLaws.{any_is, keys_with, distinct_with}
use Rattle.jump_tables.proofs.borrowed_symbols.BorrowedSymbols.add_new.Goals as goal

keys : (c : goal.In_ok-is_new) → map (λ k. k.bytes.now) c.insert_full.new.self.keys ≡ with_name (map (λ k. k.bytes.now) c.self.inside.set.keys) c.args.name.now
keys c = keys_with (λ k. k.bytes.now) c.self.inside.set.keys c.insert_full.new.self.keys (record { bytes = c.args.name }) c.args.name.now refl c.in_ok-is_new.ensures.keys

pub invariant_of-self-2 : goal.invariant_of-self-2
invariant_of-self-2 c = subst AreDistinct (sym (keys c)) (distinct_with c.args.name.now (map (λ k. k.bytes.now) c.self.inside.set.keys) c.self.invariant)

pub returns-clause-added : goal.returns-clause-added
returns-clause-added c = keys c ∙ ap (λ ns. with_name ns c.args.name.now) c.self.view_is

pub returns-clause-new : goal.returns-clause-new
returns-clause-new c =
    c.in_ok-is_new.ensures.added
    ∙ ap not (any_is (λ k. k.bytes.now) c.args.name.now c.self.inside.set.keys
    ∙ ap (has c.args.name.now) c.self.view_is)
