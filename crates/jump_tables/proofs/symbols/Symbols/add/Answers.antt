use Rattle.std.proofs.Common.{◌≡◌, map, subst, ap, ◌∙◌, sym}
use Rattle.jump_tables.specs.Names.{with_name, place_of, AreDistinct}
use Rattle.jump_tables.proofs.NameLaws.{keys_with, distinct_with, place_with, there_stays}
use Rattle.jump_tables.proofs.symbols.Symbols.add.Goals as goal

keys : (c : goal.In_ok-number) → map (λ k. k.bytes.items) c.insert_full.new.self.keys ≡ with_name (map (λ k. k.bytes.items) c.self.inside.set.keys) c.args.name.now
keys c = keys_with (λ k. k.bytes.items) c.self.inside.set.keys c.insert_full.new.self.keys c.in_ok-owned.field-0 c.args.name.now c.in_ok-owned.ensures c.in_ok-number.ensures.keys

pub invariant_of-self-2 : goal.invariant_of-self-2
invariant_of-self-2 c = subst AreDistinct (sym (keys c)) (distinct_with c.args.name.now (map (λ k. k.bytes.items) c.self.inside.set.keys) c.self.invariant)

pub returns-clause-added : goal.returns-clause-added
returns-clause-added c = keys c ∙ ap (λ ns. with_name ns c.args.name.now) c.self.view_is

pub returns-clause-number : goal.returns-clause-number
returns-clause-number c =
    ap (place_of c.args.name.now) (keys c) ∙ place_with (λ k. k.bytes.items) c.self.inside.set.keys c.in_ok-owned.field-0 c.args.name.now c.in_ok-number.number c.in_ok-owned.ensures c.in_ok-number.ensures.index

pub returns-in-Some-clause-added : goal.returns-in-Some-clause-added
returns-in-Some-clause-added c = there_stays c.args.name.now c.args.self.now c.in-Some.number (sym c.number_of.ensures.found ∙ c.in-Some.is)
