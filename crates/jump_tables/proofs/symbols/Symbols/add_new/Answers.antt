use Rattle.std.proofs.Common.{◌≡◌, not, map, subst, sym, ap, ◌∙◌}
use Rattle.std.specs.Prelude.{bytes_eq}
use Rattle.std.specs.List.{list_any}
use Rattle.jump_tables.specs.Names.{has, with_name, AreDistinct}
use Rattle.jump_tables.proofs.NameLaws.{any_is, keys_with, distinct_with}
use Rattle.jump_tables.proofs.symbols.Symbols.add_new.Goals as goal

keys : (c : goal.In_ok-is_new) → map (λ k. k.bytes.items) c.insert_full.new.self.keys ≡ with_name (map (λ k. k.bytes.items) c.self.inside.set.keys) c.args.name.now
keys c = keys_with (λ k. k.bytes.items) c.self.inside.set.keys c.insert_full.new.self.keys c.in_ok-owned.field-0 c.args.name.now c.in_ok-owned.ensures c.in_ok-is_new.ensures.keys

pub invariant_of-self-2 : goal.invariant_of-self-2
invariant_of-self-2 c = subst AreDistinct (sym (keys c)) (distinct_with c.args.name.now (map (λ k. k.bytes.items) c.self.inside.set.keys) c.self.invariant)

pub returns-clause-added : goal.returns-clause-added
returns-clause-added c = keys c ∙ ap (λ ns. with_name ns c.args.name.now) c.self.view_is

pub returns-clause-new : goal.returns-clause-new
returns-clause-new c =
    let ks = c.self.inside.set.keys in
    c.in_ok-is_new.ensures.added
    ∙ ap not (ap (λ m. list_any (λ k. bytes_eq m k.bytes.items) ks) c.in_ok-owned.ensures
    ∙ any_is (λ k. k.bytes.items) c.args.name.now ks
    ∙ ap (has c.args.name.now) c.self.view_is)
