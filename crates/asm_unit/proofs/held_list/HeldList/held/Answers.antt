use Rattle.std.proofs.Common.{◌∙◌, sym, ap, Some, None}
use Rattle.std.specs.Prelude.{find}
use Rattle.asm_unit.specs.Held.{serial_is}
use Rattle.asm_unit.proofs.KeyLaws.{told, value_is, none_there}
use Rattle.asm_unit.proofs.held_list.HeldList.held.Goals as goal

pub returns-in-Some : goal.returns-in-Some
returns-in-Some c =
    let key = told c.self.inside.list.pairs c.self.inside.keys.items c.as_slice.result.now c.args.serial c.key_in.result (Some c.in-Some.key) c.self.invariant c.as_slice.ensures.value c.key_in.ensures c.in-Some.is in
    c.get.ensures ∙ value_is c.self.inside.list.pairs c.args.serial c.in-Some.key c.self.invariant.distinct key ∙ ap (λ v. find (serial_is c.args.serial) v.held) c.self.view_is

pub returns-in-None : goal.returns-in-None
returns-in-None c =
    let key = told c.self.inside.list.pairs c.self.inside.keys.items c.as_slice.result.now c.args.serial c.key_in.result None c.self.invariant c.as_slice.ensures.value c.key_in.ensures c.in-None.is in
    sym (none_there c.self.inside.list.pairs c.args.serial key) ∙ ap (λ v. find (serial_is c.args.serial) v.held) c.self.view_is
