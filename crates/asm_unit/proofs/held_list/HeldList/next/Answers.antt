use Rattle.std.proofs.Common.{◌∙◌, sym, ap, Some, None}
use Rattle.asm_unit.specs.Held.{next_of}
use Rattle.asm_unit.proofs.KeyLaws.{told, key_there, next_is, next_none, serial_under}
use Rattle.asm_unit.proofs.held_list.HeldList.next.Goals as goal

pub returns-in_default : goal.returns-in_default
returns-in_default c =
    let key = told c.self.inside.list.pairs c.self.inside.keys.items c.as_slice.result.now c.args.serial c.key_in.result None c.self.invariant c.as_slice.ensures.value c.key_in.ensures c.in_default.is in
    sym (next_none c.self.inside.list.pairs c.args.serial key) ∙ ap (λ v. next_of v.held c.args.serial) c.self.view_is

pub next-requires : goal.next-requires
next-requires c =
    let key = told c.self.inside.list.pairs c.self.inside.keys.items c.as_slice.result.now c.args.serial c.key_in.result (Some c.in-Some.key) c.self.invariant c.as_slice.ensures.value c.key_in.ensures c.in-Some.is in
    key_there c.self.inside.list.pairs c.args.serial c.in-Some.key key

pub returns-in-Some-next : goal.returns-in-Some-next
returns-in-Some-next c =
    let key = told c.self.inside.list.pairs c.self.inside.keys.items c.as_slice.result.now c.args.serial c.key_in.result (Some c.in-Some.key) c.self.invariant c.as_slice.ensures.value c.key_in.ensures c.in-Some.is in
    c.serial_at.ensures ∙ ap (serial_under c.self.inside.list.pairs) (sym c.in-Some-next.is ∙ c.next.ensures)
    ∙ next_is c.self.inside.list.pairs c.args.serial c.in-Some.key c.self.invariant.distinct key ∙ ap (λ v. next_of v.held c.args.serial) c.self.view_is

pub returns-in-None : goal.returns-in-None
returns-in-None c =
    let key = told c.self.inside.list.pairs c.self.inside.keys.items c.as_slice.result.now c.args.serial c.key_in.result (Some c.in-Some.key) c.self.invariant c.as_slice.ensures.value c.key_in.ensures c.in-Some.is in
    ap (serial_under c.self.inside.list.pairs) (sym c.in-None.is ∙ c.next.ensures)
    ∙ next_is c.self.inside.list.pairs c.args.serial c.in-Some.key c.self.invariant.distinct key ∙ ap (λ v. next_of v.held c.args.serial) c.self.view_is
