use Rattle.std.proofs.Common.{◌++◌, ◌∷◌, [], ◌∙◌, ap, Some, arith}
use Rattle.asm_unit.proofs.KeyedLaws.{push_fits, same_numbered}
use Rattle.asm_unit.proofs.held_list.HeldList.add.Goals as goal

pub invariant_of-self-2 : goal.invariant_of-self-2
invariant_of-self-2 c = (push_fits c.self.inside.list.pairs c.reserve-2.new.self.pairs c.push_back.new.self.pairs c.self.inside.keys.items c.reserve.new.self.items c.push_reserved.new.self.items c.in-Ok.key (record { entry = c.args.entry; span = Some c.args.span }) c.self.invariant
    c.reserve-2.ensures.pairs c.in-Ok.ensures.fresh c.in-Ok.ensures.pairs c.reserve.ensures.items c.push_reserved.ensures.items
    (omega (arith, c.requires.next, ap (λ v. v.last) c.self.view_is, c.self.invariant.some))
    (omega (arith, c.requires.room, ap (λ v. v.last) c.self.view_is, c.self.invariant.some))).keyed

pub returns : goal.returns
returns c =
    let f = push_fits c.self.inside.list.pairs c.reserve-2.new.self.pairs c.push_back.new.self.pairs c.self.inside.keys.items c.reserve.new.self.items c.push_reserved.new.self.items c.in-Ok.key (record { entry = c.args.entry; span = Some c.args.span }) c.self.invariant
    c.reserve-2.ensures.pairs c.in-Ok.ensures.fresh c.in-Ok.ensures.pairs c.reserve.ensures.items c.push_reserved.ensures.items
    (omega (arith, c.requires.next, ap (λ v. v.last) c.self.view_is, c.self.invariant.some))
    (omega (arith, c.requires.room, ap (λ v. v.last) c.self.view_is, c.self.invariant.some)) in
    same_numbered _ _ _ _ (f.values ∙ ap (λ v. v.held ++ (record { entry = c.args.entry; span = Some c.args.span }) ∷ []) c.self.view_is) (f.last ∙ c.requires.next)
