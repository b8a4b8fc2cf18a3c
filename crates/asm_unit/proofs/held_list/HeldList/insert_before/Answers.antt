use Rattle.std.proofs.Common.{◌∙◌, ap, sym, length, arith}
use Rattle.std.specs.Prelude.{is_some}
use Rattle.entry_list.specs.Listed.{has_key, values_of}
use Rattle.asm_unit.specs.Held.{entry_of, holds_serial, new_held, held_inserted}
use Rattle.asm_unit.proofs.KeyLaws.{must, got, none_holds}
use Rattle.asm_unit.proofs.KeyedLaws.{insert_fits, same_numbered, ungiven}
use Rattle.asm_unit.proofs.held_list.HeldList.insert_before.Goals as goal

pub key_there-key-requires : goal.key_there-key-requires
key_there-key-requires c = must c.self.inside.list.pairs c.self.inside.keys.items c.as_slice.result.now c.args.before c.self.invariant (c.as_slice.ensures.value ∙ c.reserve.ensures.items) (ap (λ v. is_some (entry_of v.held c.args.before)) c.self.view_is ∙ c.requires.there)

pub insert_before_reserved-new-requires-clause-there : goal.insert_before_reserved-new-requires-clause-there
insert_before_reserved-new-requires-clause-there c = ap (has_key c.key_there-key.result) c.reserve-2.ensures.pairs ∙ (got c.self.inside.list.pairs c.self.inside.keys.items c.as_slice.result.now c.args.before c.key_there-key.result c.self.invariant (c.as_slice.ensures.value ∙ c.reserve.ensures.items) c.key_there-key.ensures).there

pub invariant_of-self-2 : goal.invariant_of-self-2
invariant_of-self-2 c = (insert_fits c.self.inside.list.pairs c.reserve-2.new.self.pairs c.insert_before_reserved-new.new.self.pairs c.self.inside.keys.items c.reserve.new.self.items c.push_reserved.new.self.items c.args.before c.key_there-key.result c.insert_before_reserved-new.result c.len-serial.result c.args.kind c.self.invariant
    (got c.self.inside.list.pairs c.self.inside.keys.items c.as_slice.result.now c.args.before c.key_there-key.result c.self.invariant (c.as_slice.ensures.value ∙ c.reserve.ensures.items) c.key_there-key.ensures) c.reserve-2.ensures.pairs c.insert_before_reserved-new.ensures.fresh c.insert_before_reserved-new.ensures.pairs c.reserve.ensures.items c.push_reserved.ensures.items (omega (arith, c.len-serial.ensures, c.reserve.new.self.ok.0))
    (omega (arith, c.requires.room, ap (λ v. v.last) c.self.view_is, c.self.invariant.some))).keyed

pub returns : goal.returns
returns c =
    let f = insert_fits c.self.inside.list.pairs c.reserve-2.new.self.pairs c.insert_before_reserved-new.new.self.pairs c.self.inside.keys.items c.reserve.new.self.items c.push_reserved.new.self.items c.args.before c.key_there-key.result c.insert_before_reserved-new.result c.len-serial.result c.args.kind c.self.invariant
    (got c.self.inside.list.pairs c.self.inside.keys.items c.as_slice.result.now c.args.before c.key_there-key.result c.self.invariant (c.as_slice.ensures.value ∙ c.reserve.ensures.items) c.key_there-key.ensures) c.reserve-2.ensures.pairs c.insert_before_reserved-new.ensures.fresh c.insert_before_reserved-new.ensures.pairs c.reserve.ensures.items c.push_reserved.ensures.items (omega (arith, c.len-serial.ensures, c.reserve.new.self.ok.0))
    (omega (arith, c.requires.room, ap (λ v. v.last) c.self.view_is, c.self.invariant.some)) in
    record {
      serial = omega (arith, c.len-serial.ensures, c.reserve.new.self.ok.0, ap length c.reserve.ensures.items, ap (λ v. v.last) c.self.view_is, c.self.invariant.some);
      fresh = ap (λ v. holds_serial c.len-serial.result v.held) (sym c.self.view_is)
          ∙ ap (λ n. holds_serial n (values_of c.self.inside.list.pairs)) (omega (arith, c.len-serial.ensures, c.reserve.new.self.ok.0, ap length c.reserve.ensures.items))
          ∙ none_holds c.self.inside.list.pairs (length c.self.inside.keys.items) (ungiven c.self.inside.list.pairs c.self.inside.keys.items c.self.invariant);
      held = same_numbered _ _ _ _ (f.values ∙ ap (λ v. held_inserted c.args.before (new_held c.len-serial.result c.args.kind) v.held) c.self.view_is) f.last;
      refused = tt;
    }
