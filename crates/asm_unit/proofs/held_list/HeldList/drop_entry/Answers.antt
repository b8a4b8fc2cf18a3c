use Rattle.std.proofs.Common.{◌-◌, ◌∙◌, sym, ap, subst, arith, length-set}
use Rattle.std.specs.Prelude.{is_some, slice_set}
use Rattle.entry_list.specs.Listed.{values_of}
use Rattle.asm_unit.specs.Held.{entry_of, held_without}
use Rattle.asm_unit.specs.Keyed.{Keyed}
use Rattle.asm_unit.proofs.KeyLaws.{must, got, values_without}
use Rattle.asm_unit.proofs.KeyedLaws.{keyed_without, same_numbered}
use Rattle.asm_unit.proofs.held_list.HeldList.drop_entry.Goals as goal

pub key_there-key-requires : goal.key_there-key-requires
key_there-key-requires c = must c.self.inside.list.pairs c.self.inside.keys.items c.as_slice.result.now c.args.serial c.self.invariant c.as_slice.ensures.value (ap (λ v. is_some (entry_of v.held c.args.serial)) c.self.view_is ∙ c.requires)

pub unlink-gone-requires : goal.unlink-gone-requires
unlink-gone-requires c = (got c.self.inside.list.pairs c.self.inside.keys.items c.as_slice.result.now c.args.serial c.key_there-key.result c.self.invariant c.as_slice.ensures.value c.key_there-key.ensures).there

pub index_mut-requires : goal.index_mut-requires
index_mut-requires c = omega (arith, (got c.self.inside.list.pairs c.self.inside.keys.items c.as_slice.result.now c.args.serial c.key_there-key.result c.self.invariant c.as_slice.ensures.value c.key_there-key.ensures).within, c.self.inside.keys.ok.0)

pub invariant_of-self : goal.invariant_of-self
invariant_of-self c =
    subst (λ ps. Keyed ps (slice_set c.self.inside.keys.items c.args.serial 0)) (sym (ap (λ l. l.pairs) c.unlink-gone.ensures.left))
    (keyed_without c.self.inside.list.pairs c.self.inside.keys.items c.args.serial c.key_there-key.result c.self.invariant (got c.self.inside.list.pairs c.self.inside.keys.items c.as_slice.result.now c.args.serial c.key_there-key.result c.self.invariant c.as_slice.ensures.value c.key_there-key.ensures))

pub returns : goal.returns
returns c =
    same_numbered _ _ _ _
    (ap (λ l. values_of l.pairs) c.unlink-gone.ensures.left ∙ values_without c.self.inside.list.pairs c.args.serial c.key_there-key.result c.self.invariant.distinct c.self.invariant.unique (got c.self.inside.list.pairs c.self.inside.keys.items c.as_slice.result.now c.args.serial c.key_there-key.result c.self.invariant c.as_slice.ensures.value c.key_there-key.ensures).key ∙ ap (λ v. held_without c.args.serial v.held) c.self.view_is)
    (ap (λ n. n - 1) (length-set c.self.inside.keys.items c.args.serial 0) ∙ ap (λ v. v.last) c.self.view_is)
