use Rattle.std.proofs.Common.{◌∙◌, sym, ap, subst}
use Rattle.std.specs.Prelude.{is_some}
use Rattle.entry_list.specs.Listed.{values_of}
use Rattle.asm_unit.specs.Held.{entry_of, held_put}
use Rattle.asm_unit.specs.Keyed.{Keyed}
use Rattle.asm_unit.proofs.KeyLaws.{must, got, values_replaced}
use Rattle.asm_unit.proofs.KeyedLaws.{keyed_put, same_numbered}
use Rattle.asm_unit.proofs.held_list.HeldList.put.Goals as goal

pub key_there-key-requires : goal.key_there-key-requires
key_there-key-requires c = must c.self.inside.list.pairs c.self.inside.keys.items c.as_slice.result.now c.args.serial c.self.invariant c.as_slice.ensures.value (ap (λ v. is_some (entry_of v.held c.args.serial)) c.self.view_is ∙ c.requires)

pub replace-gone-requires : goal.replace-gone-requires
replace-gone-requires c = (got c.self.inside.list.pairs c.self.inside.keys.items c.as_slice.result.now c.args.serial c.key_there-key.result c.self.invariant c.as_slice.ensures.value c.key_there-key.ensures).there

pub invariant_of-self : goal.invariant_of-self
invariant_of-self c =
    subst (λ ps. Keyed ps c.self.inside.keys.items) (sym (ap (λ l. l.pairs) c.replace-gone.ensures.left))
    (keyed_put c.self.inside.list.pairs c.self.inside.keys.items c.args.serial c.key_there-key.result c.args.kind c.self.invariant (got c.self.inside.list.pairs c.self.inside.keys.items c.as_slice.result.now c.args.serial c.key_there-key.result c.self.invariant c.as_slice.ensures.value c.key_there-key.ensures))

pub returns : goal.returns
returns c =
    same_numbered _ _ _ _
    (ap (λ l. values_of l.pairs) c.replace-gone.ensures.left ∙ values_replaced c.self.inside.list.pairs c.args.serial c.key_there-key.result c.args.kind c.self.invariant.distinct c.self.invariant.unique (got c.self.inside.list.pairs c.self.inside.keys.items c.as_slice.result.now c.args.serial c.key_there-key.result c.self.invariant c.as_slice.ensures.value c.key_there-key.ensures).key ∙ ap (λ v. held_put c.args.serial c.args.kind v.held) c.self.view_is)
    (ap (λ v. v.last) c.self.view_is)
