-- Items and stretches of the entries of small functions, computed.
use Rattle.std.proofs.Common.{◌≡◌, true, false, [], ◌∷◌, map, refl}
use Rattle.std.specs.Prelude.{codes}
use Rattle.insn_ir.specs.declared.entry.DirectiveKind.{DirectiveKind}
use Rattle.insn_ir.specs.declared.entry.EntryKind.{EntryKind}
use Rattle.insn_ir.specs.declared.op.Op.{Op}
use Rattle.insn_ir.specs.declared.op.Reg.TheVariants.{Rax, Rsi}
use Rattle.insn_ir.specs.declared.op.Width.TheVariants.{L, Q}
use Rattle.insn_ir.specs.Code.{One}
use Rattle.blocks_cfg.specs.Stretch.{Item, Cuts, Stands, Rests}
use Rattle.blocks_cfg.proofs.Codes.{reg, with_none, with_two}
use Rattle.jump_tables.specs.Sections.{text}
use Rattle.asm_unit.specs.Functions.{parts_from}
use Rattle.asm_unit.specs.Unit.{Unit}
use Rattle.unit_edits.specs.Bodies.{body_of}
use Rattle.pass_rules.specs.Sites.{stretch_in}
use Rattle.pass_rules.specs.Stretches.{items_of}
use Rattle.pass_rules.proofs.Small.{two, ret, label, align, section, unit_of}

abbrev add : EntryKind
add = two Op.Add L (reg Rsi) (reg Rax)

abbrev adds : Item
adds = Stands (One (with_two Op.Add L (reg Rsi) (reg Rax)))

abbrev returns : Item
returns = Stands (One (with_none Op.Ret Q))

-- `addl / .text / addl / .section .rodata / .L1: / .text / addl / .p2align 3 / addl / .cfi_.. / addl / .loc / ret`, behind `f:` and
-- the rest of its line, and before `.size`
abbrev mixed : Unit
mixed =
    unit_of
    (add ∷ section text.name true ∷ add ∷ section (codes ".rodata") false ∷ label (codes ".L1") ∷ section text.name true ∷ add ∷ align 3 ∷ add ∷ EntryKind.Directive DirectiveKind.Cfi ∷ add ∷ EntryKind.Directive DirectiveKind.Inert ∷ ret ∷ [])

-- `.text` inside `.text` rests, and what leaves `.text` cuts
mixed_items : items_of (body_of mixed 0)
    ≡ Cuts ∷ Rests ∷ adds ∷ Rests ∷ adds ∷ Cuts ∷ Cuts ∷ Rests ∷ adds ∷ Cuts ∷ adds ∷ Cuts ∷ adds ∷ Rests ∷ returns ∷ Rests ∷ []
unfolding parts_from
mixed_items = refl

-- the stretches of its six places
mixed_stretches : map (stretch_in mixed 0) (0 ∷ 1 ∷ 2 ∷ 3 ∷ 4 ∷ 5 ∷ []) ≡ 1 ∷ 1 ∷ 3 ∷ 4 ∷ 5 ∷ 5 ∷ []
unfolding parts_from
mixed_stretches = refl
