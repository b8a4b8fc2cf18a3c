-- Layouts of small functions.
use Rattle.std.proofs.Common.{◌≡◌, ℕ, true, [], ◌∷◌, ◌++◌, replicate, Some, None, refl}
use Rattle.std.specs.Prelude.{codes, pos}
use Rattle.insn_ir.specs.declared.entry.DirectiveKind.{DirectiveKind}
use Rattle.insn_ir.specs.declared.entry.EntryKind.{EntryKind}
use Rattle.insn_ir.specs.declared.insn.Base.{Base}
use Rattle.insn_ir.specs.declared.insn.Disp.{Disp}
use Rattle.insn_ir.specs.declared.op.Op.{Op}
use Rattle.insn_ir.specs.declared.op.Reg.TheVariants.{Rax, Rsi, Rdi}
use Rattle.insn_ir.specs.declared.op.Width.{Width}
use Rattle.insn_ir.specs.declared.op.Width.TheVariants.{L, Q}
use Rattle.blocks_cfg.proofs.Codes.{reg, num, mem}
use Rattle.relaxer.specs.declared.item.Item.TheVariants.{Fixed, Short}
use Rattle.relaxer.proofs.Rounds.{layout_by, layout_at_once}
use Rattle.asm_unit.specs.Functions.{parts_from}
use Rattle.asm_unit.specs.Unit.{Unit}
use Rattle.unit_edits.specs.Bodies.{body_of}
use Rattle.pass_rules.specs.Layouts.{HasOffset, layout_items}
use Rattle.pass_rules.proofs.Small.{unit_of, two, ret, nop, jmp, label}

-- `movq %fs:40, %rax / subl $1, %edi / movzbl %sil, %eax / jmp g / ret`, behind `f:` and the rest of its line, and before `.size`:
-- a jump to a name that the file doesn't define is near
abbrev sized : Unit
sized =
    unit_of
    (two Op.Mov Q (mem (record { disp = Disp.Num (pos 40); fs = true; base = Base.Absent; index = None; scale = 1 })) (reg Rax) ∷ two Op.Sub L (num 1) (reg Rdi) ∷ two (Op.Movz Width.B) L (reg Rsi) (reg Rax) ∷ jmp (codes "g") ∷ ret ∷ [])

sizes_are : layout_items (body_of sized 0) ≡ Fixed 0 ∷ Fixed 0 ∷ Fixed 9 ∷ Fixed 3 ∷ Fixed 4 ∷ Fixed 5 ∷ Fixed 1 ∷ Fixed 0 ∷ []
unfolding parts_from
sizes_are = refl

-- `ret / .p2align 4,,10 / nop / ret`: 15 bytes would be wanted, so none are skipped
abbrev within_10 : Unit
within_10 = unit_of (ret ∷ EntryKind.Directive (DirectiveKind.Align 4 None (Some 10)) ∷ nop ∷ ret ∷ [])

not_skipped : HasOffset (body_of within_10 0) 8 1
unfolding parts_from
not_skipped = record { rounds = 0; layout = layout_at_once (layout_items (body_of within_10 0)) refl; at = refl }

-- `jmp .L1 / N nops / .L1: / ret`
abbrev over_nops : ℕ → Unit
over_nops n = unit_of (jmp (codes ".L1") ∷ replicate n nop ++ label (codes ".L1") ∷ EntryKind.Blank ∷ ret ∷ [])

-- the target's entry is the third behind the nops
jump_is_short : layout_items (body_of (over_nops 2) 0) ≡ Fixed 0 ∷ Fixed 0 ∷ Short 2 5 5 ∷ Fixed 1 ∷ Fixed 1 ∷ Fixed 0 ∷ Fixed 0 ∷ Fixed 1 ∷ Fixed 0 ∷ []
unfolding parts_from
jump_is_short = refl

-- over 127 it stays short, and over 128 it grows in the next round
label_at_129 : HasOffset (body_of (over_nops 127) 0) 134 129
unfolding parts_from
label_at_129 = record { rounds = 0; layout = layout_at_once (layout_items (body_of (over_nops 127) 0)) refl; at = refl }

label_at_133 : HasOffset (body_of (over_nops 128) 0) 135 133
unfolding parts_from
label_at_133 = record { rounds = 1; layout = layout_by (layout_items (body_of (over_nops 128) 0)) 0 refl refl; at = refl }

-- `jmp .L1 / 125 nops / jmp .L2 / .L1: / 200 nops / .L2: / ret`: the second jump grows first, and by that the first
abbrev one_by_one : Unit
one_by_one =
    unit_of
    (jmp (codes ".L1") ∷ replicate 125 nop ++ jmp (codes ".L2") ∷ label (codes ".L1") ∷ EntryKind.Blank ∷ replicate 200 nop ++ label (codes ".L2") ∷ EntryKind.Blank ∷ ret ∷ [])

second_jump_at_130 : HasOffset (body_of one_by_one 0) 132 130
unfolding parts_from
second_jump_at_130 = record { rounds = 2; layout = layout_by (layout_items (body_of one_by_one 0)) 1 refl refl; at = refl }

return_at_335 : HasOffset (body_of one_by_one 0) 337 335
unfolding parts_from
return_at_335 = record { rounds = 2; layout = layout_by (layout_items (body_of one_by_one 0)) 1 refl refl; at = refl }
