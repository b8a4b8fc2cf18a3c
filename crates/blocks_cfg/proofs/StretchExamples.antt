-- Stretches of small codes, computed.
use Rattle.std.proofs.Common.{◌≡◌, [], ◌∷◌, refl}
use Rattle.std.specs.Prelude.{codes}
use Rattle.insn_ir.specs.declared.op.Reg.TheVariants.{Rax, Rsi}
use Rattle.insn_ir.specs.declared.op.Cond.{Cond}
use Rattle.insn_ir.specs.declared.op.Op.{Op}
use Rattle.insn_ir.specs.declared.op.Width.TheVariants.{L, Q}
use Rattle.insn_ir.specs.Code.{One, LocalLabel, Do}
use Rattle.blocks_cfg.specs.Stretch.{Item, Cuts, Stands, Rests, numbered, stretch_of, AreOf, none, label, place, cut, rest}
use Rattle.blocks_cfg.proofs.Codes.{reg, to_name, with_none, with_one, with_two}

abbrev adds : Item
adds = Stands (One (with_two Op.Add L (reg Rsi) (reg Rax)))

abbrev calls : Item
calls = Stands (One (with_one Op.Call Q (to_name (codes "g"))))

abbrev branches : Item
branches = Stands (One (with_one (Op.Jcc Cond.E) Q (to_name (codes ".L1"))))

abbrev stops : Item
stops = Stands (One (with_none Op.Ud2 Q))

abbrev returns : Item
returns = Stands (One (with_none Op.Ret Q))

-- `addl / addl / ret`: one stretch, with the return that ends it
straight : numbered [] 0 (adds ∷ adds ∷ returns ∷ []) ≡ 0 ∷ 0 ∷ 0 ∷ []
straight = refl

-- `addl / .L1: / addl / ret`: a label ends a stretch, as an alignment, a `.cfi_` directive and another section do
cut_by_a_label : numbered [] 0 (adds ∷ Cuts ∷ adds ∷ returns ∷ []) ≡ 0 ∷ 1 ∷ 1 ∷ []
cut_by_a_label = refl

-- `addl / .loc 1 2 / addl`: what has no part in the code ends none
not_cut_by_a_line_number : numbered [] 0 (adds ∷ Rests ∷ adds ∷ []) ≡ 0 ∷ 0 ∷ []
not_cut_by_a_line_number = refl

-- `addl / call g / addl / je .L1 / addl / ud2 / ret`: a call, a jump and `ud2` belong to the stretch that they end
ended_by_control : numbered [] 0 (adds ∷ calls ∷ adds ∷ branches ∷ adds ∷ stops ∷ returns ∷ []) ≡ 0 ∷ 0 ∷ 1 ∷ 1 ∷ 2 ∷ 2 ∷ 3 ∷ []
ended_by_control = refl

-- the stretch of the place behind the label
stretch_behind_a_label : stretch_of [] (Cuts ∷ adds ∷ Cuts ∷ adds ∷ []) 1 ≡ 2
stretch_behind_a_label = refl

-- the items of the entries `f: / addl / .loc 1 2 / .p2align 4 / .L1: / ret`, and the lines of the code
items_of_lines : AreOf (Cuts ∷ adds ∷ Rests ∷ Cuts ∷ Cuts ∷ returns ∷ []) (LocalLabel (codes "f") ∷ Do (One (with_two Op.Add L (reg Rsi) (reg Rax))) ∷ LocalLabel (codes ".L1") ∷ Do (One (with_none Op.Ret Q)) ∷ [])
items_of_lines = label _ _ _ (place _ _ _ (rest _ _ (cut _ _ (label _ _ _ (place _ _ _ none)))))
