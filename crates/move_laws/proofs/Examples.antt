-- Puts and merges of small codes, computed. Lines count from 0 with labels.
use Rattle.std.proofs.Common.{◌≡◌, ℕ, false, [], ◌∷◌, ℤ, pos, negsuc, ◌+ℤ◌, Option, Some, None, inl, inr, ⊎_elim, refl, sym, subst, cond, arith}
use Rattle.std.specs.Prelude.{codes}
use Rattle.insn_ir.specs.declared.op.Reg.TheVariants.{Rax, Rcx, Rdx, Rsp, Rsi, Rdi}
use Rattle.insn_ir.specs.declared.op.Flag.TheVariants.{Cf, Of}
use Rattle.insn_ir.specs.declared.op.Op.{Op}
use Rattle.insn_ir.specs.declared.op.Width.TheVariants.{L, Q}
use Rattle.insn_ir.specs.declared.insn.Imm.{Imm}
use Rattle.insn_ir.specs.declared.insn.Arg.{Arg}
use Rattle.insn_ir.specs.Machine.{World, State, stored, same_reg}
use Rattle.insn_ir.specs.Code.{Code, Place, One, Line, Do}
use Rattle.insn_ir.specs.Edits.{with_line}
use Rattle.insn_effects.specs.Footprint.{InReg, InFlag, ◌⊔◌}
use Rattle.insn_effects.specs.Places.{own_footprint}
use Rattle.blocks_cfg.proofs.Codes.{reg, num, with_two, two, label, ret, code}
use Rattle.blocks_cfg.proofs.Computed.{below, live_are}
use Rattle.blocks_cfg.proofs.Makers.{cell_held}
use Rattle.blocks_cfg.proofs.CellExamples.{cell, one_stretch, load, loaded_twice, stored_between, stored_and_loaded, into_its_base, over_a_jump}
use Rattle.move_laws.specs.Cells.{IsHeld}
use Rattle.move_laws.specs.Puts.{IsLoaded, from_reg}
use Rattle.move_laws.specs.Merges.{opposite, Adds, IsCalm, IsMerge, sum_of, merged}

-- ---- cells that registers hold

-- rsp is 0, every other register has n, and the eight bytes from address 24 on hold v
abbrev holding : ℕ → ℕ → State
holding n v = record { regs = λ r. cond (same_reg r Rsp) 0 n; flags = λ g. false; memory = stored (λ a. None) 24 8 v }

abbrev plain : World
plain = record { link = λ n spec. 0; undefined = λ o d xs. 0; fs = 0 }

same_number : IsHeld plain (cell 24 Rsp Q) Rdx (holding 258 258)
same_number = record { loads = refl }

other_number : IsHeld plain (cell 24 Rsp Q) Rdx (holding 258 2) → ⊥
other_number h = let e = h.loads in cc

-- at 32 bits the low halves are compared
low_half : IsHeld plain (cell 24 Rsp L) Rdx (holding 4294967298 2)
low_half = record { loads = refl }

-- a load that faults holds nothing
no_bytes_there : IsHeld plain (cell 28 Rsp Q) Rdx (holding 0 0) → ⊥
no_bytes_there h = let e = h.loads in cc

-- ---- puts

-- `movq 24(%rsp), %rdx / movq 24(%rsp), %rcx / ret`: the second becomes `movq %rdx, %rcx`
second_load : IsLoaded loaded_twice 1 one_stretch (cell 24 Rsp Q) Rdx Rcx
unfolding ◌⊔◌
second_load =
    record { insn = _; there = refl; op = refl; width = refl; source = refl; dest = refl; holds = (cell_held loaded_twice one_stretch (cell 24 Rsp Q) Rdx 1 (below 3) (1 ∷ 2 ∷ []) refl).exactly.sound 1 refl }

second_load_put : with_line loaded_twice 1 (One (from_reg (cell 24 Rsp Q) Rdx Rcx)) ≡ code (load 24 Rsp Q Rdx ∷ two Op.Mov Q (reg Rdx) (reg Rcx) ∷ ret ∷ [])
second_load_put = refl

-- with `movq %rsi, (%rdi)` between, no register holds it
behind_a_store : IsLoaded stored_between 2 one_stretch (cell 24 Rsp Q) Rdx Rcx → ⊥
unfolding ◌⊔◌
behind_a_store h =
    let e = (cell_held stored_between one_stretch (cell 24 Rsp Q) Rdx 2 (below 4) (1 ∷ []) refl).exactly.complete 2 h.holds in cc

-- `movl %eax, 8(%rsp) / movl 8(%rsp), %eax / ret`: the second becomes `movl %eax, %eax`
after_a_store_of_it : IsLoaded stored_and_loaded 1 one_stretch (cell 8 Rsp L) Rax Rax
unfolding ◌⊔◌
after_a_store_of_it =
    record { insn = _; there = refl; op = refl; width = refl; source = refl; dest = refl; holds = (cell_held stored_and_loaded one_stretch (cell 8 Rsp L) Rax 1 (below 3) (1 ∷ 2 ∷ []) refl).exactly.sound 1 refl }

after_a_store_put : from_reg (cell 8 Rsp L) Rax Rax ≡ with_two Op.Mov L (reg Rax) (reg Rax)
after_a_store_put = refl

-- `movq 8(%rax), %rax` twice
loaded_into_its_base : IsLoaded into_its_base 1 one_stretch (cell 8 Rax Q) Rax Rax → ⊥
unfolding ◌⊔◌
loaded_into_its_base h =
    let e = (cell_held into_its_base one_stretch (cell 8 Rax Q) Rax 1 (below 3) [] refl).exactly.complete 1 h.holds in cc

-- `movq 24(%rsp), %rdx / testq %rdx, %rdx / je .L2 / movq 24(%rsp), %rcx / .L2: / ret`
loaded_over_a_jump : IsLoaded over_a_jump 3 one_stretch (cell 24 Rsp Q) Rdx Rcx
unfolding ◌⊔◌
loaded_over_a_jump =
    record { insn = _; there = refl; op = refl; width = refl; source = refl; dest = refl; holds = (cell_held over_a_jump one_stretch (cell 24 Rsp Q) Rdx 3 (below 5) (1 ∷ 2 ∷ 3 ∷ 4 ∷ []) refl).exactly.sound 3 refl }

-- ---- numbers that are added

-- `sub $8` adds -8, `sub $-8` adds 8
opposite_of_eight : opposite (pos 8) ≡ negsuc 7
opposite_of_eight = refl

opposite_of_minus_eight : opposite (negsuc 7) ≡ pos 8
opposite_of_minus_eight = refl

opposite_of_zero : opposite (pos 0) ≡ pos 0
opposite_of_zero = refl

-- the least number of 32 bits has an opposite beyond them
opposite_of_the_least : opposite (negsuc 2147483647) ≡ pos 2147483648
opposite_of_the_least = refl

sub_adds_the_opposite : Adds (with_two Op.Sub Q (num 8) (reg Rdi)) Q Rdi (negsuc 7)
sub_adds_the_opposite =
    record { width = refl; dest = refl; kind = inr (record { op = refl; written = pos 8; number = refl; adds = refl }) }

sub_does_not_add_its_number : Adds (with_two Op.Sub Q (num 8) (reg Rdi)) Q Rdi (pos 8) → ⊥
sub_does_not_add_its_number h = ⊎_elim (λ k. let e = k.op in cc) (λ k. wrong k.written k.number k.adds) h.kind
  where
    wrong : (m : ℤ) → ◌≡◌ {A = Arg} (num 8) (Arg.Imm (Imm.Num m)) → opposite m ≡ pos 8 → ⊥
    wrong m e o = let k = subst (λ z. opposite z ≡ pos 8) (sym (same m e)) o in cc
      where
        same : (m : ℤ) → ◌≡◌ {A = Arg} (num 8) (Arg.Imm (Imm.Num m)) → pos 8 ≡ m
        same m e = cc

-- ---- merges

-- `addq $8, %rdi / addq $16, %rdi / movq %rdi, %rax / ret`
abbrev summed : Op → Code
summed o =
    code (two o Q (num 8) (reg Rdi) ∷ two Op.Add Q (num 16) (reg Rdi) ∷ two Op.Mov Q (reg Rdi) (reg Rax) ∷ ret ∷ [])

add_and_add : IsMerge (summed Op.Add) 0 1 Rdi Q (pos 8) (pos 16)
unfolding ◌⊔◌
add_and_add =
    record {
      first = with_two Op.Add Q (num 8) (reg Rdi);
      second = with_two Op.Add Q (num 16) (reg Rdi);
      wide = refl;
      order = omega arith;
      first_there = refl;
      second_there = refl;
      first_adds = record { width = refl; dest = refl; kind = inl (record { op = refl; number = refl }) };
      second_adds = record { width = refl; dest = refl; kind = inl (record { op = refl; number = refl }) };
      between = λ c lo hi. absurd (omega arith);
      carry_dead = λ l. let e = (live_are (summed Op.Add) (InFlag Cf) [] refl).exactly.complete 1 l in cc;
      overflow_dead = λ l. let e = (live_are (summed Op.Add) (InFlag Of) [] refl).exactly.complete 1 l in cc;
    }

one_sum : merged (summed Op.Add) 0 1 Rdi Q (pos 8) (pos 16) ≡ code (two Op.Add Q (num 24) (reg Rdi) ∷ two Op.Mov Q (reg Rdi) (reg Rax) ∷ ret ∷ [])
one_sum = refl

-- `subq $8, %rdi / addq $8, %rdi` is `addq $0, %rdi`
sub_and_add : sum_of Rdi Q (opposite (pos 8) +ℤ pos 8) ≡ with_two Op.Add Q (num 0) (reg Rdi)
sub_and_add = refl

-- `subq $8, %rdi / addq $16, %rdi` is `addq $8, %rdi`
sub_and_more : merged (summed Op.Sub) 0 1 Rdi Q (negsuc 7) (pos 16) ≡ code (two Op.Add Q (num 8) (reg Rdi) ∷ two Op.Mov Q (reg Rdi) (reg Rax) ∷ ret ∷ [])
sub_and_more = refl

-- at the limits of an operand: `subq $-2147483648, %rdi / addq $-1, %rdi` is `addq $2147483647, %rdi`, and
-- `addq $-2147483647, %rdi / addq $-1, %rdi` is `addq $-2147483648, %rdi`
greatest_sum : sum_of Rdi Q (opposite (negsuc 2147483647) +ℤ negsuc 0) ≡ with_two Op.Add Q (num 2147483647) (reg Rdi)
greatest_sum = refl

least_sum : sum_of Rdi Q (negsuc 2147483646 +ℤ negsuc 0) ≡ with_two Op.Add Q (Arg.Imm (Imm.Num (negsuc 2147483647))) (reg Rdi)
least_sum = refl

-- one more is right as a sum, and no operand: that the sum fits is the rule's to ask
sum_beyond : sum_of Rdi Q (pos 2147483647 +ℤ pos 1) ≡ with_two Op.Add Q (num 2147483648) (reg Rdi)
sum_beyond = refl

-- `addl $1, %edi / X / addl $1, %edi / ret`
abbrev around : Line → Code
around x = code (two Op.Add L (num 1) (reg Rdi) ∷ x ∷ two Op.Add L (num 1) (reg Rdi) ∷ ret ∷ [])

-- `movl %esi, %eax` between is calm
calm_move : IsCalm (around (two Op.Mov L (reg Rsi) (reg Rax))) Rdi 1
unfolding ◌⊔◌
calm_move =
    record { place = One (with_two Op.Mov L (reg Rsi) (reg Rax)); there = refl; straight = refl; unread = refl; unwritten = refl; flagless = λ g. refl }

place_is : (p q : Place) → ◌≡◌ {A = Option Line} (Some (Do p)) (Some (Do q)) → p ≡ q
place_is p q e = cc

-- `adcl $0, %esi` reads CF
carry_between : IsMerge (around (two Op.Adc L (num 0) (reg Rsi))) 0 2 Rdi L (pos 1) (pos 1) → ⊥
unfolding ◌⊔◌
carry_between h =
    let c = h.between 1 (omega arith) (omega arith) in
    let e = subst (λ p. (own_footprint p).reads (InFlag Cf) ≡ false) (sym (place_is (One (with_two Op.Adc L (num 0) (reg Rsi))) c.place c.there)) (c.flagless Cf) in cc

-- `movl %edi, %eax` reads rdi
read_between : IsMerge (around (two Op.Mov L (reg Rdi) (reg Rax))) 0 2 Rdi L (pos 1) (pos 1) → ⊥
unfolding ◌⊔◌
read_between h =
    let c = h.between 1 (omega arith) (omega arith) in
    let e = subst (λ p. (own_footprint p).reads (InReg Rdi) ≡ false) (sym (place_is (One (with_two Op.Mov L (reg Rdi) (reg Rax))) c.place c.there)) c.unread in cc

-- a label is no calm line
label_between : IsMerge (around (label (codes ".L1"))) 0 2 Rdi L (pos 1) (pos 1) → ⊥
label_between h = let c = h.between 1 (omega arith) (omega arith) in no_place c.place c.there
  where
    no_place : (p : Place) → ◌≡◌ {A = Option Line} (Some (label (codes ".L1"))) (Some (Do p)) → ⊥
    no_place p e = cc
