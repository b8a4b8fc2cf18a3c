-- Which places of small codes may go, computed. Lines count from 0 with labels, places without.
use Rattle.std.proofs.Common.{◌≡◌, ℕ, Bool, true, false, [], ◌∷◌, ◌+◌, ◌^◌, Option, Some, None, inl, inr, ⊎_elim, refl, sym, subst}
use Rattle.insn_ir.specs.declared.op.Reg.TheVariants.{Rax, Rcx, Rdx, Rbx, Rsi, Rdi}
use Rattle.insn_ir.specs.declared.op.Flag.{Flag}
use Rattle.insn_ir.specs.declared.op.Flag.TheVariants.{Cf, Pf, Zf, Sf, Of}
use Rattle.insn_ir.specs.declared.op.Cond.{Cond}
use Rattle.insn_ir.specs.declared.op.Op.{Op}
use Rattle.insn_ir.specs.declared.op.Width.TheVariants.{L, Q}
use Rattle.insn_ir.specs.Machine.{State}
use Rattle.insn_ir.specs.Code.{Code, Place, One, Line, Do}
use Rattle.insn_ir.specs.Edits.{without}
use Rattle.insn_effects.specs.Footprint.{Loc, InReg, InFlag, ◌⊔◌}
use Rattle.insn_effects.specs.Places.{own_footprint}
use Rattle.blocks_cfg.specs.Live.{LiveAfter}
use Rattle.blocks_cfg.proofs.Codes.{reg, num, at_base, mem, with_one, with_two, two, ret, code}
use Rattle.blocks_cfg.proofs.Computed.{below, live_are, reached_are}
use Rattle.blocks_cfg.proofs.Makers.{upper_are, flags_test, flags_by, clear_by}
use Rattle.blocks_cfg.proofs.LiveExamples.{jump_over, jump_over_reached, two_dead, two_dead_rcx, two_dead_rdx, divided, tested, je_cf, je_of, jg_of}
use Rattle.blocks_cfg.proofs.FactExamples.{sub_makes, jg_sub_does_not_clear, and_clears, tested_twice, test_makes, test_clears, widths_differ, widths_at_64, over_a_jump, over_a_jump_flags, over_a_jump_cf, over_a_jump_of, chosen, cmov_clears, byte_put, byte_does_not_clear, over_a_call, kept_over_a_call, call_between, call_breaks, shifted_by_cl, shift_by_cl_does_not_clear, one_way_lacks_it, each_way_must_clear}
use Rattle.drop_laws.specs.Flags.{FlagsAre, AreClear}
use Rattle.drop_laws.specs.Agreement.{down}
use Rattle.drop_laws.specs.Removals.{place_of, IsUnreached, IsDead, IsClearing, IsTold}

-- ---- places of lines, and where places stand without one

-- a label is no place: the line 5 of `jump_over` is its place 4
place_behind_a_label : place_of jump_over 5 ≡ 4
place_behind_a_label = refl

before_the_gap : down 2 1 ≡ 1
before_the_gap = refl

-- the place that is gone corresponds to the one behind it
at_the_gap : down 2 2 ≡ 2
at_the_gap = refl

behind_the_gap : down 2 5 ≡ 4
behind_the_gap = refl

-- ---- flags of a register

-- every register has n
abbrev filled : ℕ → (Flag → Bool) → State
filled n fs = record { regs = λ r. n; flags = fs; memory = λ a. None }

abbrev zero_flags : Flag → Bool
zero_flags Zf = true
zero_flags Pf = true
zero_flags _ = false

abbrev sign_flags : Flag → Bool
sign_flags Sf = true
sign_flags Pf = true
sign_flags _ = false

of_zero : FlagsAre Rdi L (filled 0 zero_flags)
of_zero = record { sf = refl; zf = refl; pf = refl }

-- bit 32 is beyond 32 bits
of_low_bits : FlagsAre Rdi L (filled (2 ^ 32) zero_flags)
of_low_bits = record { sf = refl; zf = refl; pf = refl }

not_of_all_bits : FlagsAre Rdi Q (filled (2 ^ 32) zero_flags) → ⊥
not_of_all_bits h = let z = h.zf in cc

-- the top bit, and the bits 0 and 1: an even number of ones in the low byte
of_a_negative : FlagsAre Rdi L (filled (2 ^ 31 + 3) sign_flags)
of_a_negative = record { sf = refl; zf = refl; pf = refl }

both_clear : AreClear (filled 0 zero_flags)
both_clear = record { cf = refl; of = refl }

-- ---- places that aren't reached

-- `movl $9, %eax` behind `jmp`
jumped_over : IsUnreached jump_over 3
jumped_over =
    record { place = _; there = refl; unreached = λ r. let e = (reached_are jump_over (0 ∷ 1 ∷ 2 ∷ 4 ∷ 5 ∷ 6 ∷ []) jump_over_reached).exactly.complete 3 r in cc }

-- ---- dead places

-- a line has one place
place_is : (p q : Place) → ◌≡◌ {A = Option Line} (Some (Do p)) (Some (Do q)) → p ≡ q
place_is p q e = cc

-- `movl %ecx, %edx` in `movl $1, %ecx / movl %ecx, %edx / movl $2, %edx / ret`
dead_move : IsDead two_dead 1
unfolding ◌⊔◌
dead_move =
    record { place = One (with_two Op.Mov L (reg Rcx) (reg Rdx)); there = refl; goes_on = refl; keeps_memory = refl; straight = refl; unread = unread }
  where
    unread : (x : Loc) → (own_footprint (One (with_two Op.Mov L (reg Rcx) (reg Rdx)))).writes x ≡ true → LiveAfter two_dead 1 x → ⊥
    unread (InReg Rdx) h l = let e = (live_are two_dead (InReg Rdx) (2 ∷ []) two_dead_rdx).exactly.complete 1 l in cc
    unread (InReg _) h l = cc
    unread (InFlag g) h l = cc

-- without it
one_line_less : without two_dead 1 ≡ code (two Op.Mov L (num 1) (reg Rcx) ∷ two Op.Mov L (num 2) (reg Rdx) ∷ ret ∷ [])
one_line_less = refl

-- `movl $1, %ecx` isn't dead as long as that line reads rcx
not_yet_dead : IsDead two_dead 0 → ⊥
unfolding ◌⊔◌
not_yet_dead h =
    h.unread (InReg Rcx) (subst (λ p. (own_footprint p).writes (InReg Rcx) ≡ true) (place_is (One (with_two Op.Mov L (num 1) (reg Rcx))) h.place h.there) refl)
    ((live_are two_dead (InReg Rcx) (0 ∷ []) two_dead_rcx).exactly.sound 0 refl)

-- `cmpl %esi, %edi / movl $1, %eax / ret`
abbrev compared : Code
compared = code (two Op.Cmp L (reg Rsi) (reg Rdi) ∷ two Op.Mov L (num 1) (reg Rax) ∷ ret ∷ [])

dead_compare : IsDead compared 0
unfolding ◌⊔◌
dead_compare =
    record { place = One (with_two Op.Cmp L (reg Rsi) (reg Rdi)); there = refl; goes_on = refl; keeps_memory = refl; straight = refl; unread = unread }
  where
    unread : (x : Loc) → (own_footprint (One (with_two Op.Cmp L (reg Rsi) (reg Rdi)))).writes x ≡ true → LiveAfter compared 0 x → ⊥
    unread (InFlag Cf) h l = let e = (live_are compared (InFlag Cf) [] refl).exactly.complete 0 l in cc
    unread (InFlag Pf) h l = let e = (live_are compared (InFlag Pf) [] refl).exactly.complete 0 l in cc
    unread (InFlag Zf) h l = let e = (live_are compared (InFlag Zf) [] refl).exactly.complete 0 l in cc
    unread (InFlag Sf) h l = let e = (live_are compared (InFlag Sf) [] refl).exactly.complete 0 l in cc
    unread (InFlag Of) h l = let e = (live_are compared (InFlag Of) [] refl).exactly.complete 0 l in cc
    unread (InReg r) h l = cc

-- `idivl %ecx` may fault, so it stays whatever is live
division_stays : IsDead divided 1 → ⊥
unfolding ◌⊔◌
division_stays h =
    let e = subst (λ p. (own_footprint p).may_stop ≡ false) (sym (place_is (One (with_one Op.Idiv L (reg Rcx))) h.place h.there)) h.goes_on in cc

-- `movl (%rdi), %edx` may fault
load_stays : IsDead jump_over 1 → ⊥
unfolding ◌⊔◌
load_stays h =
    let e = subst (λ p. (own_footprint p).may_stop ≡ false) (sym (place_is (One (with_two Op.Mov L (mem (at_base 0 Rdi)) (reg Rdx))) h.place h.there)) h.goes_on in cc

-- ---- moves that clear nothing

after_cmov : IsClearing chosen 2 Rax
after_cmov =
    record { insn = with_two Op.Mov L (reg Rax) (reg Rax); there = refl; op = refl; width = refl; source = refl; dest = refl; holds = (upper_are chosen Rax (below 4) (2 ∷ 3 ∷ []) cmov_clears).exactly.sound 2 refl }

over_the_call : IsClearing over_a_call 2 Rbx
over_the_call =
    record { insn = with_two Op.Mov L (reg Rbx) (reg Rbx); there = refl; op = refl; width = refl; source = refl; dest = refl; holds = (upper_are over_a_call Rbx (below 5) (1 ∷ 2 ∷ 3 ∷ 4 ∷ []) kept_over_a_call).exactly.sound 2 refl }

after_a_byte : IsClearing byte_put 1 Rax → ⊥
after_a_byte h = let e = (upper_are byte_put Rax (below 3) (2 ∷ []) byte_does_not_clear).exactly.complete 1 h.holds in cc

call_writes_rax : IsClearing call_between 2 Rax → ⊥
call_writes_rax h = let e = (upper_are call_between Rax (below 4) (1 ∷ 3 ∷ []) call_breaks).exactly.complete 2 h.holds in cc

after_a_shift_by_cl : IsClearing shifted_by_cl 1 Rax → ⊥
after_a_shift_by_cl h = let e = (upper_are shifted_by_cl Rax (below 3) (2 ∷ []) shift_by_cl_does_not_clear).exactly.complete 1 h.holds in cc

one_way_lacks : IsClearing one_way_lacks_it 4 Rax → ⊥
one_way_lacks h = let e = (upper_are one_way_lacks_it Rax (below 5) (4 ∷ []) each_way_must_clear).exactly.complete 3 h.holds in cc

-- ---- tests whose result is told already

-- behind `subl`, with `je`: CF and OF are dead
before_je : IsTold (tested Op.Sub Cond.E) 1 Rdi L
before_je =
    record {
      insn = with_two Op.Test L (reg Rdi) (reg Rdi);
      there = refl;
      op = refl;
      width = refl;
      source = refl;
      dest = refl;
      holds = (flags_by (tested Op.Sub Cond.E) Rdi L (below 7) (1 ∷ 2 ∷ 3 ∷ 4 ∷ 5 ∷ []) sub_makes).exactly.sound 1 refl;
      clear = inr ((λ l. let e = (live_are (tested Op.Sub Cond.E) (InFlag Cf) [] je_cf).exactly.complete 1 l in cc), (λ l. let e = (live_are (tested Op.Sub Cond.E) (InFlag Of) [] je_of).exactly.complete 1 l in cc));
    }

-- with `jg` OF is live, and `subl` doesn't clear it
before_jg : IsTold (tested Op.Sub Cond.G) 1 Rdi L → ⊥
before_jg h =
    ⊎_elim
    (λ k. let e = (clear_by (tested Op.Sub Cond.G) Rdi L (below 7) (2 ∷ 3 ∷ 4 ∷ 5 ∷ []) jg_sub_does_not_clear).exactly.complete 1 k in cc)
    (λ k. k.1 ((live_are (tested Op.Sub Cond.G) (InFlag Of) (1 ∷ []) jg_of).exactly.sound 1 refl))
    h.clear

-- `andl` in its stead clears it
and_flags : (flags_test (tested Op.And Cond.G) Rdi L (below 7) (1 ∷ 2 ∷ 3 ∷ 4 ∷ 5 ∷ [])) ≡ true
unfolding ◌⊔◌
and_flags = refl

before_jg_behind_and : IsTold (tested Op.And Cond.G) 1 Rdi L
before_jg_behind_and =
    record {
      insn = with_two Op.Test L (reg Rdi) (reg Rdi);
      there = refl;
      op = refl;
      width = refl;
      source = refl;
      dest = refl;
      holds = (flags_by (tested Op.And Cond.G) Rdi L (below 7) (1 ∷ 2 ∷ 3 ∷ 4 ∷ 5 ∷ []) and_flags).exactly.sound 1 refl;
      clear = inl ((clear_by (tested Op.And Cond.G) Rdi L (below 7) (1 ∷ 2 ∷ 3 ∷ 4 ∷ 5 ∷ []) and_clears).exactly.sound 1 refl);
    }

-- the second `testq %rdi, %rdi`
second_test : IsTold tested_twice 1 Rdi Q
second_test =
    record {
      insn = with_two Op.Test Q (reg Rdi) (reg Rdi);
      there = refl;
      op = refl;
      width = refl;
      source = refl;
      dest = refl;
      holds = (flags_by tested_twice Rdi Q (below 4) (1 ∷ 2 ∷ 3 ∷ []) test_makes).exactly.sound 1 refl;
      clear = inl ((clear_by tested_twice Rdi Q (below 4) (1 ∷ 2 ∷ 3 ∷ []) test_clears).exactly.sound 1 refl);
    }

-- `subl` and `testq`
other_width : IsTold widths_differ 1 Rdi Q → ⊥
other_width h = let e = (flags_by widths_differ Rdi Q (below 4) (2 ∷ 3 ∷ []) widths_at_64).exactly.complete 1 h.holds in cc

-- `subl %esi, %edi / je .L2 / testl %edi, %edi / js .L2 / ..`
told_over_a_jump : IsTold over_a_jump 2 Rdi L
told_over_a_jump =
    record {
      insn = with_two Op.Test L (reg Rdi) (reg Rdi);
      there = refl;
      op = refl;
      width = refl;
      source = refl;
      dest = refl;
      holds = (flags_by over_a_jump Rdi L (below 6) (1 ∷ 2 ∷ 3 ∷ 4 ∷ 5 ∷ []) over_a_jump_flags).exactly.sound 2 refl;
      clear = inr ((λ l. let e = (live_are over_a_jump (InFlag Cf) [] over_a_jump_cf).exactly.complete 2 l in cc), (λ l. let e = (live_are over_a_jump (InFlag Of) [] over_a_jump_of).exactly.complete 2 l in cc));
    }
