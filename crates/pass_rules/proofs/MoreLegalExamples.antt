-- More edits of small units that are legal, and edits that aren't.
use Rattle.std.proofs.Common.{◌≡◌, ◌<◌, ℕ, false, [], ◌∷◌, pos, negsuc, inl, inr, ⊎_elim, refl, sym, subst, arith, lit<}
use Rattle.std.specs.Prelude.{codes, ◌^◌}
use Rattle.insn_ir.specs.declared.entry.DirectiveKind.{DirectiveKind}
use Rattle.insn_ir.specs.declared.entry.EntryKind.{EntryKind}
use Rattle.insn_ir.specs.declared.insn.Arg.{Arg}
use Rattle.insn_ir.specs.declared.insn.Insn.{Insn}
use Rattle.insn_ir.specs.declared.insn.Mem.{Mem}
use Rattle.insn_ir.specs.declared.op.Cond.{Cond}
use Rattle.insn_ir.specs.declared.op.Flag.TheVariants.{Cf, Of}
use Rattle.insn_ir.specs.declared.op.Op.{Op}
use Rattle.insn_ir.specs.declared.op.Reg.{Reg}
use Rattle.insn_ir.specs.declared.op.Reg.TheVariants.{Rax, Rcx, Rsp, Rdi}
use Rattle.insn_ir.specs.declared.op.Width.TheVariants.{L, Q}
use Rattle.insn_ir.specs.Code.{Code}
use Rattle.insn_ir.specs.Profile.{IsWithin}
use Rattle.insn_effects.specs.Footprint.{InFlag, ◌⊔◌}
use Rattle.blocks_cfg.specs.Cells.{MemCell}
use Rattle.blocks_cfg.specs.Rules.{MakesCell, is_of_address}
use Rattle.blocks_cfg.proofs.Codes.{reg, num, at_base, mem, with_two, code}
use Rattle.blocks_cfg.proofs.Codes as lines
use Rattle.blocks_cfg.proofs.Computed.{below, live_are}
use Rattle.blocks_cfg.proofs.Makers.{flags_by, cell_held}
use Rattle.drop_laws.specs.Removals.{IsTold}
use Rattle.move_laws.specs.Merges.{IsMerge, sum_of}
use Rattle.asm_unit.specs.Functions.{parts_from}
use Rattle.asm_unit.specs.Unit.{Unit}
use Rattle.pass_script.specs.declared.kinds.PassKind.{PassKind}
use Rattle.pass_script.specs.Catalogue.{defaults}
use Rattle.unit_edits.specs.declared.edit.Edit.{Edit}
use Rattle.pass_rules.specs.Legal.{IsToldTest, IsReload, IsSumPair, IsLegal}
use Rattle.pass_rules.specs.Rules.{Rule}
use Rattle.pass_rules.specs.Sites.{stretch_in, OfLine}
use Rattle.pass_rules.proofs.LegalExamples.{reg_is, mem_is, told_is, cell_with, test, tested, told_before_je}
use Rattle.pass_rules.proofs.Small.{f, unit_of, two, ret, jcc, label, insn_at, Makes, of_line, line_holds}

-- ---- REDTEST

-- a pass that leaves a legal edit isn't done
idle_is_not_done : Rule PassKind.RedTest defaults 0 (tested Op.Sub Cond.E) [] (tested Op.Sub Cond.E) → ⊥
idle_is_not_done h = h.none_left (Edit.Remove 7) told_before_je

-- `shrl COUNT, %edi / testl %edi, %edi / jne .L2 / movl $1, %eax / .L2: / ret`
abbrev shifted : Arg → Unit
shifted count =
    unit_of
    (two Op.Shr L count (reg Rdi) ∷ two Op.Test L (reg Rdi) (reg Rdi) ∷ jcc Cond.Ne (codes ".L2") ∷ two Op.Mov L (num 1) (reg Rax) ∷ label (codes ".L2") ∷ EntryKind.Blank ∷ ret ∷ [])

abbrev shifted_code : Arg → Code
shifted_code count =
    code
    (lines.label f ∷ lines.two Op.Shr L count (reg Rdi) ∷ lines.two Op.Test L (reg Rdi) (reg Rdi) ∷ lines.jcc Cond.Ne (codes ".L2") ∷ lines.two Op.Mov L (num 1) (reg Rax) ∷ lines.label (codes ".L2") ∷ lines.ret ∷ [])

test_of : (count : Arg) → Makes (shifted count) 7 test (shifted_code count) 2
unfolding parts_from ◌⊔◌
test_of count = record { there = insn_at (shifted count) 7 test refl refl refl; code = refl; line = refl }

told_by_a_number : IsLegal PassKind.RedTest defaults (shifted (num 3)) 0 (Edit.Remove 7)
unfolding parts_from ◌⊔◌
told_by_a_number = of_line (shifted (num 3)) 7 test (shifted_code (num 3)) 2 IsToldTest (test_of (num 3)) (Rdi, L, told)
  where
    told : IsTold (shifted_code (num 3)) 2 Rdi L
    told =
        record {
          insn = test;
          there = refl;
          op = refl;
          width = refl;
          source = refl;
          dest = refl;
          holds = (flags_by (shifted_code (num 3)) Rdi L (below 5) (1 ∷ 2 ∷ 3 ∷ 4 ∷ []) refl).exactly.sound 1 refl;
          clear = inr ((λ l. let e = (live_are (shifted_code (num 3)) (InFlag Cf) [] refl).exactly.complete 1 l in cc), (λ l. let e = (live_are (shifted_code (num 3)) (InFlag Of) [] refl).exactly.complete 1 l in cc));
        }

-- a shift by `%cl` may leave the flags as they were
not_told_by_cl : IsLegal PassKind.RedTest defaults (shifted (reg Rcx)) 0 (Edit.Remove 7) → ⊥
unfolding parts_from ◌⊔◌
not_told_by_cl h = wrong (told_is (shifted_code (reg Rcx)) 2 test h.insn Rdi (line_holds (shifted (reg Rcx)) 7 test (shifted_code (reg Rcx)) 2 IsToldTest (test_of (reg Rcx)) h) refl refl)
  where
    wrong : IsTold (shifted_code (reg Rcx)) 2 Rdi L → ⊥
    wrong t = let e = (flags_by (shifted_code (reg Rcx)) Rdi L (below 5) (2 ∷ 3 ∷ 4 ∷ []) refl).exactly.complete 1 t.holds in cc

-- ---- REDMOV

abbrev near_top : Mem
near_top = at_base 8 Rsp

-- `movl %eax, 8(%rsp) / movl 8(%rsp), %eax / ret`: the load becomes a move that clears the upper half, and doesn't go
abbrev stored_and_loaded : Unit
stored_and_loaded = unit_of (two Op.Mov L (reg Rax) (mem near_top) ∷ two Op.Mov L (mem near_top) (reg Rax) ∷ ret ∷ [])

abbrev stored_and_loaded_code : Code
stored_and_loaded_code =
    code (lines.label f ∷ lines.two Op.Mov L (reg Rax) (mem near_top) ∷ lines.two Op.Mov L (mem near_top) (reg Rax) ∷ lines.ret ∷ [])

abbrev to_itself : Insn
to_itself = with_two Op.Mov L (reg Rax) (reg Rax)

load_becomes_a_move : OfLine stored_and_loaded 0 7 (λ c at i. IsReload c at (stretch_in stored_and_loaded 0) to_itself)
unfolding parts_from ◌⊔◌
load_becomes_a_move =
    of_line stored_and_loaded 7 (with_two Op.Mov L (mem near_top) (reg Rax)) stored_and_loaded_code 2 (λ c at i. IsReload c at (stretch_in stored_and_loaded 0) to_itself) (record { there = insn_at stored_and_loaded 7 (with_two Op.Mov L (mem near_top) (reg Rax)) refl refl refl; code = refl; line = refl })
    (in_any_stretch (stretch_in stored_and_loaded 0))
  where
    in_any_stretch : (stretch : ℕ → ℕ) → IsReload stored_and_loaded_code 2 stretch to_itself
    in_any_stretch stretch =
        record {
          cell = cell_with near_top L;
          from = Rax;
          to = Rax;
          loaded = record { insn = _; there = refl; op = refl; width = refl; source = refl; dest = refl; holds = (cell_held stored_and_loaded_code stretch (cell_with near_top L) Rax 1 (below 3) (1 ∷ 2 ∷ []) refl).exactly.sound 1 refl };
          least = λ r l h. absurd (omega (arith, l));
          is_move = refl;
        }

-- REDMOV takes nothing out
load_does_not_go : IsLegal PassKind.RedMov defaults stored_and_loaded 0 (Edit.Remove 7) → ⊥
load_does_not_go h = h

-- `movq 8(%rax), %rax / movq 8(%rax), %rax / ret`: a load into its own base tells nothing of the cell
abbrev of_rax : Mem
of_rax = at_base 8 Rax

abbrev chased : Unit
chased = unit_of (two Op.Mov Q (mem of_rax) (reg Rax) ∷ two Op.Mov Q (mem of_rax) (reg Rax) ∷ ret ∷ [])

abbrev chased_code : Code
chased_code =
    code (lines.label f ∷ lines.two Op.Mov Q (mem of_rax) (reg Rax) ∷ lines.two Op.Mov Q (mem of_rax) (reg Rax) ∷ lines.ret ∷ [])

abbrev chase : Insn
chase = with_two Op.Mov Q (mem of_rax) (reg Rax)

makes_no_cell : (c : MemCell) (q : Reg) → MakesCell c q chase → ⊥
makes_no_cell c q h =
    ⊎_elim
    (λ k. let e : is_of_address of_rax Rax ≡ false = subst (λ m. is_of_address m Rax ≡ false) (sym (mem_is of_rax c.mem k.0)) (subst (λ r. is_of_address c.mem r ≡ false) (sym (reg_is Rax q k.1)) k.2) in cc)
    (λ k. let e = k.0 in cc)
    h.2

second_stays : (new : Insn) → OfLine chased 0 7 (λ c at i. IsReload c at (stretch_in chased 0) new) → ⊥
unfolding parts_from ◌⊔◌
second_stays new h = wrong (stretch_in chased 0) h.holds
  where
    wrong : (stretch : ℕ → ℕ) → IsReload chased_code 2 stretch new → ⊥
    wrong stretch k = ⊎_elim (λ m. makes_no_cell k.cell k.from m.0) (λ m. m.1) (k.loaded.holds.made (0 ∷ []) (inl refl, refl))

-- and of the first nothing is known
first_stays : (new : Insn) → OfLine chased 0 6 (λ c at i. IsReload c at (stretch_in chased 0) new) → ⊥
unfolding parts_from ◌⊔◌
first_stays new h = wrong (stretch_in chased 0) h.holds
  where
    wrong : (stretch : ℕ → ℕ) → IsReload chased_code 1 stretch new → ⊥
    wrong stretch k = k.loaded.holds.made [] refl

-- ---- ADDADD

-- `subq $8, %rdi / addq $8, %rdi / movq %rdi, %rax / ret`: a sum of 0 stays
abbrev undone : Unit
undone =
    unit_of (two Op.Sub Q (num 8) (reg Rdi) ∷ two Op.Add Q (num 8) (reg Rdi) ∷ two Op.Mov Q (reg Rdi) (reg Rax) ∷ ret ∷ [])

abbrev undone_code : Code
undone_code =
    code (lines.label f ∷ lines.two Op.Sub Q (num 8) (reg Rdi) ∷ lines.two Op.Add Q (num 8) (reg Rdi) ∷ lines.two Op.Mov Q (reg Rdi) (reg Rax) ∷ lines.ret ∷ [])

opposite_sums : IsMerge undone_code 1 2 Rdi Q (negsuc 7) (pos 8)
unfolding parts_from ◌⊔◌
opposite_sums =
    record {
      first = with_two Op.Sub Q (num 8) (reg Rdi);
      second = with_two Op.Add Q (num 8) (reg Rdi);
      wide = refl;
      order = omega arith;
      first_there = refl;
      second_there = refl;
      first_adds = record { width = refl; dest = refl; kind = inr (record { op = refl; written = pos 8; number = refl; adds = refl }) };
      second_adds = record { width = refl; dest = refl; kind = inl (record { op = refl; number = refl }) };
      between = λ c lo hi. absurd (omega arith);
      carry_dead = λ l. let e = (live_are undone_code (InFlag Cf) [] refl).exactly.complete 1 l in cc;
      overflow_dead = λ l. let e = (live_are undone_code (InFlag Of) [] refl).exactly.complete 1 l in cc;
    }

sum_of_zero : IsSumPair undone 0 6 7 (sum_of Rdi Q (pos 0))
unfolding parts_from ◌⊔◌
sum_of_zero =
    record {
      first = with_two Op.Sub Q (num 8) (reg Rdi);
      second = with_two Op.Add Q (num 8) (reg Rdi);
      first_there = insn_at undone 6 (with_two Op.Sub Q (num 8) (reg Rdi)) refl refl refl;
      second_there = insn_at undone 7 (with_two Op.Add Q (num 8) (reg Rdi)) refl refl refl;
      reg = Rdi;
      width = Q;
      a = negsuc 7;
      b = pos 8;
      merge = opposite_sums;
      together = refl;
      fits = lit< tt;
      is_sum = refl;
    }

-- the least sum is -2147483648
least_fits : IsWithin (2 ^ 31) (negsuc 2147483647)
least_fits = lit< tt

less_does_not : IsWithin (2 ^ 31) (negsuc 2147483648) → ⊥
less_does_not l = let k : 2147483648 < 2147483648 = l in omega arith

-- the second alone is no pair, nor the pair the other way round
not_with_itself : (new : Insn) → IsSumPair undone 0 7 7 new → ⊥
unfolding parts_from ◌⊔◌
not_with_itself new h = absurd (omega (arith, h.merge.order))

not_backwards : (new : Insn) → IsSumPair undone 0 7 6 new → ⊥
unfolding parts_from ◌⊔◌
not_backwards new h = wrong h.merge.order
  where
    wrong : 2 < 1 → ⊥
    wrong l = omega arith

-- `addq $8, %rdi / .cfi_def_cfa_offset 16 / addq $16, %rdi / ret`: a directive of unwinding parts the two
abbrev parted : Unit
parted =
    unit_of (two Op.Add Q (num 8) (reg Rdi) ∷ EntryKind.Directive DirectiveKind.Cfi ∷ two Op.Add Q (num 16) (reg Rdi) ∷ ret ∷ [])

not_over_unwinding : (new : Insn) → IsSumPair parted 0 6 8 new → ⊥
unfolding parts_from
not_over_unwinding new h = wrong h.together
  where
    wrong : ◌≡◌ {A = ℕ} 1 2 → ⊥
    wrong e = omega arith
