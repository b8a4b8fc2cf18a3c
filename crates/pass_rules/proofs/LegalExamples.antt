-- Edits of small units that are legal, and edits that aren't.
use Rattle.std.proofs.Common.{◌≡◌, ◌<◌, ℕ, Bool, true, false, List, [], ◌∷◌, Option, Some, ℤ, pos, ◌+ℤ◌, inl, inr, ⊎_elim, refl, sym, ◌∙◌, ap, subst, arith, lit<}
use Rattle.std.specs.Prelude.{codes, slice_get, ◌^◌}
use Rattle.insn_ir.specs.declared.entry.EntryKind.{EntryKind}
use Rattle.insn_ir.specs.declared.insn.Arg.{Arg}
use Rattle.insn_ir.specs.declared.insn.Imm.{Imm}
use Rattle.insn_ir.specs.declared.insn.Insn.{Insn}
use Rattle.insn_ir.specs.declared.insn.Mem.{Mem}
use Rattle.insn_ir.specs.declared.op.Cond.{Cond}
use Rattle.insn_ir.specs.declared.op.Flag.TheVariants.{Cf, Of}
use Rattle.insn_ir.specs.declared.op.Op.{Op}
use Rattle.insn_ir.specs.declared.op.Reg.{Reg}
use Rattle.insn_ir.specs.declared.op.Reg.TheVariants.{Rax, Rcx, Rdx, Rsp, Rsi, Rdi}
use Rattle.insn_ir.specs.declared.op.Width.{Width}
use Rattle.insn_ir.specs.declared.op.Width.TheVariants.{B, L, Q}
use Rattle.insn_ir.specs.Code.{Code, Place, One, Line, Do}
use Rattle.insn_ir.specs.Machine.{reg_number}
use Rattle.insn_ir.specs.Profile.{IsWithin}
use Rattle.insn_effects.specs.Footprint.{Loc, InReg, InFlag, ◌⊔◌}
use Rattle.insn_effects.specs.Places.{own_footprint}
use Rattle.blocks_cfg.specs.Cells.{MemCell}
use Rattle.blocks_cfg.specs.Facts.{Holds}
use Rattle.blocks_cfg.specs.Live.{LiveAfter}
use Rattle.blocks_cfg.specs.Rules.{cell_in}
use Rattle.blocks_cfg.proofs.Codes.{reg, num, at_base, mem, with_none, with_two, code, at_home}
use Rattle.blocks_cfg.proofs.Codes as lines
use Rattle.blocks_cfg.proofs.Computed.{below, live_are, reached_are}
use Rattle.blocks_cfg.proofs.Makers.{upper_are, flags_by, clear_by, cell_held}
use Rattle.drop_laws.specs.Removals.{IsUnreached, IsDead, IsClearing, IsTold}
use Rattle.move_laws.specs.Merges.{Adds, IsMerge, sum_of}
use Rattle.move_laws.specs.Puts.{from_reg}
use Rattle.asm_unit.specs.Functions.{parts_from}
use Rattle.asm_unit.specs.Unit.{Unit}
use Rattle.pass_script.specs.declared.kinds.PassKind.{PassKind}
use Rattle.pass_script.specs.declared.options.PassOpts.{PassOpts}
use Rattle.pass_script.specs.Catalogue.{defaults}
use Rattle.unit_edits.specs.declared.edit.Edit.{Edit}
use Rattle.pass_rules.specs.Legal.{IsToldTest, IsClearingMove, IsReload, IsSumPair, IsNeedless, stays_when_dead, IsLegal}
use Rattle.pass_rules.specs.Sites.{stretch_in, OfLine}
use Rattle.pass_rules.proofs.Small.{f, unit_with, around, unit_of, two, ret, nop, jmp, jcc, label, align, insn_at, Makes, of_line, line_holds, same_insn, same_op, same_width, same_first, same_kind}

-- ---- what the operands of an instruction tell

pub reg_is : (q r : Reg) → ◌≡◌ {A = Arg} (Arg.Reg q) (Arg.Reg r) → q ≡ r
reg_is q r e = cc

pub mem_is : (m n : Mem) → ◌≡◌ {A = Arg} (Arg.Mem m) (Arg.Mem n) → m ≡ n
mem_is m n e = cc

num_is : (m n : ℤ) → ◌≡◌ {A = Arg} (Arg.Imm (Imm.Num m)) (Arg.Imm (Imm.Num n)) → m ≡ n
num_is m n e = cc

pub told_is : (c : Code) (at : ℕ) (i j : Insn) (q : Reg) → IsToldTest c at j → slice_get c.lines at ≡ Some (Do (One i)) → i.a ≡ Arg.Reg q → IsTold c at q i.width
told_is c at i j q k there a =
    let e : i ≡ k.2.insn = same_insn i k.2.insn (sym there ∙ k.2.there) in
    let er : q ≡ k.0 = reg_is q k.0 (sym a ∙ same_first i k.2.insn e ∙ k.2.source) in
    let ed : i.width ≡ k.1 = same_width i k.2.insn e ∙ k.2.width in
    subst (λ x. IsTold c at x i.width) (sym er) (subst (λ w. IsTold c at k.0 w) (sym ed) k.2)

pub clearing_is : (c : Code) (at : ℕ) (i j : Insn) (q : Reg) → IsClearingMove c at j → slice_get c.lines at ≡ Some (Do (One i)) → i.a ≡ Arg.Reg q → IsClearing c at q
clearing_is c at i j q k there a =
    let e : i ≡ k.1.insn = same_insn i k.1.insn (sym there ∙ k.1.there) in
    let er : q ≡ k.0 = reg_is q k.0 (sym a ∙ same_first i k.1.insn e ∙ k.1.source) in
    subst (λ x. IsClearing c at x) (sym er) k.1

-- ---- REDTEST

-- `subl %esi, %edi / testl %edi, %edi / je .L2 / movl $1, %eax / ret / .L2: / xorl %eax, %eax / ret`, or with another operation
-- or condition
abbrev pub tested : Op → Cond → Unit
tested o c =
    unit_of
    (two o L (reg Rsi) (reg Rdi) ∷ two Op.Test L (reg Rdi) (reg Rdi) ∷ jcc c (codes ".L2") ∷ two Op.Mov L (num 1) (reg Rax) ∷ ret ∷ label (codes ".L2") ∷ EntryKind.Blank ∷ two Op.Xor L (reg Rax) (reg Rax) ∷ ret ∷ [])

abbrev tested_code : Op → Cond → Code
tested_code o c =
    code
    (lines.label f ∷ lines.two o L (reg Rsi) (reg Rdi) ∷ lines.two Op.Test L (reg Rdi) (reg Rdi) ∷ lines.jcc c (codes ".L2") ∷ lines.two Op.Mov L (num 1) (reg Rax) ∷ lines.ret ∷ lines.label (codes ".L2") ∷ lines.two Op.Xor L (reg Rax) (reg Rax) ∷ lines.ret ∷ [])

abbrev pub test : Insn
test = with_two Op.Test L (reg Rdi) (reg Rdi)

the_test : (o : Op) (c : Cond) → Makes (tested o c) 7 test (tested_code o c) 2
unfolding parts_from ◌⊔◌
the_test o c = record { there = insn_at (tested o c) 7 test refl refl refl; code = refl; line = refl }

pub told_before_je : IsLegal PassKind.RedTest defaults (tested Op.Sub Cond.E) 0 (Edit.Remove 7)
unfolding parts_from ◌⊔◌
told_before_je = of_line (tested Op.Sub Cond.E) 7 test (tested_code Op.Sub Cond.E) 2 IsToldTest (the_test Op.Sub Cond.E) (Rdi, L, told)
  where
    told : IsTold (tested_code Op.Sub Cond.E) 2 Rdi L
    told =
        record {
          insn = test;
          there = refl;
          op = refl;
          width = refl;
          source = refl;
          dest = refl;
          holds = (flags_by (tested_code Op.Sub Cond.E) Rdi L (below 7) (1 ∷ 2 ∷ 3 ∷ 4 ∷ 5 ∷ []) refl).exactly.sound 1 refl;
          clear = inr ((λ l. let e = (live_are (tested_code Op.Sub Cond.E) (InFlag Cf) [] refl).exactly.complete 1 l in cc), (λ l. let e = (live_are (tested_code Op.Sub Cond.E) (InFlag Of) [] refl).exactly.complete 1 l in cc));
        }

-- `jg` reads OF, which `subl` doesn't clear
not_told_before_jg : IsLegal PassKind.RedTest defaults (tested Op.Sub Cond.G) 0 (Edit.Remove 7) → ⊥
unfolding parts_from ◌⊔◌
not_told_before_jg h = wrong (told_is (tested_code Op.Sub Cond.G) 2 test h.insn Rdi (line_holds (tested Op.Sub Cond.G) 7 test (tested_code Op.Sub Cond.G) 2 IsToldTest (the_test Op.Sub Cond.G) h) refl refl)
  where
    wrong : IsTold (tested_code Op.Sub Cond.G) 2 Rdi L → ⊥
    wrong t =
        ⊎_elim
        (λ k. let e = (clear_by (tested_code Op.Sub Cond.G) Rdi L (below 7) (2 ∷ 3 ∷ 4 ∷ 5 ∷ []) refl).exactly.complete 1 k in cc)
        (λ k. k.1 ((live_are (tested_code Op.Sub Cond.G) (InFlag Of) (1 ∷ []) refl).exactly.sound 1 refl))
        t.clear

-- with `andl` it may go
told_by_and : IsLegal PassKind.RedTest defaults (tested Op.And Cond.G) 0 (Edit.Remove 7)
unfolding parts_from ◌⊔◌
told_by_and = of_line (tested Op.And Cond.G) 7 test (tested_code Op.And Cond.G) 2 IsToldTest (the_test Op.And Cond.G) (Rdi, L, told)
  where
    told : IsTold (tested_code Op.And Cond.G) 2 Rdi L
    told =
        record {
          insn = test;
          there = refl;
          op = refl;
          width = refl;
          source = refl;
          dest = refl;
          holds = (flags_by (tested_code Op.And Cond.G) Rdi L (below 7) (1 ∷ 2 ∷ 3 ∷ 4 ∷ 5 ∷ []) refl).exactly.sound 1 refl;
          clear = inl ((clear_by (tested_code Op.And Cond.G) Rdi L (below 7) (1 ∷ 2 ∷ 3 ∷ 4 ∷ 5 ∷ []) refl).exactly.sound 1 refl);
        }

-- the `subl` is no test
other_line_stays : IsLegal PassKind.RedTest defaults (tested Op.Sub Cond.E) 0 (Edit.Remove 6) → ⊥
unfolding parts_from ◌⊔◌
other_line_stays h = wrong h.holds
  where
    wrong : IsToldTest (tested_code Op.Sub Cond.E) 1 h.insn → ⊥
    wrong k = let e : Op.Sub ≡ Op.Test = same_op (with_two Op.Sub L (reg Rsi) (reg Rdi)) k.2.insn (same_insn (with_two Op.Sub L (reg Rsi) (reg Rdi)) k.2.insn k.2.there) ∙ k.2.op in cc

-- ---- ZEE

-- `cmpl %esi, %edi / cmovel %ecx, %eax / movl %eax, %eax / ret`
abbrev move : Insn
move = with_two Op.Mov L (reg Rax) (reg Rax)

abbrev pub by_cmov : Unit
by_cmov =
    unit_of (two Op.Cmp L (reg Rsi) (reg Rdi) ∷ two (Op.Cmov Cond.E) L (reg Rcx) (reg Rax) ∷ two Op.Mov L (reg Rax) (reg Rax) ∷ ret ∷ [])

abbrev by_cmov_code : Code
by_cmov_code =
    code
    (lines.label f ∷ lines.two Op.Cmp L (reg Rsi) (reg Rdi) ∷ lines.two (Op.Cmov Cond.E) L (reg Rcx) (reg Rax) ∷ lines.two Op.Mov L (reg Rax) (reg Rax) ∷ lines.ret ∷ [])

pub clears_after_cmov : IsLegal PassKind.Zee defaults by_cmov 0 (Edit.Remove 8)
unfolding parts_from ◌⊔◌
clears_after_cmov =
    of_line by_cmov 8 move by_cmov_code 3 IsClearingMove (record { there = insn_at by_cmov 8 move refl refl refl; code = refl; line = refl }) (Rax, clearing)
  where
    clearing : IsClearing by_cmov_code 3 Rax
    clearing =
        record { insn = move; there = refl; op = refl; width = refl; source = refl; dest = refl; holds = (upper_are by_cmov_code Rax (below 4) (2 ∷ 3 ∷ []) refl).exactly.sound 2 refl }

-- `movb $1, %al / movl %eax, %eax / ret`
abbrev by_byte : Unit
by_byte = unit_of (two Op.Mov B (num 1) (reg Rax) ∷ two Op.Mov L (reg Rax) (reg Rax) ∷ ret ∷ [])

abbrev by_byte_code : Code
by_byte_code =
    code (lines.label f ∷ lines.two Op.Mov B (num 1) (reg Rax) ∷ lines.two Op.Mov L (reg Rax) (reg Rax) ∷ lines.ret ∷ [])

stays_after_a_byte : IsLegal PassKind.Zee defaults by_byte 0 (Edit.Remove 7) → ⊥
unfolding parts_from ◌⊔◌
stays_after_a_byte h = wrong (clearing_is by_byte_code 2 move h.insn Rax h.holds refl refl)
  where
    wrong : IsClearing by_byte_code 2 Rax → ⊥
    wrong t = let e = (upper_are by_byte_code Rax (below 3) (2 ∷ []) refl).exactly.complete 1 t.holds in cc

-- ---- DCE

-- `movl $5, %ecx / movl (%rdi), %edx / jmp .L2 / movl $9, %eax / .L2: / movl $1, %eax / movl $2, %edx / ret`
abbrev pub jump_over : Unit
jump_over =
    unit_of
    (two Op.Mov L (num 5) (reg Rcx) ∷ two Op.Mov L (mem (at_base 0 Rdi)) (reg Rdx) ∷ jmp (codes ".L2") ∷ two Op.Mov L (num 9) (reg Rax) ∷ label (codes ".L2") ∷ EntryKind.Blank ∷ two Op.Mov L (num 1) (reg Rax) ∷ two Op.Mov L (num 2) (reg Rdx) ∷ ret ∷ [])

abbrev jump_over_code : Code
jump_over_code =
    code
    (lines.label f ∷ lines.two Op.Mov L (num 5) (reg Rcx) ∷ lines.two Op.Mov L (mem (at_base 0 Rdi)) (reg Rdx) ∷ lines.jmp (codes ".L2") ∷ lines.two Op.Mov L (num 9) (reg Rax) ∷ lines.label (codes ".L2") ∷ lines.two Op.Mov L (num 1) (reg Rax) ∷ lines.two Op.Mov L (num 2) (reg Rdx) ∷ lines.ret ∷ [])

unreached_goes : IsLegal PassKind.Dce defaults jump_over 0 (Edit.Remove 9)
unfolding parts_from ◌⊔◌
unreached_goes =
    of_line jump_over 9 (with_two Op.Mov L (num 9) (reg Rax)) jump_over_code 4 IsNeedless (record { there = insn_at jump_over 9 (with_two Op.Mov L (num 9) (reg Rax)) refl refl refl; code = refl; line = refl }) (inl unreached)
  where
    unreached : IsUnreached jump_over_code 4
    unreached =
        record { place = _; there = refl; unreached = λ r. let e = (reached_are jump_over_code (0 ∷ 1 ∷ 2 ∷ 4 ∷ 5 ∷ 6 ∷ []) refl).exactly.complete 3 r in cc }

dead_goes : IsLegal PassKind.Dce defaults jump_over 0 (Edit.Remove 6)
unfolding parts_from ◌⊔◌
dead_goes =
    of_line jump_over 6 (with_two Op.Mov L (num 5) (reg Rcx)) jump_over_code 1 IsNeedless (record { there = insn_at jump_over 6 (with_two Op.Mov L (num 5) (reg Rcx)) refl refl refl; code = refl; line = refl }) (inr (dead, refl))
  where
    unread : (x : Loc) → (own_footprint (One (with_two Op.Mov L (num 5) (reg Rcx)))).writes x ≡ true → LiveAfter jump_over_code 0 x → ⊥
    unread (InReg Rcx) h l = let e = (live_are jump_over_code (InReg Rcx) [] refl).exactly.complete 0 l in cc
    unread (InReg _) h l = cc
    unread (InFlag g) h l = cc

    dead : IsDead jump_over_code 1
    dead = record { place = One (with_two Op.Mov L (num 5) (reg Rcx)); there = refl; goes_on = refl; keeps_memory = refl; straight = refl; unread = unread }

pub same_place : (p q : Place) → ◌≡◌ {A = Option Line} (Some (Do p)) (Some (Do q)) → p ≡ q
same_place p q e = cc

-- the load may fault
load_stays : IsLegal PassKind.Dce defaults jump_over 0 (Edit.Remove 7) → ⊥
unfolding parts_from ◌⊔◌
load_stays h = wrong h.holds
  where
    wrong : IsNeedless jump_over_code 2 h.insn → ⊥
    wrong k =
        ⊎_elim
        (λ n. n.unreached ((reached_are jump_over_code (0 ∷ 1 ∷ 2 ∷ 4 ∷ 5 ∷ 6 ∷ []) refl).exactly.sound 1 refl))
        (λ n. let e = subst (λ p. (own_footprint p).may_stop ≡ false) (sym (same_place (One (with_two Op.Mov L (mem (at_base 0 Rdi)) (reg Rdx))) n.0.place n.0.there)) n.0.goes_on in cc)
        k

-- `nop / ret`: nothing reads what a `nop` writes, and yet it stays
abbrev padded : Unit
padded = unit_of (nop ∷ ret ∷ [])

abbrev MayGoWhenDead : Insn → Type 0
MayGoWhenDead i = stays_when_dead i.op ≡ false

nop_stays : IsLegal PassKind.Dce defaults padded 0 (Edit.Remove 6) → ⊥
unfolding parts_from ◌⊔◌
nop_stays h = wrong h.insn (same_kind (with_none Op.Nop Q) h.insn h.there.insn) h.holds
  where
    wrong : (i : Insn) → with_none Op.Nop Q ≡ i → IsNeedless (code (lines.label f ∷ lines.nop ∷ lines.ret ∷ [])) 1 i → ⊥
    wrong i e k =
        ⊎_elim
        (λ n. n.unreached ((reached_are (code (lines.label f ∷ lines.nop ∷ lines.ret ∷ [])) (0 ∷ 1 ∷ []) refl).exactly.sound 0 refl))
        (λ n. let o = subst MayGoWhenDead (sym e) n.1 in cc)
        k

-- ---- home functions

-- `movl $1, %ecx / ret`, and whether the file calls it
abbrev leaf : Bool → Unit
leaf home = unit_with home (around (two Op.Mov L (num 1) (reg Rcx) ∷ ret ∷ []))

abbrev leaf_lines : List Line
leaf_lines = lines.label f ∷ lines.two Op.Mov L (num 1) (reg Rcx) ∷ lines.ret ∷ []

goes_unless_home : IsLegal PassKind.Dce defaults (leaf false) 0 (Edit.Remove 6)
unfolding parts_from ◌⊔◌
goes_unless_home =
    of_line (leaf false) 6 (with_two Op.Mov L (num 1) (reg Rcx)) (code leaf_lines) 1 IsNeedless (record { there = insn_at (leaf false) 6 (with_two Op.Mov L (num 1) (reg Rcx)) refl refl refl; code = refl; line = refl }) (inr (dead, refl))
  where
    unread : (x : Loc) → (own_footprint (One (with_two Op.Mov L (num 1) (reg Rcx)))).writes x ≡ true → LiveAfter (code leaf_lines) 0 x → ⊥
    unread (InReg Rcx) h l = let e = (live_are (code leaf_lines) (InReg Rcx) [] refl).exactly.complete 0 l in cc
    unread (InReg _) h l = cc
    unread (InFlag g) h l = cc

    dead : IsDead (code leaf_lines) 1
    dead = record { place = One (with_two Op.Mov L (num 1) (reg Rcx)); there = refl; goes_on = refl; keeps_memory = refl; straight = refl; unread = unread }

-- the return of a home function shows rcx
stays_at_home : IsLegal PassKind.Dce defaults (leaf true) 0 (Edit.Remove 6) → ⊥
unfolding parts_from ◌⊔◌
stays_at_home h = wrong h.holds
  where
    wrong : IsNeedless (at_home leaf_lines) 1 h.insn → ⊥
    wrong k =
        ⊎_elim
        (λ n. n.unreached ((reached_are (at_home leaf_lines) (0 ∷ 1 ∷ []) refl).exactly.sound 0 refl))
        (λ n. n.0.unread (InReg Rcx) (subst (λ p. (own_footprint p).writes (InReg Rcx) ≡ true) (same_place (One (with_two Op.Mov L (num 1) (reg Rcx))) n.0.place n.0.there) refl) ((live_are (at_home leaf_lines) (InReg Rcx) (0 ∷ []) refl).exactly.sound 0 refl))
        k

-- ---- NOPKILL

abbrev with_align : PassOpts
with_align = record defaults { align = 1 }

nop_goes : IsLegal PassKind.NopKill defaults padded 0 (Edit.Remove 6)
unfolding parts_from ◌⊔◌
nop_goes = inl (record { insn = with_none Op.Nop Q; there = insn_at padded 6 (with_none Op.Nop Q) refl refl refl; holds = refl })

ret_stays : IsLegal PassKind.NopKill with_align padded 0 (Edit.Remove 7) → ⊥
ret_stays h =
    ⊎_elim
    (λ k. let e : Op.Ret ≡ Op.Nop = same_op (with_none Op.Ret Q) k.insn (same_kind (with_none Op.Ret Q) k.insn k.there.insn) ∙ k.holds in cc)
    (λ k. let e = k.1.0 in cc)
    h

-- a label stays, also behind a `nop`
abbrev labelled : Unit
labelled = unit_of (nop ∷ label (codes ".L1") ∷ ret ∷ [])

label_stays : IsLegal PassKind.NopKill with_align labelled 0 (Edit.Remove 7) → ⊥
label_stays h = ⊎_elim (λ k. let e = k.there.insn in cc) (λ k. let e = k.1.0 in cc) h

-- `.p2align 3 / ret`: the alignment of the code goes with the option alone, and the one before the function never
abbrev aligned : Unit
aligned = unit_of (align 3 ∷ ret ∷ [])

align_goes : IsLegal PassKind.NopKill with_align aligned 0 (Edit.Remove 6)
unfolding parts_from ◌⊔◌
align_goes = inr (refl, (refl, refl))

align_stays : IsLegal PassKind.NopKill defaults aligned 0 (Edit.Remove 6) → ⊥
align_stays h = ⊎_elim (λ k. let e = k.there.insn in cc) (λ k. absurd (zero_is_not_one k.0)) h
  where
    zero_is_not_one : ◌≡◌ {A = ℕ} 0 1 → ⊥
    zero_is_not_one e = omega arith

align_before_stays : IsLegal PassKind.NopKill with_align aligned 0 (Edit.Remove 2) → ⊥
unfolding parts_from ◌⊔◌
align_before_stays h = ⊎_elim (λ k. let e = k.there.insn in cc) (λ k. let e = k.1.1 in cc) h

-- ---- REDMOV

abbrev slot : Mem
slot = at_base 24 Rsp

abbrev pub cell_with : Mem → Width → MemCell
cell_with m d = record { mem = m; width = d }

pub cell_is : (c : MemCell) (m : Mem) (d : Width) → m ≡ c.mem → d ≡ c.width → cell_with m d ≡ c
cell_is c m d e w = ap (λ x. cell_with x d) e ∙ ap (λ x. cell_with c.mem x) w

abbrev load : Reg → EntryKind
load r = two Op.Mov Q (mem slot) (reg r)

abbrev load_line : Reg → Line
load_line r = lines.two Op.Mov Q (mem slot) (reg r)

-- `movq 24(%rsp), %rdx / movq 24(%rsp), %rcx / ret`
abbrev loaded_twice : Unit
loaded_twice = unit_of (load Rdx ∷ load Rcx ∷ ret ∷ [])

abbrev loaded_twice_code : Code
loaded_twice_code = code (lines.label f ∷ load_line Rdx ∷ load_line Rcx ∷ lines.ret ∷ [])

abbrev from_rdx : Insn
from_rdx = with_two Op.Mov Q (reg Rdx) (reg Rcx)

second_load_becomes_a_move : OfLine loaded_twice 0 7 (λ c at i. IsReload c at (stretch_in loaded_twice 0) from_rdx)
unfolding parts_from ◌⊔◌
second_load_becomes_a_move =
    of_line loaded_twice 7 (with_two Op.Mov Q (mem slot) (reg Rcx)) loaded_twice_code 2 (λ c at i. IsReload c at (stretch_in loaded_twice 0) from_rdx) (record { there = insn_at loaded_twice 7 (with_two Op.Mov Q (mem slot) (reg Rcx)) refl refl refl; code = refl; line = refl })
    (in_any_stretch (stretch_in loaded_twice 0))
  where
    none_less : (stretch : ℕ → ℕ) (r : Reg) → reg_number r < 2 → Holds loaded_twice_code (cell_in loaded_twice_code stretch (cell_with slot Q) r 1) 1 → ⊥
    none_less stretch Rax l h = let e = (cell_held loaded_twice_code stretch (cell_with slot Q) Rax 1 (below 3) [] refl).exactly.complete 1 h in cc
    none_less stretch Rcx l h = let e = (cell_held loaded_twice_code stretch (cell_with slot Q) Rcx 1 (below 3) (2 ∷ []) refl).exactly.complete 1 h in cc
    none_less stretch _ l h = absurd (omega arith)

    in_any_stretch : (stretch : ℕ → ℕ) → IsReload loaded_twice_code 2 stretch from_rdx
    in_any_stretch stretch =
        record {
          cell = cell_with slot Q;
          from = Rdx;
          to = Rcx;
          loaded = record { insn = _; there = refl; op = refl; width = refl; source = refl; dest = refl; holds = (cell_held loaded_twice_code stretch (cell_with slot Q) Rdx 1 (below 3) (1 ∷ 2 ∷ []) refl).exactly.sound 1 refl };
          least = none_less stretch;
          is_move = refl;
        }

-- with `movq %rsi, (%rdi)` between the two
abbrev stored_between : Unit
stored_between = unit_of (load Rdx ∷ two Op.Mov Q (reg Rsi) (mem (at_base 0 Rdi)) ∷ load Rcx ∷ ret ∷ [])

abbrev stored_between_code : Code
stored_between_code =
    code (lines.label f ∷ load_line Rdx ∷ lines.two Op.Mov Q (reg Rsi) (mem (at_base 0 Rdi)) ∷ load_line Rcx ∷ lines.ret ∷ [])

load_behind_a_store_stays : OfLine stored_between 0 8 (λ c at i. IsReload c at (stretch_in stored_between 0) from_rdx) → ⊥
unfolding parts_from ◌⊔◌
load_behind_a_store_stays h = wrong (stretch_in stored_between 0) h.holds
  where
    wrong : (stretch : ℕ → ℕ) → IsReload stored_between_code 3 stretch from_rdx → ⊥
    wrong stretch k =
        let m : slot ≡ k.cell.mem = mem_is slot k.cell.mem (same_first (with_two Op.Mov Q (mem slot) (reg Rcx)) k.loaded.insn (same_insn (with_two Op.Mov Q (mem slot) (reg Rcx)) k.loaded.insn k.loaded.there) ∙ k.loaded.source) in
        let r : Rdx ≡ k.from = reg_is Rdx k.from (same_first from_rdx (from_reg k.cell k.from k.to) k.is_move) in
        let c : cell_with slot Q ≡ k.cell = cell_is k.cell slot Q m (same_width from_rdx (from_reg k.cell k.from k.to) k.is_move) in
        let held : Holds stored_between_code (cell_in stored_between_code stretch (cell_with slot Q) Rdx 2) 2 =
        subst (λ x. Holds stored_between_code (cell_in stored_between_code stretch x Rdx 2) 2) (sym c) (subst (λ x. Holds stored_between_code (cell_in stored_between_code stretch k.cell x 2) 2) (sym r) k.loaded.holds) in
        let e = (cell_held stored_between_code stretch (cell_with slot Q) Rdx 2 (below 4) (1 ∷ []) refl).exactly.complete 2 held in
        cc

-- `movq 24(%rsp), %rax / movq 24(%rsp), %rdx / movq 24(%rsp), %rcx / ret`: rax is the least register, so the third isn't taken from rdx
abbrev loaded_thrice : Unit
loaded_thrice = unit_of (load Rax ∷ load Rdx ∷ load Rcx ∷ ret ∷ [])

abbrev loaded_thrice_code : Code
loaded_thrice_code = code (lines.label f ∷ load_line Rax ∷ load_line Rdx ∷ load_line Rcx ∷ lines.ret ∷ [])

not_from_a_greater_register : OfLine loaded_thrice 0 8 (λ c at i. IsReload c at (stretch_in loaded_thrice 0) from_rdx) → ⊥
unfolding parts_from ◌⊔◌
not_from_a_greater_register h = wrong (stretch_in loaded_thrice 0) h.holds
  where
    wrong : (stretch : ℕ → ℕ) → IsReload loaded_thrice_code 3 stretch from_rdx → ⊥
    wrong stretch k =
        let m : slot ≡ k.cell.mem = mem_is slot k.cell.mem (same_first (with_two Op.Mov Q (mem slot) (reg Rcx)) k.loaded.insn (same_insn (with_two Op.Mov Q (mem slot) (reg Rcx)) k.loaded.insn k.loaded.there) ∙ k.loaded.source) in
        let r : Rdx ≡ k.from = reg_is Rdx k.from (same_first from_rdx (from_reg k.cell k.from k.to) k.is_move) in
        let c : cell_with slot Q ≡ k.cell = cell_is k.cell slot Q m (same_width from_rdx (from_reg k.cell k.from k.to) k.is_move) in
        let held : Holds loaded_thrice_code (cell_in loaded_thrice_code stretch (cell_with slot Q) Rax 2) 2 =
        (cell_held loaded_thrice_code stretch (cell_with slot Q) Rax 2 (below 4) (1 ∷ 2 ∷ 3 ∷ []) refl).exactly.sound 2 refl in
        k.least Rax (subst (λ x. 0 < reg_number x) r (lit< tt)) (subst (λ x. Holds loaded_thrice_code (cell_in loaded_thrice_code stretch x Rax 2) 2) c held)

-- ---- ADDADD

-- `addq $M, %rdi / addq $N, %rdi / movq %rdi, %rax / ret`
abbrev summed : ℕ → ℕ → Unit
summed m n =
    unit_of (two Op.Add Q (num m) (reg Rdi) ∷ two Op.Add Q (num n) (reg Rdi) ∷ two Op.Mov Q (reg Rdi) (reg Rax) ∷ ret ∷ [])

abbrev summed_code : Code
summed_code =
    code (lines.label f ∷ lines.two Op.Add Q (num 8) (reg Rdi) ∷ lines.two Op.Add Q (num 16) (reg Rdi) ∷ lines.two Op.Mov Q (reg Rdi) (reg Rax) ∷ lines.ret ∷ [])

two_sums : IsMerge summed_code 1 2 Rdi Q (pos 8) (pos 16)
unfolding parts_from ◌⊔◌
two_sums =
    record {
      first = with_two Op.Add Q (num 8) (reg Rdi);
      second = with_two Op.Add Q (num 16) (reg Rdi);
      wide = refl;
      order = omega arith;
      first_there = refl;
      second_there = refl;
      first_adds = record { width = refl; dest = refl; kind = inl (record { op = refl; number = refl }) };
      second_adds = record { width = refl; dest = refl; kind = inl (record { op = refl; number = refl }) };
      between = λ c lo hi. absurd (omega arith);
      carry_dead = λ l. let e = (live_are summed_code (InFlag Cf) [] refl).exactly.complete 1 l in cc;
      overflow_dead = λ l. let e = (live_are summed_code (InFlag Of) [] refl).exactly.complete 1 l in cc;
    }

one_sum : IsSumPair (summed 8 16) 0 6 7 (sum_of Rdi Q (pos 24))
unfolding parts_from ◌⊔◌
one_sum =
    record {
      first = with_two Op.Add Q (num 8) (reg Rdi);
      second = with_two Op.Add Q (num 16) (reg Rdi);
      first_there = insn_at (summed 8 16) 6 (with_two Op.Add Q (num 8) (reg Rdi)) refl refl refl;
      second_there = insn_at (summed 8 16) 7 (with_two Op.Add Q (num 16) (reg Rdi)) refl refl refl;
      reg = Rdi;
      width = Q;
      a = pos 8;
      b = pos 16;
      merge = two_sums;
      together = refl;
      fits = lit< tt;
      is_sum = refl;
    }

adds_number : (i : Insn) (d : Width) (r : Reg) (m n : ℤ) → i.op ≡ Op.Add → i.a ≡ Arg.Imm (Imm.Num m) → Adds i d r n → m ≡ n
adds_number i d r m n o a h =
    ⊎_elim (λ k. num_is m n (sym a ∙ k.number)) (λ k. let e : Op.Add ≡ Op.Sub = sym o ∙ k.op in cc) h.kind

-- 2147483648 is no signed number of 32 bits
too_great : (new : Insn) → IsSumPair (summed 2147483647 1) 0 6 7 new → ⊥
unfolding parts_from ◌⊔◌
too_great new h = beyond (subst (λ x. IsWithin (2 ^ 31) (x +ℤ pos 1)) (sym a) (subst (λ x. IsWithin (2 ^ 31) (h.a +ℤ x)) (sym b) h.fits))
  where
    first : (i : Insn) → ◌≡◌ {A = Option Line} (Some (lines.two Op.Add Q (num 2147483647) (reg Rdi))) (Some (Do (One i))) → with_two Op.Add Q (num 2147483647) (reg Rdi) ≡ i
    first i e = same_insn (with_two Op.Add Q (num 2147483647) (reg Rdi)) i e

    second : (i : Insn) → ◌≡◌ {A = Option Line} (Some (lines.two Op.Add Q (num 1) (reg Rdi))) (Some (Do (One i))) → with_two Op.Add Q (num 1) (reg Rdi) ≡ i
    second i e = same_insn (with_two Op.Add Q (num 1) (reg Rdi)) i e

    a : pos 2147483647 ≡ h.a
    a =
        let e = first h.merge.first h.merge.first_there in
        adds_number h.merge.first h.width h.reg (pos 2147483647) h.a (sym (same_op (with_two Op.Add Q (num 2147483647) (reg Rdi)) h.merge.first e)) (sym (same_first (with_two Op.Add Q (num 2147483647) (reg Rdi)) h.merge.first e)) h.merge.first_adds

    b : pos 1 ≡ h.b
    b =
        let e = second h.merge.second h.merge.second_there in
        adds_number h.merge.second h.width h.reg (pos 1) h.b (sym (same_op (with_two Op.Add Q (num 1) (reg Rdi)) h.merge.second e)) (sym (same_first (with_two Op.Add Q (num 1) (reg Rdi)) h.merge.second e)) h.merge.second_adds

    beyond : IsWithin (2 ^ 31) (pos 2147483647 +ℤ pos 1) → ⊥
    beyond l = let k : 2147483648 < 2147483648 = l in omega arith
