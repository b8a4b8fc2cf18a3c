-- A function with a jump table among its code, computed: which lines its entries make, and which edits are legal.
use Rattle.std.proofs.Common.{◌≡◌, ℕ, true, false, List, [], ◌∷◌, ◌++◌, Some, None, inr, refl}
use Rattle.std.specs.Prelude.{codes}
use Rattle.insn_ir.specs.declared.entry.Cell.{Cell}
use Rattle.insn_ir.specs.declared.entry.DirectiveKind.{DirectiveKind}
use Rattle.insn_ir.specs.declared.entry.EntryKind.{EntryKind}
use Rattle.insn_ir.specs.declared.insn.Arg.{Arg}
use Rattle.insn_ir.specs.declared.insn.Base.{Base}
use Rattle.insn_ir.specs.declared.insn.Disp.{Disp}
use Rattle.insn_ir.specs.declared.insn.Insn.{Insn}
use Rattle.insn_ir.specs.declared.op.Cond.{Cond}
use Rattle.insn_ir.specs.declared.op.Flag.TheVariants.{Cf, Of}
use Rattle.insn_ir.specs.declared.op.Op.{Op}
use Rattle.insn_ir.specs.declared.op.Reg.TheVariants.{Rax, Rsi, Rdi}
use Rattle.insn_ir.specs.declared.op.Width.TheVariants.{L, Q}
use Rattle.insn_ir.specs.Code.{Code}
use Rattle.insn_ir.specs.Machine.{Absolute, Table}
use Rattle.insn_effects.specs.Footprint.{InFlag, ◌⊔◌}
use Rattle.blocks_cfg.proofs.Codes.{reg, num, atom, at_base, mem, with_none, with_one, with_two}
use Rattle.blocks_cfg.proofs.Codes as lines
use Rattle.blocks_cfg.proofs.Computed.{below, live_are}
use Rattle.blocks_cfg.proofs.Makers.{upper_are, flags_by}
use Rattle.drop_laws.specs.Removals.{IsTold, IsClearing}
use Rattle.jump_tables.specs.Sections.{text}
use Rattle.asm_unit.specs.Functions.{parts_from}
use Rattle.asm_unit.specs.Unit.{Unit}
use Rattle.pass_script.specs.declared.kinds.PassKind.{PassKind}
use Rattle.pass_script.specs.Catalogue.{defaults}
use Rattle.unit_edits.specs.declared.edit.Edit.{Edit}
use Rattle.pass_rules.specs.Layouts.{has_layout}
use Rattle.pass_rules.specs.Legal.{IsToldTest, IsClearingMove, IsLegal}
use Rattle.pass_rules.proofs.LegalExamples.{clearing_is}
use Rattle.pass_rules.proofs.Small.{insn, two, ret, jcc, label, align, section, held_from, insn_at, Makes, of_line, line_holds}

abbrev name : List ℕ
name = codes "pick"

abbrev through : Arg
through =
    Arg.Mem (record { disp = Disp.Sym (atom (codes ".L4")); fs = false; base = Base.Absent; index = Some Rdi; scale = 8 })

abbrev sum : Insn
sum = with_two Op.Lea L (mem (at_base 1 Rsi)) (reg Rax)

abbrev within_10 : EntryKind
within_10 = EntryKind.Directive (DirectiveKind.Align 4 None (Some 10))

abbrev cell : List ℕ → EntryKind
cell n = EntryKind.Directive (DirectiveKind.Words Q (Cell.Sym n ∷ []) (n ∷ []))

abbrev cfi : EntryKind
cfi = EntryKind.Directive DirectiveKind.Cfi

-- serials 1 to 15: up to `notrack jmp *.L4(,%rdi,8)`
abbrev front : List EntryKind
front =
    EntryKind.Directive DirectiveKind.Inert ∷ section text.name true ∷ align 4 ∷ EntryKind.Directive (DirectiveKind.Export (name ∷ [])) ∷ EntryKind.Directive (DirectiveKind.FuncType name) ∷ label name ∷ EntryKind.Blank ∷ label (codes ".LFB0") ∷ EntryKind.Blank ∷ cfi ∷ insn (with_none Op.Endbr64 Q) ∷ two Op.Cmp L (num 2) (reg Rdi) ∷ jcc Cond.A (codes ".L5") ∷ two Op.Mov L (reg Rdi) (reg Rdi) ∷ insn (with_one Op.JmpStarNotrack Q through) ∷ []

-- 16 to 26: the table in another section, and the alignments behind it
abbrev table : List EntryKind
table =
    section (codes ".rodata") false ∷ align 3 ∷ align 2 ∷ label (codes ".L4") ∷ EntryKind.Blank ∷ cell (codes ".L7") ∷ cell (codes ".L6") ∷ cell (codes ".L3") ∷ section text.name true ∷ within_10 ∷ align 3 ∷ []

-- 27 to 41
abbrev middle : List EntryKind
middle =
    label (codes ".L7") ∷ EntryKind.Blank ∷ insn sum ∷ ret ∷ within_10 ∷ align 3 ∷ label (codes ".L6") ∷ EntryKind.Blank ∷ two Op.Mov L (reg Rsi) (reg Rax) ∷ two Op.Sub L (num 7) (reg Rax) ∷ two Op.Test L (reg Rax) (reg Rax) ∷ jcc Cond.S (codes ".L5") ∷ ret ∷ within_10 ∷ align 3 ∷ []

abbrev back : List EntryKind
back =
    label (codes ".L3") ∷ EntryKind.Blank ∷ insn sum ∷ ret ∷ label (codes ".L5") ∷ EntryKind.Blank ∷ two Op.Xor L (reg Rax) (reg Rax) ∷ ret ∷ cfi ∷ label (codes ".LFE0") ∷ EntryKind.Blank ∷ EntryKind.Directive (DirectiveKind.FuncEnd name) ∷ []

abbrev its_table : Table
its_table = record { kind = Absolute; label = codes ".L4"; cells = codes ".L7" ∷ codes ".L6" ∷ codes ".L3" ∷ [] }

abbrev pick : Unit
pick =
    record { held = held_from 1 (front ++ table ++ middle ++ back); decided = record { name = name; home = false; cause = None; tables = its_table ∷ [] } ∷ []; file = None; last = 53 }

abbrev pick_code : Code
pick_code =
    record {
      name = name;
      lines = lines.label name ∷ lines.label (codes ".LFB0") ∷ lines.bare Op.Endbr64 Q ∷ lines.two Op.Cmp L (num 2) (reg Rdi) ∷ lines.jcc Cond.A (codes ".L5") ∷ lines.two Op.Mov L (reg Rdi) (reg Rdi) ∷ lines.one Op.JmpStarNotrack Q through ∷ lines.label (codes ".L7") ∷ lines.line sum ∷ lines.ret ∷ lines.label (codes ".L6") ∷ lines.two Op.Mov L (reg Rsi) (reg Rax) ∷ lines.two Op.Sub L (num 7) (reg Rax) ∷ lines.two Op.Test L (reg Rax) (reg Rax) ∷ lines.jcc Cond.S (codes ".L5") ∷ lines.ret ∷ lines.label (codes ".L3") ∷ lines.line sum ∷ lines.ret ∷ lines.label (codes ".L5") ∷ lines.two Op.Xor L (reg Rax) (reg Rax) ∷ lines.ret ∷ lines.label (codes ".LFE0") ∷ [];
      tables = its_table ∷ [];
      home = false;
    }

abbrev test : Insn
test = with_two Op.Test L (reg Rax) (reg Rax)

the_test : Makes pick 37 test pick_code 13
unfolding parts_from ◌⊔◌
the_test = record { there = insn_at pick 37 test refl refl refl; code = refl; line = refl }

test_goes : IsLegal PassKind.RedTest defaults pick 0 (Edit.Remove 37)
unfolding parts_from ◌⊔◌
test_goes = of_line pick 37 test pick_code 13 IsToldTest the_test (Rax, L, told)
  where
    told : IsTold pick_code 13 Rax L
    told =
        record {
          insn = test;
          there = refl;
          op = refl;
          width = refl;
          source = refl;
          dest = refl;
          holds = (flags_by pick_code Rax L (below 16) (9 ∷ 10 ∷ 11 ∷ 15 ∷ []) refl).exactly.sound 9 refl;
          clear = inr ((λ l. let e = (live_are pick_code (InFlag Cf) (1 ∷ []) refl).exactly.complete 9 l in cc), (λ l. let e = (live_are pick_code (InFlag Of) [] refl).exactly.complete 9 l in cc));
        }

-- nothing clears the upper half of rdi before it is an index
abbrev move : Insn
move = with_two Op.Mov L (reg Rdi) (reg Rdi)

the_move : Makes pick 14 move pick_code 5
unfolding parts_from ◌⊔◌
the_move = record { there = insn_at pick 14 move refl refl refl; code = refl; line = refl }

move_stays : IsLegal PassKind.Zee defaults pick 0 (Edit.Remove 14) → ⊥
unfolding parts_from ◌⊔◌
move_stays h = wrong (clearing_is pick_code 5 move h.insn Rdi (line_holds pick 14 move pick_code 5 IsClearingMove the_move h) refl refl)
  where
    wrong : IsClearing pick_code 5 Rdi → ⊥
    wrong t = let e = (upper_are pick_code Rdi (below 16) (4 ∷ 5 ∷ 6 ∷ 7 ∷ 8 ∷ 9 ∷ 10 ∷ 11 ∷ 12 ∷ 13 ∷ []) refl).exactly.complete 3 t.holds in cc

-- the alignments of the table aren't those of the code
its_layout : has_layout pick 0 ≡ true
unfolding parts_from
its_layout = refl
