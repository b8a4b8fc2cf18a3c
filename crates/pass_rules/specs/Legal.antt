-- The edits that a pass may do, on the unit as it stands. What each rests on is said in docs/LAWS.md.
use Rattle.std.specs.Prelude.{◌≡◌, ◌⊎◌, ◌<◌, ◌^◌, ℕ, Bool, true, false, Option, Some, None, ℤ, ◌+ℤ◌}
use Rattle.insn_ir.specs.declared.entry.Entry.{Entry}
use Rattle.insn_ir.specs.declared.insn.Insn.{Insn}
use Rattle.insn_ir.specs.declared.op.Op.{Op}
use Rattle.insn_ir.specs.declared.op.Reg.{Reg}
use Rattle.insn_ir.specs.declared.op.Width.{Width}
use Rattle.insn_ir.specs.Code.{Code}
use Rattle.insn_ir.specs.Machine.{reg_number}
use Rattle.insn_ir.specs.Profile.{IsWithin}
use Rattle.blocks_cfg.specs.Cells.{MemCell}
use Rattle.blocks_cfg.specs.Facts.{Holds}
use Rattle.blocks_cfg.specs.Rules.{cell_in}
use Rattle.drop_laws.specs.Removals.{place_of, IsUnreached, IsDead, IsClearing, IsTold}
use Rattle.move_laws.specs.Merges.{IsMerge, sum_of}
use Rattle.move_laws.specs.Puts.{IsLoaded, from_reg}
use Rattle.asm_unit.specs.Functions.{code_part, is_align_kind}
use Rattle.asm_unit.specs.Held.{entry_of}
use Rattle.asm_unit.specs.Tables.{is_among}
use Rattle.asm_unit.specs.Unit.{Unit}
use Rattle.pass_script.specs.declared.kinds.PassKind.{PassKind}
use Rattle.pass_script.specs.declared.options.PassOpts.{PassOpts}
use Rattle.unit_edits.specs.declared.edit.Edit.{Edit}
use Rattle.unit_edits.specs.Bodies.{body_of, code_of}
use Rattle.pass_rules.specs.Sites.{line_of, stretch_in, IsInsnAt, OfLine}

-- `test R, R` whose result the flags have already
abbrev pub IsToldTest : Code → ℕ → Insn → Type 0
IsToldTest c at i = (r : Reg) × (d : Width) × IsTold c at r d

-- `movl R, R` where the upper half of R is zero already
abbrev pub IsClearingMove : Code → ℕ → Insn → Type 0
IsClearingMove c at i = (r : Reg) × IsClearing c at r

-- `mov M, R` of 32 or 64 bits where a register holds M, and the `mov` from the least such register
pub record IsReload (c : Code) (at : ℕ) (stretch : ℕ → ℕ) (new : Insn) : Type 0 where
  pub cell : MemCell
  pub from : Reg
  pub to : Reg
  pub loaded : IsLoaded c at stretch cell from to
  pub least : (r : Reg) → reg_number r < reg_number from → Holds c (cell_in c stretch cell r (place_of c at)) (place_of c at) → ⊥
  pub is_move : new ≡ from_reg cell from to

-- two sums of numbers to one register in one stretch, and the sum of both numbers, which is a signed number of 32 bits
pub record IsSumPair (u : Unit) (f one two : ℕ) (new : Insn) : Type 0 where
  pub first : Insn
  pub second : Insn
  pub first_there : IsInsnAt u f one first
  pub second_there : IsInsnAt u f two second
  pub reg : Reg
  pub width : Width
  pub a : ℤ
  pub b : ℤ
  pub merge : IsMerge (code_of u f) (line_of u f one) (line_of u f two) reg width a b
  pub together : stretch_in u f (place_of (code_of u f) (line_of u f one)) ≡ stretch_in u f (place_of (code_of u f) (line_of u f two))
  pub fits : IsWithin (2 ^ 31) (a +ℤ b)
  pub is_sum : new ≡ sum_of reg width (a +ℤ b)

-- operations that stay although nothing reads what they write: those of the stack, and those that stand there for their own sake
abbrev pub stays_when_dead : Op → Bool
stays_when_dead Op.Push = true
stays_when_dead Op.Pop = true
stays_when_dead Op.Leave = true
stays_when_dead Op.Nop = true
stays_when_dead Op.Endbr64 = true
stays_when_dead Op.Ud2 = true
stays_when_dead _ = false

-- a place that no way reaches, or one that writes nothing that is live, can't fault, doesn't store, and is no jump, call or return
abbrev pub IsNeedless : Code → ℕ → Insn → Type 0
IsNeedless c at i = IsUnreached c at ⊎ (IsDead c at × (stays_when_dead i.op ≡ false))

abbrev pub IsNop : Code → ℕ → Insn → Type 0
IsNop c at i = i.op ≡ Op.Nop

abbrev pub is_align : Option Entry → Bool
is_align None = false
is_align (Some e) = is_align_kind e.kind

-- an alignment in the code
abbrev pub IsAlignAt : Unit → ℕ → ℕ → Type 0
IsAlignAt u f serial = (is_align (entry_of u.held serial) ≡ true) × (is_among serial (code_part (body_of u f)) ≡ true)

-- an edit of the function at f by a pass of this kind; the kinds that aren't here don't choose among legal edits
abbrev pub IsLegal : PassKind → PassOpts → Unit → ℕ → Edit → Type 0
IsLegal PassKind.RedTest o u f (Edit.Remove serial) = OfLine u f serial IsToldTest
IsLegal PassKind.RedMov o u f (Edit.Put serial new) = OfLine u f serial (λ c at i. IsReload c at (stretch_in u f) new.value)
IsLegal PassKind.Zee o u f (Edit.Remove serial) = OfLine u f serial IsClearingMove
IsLegal PassKind.AddAdd o u f (Edit.Merge first second new) = IsSumPair u f first second new.value
IsLegal PassKind.Dce o u f (Edit.Remove serial) = OfLine u f serial IsNeedless
IsLegal PassKind.NopKill o u f (Edit.Remove serial) = OfLine u f serial IsNop ⊎ ((o.align ≡ 1) × IsAlignAt u f serial)
IsLegal _ o u f e = ⊥
