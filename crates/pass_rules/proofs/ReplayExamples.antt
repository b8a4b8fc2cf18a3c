-- Edits of small units, computed.
use Rattle.std.proofs.Common.{◌≡◌, ℕ, List, [], ◌∷◌, Option, Some, None, refl}
use Rattle.std.specs.Option.{option_and_then}
use Rattle.insn_ir.specs.declared.entry.EntryKind.{EntryKind}
use Rattle.insn_ir.specs.declared.op.Op.{Op}
use Rattle.insn_ir.specs.declared.op.Reg.TheVariants.{Rax, Rcx}
use Rattle.insn_ir.specs.declared.op.Width.TheVariants.{Q}
use Rattle.att_lexer.specs.declared.pieces.Span.{Span}
use Rattle.asm_unit.specs.declared.held.Held.{Held}
use Rattle.asm_unit.specs.Unit.{Unit, nop_kind, align_kind}
use Rattle.blocks_cfg.proofs.Codes.{reg}
use Rattle.unit_edits.specs.declared.edit.Edit.{Edit}
use Rattle.unit_edits.specs.Replay.{put, removed, edited, replay, replay_parts}
use Rattle.pass_rules.proofs.Small.{nop, ret, two}

-- `nop / nop / ret` with the serials 1 to 3, each piece kept
abbrev span : ℕ → Option Span
span n = Some (record { start = n; len = 1 })

abbrev held : ℕ → EntryKind → Option Span → Held
held n k o = record { entry = record { serial = n; kind = k }; span = o }

abbrev unit_at : List Held → ℕ → Unit
unit_at hs last = record { held = hs; decided = []; file = None; last = last }

abbrev kept : Unit
kept = unit_at (held 1 nop (span 0) ∷ held 2 nop (span 1) ∷ held 3 ret (span 2) ∷ []) 3

both_nops_go : replay (Edit.Remove 1 ∷ Edit.Remove 2 ∷ []) kept ≡ Some (unit_at (held 3 ret (span 2) ∷ []) 3)
both_nops_go = refl

-- an entry goes once
gone_already : replay (Edit.Remove 1 ∷ Edit.Remove 1 ∷ []) kept ≡ None
gone_already = refl

never_there : edited (Edit.Remove 4) kept ≡ None
never_there = refl

-- an instruction that is put is printed anew; its place and its serial stay, and so do the pieces around it
abbrev move : EntryKind
move = two Op.Mov Q (reg Rax) (reg Rcx)

put_in_its_place : put 2 move kept ≡ Some (unit_at (held 1 nop (span 0) ∷ held 2 move None ∷ held 3 ret (span 2) ∷ []) 3)
put_in_its_place = refl

-- the two halves of a merge; a merge of an entry with itself is none
merged : option_and_then (put 2 move) (removed 1 kept) ≡ Some (unit_at (held 2 move None ∷ held 3 ret (span 2) ∷ []) 3)
merged = refl

merged_with_itself : option_and_then (put 2 move) (removed 2 kept) ≡ None
merged_with_itself = refl

-- new entries come directly before another, with the next serials
nop_comes : edited (Edit.InsertNop 3 4) kept ≡ Some (unit_at (held 1 nop (span 0) ∷ held 2 nop (span 1) ∷ held 4 nop_kind None ∷ held 3 ret (span 2) ∷ []) 4)
nop_comes = refl

align_comes_then_nop : replay (Edit.InsertAlign 1 4 5 ∷ Edit.InsertNop 1 5 ∷ []) kept
    ≡ Some (unit_at (held 4 (align_kind 5) None ∷ held 5 nop_kind None ∷ held 1 nop (span 0) ∷ held 2 nop (span 1) ∷ held 3 ret (span 2) ∷ []) 5)
align_comes_then_nop = refl

serial_left_out : edited (Edit.InsertNop 3 5) kept ≡ None
serial_left_out = refl

serial_given_already : edited (Edit.InsertNop 3 3) kept ≡ None
serial_given_already = refl

before_nothing : edited (Edit.InsertAlign 4 4 4) kept ≡ None
before_nothing = refl

-- the serial of an entry that went isn't given again
serials_rise : replay (Edit.InsertNop 3 4 ∷ Edit.Remove 4 ∷ Edit.InsertNop 3 4 ∷ []) kept ≡ None
serials_rise = refl

-- parts in order: the second removes what the first inserted
parts_in_order : replay_parts (record { step = 1; f = 0; edits = Edit.InsertNop 3 4 ∷ [] } ∷ record { step = 2; f = 0; edits = Edit.Remove 4 ∷ [] } ∷ []) kept
    ≡ Some (record kept { last = 4 })
parts_in_order = refl

parts_in_another_order : replay_parts (record { step = 2; f = 0; edits = Edit.Remove 4 ∷ [] } ∷ record { step = 1; f = 0; edits = Edit.InsertNop 3 4 ∷ [] } ∷ []) kept ≡ None
parts_in_another_order = refl
