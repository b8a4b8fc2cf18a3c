-- What LOOP16 and BRALIGN do, edit by edit (Hundt and others, "MAO - an Extensible Micro-Architectural Optimizer", CGO 2011: loops
-- that begin in one fetch of 16 bytes, and back branches that don't share 32 bytes of the branch predictor; which edits do it is this
-- project's own rule).
use Rattle.std.specs.Prelude.{◌≡◌, ◌⊎◌, ◌<◌, ◌≤◌, ◌-◌, ◌/◌, ◌%◌, ℕ, suc, Bool, true, false, not, List, [], ◌∷◌, ◌++◌, length, filter, replicate, nat_le, Option, Some, None}
use Rattle.std.specs.List.{take_while}
use Rattle.insn_ir.specs.declared.entry.DirectiveKind.{DirectiveKind}
use Rattle.insn_ir.specs.declared.entry.EntryKind.{EntryKind}
use Rattle.jump_tables.specs.Sections.{Placed}
use Rattle.asm_unit.specs.Edits.{has_serial}
use Rattle.asm_unit.specs.Functions.{code_part, label_of, base_power, full_power}
use Rattle.asm_unit.specs.Grown.{last_placed}
use Rattle.asm_unit.specs.Unit.{Unit}
use Rattle.unit_edits.specs.declared.edit.Edit.{Edit}
use Rattle.pass_rules.specs.Branches.{AreHeads, AreBackBranches}
use Rattle.pass_rules.specs.Draws.{nops_before}
use Rattle.pass_rules.specs.Layouts.{HasOffset, jumps_elsewhere, has_layout}
use Rattle.unit_edits.specs.Replay.{edited, replay}
use Rattle.unit_edits.specs.Bodies.{body_of}

-- ---- the label of the function

-- the entry of a serial is the label of the function
abbrev pub IsLabelOf : Unit → ℕ → ℕ → Type 0
IsLabelOf u f serial = (p : Placed) × (label_of (body_of u f) ≡ Some p) × (p.entry.serial ≡ serial)

-- the base power is lower, and the first edit is a `.p2align` of this power before the label
pub record BeginsAligned (power f : ℕ) (u : Unit) (es : List Edit) (v : Unit) (rest : List Edit) : Type 0 where
  pub lower : base_power (body_of u f) < power
  pub label : ℕ
  pub is_label : IsLabelOf u f label
  pub first : es ≡ Edit.InsertAlign label (suc u.last) power ∷ rest
  pub after : edited (Edit.InsertAlign label (suc u.last) power) u ≡ Some v

-- P says what the other edits are, on the unit as it then stands
abbrev pub WithBase : (power f : ℕ) → (Unit → List Edit → Type 0) → Unit → List Edit → Type 0
WithBase power f P u es =
    ((power ≤ base_power (body_of u f)) × P u es) ⊎ ((v : Unit) × (rest : List Edit) × BeginsAligned power f u es v rest × P v rest)

-- where there is a layout P says what the edits are, else there are none
abbrev pub WhereLaidOut : ℕ → (Unit → List Edit → Type 0) → Unit → List Edit → Type 0
WhereLaidOut f P u es = ((has_layout u f ≡ true) × P u es) ⊎ ((has_layout u f ≡ false) × (es ≡ []))

-- ---- LOOP16

-- what may stand between an alignment and the head that it aligns
abbrev pub may_stand_between : EntryKind → Bool
may_stand_between EntryKind.Blank = true
may_stand_between (EntryKind.Label n) = true
may_stand_between (EntryKind.Directive DirectiveKind.Inert) = true
may_stand_between (EntryKind.Directive (DirectiveKind.Export ns)) = true
may_stand_between (EntryKind.Directive (DirectiveKind.FuncType n)) = true
may_stand_between (EntryKind.Directive DirectiveKind.Cfi) = true
may_stand_between (EntryKind.Directive DirectiveKind.CfiTable) = true
may_stand_between _ = false

-- the entry before that of a serial in the code, but for those
abbrev pub nearest_before : Unit → ℕ → ℕ → Option Placed
nearest_before u f serial =
    last_placed None (filter (λ p. not (may_stand_between p.entry.kind)) (take_while (λ p. not (has_serial serial p.entry)) (code_part (body_of u f))))

abbrev pub aligns_to_16 : Option Placed → Bool
aligns_to_16 None = true
aligns_to_16 (Some p) = nat_le 4 (full_power p.entry.kind)

-- whether a head is aligned to 16 already: by an alignment that always pads, or by that of the function where nothing stands before
abbrev pub is_guarded : Unit → ℕ → ℕ → Bool
is_guarded u f head = aligns_to_16 (nearest_before u f head)

-- a head isn't guarded, and the first edit is a `.p2align 4` before it
pub record IsAligned (f head : ℕ) (u : Unit) (es : List Edit) (v : Unit) (rest : List Edit) : Type 0 where
  pub unguarded : is_guarded u f head ≡ false
  pub first : es ≡ Edit.InsertAlign head (suc u.last) 4 ∷ rest
  pub after : edited (Edit.InsertAlign head (suc u.last) 4) u ≡ Some v

-- heads in order, each judged on the unit as it then stands
abbrev pub AlignsHeads : ℕ → List ℕ → Unit → List Edit → Type 0
AlignsHeads f [] u es = es ≡ []
AlignsHeads f (head ∷ heads) u es =
    ((is_guarded u f head ≡ true) × AlignsHeads f heads u es) ⊎ ((v : Unit) × (rest : List Edit) × IsAligned f head u es v rest × AlignsHeads f heads v rest)

-- there is something to do where there is a loop and each direct jump allows a layout
pub data AlignsLoops (f : ℕ) (u : Unit) (es : List Edit) : Type 0 where
  leaves_heads : (heads : List ℕ) → AreHeads u f heads → (heads ≡ []) ⊎ (jumps_elsewhere u f ≡ true) → es ≡ [] → AlignsLoops f u es
  aligns_heads : (head : ℕ) (heads : List ℕ) → AreHeads u f (head ∷ heads) → jumps_elsewhere u f ≡ false → WithBase 4 f (WhereLaidOut f (AlignsHeads f (head ∷ heads))) u es → AlignsLoops f u es

-- ---- BRALIGN

-- the offsets of a back branch and of the one before it
pub record HaveOffsets (f last branch : ℕ) (u : Unit) (from at : ℕ) : Type 0 where
  pub last_there : HasOffset (body_of u f) last from
  pub there : HasOffset (body_of u f) branch at

-- both stand in the same 32 bytes, one more may be moved, and the first edits are as many `nop` before the second as its offset lacks
-- to the next multiple of 32
pub record IsMoved (f left last branch : ℕ) (u : Unit) (es : List Edit) (v : Unit) (rest : List Edit) : Type 0 where
  pub allowed : 0 < left
  pub from : ℕ
  pub at : ℕ
  pub offsets : HaveOffsets f last branch u from at
  pub together : from / 32 ≡ at / 32
  pub first : es ≡ nops_before u.last (replicate (32 - at % 32) branch) ++ rest
  pub after : replay (nops_before u.last (replicate (32 - at % 32) branch)) u ≡ Some v

pub record AreApart (f last branch : ℕ) (u : Unit) : Type 0 where
  pub from : ℕ
  pub at : ℕ
  pub offsets : HaveOffsets f last branch u from at
  pub apart : from / 32 ≡ at / 32 → ⊥

-- the back branches behind a last one in order, each in the layout of the unit as it then stands; so many may be moved
abbrev pub MovesBranches : (f left last : ℕ) → List ℕ → Unit → List Edit → Type 0
MovesBranches f left last [] u es = es ≡ []
MovesBranches f left last (branch ∷ branches) u es =
    ((v : Unit) × (rest : List Edit) × IsMoved f left last branch u es v rest × MovesBranches f (left - 1) branch branches v rest)
    ⊎ (((left ≡ 0) ⊎ AreApart f last branch u) × MovesBranches f left branch branches u es)

-- there is something to do where there are two back branches and each direct jump allows a layout
pub data AlignsBranches (max f : ℕ) (u : Unit) (es : List Edit) : Type 0 where
  leaves_branches : (branches : List ℕ) → AreBackBranches u f branches → (length branches < 2) ⊎ (jumps_elsewhere u f ≡ true) → es ≡ [] → AlignsBranches max f u es
  aligns_branches : (first second : ℕ) (branches : List ℕ) → AreBackBranches u f (first ∷ second ∷ branches) → jumps_elsewhere u f ≡ false → WithBase 5 f (WhereLaidOut f (MovesBranches f max first (second ∷ branches))) u es → AlignsBranches max f u es
