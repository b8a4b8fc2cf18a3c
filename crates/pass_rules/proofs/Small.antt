-- Small units, and tests that compute for what the definitions say of them.
use Rattle.std.proofs.Common.{◌≡◌, ℕ, suc, Bool, true, false, not, ◌&&◌, ◌||◌, List, [], ◌∷◌, ◌++◌, length, Option, Some, None, refl, sym, ap, subst}
use Rattle.std.specs.Prelude.{codes, find, option_map}
use Rattle.insn_ir.specs.declared.entry.DirectiveKind.{DirectiveKind}
use Rattle.insn_ir.specs.declared.entry.EntryKind.{EntryKind}
use Rattle.insn_ir.specs.declared.insn.Arg.{Arg}
use Rattle.insn_ir.specs.declared.insn.Insn.{Insn}
use Rattle.insn_ir.specs.declared.op.Cond.{Cond}
use Rattle.insn_ir.specs.declared.op.Op.{Op}
use Rattle.insn_ir.specs.declared.op.Width.{Width}
use Rattle.insn_ir.specs.declared.op.Width.TheVariants.{Q}
use Rattle.insn_ir.specs.Code.{Code, One, Line, Do}
use Rattle.blocks_cfg.proofs.Codes.{to_name, with_none, with_one, with_two}
use Rattle.jump_tables.specs.Sections.{Placed, placed, text}
use Rattle.asm_unit.specs.Decisions.{Decision}
use Rattle.asm_unit.specs.Edits.{has_serial}
use Rattle.asm_unit.specs.Grown.{LacksPlaced, IsOnce}
use Rattle.asm_unit.specs.Functions.{code_part}
use Rattle.asm_unit.specs.declared.held.Held.{Held}
use Rattle.asm_unit.specs.Held.{new_held, entries_of}
use Rattle.asm_unit.specs.Tables.{is_among}
use Rattle.asm_unit.specs.Unit.{Unit}
use Rattle.unit_edits.specs.Bodies.{body_of, code_of}
use Rattle.pass_rules.specs.Sites.{line_of, IsInsnAt, OfLine}

-- ---- entries

abbrev pub f : List ℕ
f = codes "f"

abbrev pub insn : Insn → EntryKind
insn i = EntryKind.Insn i

abbrev pub two : Op → Width → Arg → Arg → EntryKind
two o d a b = insn (with_two o d a b)

abbrev pub ret : EntryKind
ret = insn (with_none Op.Ret Q)

abbrev pub nop : EntryKind
nop = insn (with_none Op.Nop Q)

abbrev pub jmp : List ℕ → EntryKind
jmp n = insn (with_one Op.Jmp Q (to_name n))

abbrev pub jcc : Cond → List ℕ → EntryKind
jcc c n = insn (with_one (Op.Jcc c) Q (to_name n))

abbrev pub label : List ℕ → EntryKind
label n = EntryKind.Label n

abbrev pub align : ℕ → EntryKind
align power = EntryKind.Directive (DirectiveKind.Align power None None)

abbrev pub section : List ℕ → Bool → EntryKind
section n c = EntryKind.Directive (DirectiveKind.Section n c)

-- ---- units

abbrev pub held_from : ℕ → List EntryKind → List Held
held_from serial [] = []
held_from serial (k ∷ ks) = new_held serial k ∷ held_from (suc serial) ks

abbrev pub decision : Bool → Decision
decision home = record { name = f; home = home; cause = None; tables = [] }

-- the unit of these entries, whose one function is home or not
abbrev pub unit_with : Bool → List EntryKind → Unit
unit_with home ks = record { held = held_from 1 ks; decided = decision home ∷ []; file = None; last = length ks }

-- `.text / .p2align 4 / .type f, @function / f:`, with the rest of the label's line, a body that begins with serial 6, and `.size f, .-f`
abbrev pub around : List EntryKind → List EntryKind
around body =
    section text.name true ∷ align 4 ∷ EntryKind.Directive (DirectiveKind.FuncType f) ∷ label f ∷ EntryKind.Blank ∷ body ++ EntryKind.Directive (DirectiveKind.FuncEnd f) ∷ []

abbrev pub unit_of : List EntryKind → Unit
unit_of body = unit_with false (around body)

-- ---- an entry of a serial that no other has

abbrev pub lacks_test : ℕ → List Placed → Bool
lacks_test b [] = true
lacks_test b (p ∷ ps) = not (has_serial b p.entry) && lacks_test b ps

abbrev pub once_test : ℕ → List Placed → Bool
once_test b [] = true
once_test b (p ∷ ps) = (not (has_serial b p.entry) || lacks_test b ps) && once_test b ps

pub both : (a b : Bool) → (a && b) ≡ true → (a ≡ true) × (b ≡ true)
both true b h = (refl, h)
both false b h = cc

pub not_true : (a : Bool) → not a ≡ true → a ≡ false
not_true true h = cc
not_true false h = refl

lacks_by : (b : ℕ) (ps : List Placed) → lacks_test b ps ≡ true → LacksPlaced b ps
lacks_by b [] h = tt
lacks_by b (p ∷ ps) h = let k = both (not (has_serial b p.entry)) (lacks_test b ps) h in (not_true (has_serial b p.entry) k.0, lacks_by b ps k.1)

unless : (a b : Bool) → (not a || b) ≡ true → a ≡ true → b ≡ true
unless true b h e = h
unless false b h e = cc

pub once_by : (b : ℕ) (ps : List Placed) → once_test b ps ≡ true → IsOnce b ps
once_by b [] h = tt
once_by b (p ∷ ps) h =
    let k = both (not (has_serial b p.entry) || lacks_test b ps) (once_test b ps) h in
    ((λ e. lacks_by b ps (unless (has_serial b p.entry) (lacks_test b ps) k.0 e)), once_by b ps k.1)

-- ---- what stands at a line

pub same_insn : (i j : Insn) → ◌≡◌ {A = Option Line} (Some (Do (One i))) (Some (Do (One j))) → i ≡ j
same_insn i j e = cc

pub same_op : (i j : Insn) → i ≡ j → i.op ≡ j.op
same_op i j e = ap (λ x. x.op) e

pub same_width : (i j : Insn) → i ≡ j → i.width ≡ j.width
same_width i j e = ap (λ x. x.width) e

pub same_first : (i j : Insn) → i ≡ j → i.a ≡ j.a
same_first i j e = ap (λ x. x.a) e

pub same_kind : (i j : Insn) → ◌≡◌ {A = Option EntryKind} (Some (insn i)) (Some (insn j)) → i ≡ j
same_kind i j e = cc

-- ---- an instruction of the one function

pub insn_at : (u : Unit) (serial : ℕ) (i : Insn) → once_test serial (placed (entries_of u.held)) ≡ true → option_map (λ e. e.kind) (find (has_serial serial) (entries_of u.held)) ≡ Some (EntryKind.Insn i) → is_among serial (code_part (body_of u 0)) ≡ true → IsInsnAt u 0 serial i
insn_at u serial i o k a = record { once = once_by serial (placed (entries_of u.held)) o; insn = k; among = a }

-- it makes this line of this code
pub record Makes (u : Unit) (serial : ℕ) (i : Insn) (c : Code) (at : ℕ) : Type 0 where
  pub there : IsInsnAt u 0 serial i
  pub code : code_of u 0 ≡ c
  pub line : line_of u 0 serial ≡ at

pub of_line : (u : Unit) (serial : ℕ) (i : Insn) (c : Code) (at : ℕ) (P : Code → ℕ → Insn → Type 0) → Makes u serial i c at → P c at i → OfLine u 0 serial P
of_line u serial i c at P m p =
    record { insn = i; there = m.there; holds = subst (λ d. P d (line_of u 0 serial) i) (sym m.code) (subst (λ n. P c n i) (sym m.line) p) }

pub line_holds : (u : Unit) (serial : ℕ) (i : Insn) (c : Code) (at : ℕ) (P : Code → ℕ → Insn → Type 0) → Makes u serial i c at → (h : OfLine u 0 serial P) → P c at h.insn
line_holds u serial i c at P m h = subst (λ n. P c n h.insn) m.line (subst (λ d. P d (line_of u 0 serial) h.insn) m.code h.holds)
