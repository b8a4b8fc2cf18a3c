-- Entries of a function that are dropped one after another.
use Rattle.std.specs.Prelude.{◌≡◌, ⊤, ℕ, Bool, false, List, [], ◌∷◌, nat_eq, Option, Some, None}
use Rattle.std.specs.List.{AllByRecursion, list_any}
use Rattle.insn_ir.specs.declared.entry.DirectiveKind.{DirectiveKind}
use Rattle.insn_ir.specs.declared.entry.Entry.{Entry}
use Rattle.insn_ir.specs.declared.entry.EntryKind.{EntryKind}
use Rattle.insn_ir.specs.Entries.{is_nop_entry}
use Rattle.asm_unit.specs.declared.held.Held.{Held}
use Rattle.asm_unit.specs.Held.{AreUnique, entry_of, held_without}
use Rattle.asm_unit.specs.Unit.{Unit}
use Rattle.unit_edits.specs.declared.edit.Edit.{Edit}
use Rattle.unit_edits.specs.Bodies.{IsClearAt}
use Rattle.unit_edits.specs.Proper.{IsProper}

-- a nop goes, and where the option `align` is 1 an alignment
abbrev pub goes_kind : (align : ℕ) → EntryKind → Bool
goes_kind align (EntryKind.Insn i) = is_nop_entry (EntryKind.Insn i)
goes_kind align (EntryKind.Directive (DirectiveKind.Align p f m)) = nat_eq align 1
goes_kind align _ = false

abbrev pub goes : (align : ℕ) → Option Entry → Bool
goes align None = false
goes align (Some e) = goes_kind align e.kind

abbrev pub goes_at : (align : ℕ) → List Held → ℕ → Bool
goes_at align hs serial = goes align (entry_of hs serial)

abbrev pub has_number : ℕ → List ℕ → Bool
has_number s ss = list_any (λ t. nat_eq t s) ss

abbrev pub AreDistinct : List ℕ → Type 0
AreDistinct [] = ⊤
AreDistinct (s ∷ ss) = (has_number s ss ≡ false) × AreDistinct ss

-- the entries of these serials go, in order
abbrev pub dropped : ℕ → Unit → Unit
dropped s u = record u { held = held_without s u.held }

abbrev pub all_dropped : List ℕ → Unit → Unit
all_dropped [] u = u
all_dropped (s ∷ ss) u = all_dropped ss (dropped s u)

abbrev pub removes : List ℕ → List Edit
removes [] = []
removes (s ∷ ss) = Edit.Remove s ∷ removes ss

-- these entries of a clear function's code may go
pub record CanDrop (f : ℕ) (u : Unit) (ss : List ℕ) : Type 0 where
  pub clear : IsClearAt u f
  pub unique : AreUnique u.held
  pub distinct : AreDistinct ss
  pub proper : AllByRecursion (λ s. IsProper u f (Edit.Remove s)) ss
