-- What a run of a pass does.
use Rattle.std.specs.Prelude.{◌≡◌, ℕ, ◌+◌, ◌-◌, ◌^◌, min, List, [], ◌∷◌, length, Some}
use Rattle.asm_unit.specs.Decisions.{codes}
use Rattle.asm_unit.specs.Edits.{SameEach}
use Rattle.asm_unit.specs.Held.{entries_of}
use Rattle.asm_unit.specs.Unit.{Unit}
use Rattle.pass_script.specs.declared.kinds.PassKind.{PassKind}
use Rattle.pass_script.specs.declared.options.PassOpts.{PassOpts}
use Rattle.unit_edits.specs.declared.edit.Edit.{Edit}
use Rattle.unit_edits.specs.declared.journal.Part.{Part}
use Rattle.unit_edits.specs.Journal.{onto_last}
use Rattle.unit_edits.specs.Proper.{AllProper}
use Rattle.unit_edits.specs.Replay.{replay}
use Rattle.pass_rules.specs.Rules.{Rule}

-- a count that rose by a number, and stands at the last value of a u64 where the sum is greater
abbrev pub raised : ℕ → ℕ → ℕ
raised count n = min (count + n) (2 ^ 64 - 1)

-- the last part is of the function
abbrev pub last_is : ℕ → List Part → Type 0
last_is f [] = ⊥
last_is f (p ∷ []) = p.f ≡ f
last_is f (p ∷ q ∷ ps) = last_is f (q ∷ ps)

-- with what was decided of the first unit, each function of the second does what it did
abbrev pub BehaveAlike : Unit → Unit → Type 0
BehaveAlike u v = SameEach (codes u.decided (entries_of u.held)) (codes u.decided (entries_of v.held))

-- edits within a function lead from a unit to another, meet the rule of a pass, and keep what each function does
pub record Completes (k : PassKind) (o : PassOpts) (f : ℕ) (u : Unit) (es : List Edit) (v : Unit) : Type 0 where
  pub replayed : replay es u ≡ Some v
  pub within : AllProper f u es
  pub rule : Rule k o f u es v
  pub same : BehaveAlike u v

-- so many edits within a function lead from a unit and a journal to others, and keep what each function does
pub record Leads (f : ℕ) (u v : Unit) (j j' : List Part) (n : ℕ) : Type 0 where
  pub edits : List Edit
  pub journal : j' ≡ onto_last edits j
  pub counted : n ≡ length edits
  pub replayed : replay edits u ≡ Some v
  pub within : AllProper f u edits
  pub same : BehaveAlike u v

-- a call that answered Ok with a number of edits
pub record Ran (k : PassKind) (o : PassOpts) (f : ℕ) (u v : Unit) (j j' : List Part) (n : ℕ) : Type 0 where
  pub leads : Leads f u v j j' n
  pub rule : Rule k o f u leads.edits v
