-- What a run of a script says.
use Rattle.std.specs.Prelude.{◌≡◌, ℕ, ◌+◌, ◌-◌, ◌^◌, min, Bool, false, List, [], ◌∷◌, length, Some, slice_get, if◌then◌else◌}
use Rattle.std.specs.Option.{option_map_or}
use Rattle.asm_unit.specs.Unit.{Unit}
use Rattle.pass_script.specs.declared.kinds.PassKind.{PassKind}
use Rattle.pass_script.specs.declared.script.Step.{Step}
use Rattle.pass_script.specs.Catalogue.{same_kind}
use Rattle.unit_edits.specs.declared.journal.Part.{Part}
use Rattle.unit_edits.specs.Replay.{replay_parts}
use Rattle.pass_base.specs.Books.{BoxView, count_of}
use Rattle.pass_base.specs.Runs.{BehaveAlike}
use Rattle.pass_driver.specs.Plan.{AreDone, clear_places, script_tasks}

-- whether a part's step has a kind; steps are numbered from 1
abbrev pub is_of : PassKind → List Step → Part → Bool
is_of k steps p = option_map_or (λ s. same_kind s.kind k) (slice_get steps (p.step - 1)) false

-- the number of edits in the parts whose steps have a kind
abbrev pub edits_of : PassKind → List Step → List Part → ℕ
edits_of k steps [] = 0
edits_of k steps (p ∷ ps) = (if is_of k steps p then length p.edits else 0) + edits_of k steps ps

-- a script was done to a unit
pub record IsRun (steps : List Step) (journal : List Part) (u v : Unit) (before after : List BoxView) : Type 0 where
  -- a part for each step and each clear function, in order, each by its pass's rule
  pub done : AreDone (script_tasks 1 steps (clear_places u.decided)) journal u v
  pub replayed : replay_parts journal u ≡ Some v
  pub same : BehaveAlike u v
  -- what was decided of the file stands
  pub decided : v.decided ≡ u.decided
  -- for each kind, what its box counts is what it counted before and the edits of its steps, or the last value of a u64
  pub counted : (k : PassKind) → count_of k after ≡ min (count_of k before + edits_of k steps journal) (2 ^ 64 - 1)
