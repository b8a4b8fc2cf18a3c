-- What part of a script was done so far.
use Rattle.std.specs.Prelude.{◌≡◌, ℕ, ◌+◌, Bool, false, List, [], ◌∷◌, ◌++◌, length, slice_get, if◌then◌else◌, IsTrue}
use Rattle.std.specs.Option.{option_map_or}
use Rattle.asm_unit.specs.Decisions.{Decision, is_clear}
use Rattle.asm_unit.specs.Unit.{Unit}
use Rattle.pass_script.specs.declared.kinds.PassKind.{PassKind}
use Rattle.pass_script.specs.declared.options.PassOpts.{PassOpts}
use Rattle.pass_script.specs.Catalogue.{same_kind}
use Rattle.unit_edits.specs.declared.journal.Part.{Part}
use Rattle.pass_base.specs.Books.{BoxView, has_box, opts_of, count_of}
use Rattle.pass_base.specs.Runs.{raised}
use Rattle.pass_driver.specs.Plan.{Task, AreDone}

-- whether there is a function at a place, and it is clear
abbrev pub is_clear_at : List Decision → ℕ → Bool
is_clear_at ds f = option_map_or is_clear (slice_get ds f) false

-- the place of a function, where it is clear
abbrev pub if_clear : List Decision → ℕ → List ℕ
if_clear ds f = if is_clear_at ds f then f ∷ [] else []

-- how many edits the parts of a kind's tasks have
abbrev pub edits_in : PassKind → List Task → List Part → ℕ
edits_in k [] ps = 0
edits_in k (t ∷ ts) [] = 0
edits_in k (t ∷ ts) (p ∷ ps) = (if same_kind t.step.kind k then length p.edits else 0) + edits_in k ts ps

-- the box of a kind, if there is one, has these options
abbrev pub HasOpts : PassKind → PassOpts → List BoxView → Type 0
HasOpts k o bs = IsTrue (has_box k bs) → opts_of k bs ≡ o

-- tasks were done: the journal has their parts behind what it had, and the boxes counted their edits
pub record Reaches (ts : List Task) (j j' : List Part) (u v : Unit) (before after : List BoxView) : Type 0 where
  pub parts : List Part
  pub journal : j' ≡ j ++ parts
  pub done : AreDone ts parts u v
  pub counted : (k : PassKind) → count_of k after ≡ raised (count_of k before) (edits_in k ts parts)
