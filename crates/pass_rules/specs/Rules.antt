-- What a pass does to a function: its rule, by its kind.
use Rattle.std.specs.Prelude.{◌≡◌, ⊤, ℕ, List, [], ◌∷◌}
use Rattle.std.specs.Option.{IsSomeAnd}
use Rattle.asm_unit.specs.Functions.{code_part}
use Rattle.asm_unit.specs.Unit.{Unit}
use Rattle.pass_script.specs.declared.kinds.PassKind.{PassKind}
use Rattle.pass_script.specs.declared.options.PassOpts.{PassOpts}
use Rattle.unit_edits.specs.declared.edit.Edit.{Edit}
use Rattle.pass_rules.specs.Aligning.{AlignsLoops, AlignsBranches}
use Rattle.pass_rules.specs.Draws.{chosen, words_of, nops_before}
use Rattle.pass_rules.specs.Legal.{IsLegal}
use Rattle.unit_edits.specs.Replay.{edited}
use Rattle.unit_edits.specs.Bodies.{body_of}

-- each edit is legal on the unit as it then stands
abbrev pub AllLegal : PassKind → PassOpts → ℕ → Unit → List Edit → Type 0
AllLegal k o f u [] = ⊤
AllLegal k o f u (e ∷ es) = IsLegal k o u f e × IsSomeAnd (edited e u) (λ v. AllLegal k o f v es)

-- and none is left
pub record IsExhausted (k : PassKind) (o : PassOpts) (f : ℕ) (before : Unit) (edits : List Edit) (after : Unit) : Type 0 where
  pub legal : AllLegal k o f before edits
  pub none_left : (e : Edit) → IsLegal k o after f e → ⊥

-- The edits of a pass on the function at f, whose replay leads from the unit before to the unit after. The options are those of
-- the step.
abbrev pub Rule : PassKind → PassOpts → ℕ → Unit → List Edit → Unit → Type 0
Rule PassKind.NopIn o f before edits after = edits ≡ nops_before before.last (chosen o.density (words_of o.seed) (code_part (body_of before f)))
Rule PassKind.Loop16 o f before edits after = AlignsLoops f before edits
Rule PassKind.BrAlign o f before edits after = AlignsBranches o.max f before edits
Rule k o f before edits after = IsExhausted k o f before edits after
