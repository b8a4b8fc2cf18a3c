-- Edits within a function, one after another.
use Rattle.std.proofs.Common.{◌≡◌, ℕ, List, Some}
use Rattle.asm_unit.specs.Unit.{Unit}
use Rattle.unit_edits.specs.declared.edit.Edit.{Edit}
use Rattle.unit_edits.specs.Proper.{AllProper}
use Rattle.unit_edits.specs.Replay.{replay}
use Rattle.unit_edits.proofs.Replayed.{along}
use Rattle.edit_laws.specs.Stays.{IsSound}
use Rattle.edit_laws.proofs.Steps.{OfSteps, of_edit, edit_sound}

pub replay_sound : (f : ℕ) (es : List Edit) (u v : Unit) → IsSound u → AllProper f u es → replay es u ≡ Some v → IsSound v
replay_sound f es u v sound proper r = along IsSound f es u v (λ e x y s p h. edit_sound f x y e s p h) sound proper r

pub of_replay : (f : ℕ) (R : Unit → Unit → Type 0) → OfSteps f R → (es : List Edit) (u v : Unit) → R u u → IsSound u → AllProper f u es → replay es u ≡ Some v → R u v
of_replay f R of es u v same sound proper r =
    (along (λ x. IsSound x × R u x) f es u v (λ e x y p q h. (edit_sound f x y e p.0 q h, of.both u x y p.1 (of_edit f R of x y e p.0 q h))) (sound, same) proper r).1
