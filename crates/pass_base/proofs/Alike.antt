-- Kinds of one place are one.
use Rattle.std.proofs.Common.{◌≡◌, List, [], ◌∷◌, refl, ap, sym, ◌∙◌, arith, true}
use Rattle.std.specs.Prelude.{slice_get, Some}
use Rattle.std.proofs.lemmas.Grind.{common_steps}
use Rattle.pass_script.specs.declared.kinds.PassKind.{PassKind}
use Rattle.pass_script.specs.Catalogue.{place_of, same_kind}

abbrev all_kinds : List PassKind
all_kinds =
    PassKind.RedTest ∷ PassKind.RedMov ∷ PassKind.Zee ∷ PassKind.AddAdd ∷ PassKind.Dce ∷ PassKind.NopIn ∷ PassKind.NopKill ∷ PassKind.Loop16 ∷ PassKind.BrAlign ∷ []

at_its_place : (k : PassKind) → slice_get all_kinds (place_of k) ≡ Some k
at_its_place PassKind.RedTest = refl
at_its_place PassKind.RedMov = refl
at_its_place PassKind.Zee = refl
at_its_place PassKind.AddAdd = refl
at_its_place PassKind.Dce = refl
at_its_place PassKind.NopIn = refl
at_its_place PassKind.NopKill = refl
at_its_place PassKind.Loop16 = refl
at_its_place PassKind.BrAlign = refl

pub one_kind : (a b : PassKind) → place_of a ≡ place_of b → a ≡ b
one_kind a b e =
    let s : Some a ≡ Some b = sym (at_its_place a) ∙ ap (slice_get all_kinds) e ∙ at_its_place b in
    grind (arith, common_steps)

pub same_then : (a b : PassKind) → same_kind a b ≡ true → a ≡ b
same_then a b e = one_kind a b (grind (arith, common_steps))

pub same_if : (a b : PassKind) → place_of a ≡ place_of b → same_kind a b ≡ true
same_if a b e = grind (arith, common_steps)

pub same_self : (a : PassKind) → same_kind a a ≡ true
same_self a = same_if a a refl
