-- Where entries of a function's code stand.
use Rattle.std.proofs.Common.{◌≡◌, ℕ, zero, suc, ◌<◌, true, false, ◌||◌, List, [], ◌∷◌, length, Some, sym, ap, ◌∙◌, option_map, arith}
use Rattle.std.specs.Prelude.{slice_get, slice_index_or, is_some, ◌&&◌}
use Rattle.std.proofs.Math.Bool.{or-true}
use Rattle.asm_unit.specs.Decisions.{Decision, is_clear}
use Rattle.asm_unit.specs.Functions.{Part, nothing, code_part}
use Rattle.asm_unit.specs.Held.{entry_of}
use Rattle.asm_unit.specs.Tables.{is_among}
use Rattle.asm_unit.specs.Unit.{Unit, functions_of, in_clear_code}
use Rattle.asm_unit.proofs.StandLaws.{clear_there}
use Rattle.asm_unit.proofs.UnitLaws.{holds_there}
use Rattle.unit_edits.specs.declared.journal.Part.{Part as JournalPart}
use Rattle.unit_edits.specs.Bodies.{IsClearAt}
use Rattle.unit_edits.specs.Proper.{IsOfCode}
use Rattle.pass_base.specs.Runs.{last_is}

no : {P : Type 0} → true ≡ false → P
no e = absurd (cc)

pub last_pos : (f : ℕ) (j : List JournalPart) → last_is f j → 0 < length j
last_pos f [] h = absurd h
last_pos f (p ∷ []) h = omega arith
last_pos f (p ∷ q ∷ j) h = omega arith

clear_in : (ds : List Decision) (f : ℕ) → option_map is_clear (slice_get ds f) ≡ Some true → f < length ds
clear_in [] f e = absurd (cc)
clear_in (d ∷ ds) zero e = omega arith
clear_in (d ∷ ds) (suc f) e = omega (arith, clear_in ds f e)

pub clear_within : (u : Unit) (f : ℕ) → IsClearAt u f → f < length u.decided
clear_within u f e = clear_in u.decided f e

-- an entry of the code of a clear function stands in clear code
pub in_clear : (ds : List Decision) (fs : List Part) (f s : ℕ) → option_map is_clear (slice_get ds f) ≡ Some true → is_among s (code_part (slice_index_or fs f nothing)) ≡ true → in_clear_code ds fs s ≡ true
in_clear [] fs f s c a = absurd (cc)
in_clear (d ∷ ds) [] f s c a = no (sym a)
in_clear (d ∷ ds) (q ∷ fs) zero s c a =
    let clear : is_clear d ≡ true = cc in
    ap (λ b. (b && is_among s (code_part q)) || in_clear_code ds fs s) clear ∙ ap (λ b. b || in_clear_code ds fs s) a
in_clear (d ∷ ds) (q ∷ fs) (suc f) s c a = ap (λ b. (is_clear d && is_among s (code_part q)) || b) (in_clear ds fs f s c a) ∙ or-true (is_clear d && is_among s (code_part q))

-- and is there
pub code_there : (u : Unit) (f s : ℕ) → IsClearAt u f → IsOfCode u f s → is_some (entry_of u.held s) ≡ true
code_there u f s c a = holds_there s u.held (clear_there u.decided s u.held (in_clear u.decided (functions_of u) f s c a))

within : (fs : List Part) (f s : ℕ) → is_among s (code_part (slice_index_or fs f nothing)) ≡ true → f < length fs
within [] f s a = no (sym a)
within (q ∷ fs) zero s a = omega arith
within (q ∷ fs) (suc f) s a = omega (arith, within fs f s a)

pub code_within : (u : Unit) (f s : ℕ) → IsOfCode u f s → f < length (functions_of u)
code_within u f s a = within (functions_of u) f s a
