-- In which code an entry of clear code stands, and at which of its lines an instruction does.
use Rattle.std.proofs.Common.{◌≡◌, ◌∙◌, ℕ, zero, suc, Bool, true, false, ◌||◌, List, [], ◌∷◌, Some, ap, refl}
use Rattle.std.specs.Prelude.{◌&&◌, slice_get, option_map}
use Rattle.insn_ir.specs.declared.entry.EntryKind.{EntryKind}
use Rattle.insn_ir.specs.declared.insn.Insn.{Insn}
use Rattle.insn_ir.specs.Code.{Code, One, Do}
use Rattle.jump_tables.specs.Sections.{text}
use Rattle.asm_unit.specs.CodeLines.{lines_before}
use Rattle.asm_unit.specs.Decisions.{Decision, is_clear, code_with, codes_with}
use Rattle.asm_unit.specs.Functions.{Part, code_part}
use Rattle.asm_unit.specs.Held.{AreUnique, entry_of, entries_of}
use Rattle.asm_unit.specs.Tables.{is_among}
use Rattle.asm_unit.specs.Unit.{Unit, functions_of, in_clear_code}
use Rattle.asm_unit.specs.UnitCodes.{StandsIn}
use Rattle.asm_unit.proofs.LineLaws.{line_is}
use Rattle.asm_unit.proofs.StandLaws.{once_placed}
use Rattle.asm_unit.proofs.UnitLaws.{entry_found}

no : {P : Type 0} → false ≡ true → P
no e = absurd (cc)

-- the function in whose code the entry stands, with the code
record CodePlace (ds : List Decision) (fs : List Part) (s : ℕ) : Type 0 where
  place : ℕ
  part : Part
  code : Code
  function : slice_get fs place ≡ Some part
  made : slice_get (codes_with ds fs) place ≡ Some code
  among : is_among s (code_part part) ≡ true

code_place : (ds : List Decision) (fs : List Part) (s : ℕ) → in_clear_code ds fs s ≡ true → CodePlace ds fs s
code_place [] fs s e = no e
code_place (d ∷ ds) [] s e = no e
code_place (d ∷ ds) (f ∷ fs) s e = by_tests (is_clear d) (is_among s (code_part f)) refl e (code_place ds fs s)
  where
    later : CodePlace ds fs s → CodePlace (d ∷ ds) (f ∷ fs) s
    later w = record { place = suc w.place; part = w.part; code = w.code; function = w.function; made = w.made; among = w.among }

    by_tests : (t u : Bool) → is_among s (code_part f) ≡ u → (t && u) || in_clear_code ds fs s ≡ true → (in_clear_code ds fs s ≡ true → CodePlace ds fs s) → CodePlace (d ∷ ds) (f ∷ fs) s
    by_tests true true g q rest = record { place = zero; part = f; code = code_with d f; function = refl; made = refl; among = g }
    by_tests true false g q rest = later (rest q)
    by_tests false u g q rest = later (rest q)

pub stands_in : (u : Unit) (s : ℕ) → in_clear_code u.decided (functions_of u) s ≡ true → (k : ℕ) × (f : Part) × (c : Code) × StandsIn u s k f c
stands_in u s e =
    let w = code_place u.decided (functions_of u) s e in
    (w.place, w.part, w.code, record { function = w.function; code = w.made; among = w.among })

pub line_there : (u : Unit) (s k : ℕ) (f : Part) (c : Code) (i : Insn) → AreUnique u.held → option_map (λ e. e.kind) (entry_of u.held s) ≡ Some (EntryKind.Insn i) → StandsIn u s k f c
    → slice_get c.lines (lines_before s (code_part f)) ≡ Some (Do (One i))
line_there u s k f c i unique is stands =
    line_is u.decided (entries_of u.held) k s f i c stands.function
    (record { once = once_placed s text u.held unique; insn = ap (option_map (λ e. e.kind)) (entry_found s u.held) ∙ is; among = stands.among })
    stands.code
