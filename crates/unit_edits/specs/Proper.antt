-- Edits within a function: each names entries of its code, of the kinds that may change, and brings what can be written.
use Rattle.std.specs.Prelude.{◌≡◌, ◌≢◌, ◌≤◌, ⊤, ℕ, true, List, [], ◌∷◌}
use Rattle.std.specs.Option.{IsSomeAnd}
use Rattle.insn_ir.specs.Profile.{IsInstruction}
use Rattle.asm_unit.specs.Functions.{code_part}
use Rattle.asm_unit.specs.Held.{entry_of}
use Rattle.asm_unit.specs.Tables.{is_among}
use Rattle.asm_unit.specs.Unit.{Unit, is_removable_entry, is_insn_entry}
use Rattle.unit_edits.specs.declared.edit.Edit.{Edit}
use Rattle.unit_edits.specs.Bodies.{body_of}
use Rattle.unit_edits.specs.Replay.{edited}

-- the entry of a serial stands in the code of the function at a place
abbrev pub IsOfCode : Unit → ℕ → ℕ → Type 0
IsOfCode u f serial = is_among serial (code_part (body_of u f)) ≡ true

-- and it is an instruction
abbrev pub IsInsnOfCode : Unit → ℕ → ℕ → Type 0
IsInsnOfCode u f serial = IsOfCode u f serial × (is_insn_entry (entry_of u.held serial) ≡ true)

abbrev pub IsProper : Unit → ℕ → Edit → Type 0
IsProper u f (Edit.Remove serial) = IsOfCode u f serial × (is_removable_entry (entry_of u.held serial) ≡ true)
IsProper u f (Edit.Put serial i) = IsInsnOfCode u f serial × IsInstruction i.value
IsProper u f (Edit.Merge first second i) = IsInsnOfCode u f first × IsInsnOfCode u f second × (first ≢ second) × IsInstruction i.value
IsProper u f (Edit.InsertNop before serial) = IsOfCode u f before
IsProper u f (Edit.InsertAlign before serial power) = IsOfCode u f before × (power ≤ 12)

-- each on the unit as it then stands
abbrev pub AllProper : ℕ → Unit → List Edit → Type 0
AllProper f u [] = ⊤
AllProper f u (e ∷ es) = IsProper u f e × IsSomeAnd (edited e u) (λ v. AllProper f v es)
