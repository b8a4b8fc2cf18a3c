-- A function of a unit, by its place.
use Rattle.std.specs.Prelude.{◌≡◌, ℕ, Bool, true, false, not, ◌||◌, [], length, filter, slice_index_or, slice_get, Some, option_map}
use Rattle.insn_ir.specs.Code.{Code}
use Rattle.insn_ir.specs.Entries.{is_nop_entry}
use Rattle.jump_tables.specs.Sections.{Placed}
use Rattle.asm_unit.specs.Decisions.{codes, is_clear}
use Rattle.asm_unit.specs.Functions.{Part, nothing, code_part, is_align_kind}
use Rattle.asm_unit.specs.Held.{entries_of}
use Rattle.asm_unit.specs.Unit.{Unit, functions_of}

-- the entries of the function at a place, from 0; none where there is no such function
abbrev pub body_of : Unit → ℕ → Part
body_of u f = slice_index_or (functions_of u) f nothing

abbrev pub no_code : Code
no_code = record { name = []; lines = []; tables = []; home = false }

-- its code, with what was decided of it when the file was read
abbrev pub code_of : Unit → ℕ → Code
code_of u f = slice_index_or (codes u.decided (entries_of u.held)) f no_code

-- there is a function at a place, and it is clear
abbrev pub IsClearAt : Unit → ℕ → Type 0
IsClearAt u f = option_map is_clear (slice_get u.decided f) ≡ Some true

-- the weight of a function is the number of entries of its code that are neither a `nop` nor an alignment
abbrev pub weighs : Placed → Bool
weighs p = not (is_nop_entry p.entry.kind || is_align_kind p.entry.kind)

abbrev pub weight : Unit → ℕ → ℕ
weight u f = length (filter weighs (code_part (body_of u f)))
