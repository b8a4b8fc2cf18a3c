-- Jump tables.
use Rattle.std.specs.Prelude.{ℕ, Bool, true, false, not, ◌&&◌, List, [], ◌∷◌, ◌++◌, map, filter, flat_map, find, Option, Some, None, option_map, if◌then◌else◌}
use Rattle.std.specs.List.{list_any, list_all}
use Rattle.insn_ir.specs.declared.op.Width.{Width}
use Rattle.insn_ir.specs.declared.entry.Cell.{Cell}
use Rattle.insn_ir.specs.declared.entry.DirectiveKind.{DirectiveKind}
use Rattle.insn_ir.specs.declared.entry.EntryKind.{EntryKind}
use Rattle.insn_ir.specs.declared.entry.Entry.{Entry}
use Rattle.jump_tables.specs.declared.table.Table.{Table}
use Rattle.jump_tables.specs.Names.{has}
use Rattle.jump_tables.specs.Uses.{names, is_table_jump}
use Rattle.jump_tables.specs.Sections.{Placed, placed, is_debug}

abbrev pub label_name : EntryKind → Option (List ℕ)
label_name (EntryKind.Label n) = Some n
label_name _ = None

abbrev pub cell_names : List Cell → List (List ℕ)
cell_names [] = []
cell_names (Cell.Sym n ∷ cs) = n ∷ cell_names cs
cell_names (_ ∷ cs) = cell_names cs

abbrev pub is_symbol : Cell → Bool
is_symbol (Cell.Sym n) = true
is_symbol _ = false

-- the cells of 64 bits that an entry holds (GNU as manual, 7.83 .quad)
abbrev pub cells : EntryKind → List Cell
cells (EntryKind.Directive (DirectiveKind.Words Width.Q cs ns)) = cs
cells _ = []

-- a blank, or cells of 64 bits that are all symbols
abbrev pub fits_table : EntryKind → Bool
fits_table EntryKind.Blank = true
fits_table k = list_any (λ c. true) (cells k) && list_all is_symbol (cells k)

-- what fits at the front, up to the first entry that does not
abbrev pub rows_of : List Placed → List Placed
rows_of [] = []
rows_of (p ∷ ps) = if fits_table p.entry.kind then p ∷ rows_of ps else []

-- a table of the file: its label, and the rows behind it
pub record FileTable : Type 0 where
  pub label : List ℕ
  pub serial : ℕ
  pub rows : List Placed

abbrev pub table_cells : FileTable → List (List ℕ)
table_cells t = flat_map (λ p. cell_names (cells p.entry.kind)) t.rows

abbrev pub table_at : Bool → Option (List ℕ) → ℕ → List Placed → List FileTable
table_at false (Some n) serial ps = record { label = n; serial = serial; rows = rows_of ps } ∷ []
table_at _ _ serial ps = []

-- labels outside code sections, each with what fits behind it
abbrev pub table_starts : List Placed → List FileTable
table_starts [] = []
table_starts (p ∷ ps) = table_at p.section.code (label_name p.entry.kind) p.entry.serial ps ++ table_starts ps

-- the tables of the file: those that have a cell
abbrev pub has_cell : FileTable → Bool
has_cell t = list_any (λ n. true) (table_cells t)

abbrev pub file_tables : List Placed → List FileTable
file_tables ps = filter has_cell (table_starts ps)

-- the serials of the table jumps by a name
abbrev pub users : List Placed → List ℕ → List ℕ
users ps t = map (λ p. p.entry.serial) (filter (λ p. is_table_jump t p.entry.kind) ps)

-- whether an entry outside debug sections names it otherwise
abbrev pub is_other_use : List ℕ → Placed → Bool
is_other_use t p = not (is_debug p.section) && has t (names p.entry.kind) && not (is_table_jump t p.entry.kind)

-- the first such entry
abbrev pub other_use : List Placed → List ℕ → Option ℕ
other_use ps t = option_map (λ p. p.entry.serial) (find (is_other_use t) ps)

abbrev pub table_of : List Placed → FileTable → Table
table_of ps t = record { label = t.label; serial = t.serial; cells = table_cells t; users = users ps t.label; other_use = other_use ps t.label }

-- the tables of a file, in order, with their uses
abbrev pub tables_in : List Entry → List Table
tables_in es = map (table_of (placed es)) (file_tables (placed es))
