-- What the walks of `find_tables` have collected at each stage.
use Rattle.std.specs.Prelude.{ℕ, Bool, not, ◌&&◌, List, [], ◌∷◌, ◌++◌, Option, Some, None, fold, bytes_eq, slice_index_or, if◌then◌else◌}
use Rattle.insn_ir.specs.declared.entry.Cell.{Cell}
use Rattle.insn_ir.specs.declared.entry.EntryKind.{EntryKind}
use Rattle.insn_ir.specs.declared.entry.Entry.{Entry}
use Rattle.jump_tables.specs.declared.table.Table.{Table}
use Rattle.jump_tables.specs.declared.collect.Uses.{Uses}
use Rattle.jump_tables.specs.Names.{has, place_of, with_name}
use Rattle.jump_tables.specs.Uses.{names, is_table_jump}
use Rattle.jump_tables.specs.Sections.{Placed}
use Rattle.jump_tables.specs.Tables.{label_name, cells, cell_names, fits_table, FileTable, table_cells, users, other_use}

-- the cells of a row, where it is one
abbrev pub row_cells : EntryKind → Option (List Cell)
row_cells k = if fits_table k then Some (cells k) else None

-- the names in the cells at the front, up to the first entry that is no row
abbrev pub cells_behind : List Entry → List (List ℕ)
cells_behind [] = []
cells_behind (e ∷ es) = if fits_table e.kind then cell_names (cells e.kind) ++ cells_behind es else []

-- the table that an entry begins, if it does and has a cell
abbrev pub start_with : Option (List ℕ) → ℕ → List (List ℕ) → List Table
start_with None serial cs = []
start_with (Some n) serial [] = []
start_with (Some n) serial (c ∷ cs) = record { label = n; serial = serial; cells = c ∷ cs; users = []; other_use = None } ∷ []

abbrev pub table_start : Bool → Entry → List Entry → List Table
table_start code e es = if code then [] else start_with (label_name e.kind) e.serial (cells_behind es)

-- a table whose uses are not yet known
abbrev pub unused : FileTable → Table
unused t = record { label = t.label; serial = t.serial; cells = table_cells t; users = []; other_use = None }

-- different names, each at its first place
abbrev pub distinct_of : List (List ℕ) → List (List ℕ)
distinct_of ns = fold with_name [] ns

-- the uses of a name
abbrev pub uses_of : List Placed → List ℕ → Uses
uses_of ps n = record { users = users ps n; other_use = other_use ps n }

abbrev pub none_used : Uses
none_used = record { users = []; other_use = None }

abbrev pub with_uses : Uses → Table → Table
with_uses u t = record t { users = u.users; other_use = u.other_use }

abbrev pub with_uses_at : Option ℕ → List Uses → Table → Table
with_uses_at None us t = t
with_uses_at (Some k) us t = with_uses (slice_index_or us k none_used) t

-- a table with the uses that stand at the place of its label
abbrev pub looked_up : List (List ℕ) → List Uses → Table → Table
looked_up ns us t = with_uses_at (place_of t.label ns) us t

abbrev pub first_of : Option ℕ → Option ℕ → Option ℕ
first_of None o = o
first_of (Some k) o = Some k

-- the uses of each name, changed
abbrev pub for_each : (List ℕ → Uses → Uses) → List (List ℕ) → List Uses → List Uses
for_each f [] us = us
for_each f (n ∷ ns) [] = []
for_each f (n ∷ ns) (u ∷ us) = f n u ∷ for_each f ns us

-- the uses of one name, changed
abbrev pub at_name : List ℕ → (Uses → Uses) → List ℕ → Uses → Uses
at_name m f n u = if bytes_eq m n then f u else u

abbrev pub with_other : Bool → ℕ → Uses → Uses
with_other b serial u = record u { other_use = first_of u.other_use (if b then Some serial else None) }

abbrev pub with_user : Bool → ℕ → Uses → Uses
with_user b serial u = record u { users = u.users ++ (if b then serial ∷ [] else []) }

-- the uses of a name after one more entry has named these; the first is whether it stands in a debug section
abbrev pub named : Bool → Entry → List (List ℕ) → List ℕ → Uses → Uses
named debug e ns n u = with_other (not debug && has n ns && not (is_table_jump n e.kind)) e.serial u

-- the uses of a name after one more entry
abbrev pub noted : Bool → Entry → List ℕ → Uses → Uses
noted debug e n u = with_user (is_table_jump n e.kind) e.serial (named debug e (names e.kind) n u)
