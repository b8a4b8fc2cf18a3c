-- What depends on lasting entries alone, and that each edit keeps those.
use Rattle.std.proofs.Common.{◌≡◌, ℕ, zero, suc, Bool, true, false, not, cond, List, [], ◌∷◌, ◌++◌, map, Option, Some, None, refl, sym, ap, ◌∙◌}
use Rattle.std.specs.Prelude.{find, option_map, bytes_eq, filter_map, slice_index_or}
use Rattle.std.specs.List.{AllByRecursion, cons_option}
use Rattle.insn_ir.specs.Machine.{Table}
use Rattle.insn_ir.specs.declared.entry.DirectiveKind.{DirectiveKind}
use Rattle.insn_ir.specs.declared.entry.EntryKind.{EntryKind}
use Rattle.insn_ir.specs.declared.entry.Entry.{Entry}
use Rattle.jump_tables.specs.declared.table.Table as FileTable
use Rattle.jump_tables.specs.Names.{has}
use Rattle.jump_tables.specs.Uses.{is_name}
use Rattle.jump_tables.specs.Sections.{Section, Placed, section_after, placed_from, placed, text}
use Rattle.jump_tables.specs.Tables.{label_name}
use Rattle.asm_unit.specs.declared.decide.DecidedFunction.{DecidedFunction}
use Rattle.asm_unit.specs.declared.defined_names.DefinedNames.{DefinedNames}
use Rattle.asm_unit.specs.Functions.{Part, nothing, label_of, label_names, name_at, name_of, code_part, functions}
use Rattle.asm_unit.specs.Aliases.{setting, settings}
use Rattle.asm_unit.specs.Freeze.{defined}
use Rattle.asm_unit.specs.Edits.{is_frame, without, placed_without, part_without, has_serial, TakesNoFrame}
use Rattle.asm_unit.specs.Held.{Held, entries_of}
use Rattle.asm_unit.specs.Unit.{is_removable, is_removable_entry, target_of, cell_serials}
use Rattle.asm_unit.specs.UnitFields.{with_number, machine_table}
use Rattle.asm_unit.specs.DefinedNames.{NamesTell}
use Rattle.asm_unit.specs.Grown.{LacksPlaced, IsOnce, inserted}
use Rattle.asm_unit.specs.CodeLines.{put_entry}
use Rattle.asm_unit.specs.Lasting.{lasting, IsRemovableOnce}
use Rattle.asm_unit.proofs.Taken.{IsQuiet, find_label, code_without, functions_without}
use Rattle.asm_unit.proofs.TableCellLaws.{same_cells}

no : {P : Type 0} → true ≡ false → P
no e = absurd (cc)

abbrev pub passing : Entry → Bool
passing e = is_removable e.kind

no_frame : (k : EntryKind) → is_removable k ≡ true → is_frame k ≡ false
no_frame (EntryKind.Insn i) e = refl
no_frame (EntryKind.Directive (DirectiveKind.Align p f m)) e = refl
no_frame _ e = no (sym e)

no_label : (k : EntryKind) → is_removable k ≡ true → label_name k ≡ None
no_label (EntryKind.Label n) e = no (sym e)
no_label _ e = refl

no_setting : (k : EntryKind) → is_removable k ≡ true → setting k ≡ None
no_setting (EntryKind.Directive (DirectiveKind.Alias a b)) e = no (sym e)
no_setting _ e = refl

pub quiet : (es : List Entry) → TakesNoFrame passing es
quiet [] = tt
quiet (e ∷ es) = (no_frame e.kind, quiet es)

quiet_placed : (ps : List Placed) → AllByRecursion (IsQuiet passing) ps
quiet_placed [] = tt
quiet_placed (p ∷ ps) = (no_frame p.entry.kind, quiet_placed ps)

-- what kinds give, where those that pass give nothing
given : {A : Type 0} (give : EntryKind → Option A) → ((k : EntryKind) → is_removable k ≡ true → give k ≡ None) → (s t : Section) (es : List Entry)
    → filter_map (λ p. give p.entry.kind) (placed_from s (lasting es)) ≡ filter_map (λ p. give p.entry.kind) (placed_from t es)
given give none s t [] = refl
given give none s t (e ∷ es) = by_test (is_removable e.kind) refl (λ u v. given give none u v es)
  where
    by_test : (b : Bool) → is_removable e.kind ≡ b
        → ((u v : Section) → filter_map (λ p. give p.entry.kind) (placed_from u (lasting es)) ≡ filter_map (λ p. give p.entry.kind) (placed_from v es))
        → filter_map (λ p. give p.entry.kind) (placed_from s (cond (not b) (e ∷ lasting es) (lasting es))) ≡ cons_option (give e.kind) (filter_map (λ p. give p.entry.kind) (placed_from (section_after t e.kind) es))
    by_test true g rest = rest s (section_after t e.kind) ∙ ap (λ o. cons_option o (filter_map (λ p. give p.entry.kind) (placed_from (section_after t e.kind) es))) (sym (none e.kind g))
    by_test false g rest = ap (cons_option (give e.kind)) (rest (section_after s e.kind) (section_after t e.kind))

defined_lasting : (es : List Entry) → defined (placed (lasting es)) ≡ defined (placed es)
defined_lasting es =
    ap (λ ls. ls ++ map (λ s. s.alias) (settings (placed (lasting es)))) (given label_name no_label text text es)
    ∙ ap (λ ss. label_names (placed es) ++ map (λ s. s.alias) ss) (given setting no_setting text text es)

-- a part without what passes

abbrev pub part_lasting : Part → Part
part_lasting f = part_without passing f

label_lasting : (f : Part) → label_of (part_lasting f) ≡ label_of f
label_lasting f = find_label passing f.body (quiet_placed f.body)

abbrev serial_in : List ℕ → List Placed → Option ℕ
serial_in n ps = option_map (λ p. p.entry.serial) (find (λ p. is_name n (label_name p.entry.kind)) ps)

serial_lasting : (n : List ℕ) (ps : List Placed) → serial_in n (placed_without passing ps) ≡ serial_in n ps
serial_lasting n [] = refl
serial_lasting n (p ∷ ps) = by_test (is_removable p.entry.kind) refl (serial_lasting n ps)
  where
    by_test : (b : Bool) → is_removable p.entry.kind ≡ b → serial_in n (placed_without passing ps) ≡ serial_in n ps
        → serial_in n (cond (not b) (p ∷ placed_without passing ps) (placed_without passing ps)) ≡ option_map (λ q. q.entry.serial) (cond (is_name n (label_name p.entry.kind)) (Some p) (find (λ q. is_name n (label_name q.entry.kind)) ps))
    by_test true g rest =
        rest ∙ ap (λ o. option_map (λ q. q.entry.serial) (cond (is_name n o) (Some p) (find (λ q. is_name n (label_name q.entry.kind)) ps))) (sym (no_label p.entry.kind g))
    by_test false g rest = by_name (is_name n (label_name p.entry.kind))
      where
        by_name : (b : Bool) → option_map (λ q. q.entry.serial) (cond b (Some p) (find (λ q. is_name n (label_name q.entry.kind)) (placed_without passing ps))) ≡ option_map (λ q. q.entry.serial) (cond b (Some p) (find (λ q. is_name n (label_name q.entry.kind)) ps))
        by_name true = refl
        by_name false = rest

target_lasting : (n : List ℕ) (f : Part) → target_of (part_lasting f) n ≡ target_of f n
target_lasting n f =
    ap (λ o. cond (bytes_eq n (name_at o)) None (serial_in n (code_part (part_lasting f)))) (label_lasting f)
    ∙ ap (λ ps. cond (bytes_eq n (name_of f)) None (serial_in n ps)) (code_without passing f (quiet_placed f.body))
    ∙ ap (λ o. cond (bytes_eq n (name_of f)) None o) (serial_lasting n (code_part f))

-- two files with the same lasting entries

map_by : {A : Type 0} (h : Part → A) → ((f : Part) → h (part_lasting f) ≡ h f) → (fs : List Part) → map h (map part_lasting fs) ≡ map h fs
map_by h e [] = refl
map_by h e (f ∷ fs) = ap (λ a. a ∷ map h (map part_lasting fs)) (e f) ∙ ap (λ xs. h f ∷ xs) (map_by h e fs)

same_functions : {A : Type 0} (h : Part → A) → ((f : Part) → h (part_lasting f) ≡ h f) → (es fs : List Entry) → lasting es ≡ lasting fs → map h (functions (placed es)) ≡ map h (functions (placed fs))
same_functions h e es fs l =
    sym (map_by h e (functions (placed es)))
    ∙ ap (map h) (sym (functions_without passing es (quiet es)))
    ∙ ap (λ xs. map h (functions (placed xs))) l
    ∙ ap (map h) (functions_without passing fs (quiet fs))
    ∙ map_by h e (functions (placed fs))

pub same_defined : (es fs : List Entry) → lasting es ≡ lasting fs → defined (placed es) ≡ defined (placed fs)
same_defined es fs l = sym (defined_lasting es) ∙ ap (λ xs. defined (placed xs)) l ∙ defined_lasting fs

pub same_labels : (es fs : List Entry) → lasting es ≡ lasting fs → map label_of (functions (placed es)) ≡ map label_of (functions (placed fs))
same_labels = same_functions label_of label_lasting

pub same_targets : (n : List ℕ) (es fs : List Entry) → lasting es ≡ lasting fs → map (λ f. target_of f n) (functions (placed es)) ≡ map (λ f. target_of f n) (functions (placed fs))
same_targets n = same_functions (λ f. target_of f n) (target_lasting n)

pub same_table_cells : (t : Option Table) (es fs : List Entry) → lasting es ≡ lasting fs → map (λ f. cell_serials f t) (functions (placed es)) ≡ map (λ f. cell_serials f t) (functions (placed fs))
same_table_cells t = same_functions (λ f. cell_serials f t) (λ f. same_cells (part_lasting f) f t (λ n. target_lasting n f))

-- and by their places

index_map : {A B : Type 0} (h : A → B) (xs : List A) (k : ℕ) (d : A) → slice_index_or (map h xs) k (h d) ≡ h (slice_index_or xs k d)
index_map h [] k d = refl
index_map h (x ∷ xs) zero d = refl
index_map h (x ∷ xs) (suc k) d = index_map h xs k d

pub same_at : {A : Type 0} (h : Part → A) (fs gs : List Part) (k : ℕ) → map h fs ≡ map h gs → h (slice_index_or fs k nothing) ≡ h (slice_index_or gs k nothing)
same_at h fs gs k e = sym (index_map h fs k nothing) ∙ ap (λ xs. slice_index_or xs k (h nothing)) e ∙ index_map h gs k nothing

-- what is kept of names fits another file with the same lasting entries
pub names_last : (hs gs : List Held) (kept : List DecidedFunction) (ts : List FileTable.Table) (us : List ℕ) (d : DefinedNames) → lasting (entries_of gs) ≡ lasting (entries_of hs) → NamesTell hs kept ts us d → NamesTell gs kept ts us d
names_last hs gs kept ts us d l h = record {
  defined = λ n. h.defined n ∙ ap (has n) (sym (same_defined (entries_of gs) (entries_of hs) l));
  targets = λ k lt n. same_at (λ f. target_of f n) (functions (placed (entries_of gs))) (functions (placed (entries_of hs))) k (same_targets n (entries_of gs) (entries_of hs) l) ∙ h.targets k lt n;
  cells = λ k lt n.
      h.cells k lt n
      ∙ sym (same_at (λ f. cell_serials f (find (λ t. bytes_eq n t.label) (map machine_table (with_number (suc k) us ts)))) (functions (placed (entries_of gs))) (functions (placed (entries_of hs))) k
      (same_table_cells (find (λ t. bytes_eq n t.label) (map machine_table (with_number (suc k) us ts))) (entries_of gs) (entries_of hs) l));
}

-- each edit keeps the lasting entries

pub insert_lasts : (b : ℕ) (new : Entry) (es : List Entry) → is_removable new.kind ≡ true → lasting (inserted b new es) ≡ lasting es
insert_lasts b new [] r = refl
insert_lasts b new (e ∷ es) r = by_test (has_serial b e) (insert_lasts b new es r)
  where
    by_test : (t : Bool) → lasting (inserted b new es) ≡ lasting es → lasting (cond t (new ∷ e ∷ es) (e ∷ inserted b new es)) ≡ lasting (e ∷ es)
    by_test true rest = ap (λ c. cond (not c) (new ∷ lasting (e ∷ es)) (lasting (e ∷ es))) r
    by_test false rest = ap (λ xs. cond (not (is_removable e.kind)) (e ∷ xs) xs) rest

module _ (s : ℕ) where
  abbrev IsPassing : Entry → Type 0
  IsPassing e = has_serial s e ≡ true → is_removable e.kind ≡ true

  all_passing : (t : Section) (es : List Entry) → IsOnce s (placed_from t es) → is_removable_entry (find (has_serial s) es) ≡ true → AllByRecursion IsPassing es
  all_passing t [] o r = tt
  all_passing t (e ∷ es) o r = by_test (has_serial s e) refl r (all_passing (section_after t e.kind) es o.1)
    where
      lacking : (u : Section) (xs : List Entry) → LacksPlaced s (placed_from u xs) → AllByRecursion IsPassing xs
      lacking u [] l = tt
      lacking u (x ∷ xs) l = (λ g. no (sym g ∙ l.0), lacking (section_after u x.kind) xs l.1)

      by_test : (b : Bool) → has_serial s e ≡ b → is_removable_entry (cond b (Some e) (find (has_serial s) es)) ≡ true → (is_removable_entry (find (has_serial s) es) ≡ true → AllByRecursion IsPassing es) → AllByRecursion IsPassing (e ∷ es)
      by_test true g q rest = (λ w. q, lacking (section_after t e.kind) es (o.0 g))
      by_test false g q rest = (λ w. no (sym w ∙ g), rest q)

  removed_lasting : (es : List Entry) → AllByRecursion IsPassing es → lasting (without (has_serial s) es) ≡ lasting es
  removed_lasting [] h = refl
  removed_lasting (e ∷ es) h = by_test (has_serial s e) refl (removed_lasting es h.1)
    where
      by_test : (b : Bool) → has_serial s e ≡ b → lasting (without (has_serial s) es) ≡ lasting es → lasting (cond (not b) (e ∷ without (has_serial s) es) (without (has_serial s) es)) ≡ lasting (e ∷ es)
      by_test true g rest = rest ∙ ap (λ c. cond (not c) (e ∷ lasting es) (lasting es)) (sym (h.0 g))
      by_test false g rest = ap (λ xs. cond (not (is_removable e.kind)) (e ∷ xs) xs) rest

  put_lasting : (k : EntryKind) (es : List Entry) → is_removable k ≡ true → AllByRecursion IsPassing es → lasting (map (put_entry s k) es) ≡ lasting es
  put_lasting k [] r h = refl
  put_lasting k (e ∷ es) r h = by_test (has_serial s e) refl (put_lasting k es r h.1)
    where
      by_test : (b : Bool) → has_serial s e ≡ b → lasting (map (put_entry s k) es) ≡ lasting es → lasting (cond b (record { serial = e.serial; kind = k }) e ∷ map (put_entry s k) es) ≡ lasting (e ∷ es)
      by_test true g rest =
          ap (λ c. cond (not c) (record { serial = e.serial; kind = k } ∷ lasting (map (put_entry s k) es)) (lasting (map (put_entry s k) es))) r
          ∙ rest ∙ ap (λ c. cond (not c) (e ∷ lasting es) (lasting es)) (sym (h.0 g))
      by_test false g rest = ap (λ xs. cond (not (is_removable e.kind)) (e ∷ xs) xs) rest

  pub drop_lasts : (es : List Entry) → IsRemovableOnce es s → lasting (without (has_serial s) es) ≡ lasting es
  drop_lasts es h = removed_lasting es (all_passing text es h.once h.removable)

  pub put_lasts : (k : EntryKind) (es : List Entry) → is_removable k ≡ true → IsRemovableOnce es s → lasting (map (put_entry s k) es) ≡ lasting es
  put_lasts k es r h = put_lasting k es r (all_passing text es h.once h.removable)
