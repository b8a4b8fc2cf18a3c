-- The tables of a file, without their uses and with them.
use Rattle.std.proofs.Common.{◌≡◌, ℕ, suc, ◌+◌, ◌<◌, Bool, true, false, cond, List, [], ◌∷◌, ◌++◌, map, length, get_or, drop, Option, Some, None, refl, sym, ap, ◌∙◌, subst, eqb}
use Rattle.std.specs.Prelude.{◌&&◌, ◌||◌, filter, flat_map, fold, option_map, bytes_eq, is_some}
use Rattle.std.specs.List.{list_any, list_all}
use Rattle.std.proofs.lemmas.Bool.{or_left, or_right}
use Rattle.std.proofs.lemmas.List.{append_assoc, map-append, drop_more}
use Rattle.std.proofs.lemmas.List.Folds.{list_any-append}
use Rattle.std.proofs.lemmas.Slice.Eq.{bytes_eq-Decides}
use Rattle.insn_ir.specs.declared.entry.Entry.{Entry}
use Rattle.insn_ir.specs.declared.entry.Cell.{Cell}
use Rattle.jump_tables.specs.declared.table.Table.{Table}
use Rattle.jump_tables.specs.declared.collect.Uses.{Uses}
use Rattle.jump_tables.specs.Names.{has, place_of, with_name}
use Rattle.jump_tables.specs.Sections.{Section, Placed, section_after, placed_from, placed}
use Rattle.jump_tables.specs.Tables.{label_name, cells, cell_names, fits_table, rows_of, FileTable, has_cell, table_at, table_starts, file_tables, table_of, tables_in, is_symbol}
use Rattle.jump_tables.specs.Collected.{cells_behind, start_with, table_start, unused, distinct_of, uses_of, with_uses, with_uses_at, looked_up}
use Rattle.jump_tables.proofs.NameLaws.{some_place}

pub not_empty : (cs : List Cell) (r : Bool) → eqb (length cs) 0 ≡ false → r ≡ list_all is_symbol cs → r ≡ list_any (λ c. true) cs && list_all is_symbol cs
not_empty [] r e f = absurd (no e)
  where
    no : true ≡ false → ⊥
    no q = cc
not_empty (c ∷ cs) r e f = f

rows_cells : (s : Section) (es : List Entry) → flat_map (λ p. cell_names (cells p.entry.kind)) (rows_of (placed_from s es)) ≡ cells_behind es
rows_cells s [] = refl
rows_cells s (e ∷ es) = by_fit (rows_cells (section_after s e.kind) es) (fits_table e.kind)
  where
    by_fit : flat_map (λ p. cell_names (cells p.entry.kind)) (rows_of (placed_from (section_after s e.kind) es)) ≡ cells_behind es → (b : Bool) → flat_map (λ p. cell_names (cells p.entry.kind)) (cond b (record { entry = e; section = section_after s e.kind } ∷ rows_of (placed_from (section_after s e.kind) es)) []) ≡ cond b (cell_names (cells e.kind) ++ cells_behind es) []
    by_fit rest true = ap (λ ns. cell_names (cells e.kind) ++ ns) rest
    by_fit rest false = refl

-- what an entry begins
begins : (code : Bool) (o : Option (List ℕ)) (serial : ℕ) (ps : List Placed) (cs : List (List ℕ)) → flat_map (λ p. cell_names (cells p.entry.kind)) (rows_of ps) ≡ cs
    → map unused (filter has_cell (table_at code o serial ps)) ≡ cond code [] (start_with o serial cs)
begins true o serial ps cs e = refl
begins false None serial ps cs e = refl
begins false (Some n) serial ps [] e = ap (λ ns. map unused (cond (list_any (λ m. true) ns) (record { label = n; serial = serial; rows = rows_of ps } ∷ []) [])) e
begins false (Some n) serial ps (c ∷ cs) e =
    ap (λ ns. map unused (cond (list_any (λ m. true) ns) (record { label = n; serial = serial; rows = rows_of ps } ∷ []) [])) e
    ∙ ap (λ ns. record { label = n; serial = serial; cells = ns; users = []; other_use = None } ∷ []) e

filter-append : {X : Type 0} (p : X → Bool) (xs ys : List X) → filter p (xs ++ ys) ≡ filter p xs ++ filter p ys
filter-append p [] ys = refl
filter-append {X} p (x ∷ xs) ys = by_test (filter-append p xs ys) (p x)
  where
    by_test : filter p (xs ++ ys) ≡ filter p xs ++ filter p ys → (b : Bool) → cond b (x ∷ filter p (xs ++ ys)) (filter p (xs ++ ys)) ≡ cond b (x ∷ filter p xs) (filter p xs) ++ filter p ys
    by_test rest true = ap (λ zs. x ∷ zs) rest
    by_test rest false = rest

-- one entry more
pub start_more : (s : Section) (code : Bool) (es : List Entry) (i : ℕ) (e : Entry) (ts : List Table) → i < length es → e ≡ get_or es i e → code ≡ (section_after s e.kind).code
    → (ts ++ table_start code e (drop (i + 1) es)) ++ map unused (file_tables (placed_from (section_after s e.kind) (drop (i + 1) es))) ≡ ts ++ map unused (file_tables (placed_from s (drop i es)))
start_more s code es i e ts l g d =
    append_assoc ts _ _
    ∙ ap (λ b. ts ++ (table_start b e (drop (i + 1) es) ++ map unused (file_tables (placed_from (section_after s e.kind) (drop (i + 1) es))))) d
    ∙ ap (λ xs. ts ++ (xs ++ map unused (file_tables (placed_from (section_after s e.kind) (drop (i + 1) es)))))
    (sym (begins (section_after s e.kind).code (label_name e.kind) e.serial (placed_from (section_after s e.kind) (drop (i + 1) es)) (cells_behind (drop (i + 1) es)) (rows_cells (section_after s e.kind) (drop (i + 1) es))))
    ∙ ap (λ xs. ts ++ xs) (sym (map-append unused _ _))
    ∙ ap (λ xs. ts ++ map unused xs) (sym (filter-append has_cell (table_at (section_after s e.kind).code (label_name e.kind) e.serial (placed_from (section_after s e.kind) (drop (i + 1) es))) (table_starts (placed_from (section_after s e.kind) (drop (i + 1) es)))))
    ∙ ap (λ xs. ts ++ map unused (file_tables (placed_from s xs))) (sym (drop_more es i e l ∙ ap (λ x. x ∷ drop (i + 1) es) (sym g)))

-- a name that came is among the names
has_with : (n m : List ℕ) (ns : List (List ℕ)) → has n ns ≡ true → has n (with_name ns m) ≡ true
has_with n m ns e = by_test (has m ns)
  where
    by_test : (b : Bool) → has n (cond b ns (ns ++ m ∷ [])) ≡ true
    by_test true = e
    by_test false = list_any-append (bytes_eq n) ns (m ∷ []) ∙ or_left _ _ e

has_new : (n : List ℕ) (ns : List (List ℕ)) → has n (with_name ns n) ≡ true
has_new n ns = by_test (has n ns) refl
  where
    by_test : (b : Bool) → has n ns ≡ b → has n (cond b ns (ns ++ n ∷ [])) ≡ true
    by_test true e = e
    by_test false e = list_any-append (bytes_eq n) ns (n ∷ []) ∙ or_right _ _ (or_left _ false ((bytes_eq-Decides n n).1 refl))

has_fold : (n : List ℕ) (ms ns : List (List ℕ)) → has n ns ≡ true → has n (fold with_name ns ms) ≡ true
has_fold n [] ns e = e
has_fold n (m ∷ ms) ns e = has_fold n ms (with_name ns m) (has_with n m ns e)

-- the uses at a name's place are the name's
at_place : (f : List ℕ → Uses) (n : List ℕ) (ns : List (List ℕ)) (t : Table) → has n ns ≡ true → with_uses_at (place_of n ns) (map f ns) t ≡ with_uses (f n) t
at_place f n [] t e = absurd (no e)
  where
    no : false ≡ true → ⊥
    no q = cc
at_place f n (m ∷ ms) t e = by_head (bytes_eq n m) refl (place_of n ms) refl (at_place f n ms t) e
  where
    by_head : (b : Bool) → bytes_eq n m ≡ b → (o : Option ℕ) → place_of n ms ≡ o → (has n ms ≡ true → with_uses_at (place_of n ms) (map f ms) t ≡ with_uses (f n) t) → b || has n ms ≡ true
        → with_uses_at (cond b (Some 0) (option_map suc o)) (f m ∷ map f ms) t ≡ with_uses (f n) t
    by_head true g o h rest q = ap (λ x. with_uses (f x) t) (sym ((bytes_eq-Decides n m).0 g))
    by_head false g None h rest q = absurd (no (sym (some_place n ms ∙ q) ∙ ap is_some h))
      where
        no : true ≡ false → ⊥
        no z = cc
    by_head false g (Some k) h rest q = sym (ap (λ o. with_uses_at o (map f ms) t) h) ∙ rest q

looked_up_each : (ps : List Placed) (ts : List FileTable) (ms ns : List (List ℕ)) → ns ≡ fold with_name ms (map (λ t. t.label) (map unused ts)) → map (looked_up ns (map (uses_of ps) ns)) (map unused ts) ≡ map (table_of ps) ts
looked_up_each ps [] ms ns e = refl
looked_up_each ps (t ∷ ts) ms ns e =
    ap (λ x. x ∷ map (looked_up ns (map (uses_of ps) ns)) (map unused ts)) (at_place (uses_of ps) t.label ns (unused t) (subst (λ ks. has t.label ks ≡ true) (sym e) (has_fold t.label (map (λ x. x.label) (map unused ts)) (with_name ms t.label) (has_new t.label ms))))
    ∙ ap (λ xs. table_of ps t ∷ xs) (looked_up_each ps ts (with_name ms t.label) ns e)

-- all stages together
pub whole : (es : List Entry) (ns : List (List ℕ)) (us : List Uses) (ts : List Table) → ts ≡ map unused (file_tables (placed es)) → ns ≡ distinct_of (map (λ t. t.label) ts) → us ≡ map (uses_of (placed es)) ns
    → map (looked_up ns us) ts ≡ tables_in es
whole es ns us ts e f g =
    ap (λ xs. map (looked_up ns us) xs) e
    ∙ ap (λ vs. map (looked_up ns vs) (map unused (file_tables (placed es)))) g
    ∙ looked_up_each (placed es) (file_tables (placed es)) [] ns (f ∙ ap (λ xs. distinct_of (map (λ t. t.label) xs)) e)
