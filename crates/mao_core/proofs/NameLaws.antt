-- The names of the functions of a file are made of the kinds of its entries.
use Rattle.std.proofs.Common.{◌≡◌, ℕ, Bool, true, false, not, cond, List, [], ◌∷◌, map, filter, Option, Some, None, option_map, refl, sym, ap, ◌∙◌, inl}
use Rattle.std.specs.Prelude.{◌&&◌, is_some, find}
use Rattle.insn_ir.specs.declared.entry.EntryKind.{EntryKind}
use Rattle.insn_ir.specs.declared.entry.Entry.{Entry}
use Rattle.insn_ir.specs.Entries.{kinds_of}
use Rattle.jump_tables.specs.Sections.{Placed, placed}
use Rattle.jump_tables.specs.Tables.{label_name}
use Rattle.asm_unit.specs.Functions.{Part, is_label, label_of, name_at, name_of, parts, functions}
use Rattle.asm_unit.specs.Freeze.{function_names}
use Rattle.asm_unit.specs.Edits.{KeepsFrames, placed_map, part_map}
use Rattle.asm_unit.proofs.Mapped.{parts_changed}

-- an entry of this kind, with no serial
abbrev strip : Entry → Entry
strip e = record { serial = 0; kind = e.kind }

strip_keeps : (es : List Entry) → KeepsFrames strip es
strip_keeps [] = tt
strip_keeps (e ∷ es) = (inl refl, strip_keeps es)

label_stripped : (ps : List Placed) → find is_label (map (placed_map strip) ps) ≡ option_map (placed_map strip) (find is_label ps)
label_stripped [] = refl
label_stripped (p ∷ ps) = by_test (is_label p) (label_stripped ps)
  where
    by_test : (b : Bool) → find is_label (map (placed_map strip) ps) ≡ option_map (placed_map strip) (find is_label ps) → cond b (Some (placed_map strip p)) (find is_label (map (placed_map strip) ps)) ≡ option_map (placed_map strip) (cond b (Some p) (find is_label ps))
    by_test true e = refl
    by_test false e = e

some_stripped : (o : Option Placed) → is_some (option_map (placed_map strip) o) ≡ is_some o
some_stripped None = refl
some_stripped (Some p) = refl

name_stripped : (o : Option Placed) → name_at (option_map (placed_map strip) o) ≡ name_at o
name_stripped None = refl
name_stripped (Some p) = refl

abbrev names_of_parts : List Part → List (List ℕ)
names_of_parts qs = map name_of (filter (λ q. is_some (label_of q)) qs)

names_stripped : (qs : List Part) → names_of_parts (map (part_map strip) qs) ≡ names_of_parts qs
names_stripped [] = refl
names_stripped (q ∷ qs) =
    ap (λ b. map name_of (cond b (part_map strip q ∷ filter (λ q. is_some (label_of q)) (map (part_map strip) qs)) (filter (λ q. is_some (label_of q)) (map (part_map strip) qs)))) (ap is_some (label_stripped q.body) ∙ some_stripped (label_of q))
    ∙ by_test (is_some (label_of q)) (names_stripped qs)
  where
    by_test : (b : Bool) → names_of_parts (map (part_map strip) qs) ≡ names_of_parts qs → map name_of (cond b (part_map strip q ∷ filter (λ q. is_some (label_of q)) (map (part_map strip) qs)) (filter (λ q. is_some (label_of q)) (map (part_map strip) qs))) ≡ map name_of (cond b (q ∷ filter (λ q. is_some (label_of q)) qs) (filter (λ q. is_some (label_of q)) qs))
    by_test true e = ap (λ n. n ∷ names_of_parts (map (part_map strip) qs)) (ap name_at (label_stripped q.body) ∙ name_stripped (label_of q)) ∙ ap (λ ns. name_of q ∷ ns) e
    by_test false e = e

of_stripped : (es : List Entry) → function_names (placed (map strip es)) ≡ function_names (placed es)
of_stripped es = ap names_of_parts (parts_changed strip es (strip_keeps es)) ∙ names_stripped (parts (placed es))

by_kinds : (es : List Entry) → map strip es ≡ map (λ k. record { serial = 0; kind = k }) (kinds_of es)
by_kinds [] = refl
by_kinds (e ∷ es) = ap (λ xs. strip e ∷ xs) (by_kinds es)

-- the names are made of kinds alone
pub names_of_kinds : (es fs : List Entry) → kinds_of es ≡ kinds_of fs → function_names (placed es) ≡ function_names (placed fs)
names_of_kinds es fs k =
    sym (of_stripped es) ∙ ap (λ xs. function_names (placed xs)) (by_kinds es ∙ ap (map (λ k. record { serial = 0; kind = k })) k ∙ sym (by_kinds fs)) ∙ of_stripped fs
