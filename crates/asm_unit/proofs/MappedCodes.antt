-- Entries that change, but not in what tells functions, leave the labels and sections of functions.
use Rattle.std.proofs.Common.{◌≡◌, ℕ, Bool, true, false, cond, List, [], ◌∷◌, map, filter, Option, Some, None, refl, sym, ap, ◌∙◌, inl, inr}
use Rattle.std.specs.Prelude.{is_some, find, bytes_eq, option_map, slice_get}
use Rattle.std.specs.List.{AllByRecursion}
use Rattle.insn_ir.specs.declared.entry.EntryKind.{EntryKind}
use Rattle.insn_ir.specs.declared.entry.Entry.{Entry}
use Rattle.jump_tables.specs.Sections.{Section, Placed, section_after, placed_from, placed, text}
use Rattle.jump_tables.specs.Tables.{label_name}
use Rattle.asm_unit.specs.Functions.{Part, is_label, label_of, section_at, section_of, code_part, parts, functions}
use Rattle.asm_unit.specs.Edits.{KeepsFrame, KeepsFrames, placed_map, part_map}
use Rattle.asm_unit.proofs.Quiet.{label_quiet}
use Rattle.asm_unit.proofs.Mapped.{parts_changed}
use Rattle.asm_unit.proofs.Taken.{HoldsInBody, all_parts}
use Rattle.asm_unit.proofs.OnceLaws.{all_get, all_kept}

label_kept : (k l : EntryKind) → KeepsFrame k l → label_name l ≡ label_name k
label_kept k l (inl e) = ap label_name e
label_kept k l (inr w) = label_quiet l w.1 ∙ sym (label_quiet k w.0)

module _ (h : Entry → Entry) where
  abbrev pub IsKept : Placed → Type 0
  IsKept p = KeepsFrame p.entry.kind (h p.entry).kind

  kept_placed : (s : Section) (es : List Entry) → KeepsFrames h es → AllByRecursion IsKept (placed_from s es)
  kept_placed s [] w = tt
  kept_placed s (e ∷ es) w = (w.0, kept_placed (section_after s e.kind) es w.1)

  pub find_mapped : (ps : List Placed) → AllByRecursion IsKept ps → find is_label (map (placed_map h) ps) ≡ option_map (placed_map h) (find is_label ps)
  find_mapped [] w = refl
  find_mapped (p ∷ ps) w =
      ap (λ o. cond (is_some o) (Some (placed_map h p)) (find is_label (map (placed_map h) ps))) (label_kept p.entry.kind (h p.entry).kind w.0)
      ∙ by_test (is_label p) (find_mapped ps w.1)
    where
      by_test : (b : Bool) → find is_label (map (placed_map h) ps) ≡ option_map (placed_map h) (find is_label ps)
          → cond b (Some (placed_map h p)) (find is_label (map (placed_map h) ps)) ≡ option_map (placed_map h) (cond b (Some p) (find is_label ps))
      by_test true e = refl
      by_test false e = e

  is_some_map : (o : Option Placed) → is_some (option_map (placed_map h) o) ≡ is_some o
  is_some_map None = refl
  is_some_map (Some p) = refl

  section_map : (o : Option Placed) → section_at (option_map (placed_map h) o) ≡ section_at o
  section_map None = refl
  section_map (Some p) = refl

  labelled : (qs : List Part) → AllByRecursion (HoldsInBody IsKept) qs → filter (λ q. is_some (label_of q)) (map (part_map h) qs) ≡ map (part_map h) (filter (λ q. is_some (label_of q)) qs)
  labelled [] w = refl
  labelled (q ∷ qs) w =
      ap (λ b. cond b (part_map h q ∷ filter (λ q. is_some (label_of q)) (map (part_map h) qs)) (filter (λ q. is_some (label_of q)) (map (part_map h) qs))) (ap is_some (find_mapped q.body w.0) ∙ is_some_map (label_of q))
      ∙ by_test (is_some (label_of q)) (labelled qs w.1)
    where
      by_test : (b : Bool) → filter (λ q. is_some (label_of q)) (map (part_map h) qs) ≡ map (part_map h) (filter (λ q. is_some (label_of q)) qs)
          → cond b (part_map h q ∷ filter (λ q. is_some (label_of q)) (map (part_map h) qs)) (filter (λ q. is_some (label_of q)) (map (part_map h) qs))
          ≡ map (part_map h) (cond b (q ∷ filter (λ q. is_some (label_of q)) qs) (filter (λ q. is_some (label_of q)) qs))
      by_test true e = ap (λ xs. part_map h q ∷ xs) e
      by_test false e = e

  in_section : (n : List ℕ) (ps : List Placed) → filter (λ p. bytes_eq p.section.name n) (map (placed_map h) ps) ≡ map (placed_map h) (filter (λ p. bytes_eq p.section.name n) ps)
  in_section n [] = refl
  in_section n (p ∷ ps) = by_test (bytes_eq p.section.name n) (in_section n ps)
    where
      by_test : (b : Bool) → filter (λ p. bytes_eq p.section.name n) (map (placed_map h) ps) ≡ map (placed_map h) (filter (λ p. bytes_eq p.section.name n) ps)
          → cond b (placed_map h p ∷ filter (λ p. bytes_eq p.section.name n) (map (placed_map h) ps)) (filter (λ p. bytes_eq p.section.name n) (map (placed_map h) ps))
          ≡ map (placed_map h) (cond b (p ∷ filter (λ p. bytes_eq p.section.name n) ps) (filter (λ p. bytes_eq p.section.name n) ps))
      by_test true e = ap (λ xs. placed_map h p ∷ xs) e
      by_test false e = e

  pub code_mapped : (q : Part) → HoldsInBody IsKept q → code_part (part_map h q) ≡ map (placed_map h) (code_part q)
  code_mapped q w =
      ap (λ o. filter (λ p. bytes_eq p.section.name (section_at o).name) (map (placed_map h) q.body)) (find_mapped q.body w)
      ∙ ap (λ s. filter (λ p. bytes_eq p.section.name s.name) (map (placed_map h) q.body)) (section_map (label_of q))
      ∙ in_section (section_of q).name q.body

  kept_bodies : (es : List Entry) → KeepsFrames h es → AllByRecursion (HoldsInBody IsKept) (parts (placed es))
  kept_bodies es w = all_parts IsKept (placed es) [] None (kept_placed text es w)

  pub kept_functions : (es : List Entry) → KeepsFrames h es → AllByRecursion (HoldsInBody IsKept) (functions (placed es))
  kept_functions es w = all_kept (HoldsInBody IsKept) (λ q. is_some (label_of q)) (parts (placed es)) (kept_bodies es w)

-- the functions of changed entries are the functions, changed
pub functions_changed : (h : Entry → Entry) (es : List Entry) → KeepsFrames h es → functions (placed (map h es)) ≡ map (part_map h) (functions (placed es))
functions_changed h es w = ap (λ qs. filter (λ q. is_some (label_of q)) qs) (parts_changed h es w) ∙ labelled h (parts (placed es)) (kept_bodies h es w)

-- and so are their codes
pub code_changed : (h : Entry → Entry) (es : List Entry) (k : ℕ) (f : Part) → KeepsFrames h es → slice_get (functions (placed es)) k ≡ Some f → code_part (part_map h f) ≡ map (placed_map h) (code_part f)
code_changed h es k f w part =
    code_mapped h f (all_get (HoldsInBody (IsKept h)) (functions (placed es)) k f (kept_functions h es w) part)

pub label_changed : (h : Entry → Entry) (es : List Entry) (k : ℕ) (f : Part) → KeepsFrames h es → slice_get (functions (placed es)) k ≡ Some f → label_of (part_map h f) ≡ option_map (placed_map h) (label_of f)
label_changed h es k f w part =
    find_mapped h f.body (all_get (HoldsInBody (IsKept h)) (functions (placed es)) k f (kept_functions h es w) part)
