-- Where a new entry comes before one of a code, all other codes stay.
use Rattle.std.proofs.Common.{◌≡◌, ◌≢◌, ◌∙◌, ℕ, zero, suc, Bool, true, false, not, cond, List, [], ◌∷◌, map, Some, None, ap, sym, refl}
use Rattle.std.specs.Prelude.{◌&&◌, slice_get, bytes_eq}
use Rattle.std.specs.List.{AllByRecursion}
use Rattle.std.proofs.lemmas.Bool.{false_from_ne_true, or_parts}
use Rattle.insn_ir.specs.declared.entry.Entry.{Entry}
use Rattle.insn_ir.specs.declared.entry.EntryKind.{EntryKind}
use Rattle.insn_ir.specs.Entries.{lines_of}
use Rattle.jump_tables.specs.Sections.{Placed, placed, text}
use Rattle.asm_unit.specs.Decisions.{Decision, code_with, codes_with, codes}
use Rattle.asm_unit.specs.Edits.{is_frame, has_serial, without, placed_without, part_without, TakesNoFrame}
use Rattle.asm_unit.specs.Functions.{Part, functions, section_of, code_part}
use Rattle.asm_unit.specs.Grown.{AreOnce, Lacks, inserted, section_before, prev_placed, stands_among, part_with}
use Rattle.asm_unit.specs.Held.{Held, AreUnique, holds_serial, entries_of, new_held, held_inserted}
use Rattle.asm_unit.specs.Tables.{is_among}
use Rattle.asm_unit.proofs.ComeLaws.{without_new}
use Rattle.asm_unit.proofs.GrownCodes.{functions_inserted}
use Rattle.asm_unit.proofs.InsertFits.{entries_inserted, lacks_entries}
use Rattle.asm_unit.proofs.OnceLaws.{lacks_among, among_kept, in_one_body}
use Rattle.asm_unit.proofs.OwnerLaws.{new_owned}
use Rattle.asm_unit.proofs.StandLaws.{once_placed}
use Rattle.asm_unit.proofs.Taken.{HoldsInBody, IsQuiet, code_without, functions_without, quiet_bodies}

no : {P : Type 0} → false ≡ true → P
no e = absurd (cc)

clash : true ≡ false → ⊥
clash e = cc

and_false : (b : Bool) → (b && false) ≡ false
and_false true = refl
and_false false = refl

-- a code from which no entry goes stays
module _ (n : ℕ) where
  none_goes : (ps : List Placed) → is_among n ps ≡ false → placed_without (has_serial n) ps ≡ ps
  none_goes [] e = refl
  none_goes (p ∷ ps) e =
      let w = or_parts (has_serial n p.entry) (is_among n ps) e in
      ap (λ t. cond (not t) (p ∷ placed_without (has_serial n) ps) (placed_without (has_serial n) ps)) w.0 ∙ ap (λ xs. p ∷ xs) (none_goes ps w.1)

  code_stays : (d : Decision) (q : Part) → HoldsInBody (IsQuiet (has_serial n)) q → is_among n (code_part q) ≡ false → code_with d (part_without (has_serial n) q) ≡ code_with d q
  code_stays d q quiet e =
      ap (λ ps. record { name = d.name; lines = lines_of (map (λ p. p.entry.kind) ps); tables = d.tables; home = d.home }) (code_without (has_serial n) q quiet ∙ none_goes (code_part q) e)

  code_at : (ds : List Decision) (qs : List Part) (i : ℕ) → AllByRecursion (HoldsInBody (IsQuiet (has_serial n))) qs → ((q : Part) → slice_get qs i ≡ Some q → is_among n (code_part q) ≡ false)
      → slice_get (codes_with ds (map (part_without (has_serial n)) qs)) i ≡ slice_get (codes_with ds qs) i
  code_at [] qs i quiet e = refl
  code_at (d ∷ ds) [] i quiet e = refl
  code_at (d ∷ ds) (q ∷ qs) zero quiet e = ap Some (code_stays d q quiet.0 (e q refl))
  code_at (d ∷ ds) (q ∷ qs) (suc i) quiet e = code_at ds qs i quiet.1 e

  codes_stay : (ds : List Decision) (es : List Entry) (i : ℕ) → TakesNoFrame (has_serial n) es → ((q : Part) → slice_get (functions (placed es)) i ≡ Some q → is_among n (code_part q) ≡ false)
      → slice_get (codes ds (without (has_serial n) es)) i ≡ slice_get (codes ds es) i
  codes_stay ds es i quiet e =
      ap (λ qs. slice_get (codes_with ds qs) i) (functions_without (has_serial n) es quiet) ∙ code_at ds (functions (placed es)) i (quiet_bodies (has_serial n) es quiet) e

-- no other entry has the serial of the new one
takes_new : (b : ℕ) (new : Entry) (es : List Entry) → Lacks new.serial es → is_frame new.kind ≡ false → TakesNoFrame (has_serial new.serial) (inserted b new es)
takes_new b new [] l q = tt
takes_new b new (e ∷ es) l q = by_test (has_serial b e) (takes_new b new es l.1 q)
  where
    lacking : (xs : List Entry) → Lacks new.serial xs → TakesNoFrame (has_serial new.serial) xs
    lacking [] m = tt
    lacking (x ∷ xs) m = (λ g. no (sym m.0 ∙ g), lacking xs m.1)

    by_test : (t : Bool) → TakesNoFrame (has_serial new.serial) (inserted b new es) → TakesNoFrame (has_serial new.serial) (cond t (new ∷ e ∷ es) (e ∷ inserted b new es))
    by_test true rest = (λ g. q, lacking (e ∷ es) l)
    by_test false rest = (λ g. no (sym l.0 ∙ g), rest)

-- a member of mapped parts is that of a part
record Mapped (h : Part → Part) (qs : List Part) (i : ℕ) (r : Part) : Type 0 where
  part : Part
  at : slice_get qs i ≡ Some part
  is : h part ≡ r

mapped : (h : Part → Part) (qs : List Part) (i : ℕ) (r : Part) → slice_get (map h qs) i ≡ Some r → Mapped h qs i r
mapped h [] i r e = absurd (none_is r e)
  where
    none_is : (r : Part) → None ≡ Some r → ⊥
    none_is r z = cc
mapped h (q ∷ qs) zero r e = let same : h q ≡ r = cc in record { part = q; at = refl; is = same }
mapped h (q ∷ qs) (suc i) r e = let w = mapped h qs i r e in record { part = w.part; at = w.at; is = w.is }

module _ (ds : List Decision) (hs : List Held) (b n : ℕ) (k : EntryKind) (unique : AreUnique hs) (quiet : is_frame k ≡ false) (fresh : holds_serial n hs ≡ false)
    (j : ℕ) (g : Part) (here : slice_get (functions (placed (entries_of hs))) j ≡ Some g) (among : is_among b (code_part g) ≡ true) where
  abbrev es : List Entry
  es = entries_of hs

  abbrev new : Entry
  new = record { serial = n; kind = k }

  abbrev q : Placed
  q = record { entry = new; section = section_before text b es }

  once : AreOnce es
  once s = once_placed s text hs unique

  lacks : Lacks n es
  lacks = lacks_entries n hs fresh

  in_body : is_among b g.body ≡ true
  in_body = among_kept b (λ p. bytes_eq p.section.name (section_of g).name) g.body among

  not_there : (i : ℕ) (f : Part) → i ≢ j → slice_get (functions (placed es)) i ≡ Some f → is_among b (code_part f) ≡ false
  not_there i f apart part =
      false_from_ne_true (is_among b (code_part f)) (λ a.
      clash (sym (among_kept b (λ p. bytes_eq p.section.name (section_of f).name) f.body a) ∙ lacks_among b f.body (in_one_body b (placed es) i j f g (once b) part here apart in_body)))

  none_new : (i : ℕ) → i ≢ j → (r : Part) → slice_get (functions (placed (inserted b new es))) i ≡ Some r → is_among n (code_part r) ≡ false
  none_new i apart r at =
      let w = mapped (part_with b q) (functions (placed es)) i r (sym (ap (λ fs. slice_get fs i) (functions_inserted b new es quiet (once b))) ∙ at) in
      ap (λ f. is_among n (code_part f)) (sym w.is)
      ∙ new_owned b new es j i g w.part quiet once lacks here among w.at
      ∙ ap (λ t. stands_among (prev_placed None b (placed es)) (code_part w.part) && t) (not_there i w.part apart w.at)
      ∙ and_false (stands_among (prev_placed None b (placed es)) (code_part w.part))

  pub others_inserted : (i : ℕ) → i ≢ j → slice_get (codes ds (entries_of (held_inserted b (new_held n k) hs))) i ≡ slice_get (codes ds es) i
  others_inserted i apart =
      ap (λ xs. slice_get (codes ds xs) i) (entries_inserted b n k hs)
      ∙ sym (codes_stay n ds (inserted b new es) i (takes_new b new es lacks quiet) (none_new i apart))
      ∙ ap (λ xs. slice_get (codes ds xs) i) (without_new b new es lacks)
