-- Alignments that go or come change no code, and nops that come change no behaviour.
use Rattle.std.proofs.Common.{◌≡◌, ℕ, Bool, true, false, not, cond, List, [], ◌∷◌, map, filter, None, refl, sym, ap, ◌∙◌, subst}
use Rattle.std.specs.Prelude.{is_some}
use Rattle.std.specs.List.{AllByRecursion}
use Rattle.std.proofs.lemmas.Bool.{eq-eqb}
use Rattle.insn_ir.specs.declared.entry.DirectiveKind.{DirectiveKind}
use Rattle.insn_ir.specs.declared.entry.EntryKind.{EntryKind}
use Rattle.insn_ir.specs.declared.entry.Entry.{Entry}
use Rattle.insn_ir.specs.Entries.{lines_of, is_nop_entry}
use Rattle.insn_ir.proofs.SameLaws.{same_sym}
use Rattle.insn_ir.specs.Code.{Code, One, LocalLabel, Do}
use Rattle.jump_tables.specs.Sections.{Section, Placed, placed_from, placed, text, section_after}
use Rattle.asm_unit.specs.Functions.{Part, is_align_kind, label_of, code_part, parts, functions}
use Rattle.asm_unit.specs.Decisions.{Decision, code_with, codes_with, codes}
use Rattle.asm_unit.specs.Edits.{is_frame, without, placed_without, part_without, has_serial, TakesNoFrame, SameEach}
use Rattle.asm_unit.specs.Grown.{inserted, Lacks, TakesAligns}
use Rattle.asm_unit.proofs.Taken.{all_parts, all_filtered, IsQuiet, code_without, functions_without}
use Rattle.asm_unit.proofs.NopLaw.{nops_same}

no : {P : Type 0} → false ≡ true → P
no e = absurd (cc)

align_no_frame : (k : EntryKind) → is_align_kind k ≡ true → is_frame k ≡ false
align_no_frame (EntryKind.Directive (DirectiveKind.Align p f m)) e = refl
align_no_frame _ e = no e

align_no_line : (k : EntryKind) (ks : List EntryKind) → is_align_kind k ≡ true → lines_of (k ∷ ks) ≡ lines_of ks
align_no_line (EntryKind.Directive d) ks e = refl
align_no_line _ ks e = no e

line_head : (k : EntryKind) (xs ys : List EntryKind) → lines_of xs ≡ lines_of ys → lines_of (k ∷ xs) ≡ lines_of (k ∷ ys)
line_head k xs ys e = by_kind k
  where
    by_kind : (k : EntryKind) → lines_of (k ∷ xs) ≡ lines_of (k ∷ ys)
    by_kind (EntryKind.Insn i) = ap (λ ls. Do (One i) ∷ ls) e
    by_kind (EntryKind.Label n) = ap (λ ls. LocalLabel n ∷ ls) e
    by_kind _ = e

abbrev kinds : List Placed → List EntryKind
kinds ps = map (λ p. p.entry.kind) ps

module _ (gone : Entry → Bool) where
  abbrev IsAlignIfGone : Placed → Type 0
  IsAlignIfGone p = gone p.entry ≡ true → is_align_kind p.entry.kind ≡ true

  tell_nothing : (es : List Entry) → TakesAligns gone es → TakesNoFrame gone es
  tell_nothing [] h = tt
  tell_nothing (e ∷ es) h = (λ g. align_no_frame e.kind (h.0 g), tell_nothing es h.1)

  aligns_placed : (s : Section) (es : List Entry) → TakesAligns gone es → AllByRecursion IsAlignIfGone (placed_from s es)
  aligns_placed s [] h = tt
  aligns_placed s (e ∷ es) h = (h.0, aligns_placed (section_after s e.kind) es h.1)

  quiet_aligns : (ps : List Placed) → AllByRecursion IsAlignIfGone ps → AllByRecursion (IsQuiet gone) ps
  quiet_aligns [] h = tt
  quiet_aligns (p ∷ ps) h = (λ g. align_no_frame p.entry.kind (h.0 g), quiet_aligns ps h.1)

  among_filtered : (here : Placed → Bool) (ps : List Placed) → AllByRecursion IsAlignIfGone ps → AllByRecursion IsAlignIfGone (filter here ps)
  among_filtered here [] h = tt
  among_filtered here (p ∷ ps) h = by_test (here p) (among_filtered here ps h.1)
    where
      by_test : (b : Bool) → AllByRecursion IsAlignIfGone (filter here ps) → AllByRecursion IsAlignIfGone (cond b (p ∷ filter here ps) (filter here ps))
      by_test true e = (h.0, e)
      by_test false e = e

  lines_without : (ps : List Placed) → AllByRecursion IsAlignIfGone ps → lines_of (kinds (placed_without gone ps)) ≡ lines_of (kinds ps)
  lines_without [] h = refl
  lines_without (p ∷ ps) h = by_test (gone p.entry) refl (lines_without ps h.1)
    where
      by_test : (b : Bool) → gone p.entry ≡ b → lines_of (kinds (placed_without gone ps)) ≡ lines_of (kinds ps) → lines_of (kinds (cond (not b) (p ∷ placed_without gone ps) (placed_without gone ps))) ≡ lines_of (kinds (p ∷ ps))
      by_test true g e = e ∙ sym (align_no_line p.entry.kind (kinds ps) (h.0 g))
      by_test false g e = line_head p.entry.kind (kinds (placed_without gone ps)) (kinds ps) e

  codes_stay : (ds : List Decision) (qs : List Part) → AllByRecursion (λ q. AllByRecursion IsAlignIfGone q.body) qs → codes_with ds (map (part_without gone) qs) ≡ codes_with ds qs
  codes_stay [] qs h = refl
  codes_stay (d ∷ ds) [] h = refl
  codes_stay (d ∷ ds) (q ∷ qs) h =
      ap (λ ps. record { name = d.name; lines = lines_of (kinds ps); tables = d.tables; home = d.home } ∷ codes_with ds (map (part_without gone) qs)) (code_without gone q (quiet_aligns q.body h.0))
      ∙ ap (λ ls. record { name = d.name; lines = ls; tables = d.tables; home = d.home } ∷ codes_with ds (map (part_without gone) qs)) (lines_without (code_part q) (among_filtered _ q.body h.0))
      ∙ ap (λ cs. code_with d q ∷ cs) (codes_stay ds qs h.1)

pub aligns_same : (gone : Entry → Bool) (ds : List Decision) (es : List Entry) → TakesAligns gone es → codes ds (without gone es) ≡ codes ds es
aligns_same gone ds es h =
    ap (codes_with ds) (functions_without gone es (tell_nothing gone es h))
    ∙ codes_stay gone ds (functions (placed es)) (all_filtered (IsAlignIfGone gone) (λ q. is_some (label_of q)) (parts (placed es)) (all_parts (IsAlignIfGone gone) (placed es) [] None (aligns_placed gone text es h)))

-- the file before is the file after without the new entry

without_lacks : (s : ℕ) (es : List Entry) → Lacks s es → without (has_serial s) es ≡ es
without_lacks s [] l = refl
without_lacks s (e ∷ es) l = ap (λ b. cond (not b) (e ∷ without (has_serial s) es) (without (has_serial s) es)) l.0 ∙ ap (λ xs. e ∷ xs) (without_lacks s es l.1)

pub without_new : (b : ℕ) (new : Entry) (es : List Entry) → Lacks new.serial es → without (has_serial new.serial) (inserted b new es) ≡ es
without_new b new [] l = refl
without_new b new (e ∷ es) l = by_test (has_serial b e) (without_new b new es l.1)
  where
    by_test : (t : Bool) → without (has_serial new.serial) (inserted b new es) ≡ es → without (has_serial new.serial) (cond t (new ∷ e ∷ es) (e ∷ inserted b new es)) ≡ e ∷ es
    by_test true rest = ap (λ c. cond (not c) (new ∷ without (has_serial new.serial) (e ∷ es)) (without (has_serial new.serial) (e ∷ es))) (eq-eqb new.serial new.serial refl) ∙ without_lacks new.serial (e ∷ es) l
    by_test false rest = ap (λ c. cond (not c) (e ∷ without (has_serial new.serial) (inserted b new es)) (without (has_serial new.serial) (inserted b new es))) l.0 ∙ ap (λ xs. e ∷ xs) rest

-- what the one new entry is, each entry with its serial is
takes_new : (T : EntryKind → Bool) (b : ℕ) (new : Entry) (es : List Entry) → Lacks new.serial es → T new.kind ≡ true → AllByRecursion (λ e. has_serial new.serial e ≡ true → T e.kind ≡ true) (inserted b new es)
takes_new T b new [] l k = tt
takes_new T b new (e ∷ es) l k = by_test (has_serial b e) (takes_new T b new es l.1 k)
  where
    lacking : (xs : List Entry) → Lacks new.serial xs → AllByRecursion (λ e. has_serial new.serial e ≡ true → T e.kind ≡ true) xs
    lacking [] m = tt
    lacking (x ∷ xs) m = (λ g. no (sym m.0 ∙ g), lacking xs m.1)

    by_test : (t : Bool) → AllByRecursion (λ e. has_serial new.serial e ≡ true → T e.kind ≡ true) (inserted b new es) → AllByRecursion (λ e. has_serial new.serial e ≡ true → T e.kind ≡ true) (cond t (new ∷ e ∷ es) (e ∷ inserted b new es))
    by_test true rest = (λ g. k, lacking (e ∷ es) l)
    by_test false rest = (λ g. no (sym l.0 ∙ g), rest)

pub align_comes : (b : ℕ) (new : Entry) (ds : List Decision) (es : List Entry) → Lacks new.serial es → is_align_kind new.kind ≡ true → codes ds (inserted b new es) ≡ codes ds es
align_comes b new ds es l k =
    sym (aligns_same (has_serial new.serial) ds (inserted b new es) (takes_new is_align_kind b new es l k)) ∙ ap (codes ds) (without_new b new es l)

same_each_sym : (fs gs : List Code) → SameEach fs gs → SameEach gs fs
same_each_sym [] [] h = tt
same_each_sym (f ∷ fs) (g ∷ gs) h = (same_sym f g h.0, same_each_sym fs gs h.1)
same_each_sym [] (g ∷ gs) h = h
same_each_sym (f ∷ fs) [] h = h

pub nop_comes : (b : ℕ) (new : Entry) (ds : List Decision) (es : List Entry) → Lacks new.serial es → is_nop_entry new.kind ≡ true → SameEach (codes ds es) (codes ds (inserted b new es))
nop_comes b new ds es l k =
    same_each_sym (codes ds (inserted b new es)) (codes ds es)
    (subst (λ xs. SameEach (codes ds (inserted b new es)) (codes ds xs)) (without_new b new es l) (nops_same (has_serial new.serial) ds (inserted b new es) (takes_new is_nop_entry b new es l k)))
