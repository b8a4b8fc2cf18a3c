-- An instruction goes from a file, or another stands in its place: what becomes of the codes.
use Rattle.std.proofs.Common.{subst, ◌≡◌, ◌≢◌, ◌⊎◌, inl, inr, ℕ, zero, suc, ◌+◌, Bool, true, false, not, cond, List, [], ◌∷◌, ◌++◌, map, filter, length, Some, None, refl, sym, ap, ◌∙◌, append_assoc, arith, length-append}
use Rattle.std.specs.Prelude.{slice_get, slice_set, remove, is_some, find, bytes_eq, option_map, ◌||◌}
use Rattle.std.specs.List.{AllByRecursion, take_while}
use Rattle.std.proofs.lemmas.List.Sums.{take_while-cons}
use Rattle.insn_ir.specs.declared.insn.Insn.{Insn}
use Rattle.insn_ir.specs.declared.entry.EntryKind.{EntryKind}
use Rattle.insn_ir.specs.declared.entry.Entry.{Entry}
use Rattle.insn_ir.specs.Code.{Code, One, Line, Do}
use Rattle.insn_ir.specs.Edits as LineEdits
use Rattle.insn_ir.specs.Entries.{lines_of}
use Rattle.insn_ir.specs.Same.{Same}
use Rattle.insn_ir.proofs.SameLaws.{same_refl}
use Rattle.jump_tables.specs.Sections.{Section, Placed, placed_from, placed, text, section_after}
use Rattle.asm_unit.specs.Functions.{Part, is_label, label_of, section_at, code_part, parts, functions}
use Rattle.asm_unit.specs.Tables.{is_among}
use Rattle.asm_unit.specs.Decisions.{Decision, code_with, codes_with, codes}
use Rattle.asm_unit.specs.Edits.{is_frame, without, placed_without, part_without, placed_map, part_map, has_serial, TakesNoFrame, KeepsFrames, SameEach}
use Rattle.asm_unit.specs.Grown.{LacksPlaced, IsOnce}
use Rattle.asm_unit.specs.CodeLines.{lines_before, put_entry, IsInsnOf}
use Rattle.asm_unit.proofs.Taken.{HoldsInBody, all_parts, functions_without, code_without, IsQuiet, quiet_bodies}
use Rattle.asm_unit.proofs.MappedCodes.{functions_changed, code_changed}
use Rattle.asm_unit.proofs.OnceLaws.{all_get, all_kept, once_kept, among_kept, in_one_body, once_in_body}

no : {P : Type 0} → true ≡ false → P
no e = absurd (cc)

abbrev kinds : List Placed → List EntryKind
kinds ps = map (λ p. p.entry.kind) ps

lines_cons : (k : EntryKind) (ks : List EntryKind) → lines_of (k ∷ ks) ≡ lines_of (k ∷ []) ++ lines_of ks
lines_cons (EntryKind.Label n) ks = refl
lines_cons (EntryKind.Insn i) ks = refl
lines_cons _ ks = refl

-- one element of a list

pub get_middle : {A : Type 0} (xs : List A) (y : A) (ys : List A) → slice_get (xs ++ y ∷ ys) (length xs) ≡ Some y
get_middle [] y ys = refl
get_middle (x ∷ xs) y ys = get_middle xs y ys

pub set_middle : {A : Type 0} (xs : List A) (y z : A) (ys : List A) → slice_set (xs ++ y ∷ ys) (length xs) z ≡ xs ++ z ∷ ys
set_middle [] y z ys = refl
set_middle (x ∷ xs) y z ys = ap (λ zs. x ∷ zs) (set_middle xs y z ys)

pub remove_middle : {A : Type 0} (xs : List A) (y : A) (ys : List A) → remove (xs ++ y ∷ ys) (length xs) ≡ xs ++ ys
remove_middle [] y ys = refl
remove_middle (x ∷ xs) y ys = ap (λ zs. x ∷ zs) (remove_middle xs y ys)

-- lists without the entry

module _ (s : ℕ) where
  abbrev gone : Entry → Bool
  gone = has_serial s

  pub lacks_without : (ps : List Placed) → LacksPlaced s ps → placed_without gone ps ≡ ps
  lacks_without [] l = refl
  lacks_without (p ∷ ps) l = ap (λ b. cond (not b) (p ∷ placed_without gone ps) (placed_without gone ps)) l.0 ∙ ap (λ xs. p ∷ xs) (lacks_without ps l.1)

  pub lacks_put : (k : EntryKind) (ps : List Placed) → LacksPlaced s ps → map (placed_map (put_entry s k)) ps ≡ ps
  lacks_put k [] l = refl
  lacks_put k (p ∷ ps) l =
      ap (λ b. record { entry = cond b (record { serial = p.entry.serial; kind = k }) p.entry; section = p.section } ∷ map (placed_map (put_entry s k)) ps) l.0
      ∙ ap (λ xs. p ∷ xs) (lacks_put k ps l.1)

  -- a code depends on the body alone
  abbrev code_in : List Placed → List Placed
  code_in body = filter (λ p. bytes_eq p.section.name (section_at (find is_label body)).name) body

  module _ (i : Insn) where
    abbrev IsInsnIf : Placed → Type 0
    IsInsnIf p = has_serial s p.entry ≡ true → p.entry.kind ≡ EntryKind.Insn i

    -- the lines before that of the entry and behind it
    record IsSplit (ps : List Placed) : Type 0 where
      front : List Line
      back : List Line
      at : lines_before s ps ≡ length front
      whole : lines_of (kinds ps) ≡ front ++ Do (One i) ∷ back
      left : lines_of (kinds (placed_without gone ps)) ≡ front ++ back
      set : (j : Insn) → lines_of (kinds (map (placed_map (put_entry s (EntryKind.Insn j))) ps)) ≡ front ++ Do (One j) ∷ back

    split : (ps : List Placed) → IsOnce s ps → AllByRecursion IsInsnIf ps → is_among s ps ≡ true → IsSplit ps
    split [] o h e = no (sym e)
    split (p ∷ ps) o h e = by_test (has_serial s p.entry) refl e (split ps o.1 h.1)
      where
        here : has_serial s p.entry ≡ true → IsSplit (p ∷ ps)
        here g = record {
          front = [];
          back = lines_of (kinds ps);
          at = ap (λ xs. length (lines_of (kinds xs))) (take_while-cons (λ q. not (has_serial s q.entry)) p ps ∙ ap (λ b. cond (not b) (p ∷ take_while (λ q. not (has_serial s q.entry)) ps) []) g);
          whole = ap (λ k. lines_of (k ∷ kinds ps)) (h.0 g);
          left = ap (λ b. lines_of (kinds (cond (not b) (p ∷ placed_without gone ps) (placed_without gone ps)))) g ∙ ap (λ xs. lines_of (kinds xs)) (lacks_without ps (o.0 g));
          set = λ j.
              ap (λ b. lines_of ((cond b (record { serial = p.entry.serial; kind = EntryKind.Insn j }) p.entry).kind ∷ kinds (map (placed_map (put_entry s (EntryKind.Insn j))) ps))) g
              ∙ ap (λ xs. Do (One j) ∷ lines_of (kinds xs)) (lacks_put (EntryKind.Insn j) ps (o.0 g));
        }

        later : has_serial s p.entry ≡ false → IsSplit ps → IsSplit (p ∷ ps)
        later g t = record {
          front = lines_of (p.entry.kind ∷ []) ++ t.front;
          back = t.back;
          at = ap (λ xs. length (lines_of (kinds xs))) (take_while-cons (λ q. not (has_serial s q.entry)) p ps ∙ ap (λ b. cond (not b) (p ∷ take_while (λ q. not (has_serial s q.entry)) ps) []) g)
              ∙ ap length (lines_cons p.entry.kind (kinds (take_while (λ q. not (has_serial s q.entry)) ps)))
              ∙ length-append (lines_of (p.entry.kind ∷ [])) (lines_of (kinds (take_while (λ q. not (has_serial s q.entry)) ps)))
              ∙ ap (λ n. length (lines_of (p.entry.kind ∷ [])) + n) t.at
              ∙ sym (length-append (lines_of (p.entry.kind ∷ [])) t.front);
          whole = head (kinds ps) (Do (One i) ∷ t.back) t.whole;
          left = ap (λ b. lines_of (kinds (cond (not b) (p ∷ placed_without gone ps) (placed_without gone ps)))) g ∙ head (kinds (placed_without gone ps)) t.back t.left;
          set = λ j.
              ap (λ b. lines_of ((cond b (record { serial = p.entry.serial; kind = EntryKind.Insn j }) p.entry).kind ∷ kinds (map (placed_map (put_entry s (EntryKind.Insn j))) ps))) g
              ∙ head (kinds (map (placed_map (put_entry s (EntryKind.Insn j))) ps)) (Do (One j) ∷ t.back) (t.set j);
        }
          where
            head : (ks : List EntryKind) (ys : List Line) → lines_of ks ≡ t.front ++ ys → lines_of (p.entry.kind ∷ ks) ≡ (lines_of (p.entry.kind ∷ []) ++ t.front) ++ ys
            head ks ys q = lines_cons p.entry.kind ks ∙ ap (λ ls. lines_of (p.entry.kind ∷ []) ++ ls) q ∙ sym (append_assoc (lines_of (p.entry.kind ∷ [])) t.front ys)

        by_test : (b : Bool) → has_serial s p.entry ≡ b → b || is_among s ps ≡ true → (is_among s ps ≡ true → IsSplit ps) → IsSplit (p ∷ ps)
        by_test true g a rest = here g
        by_test false g a rest = later g (rest a)

    -- of a file
    insns : (t : Section) (es : List Entry) → IsOnce s (placed_from t es) → option_map (λ e. e.kind) (find (has_serial s) es) ≡ Some (EntryKind.Insn i) → AllByRecursion IsInsnIf (placed_from t es)
    insns t [] o e = tt
    insns t (x ∷ es) o e = by_test (has_serial s x) refl e (insns (section_after t x.kind) es o.1)
      where
        lacking : (ps : List Placed) → LacksPlaced s ps → AllByRecursion IsInsnIf ps
        lacking [] l = tt
        lacking (p ∷ ps) l = (λ g. no (sym g ∙ l.0), lacking ps l.1)

        by_test : (b : Bool) → has_serial s x ≡ b → option_map (λ e. e.kind) (cond b (Some x) (find (has_serial s) es)) ≡ Some (EntryKind.Insn i)
            → (option_map (λ e. e.kind) (find (has_serial s) es) ≡ Some (EntryKind.Insn i) → AllByRecursion IsInsnIf (placed_from (section_after t x.kind) es)) → AllByRecursion IsInsnIf (placed_from t (x ∷ es))
        by_test true g q rest = (λ w. let same : x.kind ≡ EntryKind.Insn i = cc in same, lacking (placed_from (section_after t x.kind) es) (o.0 g))
        by_test false g q rest = (λ w. no (sym w ∙ g), rest q)

    no_frames : (t : Section) (es : List Entry) → AllByRecursion IsInsnIf (placed_from t es) → TakesNoFrame gone es
    no_frames t [] h = tt
    no_frames t (e ∷ es) h = (λ g. ap is_frame (h.0 g), no_frames (section_after t e.kind) es h.1)

    keep_frames : (j : Insn) (t : Section) (es : List Entry) → AllByRecursion IsInsnIf (placed_from t es) → KeepsFrames (put_entry s (EntryKind.Insn j)) es
    keep_frames j t [] h = tt
    keep_frames j t (e ∷ es) h = (by_test (has_serial s e) refl, keep_frames j (section_after t e.kind) es h.1)
      where
        by_test : (b : Bool) → has_serial s e ≡ b → ((cond b (record { serial = e.serial; kind = EntryKind.Insn j }) e).kind ≡ e.kind) ⊎ ((is_frame e.kind ≡ false) × (is_frame (cond b (record { serial = e.serial; kind = EntryKind.Insn j }) e).kind ≡ false))
        by_test true g = inr (ap is_frame (h.0 g), refl)
        by_test false g = inl refl

-- one part changes, and the codes in one place

abbrev part_lines : Part → List Line
part_lines q = lines_of (kinds (code_part q))

codes_same : (h : Part → Part) (ds : List Decision) (qs : List Part) → ((j : ℕ) (g : Part) → slice_get qs j ≡ Some g → part_lines (h g) ≡ part_lines g) → codes_with ds (map h qs) ≡ codes_with ds qs
codes_same h [] qs same = refl
codes_same h (d ∷ ds) [] same = refl
codes_same h (d ∷ ds) (q ∷ qs) same =
    ap (λ ls. record { name = d.name; lines = ls; tables = d.tables; home = d.home } ∷ codes_with ds (map h qs)) (same 0 q refl)
    ∙ ap (λ cs. code_with d q ∷ cs) (codes_same h ds qs (λ j. same (suc j)))

code_changes : (h : Part → Part) (ls : List Line) (ds : List Decision) (qs : List Part) (k : ℕ) (f : Part) (c : Code) → slice_get qs k ≡ Some f → slice_get (codes_with ds qs) k ≡ Some c
    → ((j : ℕ) (g : Part) → slice_get qs j ≡ Some g → j ≢ k → part_lines (h g) ≡ part_lines g) → part_lines (h f) ≡ ls
    → codes_with ds (map h qs) ≡ slice_set (codes_with ds qs) k (record c { lines = ls })
code_changes h ls [] qs k f c a b same new = absurd (cc)
code_changes h ls (d ∷ ds) [] k f c a b same new = absurd (cc)
code_changes h ls (d ∷ ds) (q ∷ qs) zero f c a b same new =
    let part : q ≡ f = cc in
    let code : code_with d q ≡ c = cc in
    ap (λ ms. record { name = d.name; lines = ms; tables = d.tables; home = d.home } ∷ codes_with ds (map h qs)) (ap (λ r. part_lines (h r)) part ∙ new)
    ∙ ap (λ cs. record { name = d.name; lines = ls; tables = d.tables; home = d.home } ∷ cs) (codes_same h ds qs (λ j g e. same (suc j) g e (λ w. absurd (omega (arith, w)))))
    ∙ ap {A = Code} (λ x. record x { lines = ls } ∷ codes_with ds qs) code
code_changes h ls (d ∷ ds) (q ∷ qs) (suc k) f c a b same new =
    ap (λ ms. record { name = d.name; lines = ms; tables = d.tables; home = d.home } ∷ codes_with ds (map h qs)) (same 0 q refl (λ w. absurd (omega (arith, w))))
    ∙ ap (λ cs. code_with d q ∷ cs) (code_changes h ls ds qs k f c a b (λ j g e n. same (suc j) g e (λ w. n (omega (arith, w)))) new)

-- the code of a function with its lines
code_lines : (ds : List Decision) (qs : List Part) (k : ℕ) (f : Part) (c : Code) → slice_get qs k ≡ Some f → slice_get (codes_with ds qs) k ≡ Some c → c.lines ≡ part_lines f
code_lines [] qs k f c a b = absurd (cc)
code_lines (d ∷ ds) [] k f c a b = absurd (cc)
code_lines (d ∷ ds) (q ∷ qs) zero f c a b =
    let part : q ≡ f = cc in
    let code : code_with d q ≡ c = cc in
    sym (ap (λ x. x.lines) code) ∙ ap part_lines part
code_lines (d ∷ ds) (q ∷ qs) (suc k) f c a b = code_lines ds qs k f c a b

-- the line of an instruction

module _ (ds : List Decision) (es : List Entry) (k s : ℕ) (f : Part) (i : Insn) (c : Code)
    (part : slice_get (functions (placed es)) k ≡ Some f) (is : IsInsnOf es s i f) (code : slice_get (codes ds es) k ≡ Some c) where
  all_insns : AllByRecursion (IsInsnIf s i) (placed es)
  all_insns = insns s i text es is.once is.insn

  in_body : AllByRecursion (IsInsnIf s i) f.body
  in_body =
      all_get (HoldsInBody (IsInsnIf s i)) (functions (placed es)) k f
      (all_kept (HoldsInBody (IsInsnIf s i)) (λ q. is_some (label_of q)) (parts (placed es)) (all_parts (IsInsnIf s i) (placed es) [] None all_insns)) part

  among_body : is_among s f.body ≡ true
  among_body = among_kept s (λ p. bytes_eq p.section.name (section_at (find is_label f.body)).name) f.body is.among

  in_code : IsSplit s i (code_part f)
  in_code =
      split s i (code_part f)
      (once_kept s (λ p. bytes_eq p.section.name (section_at (find is_label f.body)).name) f.body (once_in_body s (placed es) k f is.once part))
      (all_kept (IsInsnIf s i) (λ p. bytes_eq p.section.name (section_at (find is_label f.body)).name) f.body in_body)
      is.among

  others : (j : ℕ) (g : Part) → slice_get (functions (placed es)) j ≡ Some g → j ≢ k → LacksPlaced s g.body
  others j g e n = in_one_body s (placed es) j k g f is.once e part n among_body

  lines_are : c.lines ≡ in_code.front ++ Do (One i) ∷ in_code.back
  lines_are = code_lines ds (functions (placed es)) k f c part code ∙ in_code.whole

  pub line_is : slice_get c.lines (lines_before s (code_part f)) ≡ Some (Do (One i))
  line_is =
      ap (λ ls. slice_get ls (lines_before s (code_part f))) lines_are
      ∙ ap (slice_get (in_code.front ++ Do (One i) ∷ in_code.back)) in_code.at
      ∙ get_middle in_code.front (Do (One i)) in_code.back

  -- it goes

  quiet : TakesNoFrame (has_serial s) es
  quiet = no_frames s i text es all_insns

  left_lines : part_lines (part_without (has_serial s) f) ≡ remove c.lines (lines_before s (code_part f))
  left_lines =
      ap (λ ps. lines_of (kinds ps)) (code_without (has_serial s) f (all_get (HoldsInBody (IsQuiet (has_serial s))) (functions (placed es)) k f (quiet_bodies (has_serial s) es quiet) part))
      ∙ in_code.left
      ∙ sym (ap (λ ls. remove ls (lines_before s (code_part f))) lines_are
      ∙ ap (remove (in_code.front ++ Do (One i) ∷ in_code.back)) in_code.at
      ∙ remove_middle in_code.front (Do (One i)) in_code.back)

  pub code_without_line : codes ds (without (has_serial s) es) ≡ slice_set (codes ds es) k (LineEdits.without c (lines_before s (code_part f)))
  code_without_line =
      ap (codes_with ds) (functions_without (has_serial s) es quiet)
      ∙ code_changes (part_without (has_serial s)) (remove c.lines (lines_before s (code_part f))) ds (functions (placed es)) k f c part code
      (λ j g e n. ap (λ ps. lines_of (kinds (code_in s ps))) (lacks_without s g.body (others j g e n)))
      left_lines

  -- another one stands in its place

  module _ (new : Insn) where
    kept : KeepsFrames (put_entry s (EntryKind.Insn new)) es
    kept = keep_frames s i new text es all_insns

    put_lines : part_lines (part_map (put_entry s (EntryKind.Insn new)) f) ≡ slice_set c.lines (lines_before s (code_part f)) (Do (One new))
    put_lines =
        ap (λ ps. lines_of (kinds ps)) (code_changed (put_entry s (EntryKind.Insn new)) es k f kept part)
        ∙ in_code.set new
        ∙ sym (ap (λ ls. slice_set ls (lines_before s (code_part f)) (Do (One new))) lines_are
        ∙ ap (λ n. slice_set (in_code.front ++ Do (One i) ∷ in_code.back) n (Do (One new))) in_code.at
        ∙ set_middle in_code.front (Do (One i)) (Do (One new)) in_code.back)

    pub code_with_line : codes ds (map (put_entry s (EntryKind.Insn new)) es) ≡ slice_set (codes ds es) k (LineEdits.with_line c (lines_before s (code_part f)) (One new))
    code_with_line =
        ap (codes_with ds) (functions_changed (put_entry s (EntryKind.Insn new)) es kept)
        ∙ code_changes (part_map (put_entry s (EntryKind.Insn new))) (slice_set c.lines (lines_before s (code_part f)) (Do (One new))) ds (functions (placed es)) k f c part code
        (λ j g e n. ap (λ ps. lines_of (kinds (code_in s ps))) (lacks_put s (EntryKind.Insn new) g.body (others j g e n)))
        put_lines

-- codes of which one is another that behaves alike

each_same : (cs : List Code) → SameEach cs cs
each_same [] = tt
each_same (c ∷ cs) = (same_refl c, each_same cs)

pub same_each_set : (cs : List Code) (k : ℕ) (c d : Code) → slice_get cs k ≡ Some c → Same c d → SameEach cs (slice_set cs k d)
same_each_set [] k c d e h = absurd (cc)
same_each_set (b ∷ cs) zero c d e h = let same : c ≡ b = cc in (subst (λ x. Same x d) same h, each_same cs)
same_each_set (b ∷ cs) (suc k) c d e h = (same_refl b, same_each_set cs k c d e h)
