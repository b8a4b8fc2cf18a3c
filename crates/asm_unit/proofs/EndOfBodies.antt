-- Each function ends with its `.size`: a lasting entry, behind which nothing of its code stands.
use Rattle.std.proofs.Common.{◌≡◌, ◌⊎◌, ℕ, Bool, true, false, not, cond, ◌||◌, List, [], ◌∷◌, ◌++◌, map, filter, Option, Some, None, refl, sym, ap, ◌∙◌, inl, inr, subst, append_assoc}
use Rattle.std.specs.Prelude.{◌&&◌, slice_get, is_some, find, option_map, bytes_eq}
use Rattle.std.specs.List.{AllByRecursion, list_any}
use Rattle.std.proofs.lemmas.Bool.{eq-eqb}
use Rattle.insn_ir.specs.declared.entry.DirectiveKind.{DirectiveKind}
use Rattle.insn_ir.specs.declared.entry.EntryKind.{EntryKind}
use Rattle.insn_ir.specs.declared.entry.Entry.{Entry}
use Rattle.jump_tables.specs.Names.{has}
use Rattle.jump_tables.specs.Sections.{Section, Placed, placed, placed_from, section_after, text}
use Rattle.jump_tables.specs.Tables.{label_name}
use Rattle.asm_unit.specs.Functions.{Part, is_end, is_end_kind, typed_after, opens_by, opens, onto, parts_from, parts, label_of, section_of, code_part, functions}
use Rattle.asm_unit.specs.Tables.{is_among}
use Rattle.asm_unit.specs.Edits.{has_serial, placed_without}
use Rattle.asm_unit.specs.Held.{Held, serial_is, entries_of}
use Rattle.asm_unit.specs.Unit.{is_removable, next_among}
use Rattle.asm_unit.specs.Grown.{LacksPlaced, IsOnce, AreOnce, last_placed, end_serial}
use Rattle.asm_unit.specs.Lasting.{lasting}
use Rattle.asm_unit.proofs.Taken.{functions_without}
use Rattle.asm_unit.proofs.OnceLaws.{all_get, lacks_among, among_kept, among_behind, once_behind, once_front}
use Rattle.asm_unit.proofs.AroundLaws.{IsAround, around}
use Rattle.asm_unit.proofs.LastingLaws.{quiet, part_lasting, passing}

no : {P : Type 0} → true ≡ false → P
no e = absurd (cc)

-- the last of a list is there and lasts
record Lasts (ps : List Placed) : Type 0 where
  entry : Placed
  last : last_placed None ps ≡ Some entry
  lasts : is_removable entry.entry.kind ≡ false

abbrev IsEnded : Part → Type 0
IsEnded q = (q.body ≡ []) ⊎ Lasts q.body

end_lasts : (n : List ℕ) (k : EntryKind) → is_end_kind n k ≡ true → is_removable k ≡ false
end_lasts n (EntryKind.Directive (DirectiveKind.FuncEnd m)) e = refl
end_lasts n _ e = no (sym e)

last_some : (o : Option Placed) (ps : List Placed) (p : Placed) → last_placed None ps ≡ Some p → last_placed o ps ≡ Some p
last_some o [] p e = absurd (cc)
last_some o (x ∷ ps) p e = e

one_more : (p : Placed) (ps : List Placed) → Lasts ps → Lasts (p ∷ ps)
one_more p ps l = record { entry = l.entry; last = last_some (Some p) ps l.entry l.last; lasts = l.lasts }

-- the first ends, and so does each other that has a body
abbrev FirstEnds : List Part → Type 0
FirstEnds [] = ⊥
FirstEnds (q ∷ qs) = Lasts q.body × AllByRecursion IsEnded qs

ended_outside : (p : Placed) (qs : List Part) → AllByRecursion IsEnded qs → AllByRecursion IsEnded (onto None p qs)
ended_outside p [] h = tt
ended_outside p (q ∷ qs) h = (h.0, h.1)

ended_first : (n : List ℕ) (p : Placed) (qs : List Part) → FirstEnds qs → FirstEnds (onto (Some n) p qs)
ended_first n p [] h = h
ended_first n p (q ∷ qs) h = (one_more p q.body h.0, h.1)

all_of_first : (qs : List Part) → FirstEnds qs → AllByRecursion IsEnded qs
all_of_first [] h = absurd h
all_of_first (q ∷ qs) h = (inr h.0, h.1)

-- where a function opens, its end stands behind
opened_ends : (typed : List (List ℕ)) (p : Placed) (ps : List Placed) (n : List ℕ) → opens typed p ps ≡ Some n → list_any (is_end n) ps ≡ true
opened_ends typed p ps n e = by_label (label_name p.entry.kind) e
  where
    by_test : (a b c : Bool) (m : List ℕ) → c ≡ list_any (is_end m) ps → cond (a && b && c) (Some m) None ≡ Some n → list_any (is_end n) ps ≡ true
    by_test true true true m w q = let same : m ≡ n = cc in ap (λ x. list_any (is_end x) ps) (sym same) ∙ sym w
    by_test true true false m w q = absurd (cc)
    by_test true false c m w q = absurd (cc)
    by_test false b c m w q = absurd (cc)

    by_label : (o : Option (List ℕ)) → opens_by typed p.section.code o ps ≡ Some n → list_any (is_end n) ps ≡ true
    by_label None q = absurd (cc)
    by_label (Some m) q = by_test p.section.code (has m typed) (list_any (is_end m) ps) m refl q

record AreEnded (ps : List Placed) : Type 0 where
  outside : (typed : List (List ℕ)) → AllByRecursion IsEnded (parts_from typed None ps)
  inside : (typed : List (List ℕ)) (n : List ℕ) → list_any (is_end n) ps ≡ true → FirstEnds (parts_from typed (Some n) ps)

parts_ended : (ps : List Placed) → AreEnded ps
unfolding parts_from
parts_ended [] = record { outside = λ typed. (inl refl, tt); inside = λ typed n e. no (sym e) }
parts_ended (p ∷ ps) = step (parts_ended ps)
  where
    step : AreEnded ps → AreEnded (p ∷ ps)
    step w = record {
      outside = λ typed. by_opening typed (opens typed p ps) refl;
      inside = λ typed n e. by_end typed n (is_end n p) refl e;
    }
      where
        by_opening : (typed : List (List ℕ)) (o : Option (List ℕ)) → opens typed p ps ≡ o → AllByRecursion IsEnded (onto o p (parts_from (typed_after typed p.entry.kind) o ps))
        by_opening typed None e = ended_outside p (parts_from (typed_after typed p.entry.kind) None ps) (w.outside (typed_after typed p.entry.kind))
        by_opening typed (Some n) e =
            all_of_first (onto (Some n) p (parts_from (typed_after typed p.entry.kind) (Some n) ps))
            (ended_first n p (parts_from (typed_after typed p.entry.kind) (Some n) ps) (w.inside (typed_after typed p.entry.kind) n (opened_ends typed p ps n e)))

        by_end : (typed : List (List ℕ)) (n : List ℕ) (t : Bool) → is_end n p ≡ t → t || list_any (is_end n) ps ≡ true
            → FirstEnds (cond t (record { before = []; body = p ∷ [] } ∷ parts_from typed None ps) (onto (Some n) p (parts_from (typed_after typed p.entry.kind) (Some n) ps)))
        by_end typed n true g e = (record { entry = p; last = refl; lasts = end_lasts n p.entry.kind g }, w.outside typed)
        by_end typed n false g e = ended_first n p (parts_from (typed_after typed p.entry.kind) (Some n) ps) (w.inside (typed_after typed p.entry.kind) n e)

labelled_lasts : (q : Part) → is_some (label_of q) ≡ true → IsEnded q → Lasts q.body
labelled_lasts q e (inl w) = no (sym (sym (ap (λ b. is_some (find (λ p. is_some (label_name p.entry.kind)) b)) w) ∙ e))
labelled_lasts q e (inr w) = w

functions_last : (qs : List Part) → AllByRecursion IsEnded qs → AllByRecursion (λ q. Lasts q.body) (filter (λ q. is_some (label_of q)) qs)
functions_last [] h = tt
functions_last (q ∷ qs) h = by_test (is_some (label_of q)) refl (functions_last qs h.1)
  where
    by_test : (t : Bool) → is_some (label_of q) ≡ t → AllByRecursion (λ r. Lasts r.body) (filter (λ r. is_some (label_of r)) qs)
        → AllByRecursion (λ r. Lasts r.body) (cond t (q ∷ filter (λ r. is_some (label_of r)) qs) (filter (λ r. is_some (label_of r)) qs))
    by_test true g rest = (labelled_lasts q g h.0, rest)
    by_test false g rest = rest

all_last : (ps : List Placed) → AllByRecursion (λ q. Lasts q.body) (functions ps)
all_last ps = functions_last (parts ps) ((parts_ended ps).outside [])

-- the last stays where entries pass

abbrev Passes : Option Placed → Type 0
Passes o = (p : Placed) → o ≡ Some p → is_removable p.entry.kind ≡ true

last_left : (o w : Option Placed) (ps : List Placed) (e : Placed) → last_placed o ps ≡ Some e → is_removable e.entry.kind ≡ false → (o ≡ w) ⊎ Passes o → last_placed w (placed_without passing ps) ≡ Some e
last_left o w [] e l r (inl s) = sym s ∙ l
last_left o w [] e l r (inr s) = no (sym (s e l) ∙ r)
last_left o w (p ∷ ps) e l r s = by_test (is_removable p.entry.kind) refl (λ v z. last_left (Some p) v ps e l r z)
  where
    by_test : (t : Bool) → is_removable p.entry.kind ≡ t → ((v : Option Placed) → (Some p ≡ v) ⊎ Passes (Some p) → last_placed v (placed_without passing ps) ≡ Some e)
        → last_placed w (cond (not t) (p ∷ placed_without passing ps) (placed_without passing ps)) ≡ Some e
    by_test true g rest = rest w (inr (λ x y. let same : p ≡ x = cc in ap (λ z. is_removable z.entry.kind) (sym same) ∙ g))
    by_test false g rest = rest (Some p) (inl refl)

ends_left : (q : Part) → Lasts q.body → end_serial (part_lasting q) ≡ end_serial q
ends_left q l = ap (option_map (λ p. p.entry.serial)) (last_left None None q.body l.entry l.last l.lasts (inl refl) ∙ sym l.last)

each_end : (qs : List Part) → AllByRecursion (λ q. Lasts q.body) qs → map end_serial (map part_lasting qs) ≡ map end_serial qs
each_end [] h = refl
each_end (q ∷ qs) h = ap (λ o. o ∷ map end_serial (map part_lasting qs)) (ends_left q h.0) ∙ ap (λ os. end_serial q ∷ os) (each_end qs h.1)

pub same_ends : (es fs : List Entry) → lasting es ≡ lasting fs → map end_serial (functions (placed es)) ≡ map end_serial (functions (placed fs))
same_ends es fs l =
    sym (each_end (functions (placed es)) (all_last (placed es)))
    ∙ ap (map end_serial) (sym (functions_without passing es (quiet es)))
    ∙ ap (λ xs. map end_serial (functions (placed xs))) l
    ∙ ap (map end_serial) (functions_without passing fs (quiet fs))
    ∙ each_end (functions (placed fs)) (all_last (placed fs))

pub end_there : (ps : List Placed) (k : ℕ) (f : Part) → slice_get (functions ps) k ≡ Some f → is_some (end_serial f) ≡ true
end_there ps k f part = ap (λ o. is_some (option_map (λ p. p.entry.serial) o)) (all_get (λ q. Lasts q.body) (functions ps) k f (all_last ps) part).last

-- behind the last of a body stands none of it

abbrev behind_placed : ℕ → List Placed → List Placed
behind_placed s [] = []
behind_placed s (p ∷ ps) = cond (has_serial s p.entry) ps (behind_placed s ps)

module _ (code : List Placed) where
  abbrev found_in : List Placed → Option ℕ
  found_in ps = option_map (λ p. p.entry.serial) (find (λ p. is_among p.entry.serial code) ps)

  found_same : (t : Section) (hs : List Held) → option_map (λ h. h.entry.serial) (find (λ h. is_among h.entry.serial code) hs) ≡ found_in (placed_from t (entries_of hs))
  found_same t [] = refl
  found_same t (h ∷ hs) = by_test (is_among h.entry.serial code) (found_same (section_after t h.entry.kind) hs)
    where
      by_test : (b : Bool) → option_map (λ x. x.entry.serial) (find (λ x. is_among x.entry.serial code) hs) ≡ found_in (placed_from (section_after t h.entry.kind) (entries_of hs))
          → option_map (λ x. x.entry.serial) (cond b (Some h) (find (λ x. is_among x.entry.serial code) hs))
          ≡ option_map (λ p. p.entry.serial) (cond b (Some (record { entry = h.entry; section = section_after t h.entry.kind })) (find (λ p. is_among p.entry.serial code) (placed_from (section_after t h.entry.kind) (entries_of hs))))
      by_test true e = refl
      by_test false e = e

  next_same : (t : Section) (s : ℕ) (hs : List Held) → next_among code hs s ≡ found_in (behind_placed s (placed_from t (entries_of hs)))
  next_same t s [] = refl
  next_same t s (h ∷ hs) = by_test (serial_is s h) _ (next_same (section_after t h.entry.kind) s hs)
    where
      by_test : (b : Bool) (later : List Held) → option_map (λ x. x.entry.serial) (find (λ x. is_among x.entry.serial code) later) ≡ found_in (behind_placed s (placed_from (section_after t h.entry.kind) (entries_of hs)))
          → option_map (λ x. x.entry.serial) (find (λ x. is_among x.entry.serial code) (cond b hs later))
          ≡ found_in (cond b (placed_from (section_after t h.entry.kind) (entries_of hs)) (behind_placed s (placed_from (section_after t h.entry.kind) (entries_of hs))))
      by_test true later e = found_same (section_after t h.entry.kind) hs
      by_test false later e = e

  none_in : (ps : List Placed) → ((s : ℕ) → is_among s ps ≡ true → is_among s code ≡ false) → found_in ps ≡ None
  none_in [] h = refl
  none_in (p ∷ ps) h =
      ap (λ b. option_map (λ x. x.entry.serial) (cond b (Some p) (find (λ x. is_among x.entry.serial code) ps))) (h p.entry.serial (ap (λ b. b || is_among p.entry.serial ps) (eq-eqb p.entry.serial p.entry.serial refl)))
      ∙ none_in ps (λ s e. h s (ap (λ b. has_serial s p.entry || b) e ∙ or_true (has_serial s p.entry)))
    where
      or_true : (t : Bool) → (t || true) ≡ true
      or_true true = refl
      or_true false = refl

-- a list up to its last
record IsSplit (ps : List Placed) (e : Placed) : Type 0 where
  front : List Placed
  whole : ps ≡ front ++ e ∷ []

split_last : (ps : List Placed) (e : Placed) → last_placed None ps ≡ Some e → IsSplit ps e
split_last [] e l = absurd (cc)
split_last (p ∷ []) e l = let same : p ≡ e = cc in record { front = []; whole = ap (λ x. x ∷ []) same }
split_last (p ∷ x ∷ ps) e l =
    let w = split_last (x ∷ ps) e l in
    record { front = p ∷ w.front; whole = ap (λ xs. p ∷ xs) w.whole }

behind_front : (s : ℕ) (xs ys : List Placed) (e : Placed) → LacksPlaced s xs → has_serial s e.entry ≡ true → behind_placed s (xs ++ e ∷ ys) ≡ ys
behind_front s [] ys e l g = ap (λ b. cond b ys (behind_placed s ys)) g
behind_front s (x ∷ xs) ys e l g = ap (λ b. cond b (xs ++ e ∷ ys) (behind_placed s (xs ++ e ∷ ys))) l.0 ∙ behind_front s xs ys e l.1 g

-- nothing of a code stands behind the end of its function
pub none_behind_end : (hs : List Held) (k : ℕ) (f : Part) (s : ℕ) → AreOnce (entries_of hs) → slice_get (functions (placed (entries_of hs))) k ≡ Some f → end_serial f ≡ Some s → next_among (code_part f) hs s ≡ None
none_behind_end hs k f s once part end = by_last (all_get (λ q. Lasts q.body) (functions (placed (entries_of hs))) k f (all_last (placed (entries_of hs))) part)
  where
    by_last : Lasts f.body → next_among (code_part f) hs s ≡ None
    by_last l =
        ap (next_among (code_part f) hs) (sym one)
        ∙ next_same (code_part f) text e.entry.serial hs
        ∙ ap (λ ps. found_in (code_part f) (behind_placed e.entry.serial ps)) apart
        ∙ ap (found_in (code_part f)) (behind_front e.entry.serial ((w.front ++ f.before) ++ v.front) w.back e
        (once_front e.entry.serial ((w.front ++ f.before) ++ v.front) (e ∷ w.back) (subst (IsOnce e.entry.serial) apart (once e.entry.serial)) (ap (λ b. b || is_among e.entry.serial w.back) itself)) itself)
        ∙ none_in (code_part f) w.back not_behind
      where
        e : Placed
        e = l.entry

        itself : has_serial e.entry.serial e.entry ≡ true
        itself = eq-eqb e.entry.serial e.entry.serial refl

        one : e.entry.serial ≡ s
        one = let same : Some e.entry.serial ≡ Some s = ap (option_map (λ p. p.entry.serial)) (sym l.last) ∙ end in let is : e.entry.serial ≡ s = cc in is

        w : IsAround (placed (entries_of hs)) f
        w = around (placed (entries_of hs)) k f part

        v : IsSplit f.body e
        v = split_last f.body e l.last

        apart : placed (entries_of hs) ≡ ((w.front ++ f.before) ++ v.front) ++ e ∷ w.back
        apart =
            w.whole
            ∙ ap (λ xs. (w.front ++ f.before) ++ (xs ++ w.back)) v.whole
            ∙ ap (λ xs. (w.front ++ f.before) ++ xs) (append_assoc v.front (e ∷ []) w.back)
            ∙ sym (append_assoc (w.front ++ f.before) v.front (e ∷ w.back))

        not_behind : (n : ℕ) → is_among n w.back ≡ true → is_among n (code_part f) ≡ false
        not_behind n a = by_test (is_among n (code_part f)) refl
          where
            by_test : (t : Bool) → is_among n (code_part f) ≡ t → t ≡ false
            by_test false g = refl
            by_test true g =
                no (sym a ∙ lacks_among n w.back (once_behind n ((w.front ++ f.before) ++ f.body) w.back
                (subst (IsOnce n) (w.whole ∙ sym (append_assoc (w.front ++ f.before) f.body w.back)) (once n))
                (among_behind n (w.front ++ f.before) f.body (among_kept n (λ p. bytes_eq p.section.name (section_of f).name) f.body g))))
