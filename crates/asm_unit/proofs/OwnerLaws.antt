-- In whose code an entry stands that comes before another.
use Rattle.std.proofs.Common.{◌≡◌, ◌⊎◌, ℕ, Bool, true, false, cond, ◌||◌, List, [], ◌∷◌, ◌++◌, filter, Option, Some, None, refl, sym, ap, ◌∙◌, inl, inr, subst}
use Rattle.std.specs.Prelude.{◌&&◌, slice_get, find, option_map, bytes_eq}
use Rattle.std.proofs.lemmas.Bool.{cases_eq, eq-eqb}
use Rattle.insn_ir.specs.declared.entry.Entry.{Entry}
use Rattle.jump_tables.specs.Sections.{Section, Placed, placed, placed_from, section_after, text}
use Rattle.asm_unit.specs.Functions.{Part, is_label, section_at, section_of, code_part, functions}
use Rattle.asm_unit.specs.Held.{Held, serial_is, entries_of, prev_from, prev_of}
use Rattle.asm_unit.specs.Tables.{is_among}
use Rattle.asm_unit.specs.Edits.{is_frame, has_serial}
use Rattle.asm_unit.specs.Grown.{LacksPlaced, Lacks, IsOnce, AreOnce, section_before, prev_placed, last_placed, stands_among, heads, put_before, part_with}
use Rattle.asm_unit.proofs.GrownCodes.{new_among}
use Rattle.asm_unit.proofs.OnceLaws.{lacks_among, among_lacks, lacks_front, lacks_back, lacks_kept, once_first, once_second, once_behind, among_kept, in_one_body, once_front, among_front}
use Rattle.asm_unit.proofs.PrevLaws.{section_is_prev, prev_stands, front_lacks, back_counts_not, heads_not}
use Rattle.asm_unit.proofs.AroundLaws.{IsAround, around, code_by_section, prev_found}

no : {P : Type 0} → true ≡ false → P
no e = absurd (cc)

and_false : (c : Bool) → (c && false) ≡ false
and_false true = refl
and_false false = refl

lacks_placed : (n : ℕ) (s : Section) (es : List Entry) → Lacks n es → LacksPlaced n (placed_from s es)
lacks_placed n s [] l = tt
lacks_placed n s (e ∷ es) l = (l.0, lacks_placed n (section_after s e.kind) es l.1)

not_head : (b : ℕ) (ps : List Placed) → is_among b ps ≡ false → heads b ps ≡ false
not_head b [] e = refl
not_head b (p ∷ ps) e = by_test (has_serial b p.entry) e
  where
    by_test : (t : Bool) → t || is_among b ps ≡ false → t ≡ false
    by_test true q = q
    by_test false q = refl

at_head : (last : Option Placed) (b : ℕ) (ps : List Placed) → heads b ps ≡ true → prev_placed last b ps ≡ last
at_head last b [] h = no (sym h)
at_head last b (p ∷ ps) h = ap (λ t. cond t last (prev_placed (Some p) b ps)) h

last_in : (last : Option Placed) (xs : List Placed) (r : Placed) → last_placed last xs ≡ Some r → (last ≡ Some r) ⊎ (is_among r.entry.serial xs ≡ true)
last_in last [] r e = inl e
last_in last (x ∷ xs) r e = elim (last_in (Some x) xs r e) [
  | inl q ↦ let same : x ≡ r = cc in inr (ap (λ y. has_serial y.entry.serial x.entry || is_among y.entry.serial xs) (sym same) ∙ ap (λ t. t || is_among x.entry.serial xs) (eq-eqb x.entry.serial x.entry.serial refl))
  | inr q ↦ inr (ap (λ t. has_serial r.entry.serial x.entry || t) q ∙ or_true (has_serial r.entry.serial x.entry))
]
  where
    or_true : (t : Bool) → (t || true) ≡ true
    or_true true = refl
    or_true false = refl

-- behind the first of a list, there is an entry before each
prev_there : (last : Option Placed) (b : ℕ) (ps : List Placed) → heads b ps ≡ false → is_among b ps ≡ true → (r : Placed) × (prev_placed last b ps ≡ Some r)
prev_there last b [] h a = no (sym a)
prev_there last b (p ∷ ps) h a =
    let w = further p ps (sym (ap (λ t. t || is_among b ps) h) ∙ a) in
    (w.0, ap (λ t. cond t last (prev_placed (Some p) b ps)) h ∙ w.1)
  where
    further : (p : Placed) (xs : List Placed) → is_among b xs ≡ true → (r : Placed) × (prev_placed (Some p) b xs ≡ Some r)
    further p [] e = no (sym e)
    further p (x ∷ xs) e = by_test (has_serial b x.entry) e (further x xs)
      where
        by_test : (t : Bool) → t || is_among b xs ≡ true → (is_among b xs ≡ true → (r : Placed) × (prev_placed (Some x) b xs ≡ Some r)) → (r : Placed) × (cond t (Some p) (prev_placed (Some x) b xs) ≡ Some r)
        by_test true q rest = (p, refl)
        by_test false q rest = rest q

-- a code depends on the body alone
abbrev code_in : List Placed → List Placed
code_in body = filter (λ p. bytes_eq p.section.name (section_at (find is_label body)).name) body

module _ (b : ℕ) (new : Entry) (es : List Entry) (j k : ℕ) (g f : Part) (quiet : is_frame new.kind ≡ false) (once : AreOnce es) (fresh : Lacks new.serial es)
    (other : slice_get (functions (placed es)) j ≡ Some g) (there : is_among b (code_part g) ≡ true) (part : slice_get (functions (placed es)) k ≡ Some f) where
  abbrev q : Placed
  q = record { entry = new; section = section_before text b es }

  w : IsAround (placed es) f
  w = around (placed es) k f part

  once_whole : (s : ℕ) → IsOnce s ((w.front ++ f.before) ++ (f.body ++ w.back))
  once_whole s = subst (IsOnce s) w.whole (once s)

  once_body : (s : ℕ) → IsOnce s f.body
  once_body s = once_first s f.body w.back (once_second s (w.front ++ f.before) (f.body ++ w.back) (once_whole s))

  new_lacks : LacksPlaced new.serial f.body
  new_lacks =
      lacks_front new.serial f.body w.back
      (lacks_back new.serial (w.front ++ f.before) (f.body ++ w.back) (subst (LacksPlaced new.serial) w.whole (lacks_placed new.serial text es fresh)))

  abbrev Owned : Type 0
  Owned = is_among new.serial (code_part (part_with b q f)) ≡ stands_among (prev_placed None b (placed es)) (code_part f) && is_among b (code_part f)

  lacks_code : (s : ℕ) → LacksPlaced s f.body → is_among s (code_part f) ≡ false
  lacks_code s l = lacks_among s (code_part f) (lacks_kept s (λ p. bytes_eq p.section.name (section_of f).name) f.body l)

  outside : is_among b f.body ≡ false → Owned
  outside a =
      new_among b q quiet f new_lacks (not_head b f.body a)
      ∙ ap (λ t. bytes_eq q.section.name (section_of f).name && t) a
      ∙ and_false (bytes_eq q.section.name (section_of f).name)
      ∙ sym (ap (λ t. stands_among (prev_placed None b (placed es)) (code_part f) && t) (lacks_code b (among_lacks b f.body a)) ∙ and_false (stands_among (prev_placed None b (placed es)) (code_part f)))

  module _ (a : is_among b f.body ≡ true) where
    prev_body : prev_placed None b (placed es) ≡ prev_placed (last_placed None (w.front ++ f.before)) b f.body
    prev_body =
        ap (prev_placed None b) w.whole
        ∙ front_lacks None b (w.front ++ f.before) (f.body ++ w.back) (once_front b (w.front ++ f.before) (f.body ++ w.back) (once_whole b) (among_front b f.body w.back a))
        ∙ back_counts_not (last_placed None (w.front ++ f.before)) b f.body w.back a

    -- the one before the label is none of the body
    label_before : heads b f.body ≡ true → Owned
    label_before h =
        ap (λ t. is_among new.serial (code_in (cond t f.body (put_before b q f.body)))) h
        ∙ lacks_code new.serial new_lacks
        ∙ sym (ap (λ o. stands_among o (code_part f) && is_among b (code_part f)) (prev_body ∙ at_head (last_placed None (w.front ++ f.before)) b f.body h)
        ∙ ap (λ t. t && is_among b (code_part f)) (not_in (last_placed None (w.front ++ f.before)) refl))
      where
        not_in : (o : Option Placed) → last_placed None (w.front ++ f.before) ≡ o → stands_among o (code_part f) ≡ false
        not_in None e = refl
        not_in (Some r) e = elim (last_in None (w.front ++ f.before) r e) [
          | inl z ↦ absurd (cc)
          | inr z ↦ lacks_code r.entry.serial (lacks_front r.entry.serial f.body w.back (once_behind r.entry.serial (w.front ++ f.before) (f.body ++ w.back) (once_whole r.entry.serial) z))
        ]

    in_code : is_among b (code_part f) ≡ true
    in_code = elim (cases_eq j k) [
      | inl e ↦ let same : Some g ≡ Some f = sym other ∙ ap (slice_get (functions (placed es))) e ∙ part in let one : g ≡ f = cc in ap (λ r. is_among b (code_part r)) (sym one) ∙ there
      | inr n ↦ no (sym a ∙ lacks_among b f.body (in_one_body b (placed es) k j f g (once b) part other (λ e. n (sym e)) (among_kept b (λ p. bytes_eq p.section.name (section_of g).name) g.body there)))
    ]

    inside : heads b f.body ≡ false → Owned
    inside h =
        let before = prev_there None b f.body h a in
        let r = before.0 in
        let found : prev_placed None b (placed es) ≡ Some r = prev_body ∙ heads_not (last_placed None (w.front ++ f.before)) None b f.body h ∙ before.1 in
        let section : section_before text b es ≡ r.section = section_is_prev text b es ∙ prev_stands None text b (placed es) r found in
        new_among b q quiet f new_lacks h
        ∙ ap (λ t. bytes_eq q.section.name (section_of f).name && t) a
        ∙ ap (λ s. bytes_eq s.name (section_of f).name && true) section
        ∙ sym (ap (λ o. stands_among o (code_part f) && is_among b (code_part f)) found
        ∙ ap (λ t. is_among r.entry.serial (code_part f) && t) in_code
        ∙ ap (λ t. t && true) (code_by_section r.entry.serial f r (once_body r.entry.serial) (prev_found None b f.body r h a before.1 once_body)))

  -- the new entry stands in the code in which both that before it and that behind it stand
  pub new_owned : Owned
  new_owned = by_among (is_among b f.body) refl
    where
      by_head : (t : Bool) → heads b f.body ≡ t → is_among b f.body ≡ true → Owned
      by_head true h a = label_before a h
      by_head false h a = inside a h

      by_among : (t : Bool) → is_among b f.body ≡ t → Owned
      by_among true a = by_head (heads b f.body) refl a
      by_among false a = outside a

-- the serial of the entry before another

prev_serial : (last : Option Placed) (s : Section) (b : ℕ) (hs : List Held) → option_map (λ p. p.entry.serial) (prev_placed last b (placed_from s (entries_of hs))) ≡ prev_from (option_map (λ p. p.entry.serial) last) hs b
prev_serial last s b [] = refl
prev_serial last s b (h ∷ hs) =
    by_test (serial_is b h) (prev_serial (Some (record { entry = h.entry; section = section_after s h.entry.kind })) (section_after s h.entry.kind) b hs)
  where
    by_test : (t : Bool) → option_map (λ p. p.entry.serial) (prev_placed (Some (record { entry = h.entry; section = section_after s h.entry.kind })) b (placed_from (section_after s h.entry.kind) (entries_of hs))) ≡ prev_from (Some h.entry.serial) hs b
        → option_map (λ p. p.entry.serial) (cond t last (prev_placed (Some (record { entry = h.entry; section = section_after s h.entry.kind })) b (placed_from (section_after s h.entry.kind) (entries_of hs))))
        ≡ cond t (option_map (λ p. p.entry.serial) last) (prev_from (Some h.entry.serial) hs b)
    by_test true e = refl
    by_test false e = e

pub prev_is : (b : ℕ) (hs : List Held) → option_map (λ p. p.entry.serial) (prev_placed None b (placed (entries_of hs))) ≡ prev_of hs b
prev_is b hs = prev_serial None text b hs
