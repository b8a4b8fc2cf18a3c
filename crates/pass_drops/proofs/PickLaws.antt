-- The places that NOPIN picks are those that its draws choose.
use Rattle.std.proofs.Common.{◌≡◌, ℕ, suc, ◌≤◌, ◌%◌, Bool, true, false, cond, ◌||◌, List, [], ◌∷◌, filter, length, Option, Some, None, refl, sym, ap, ◌∙◌, subst, arith}
use Rattle.std.specs.Prelude.{nat_eq, nat_lt, not, ◌&&◌, slice_get, unwrap_or, find}
use Rattle.std.specs.List.{AllByRecursion}
use Rattle.std.proofs.lemmas.Bool.{eq-eqb, eqb-true, or_parts}
use Rattle.std.proofs.lemmas.Option.{get_or_from_slice_get, unwrap_or-slice_get}
use Rattle.rand_pcg.specs.Lcg.{Lcg}
use Rattle.rand_pcg.specs.Pcg.{pcg32}
use Rattle.insn_ir.specs.declared.entry.EntryKind.{EntryKind}
use Rattle.insn_ir.specs.declared.op.Op.{Op}
use Rattle.insn_ir.specs.Edits.{is_nop_op}
use Rattle.insn_ir.specs.Entries.{is_nop_entry}
use Rattle.jump_tables.specs.Sections.{Section, Placed, placed, placed_from, section_after, text}
use Rattle.asm_unit.specs.declared.held.Held.{Held}
use Rattle.asm_unit.specs.Functions.{Part, nothing, parts, code_part, is_align_kind}
use Rattle.asm_unit.specs.Held.{AreUnique, serial_is, held_entry, entry_of, entries_of}
use Rattle.asm_unit.specs.Layout.{owners_from}
use Rattle.asm_unit.specs.Owned.{owned}
use Rattle.asm_unit.specs.Tables.{is_among}
use Rattle.asm_unit.specs.Unit.{Unit, functions_of}
use Rattle.asm_unit.proofs.OwnedLaws.{functions_own}
use Rattle.asm_unit.proofs.StandLaws.{among_placed}
use Rattle.pass_script.specs.declared.kinds.PassKind.{PassKind}
use Rattle.pass_script.specs.declared.options.PassOpts.{PassOpts}
use Rattle.unit_edits.specs.declared.journal.Part.{Part as JournalPart}
use Rattle.unit_edits.specs.Bodies.{body_of, weighs, weight, IsClearAt}
use Rattle.unit_edits.specs.Proper.{IsOfCode}
use Rattle.pass_rules.specs.Draws.{is_drawn, is_drawn_op, chosen, words_of, nops_before}
use Rattle.pass_base.specs.Runs.{Ran}
use Rattle.pass_drops.specs.walks.Dropping.{has_number}
use Rattle.pass_drops.specs.walks.Inserting.{is_picked, words_after, picked, CanInsert, Inserts}
use Rattle.pass_drops.proofs.InsertLaws.{nops_many}
use Rattle.pass_drops.proofs.Serials.{each_of, serials_among}
use Rattle.pass_drops.proofs.Walked.{placed_serials}

no : {P : Type 0} → true ≡ false → P
no e = absurd (cc)

-- ---- the entry of a serial of the code is the one that stands there

abbrev IsTold : List Held → Placed → Type 0
IsTold hs p = entry_of hs p.entry.serial ≡ Some p.entry

-- before them comes another entry
told_behind : (h : Held) (hs : List Held) (ps : List Placed) → is_among h.entry.serial ps ≡ false → AllByRecursion (IsTold hs) ps → AllByRecursion (IsTold (h ∷ hs)) ps
told_behind h hs [] e a = tt
told_behind h hs (p ∷ ps) e a =
    let w = or_parts (nat_eq p.entry.serial h.entry.serial) (is_among h.entry.serial ps) e in
    let apart : serial_is p.entry.serial h ≡ false = other (serial_is p.entry.serial h) refl w.0 in
    (ap (λ b. held_entry (cond b (Some h) (find (serial_is p.entry.serial) hs))) apart ∙ a.0, told_behind h hs ps w.1 a.1)
  where
    other : (b : Bool) → serial_is p.entry.serial h ≡ b → nat_eq p.entry.serial h.entry.serial ≡ false → b ≡ false
    other true g n = no (sym (eq-eqb p.entry.serial h.entry.serial (sym (eqb-true h.entry.serial p.entry.serial g))) ∙ n)
    other false g n = refl

told_placed : (t : Section) (hs : List Held) → AreUnique hs → AllByRecursion (IsTold hs) (placed_from t (entries_of hs))
told_placed t [] u = tt
told_placed t (h ∷ hs) u =
    let s = section_after t h.entry.kind in (
      ap (λ b. held_entry (cond b (Some h) (find (serial_is h.entry.serial) hs))) (eq-eqb h.entry.serial h.entry.serial refl),
      told_behind h hs (placed_from s (entries_of hs)) (among_placed h.entry.serial s hs ∙ u.0) (told_placed s hs u.1),
    )

all_owned : (T : Placed → Type 0) (k : ℕ) (os : List ℕ) (ps : List Placed) → AllByRecursion T ps → AllByRecursion T (owned k os ps)
all_owned T k [] ps a = tt
all_owned T k (o ∷ os) [] a = tt
all_owned T k (o ∷ os) (p ∷ ps) a = by_test (nat_eq o k) (all_owned T k os ps a.1)
  where
    by_test : (b : Bool) → AllByRecursion T (owned k os ps) → AllByRecursion T (cond b (p ∷ owned k os ps) (owned k os ps))
    by_test true r = (a.0, r)
    by_test false r = r

code_told : (u : Unit) (f : ℕ) → AreUnique u.held → AllByRecursion (IsTold u.held) (code_part (body_of u f))
code_told u f unique = by_place (slice_get (functions_of u) f) refl
  where
    by_place : (o : Option Part) → slice_get (functions_of u) f ≡ o → AllByRecursion (IsTold u.held) (code_part (body_of u f))
    by_place None e = subst (λ q. AllByRecursion (IsTold u.held) (code_part q)) (sym (ap (λ o. unwrap_or o nothing) e) ∙ unwrap_or-slice_get (functions_of u) f nothing) tt
    by_place (Some q) e =
        let ps = placed (entries_of u.held) in
        subst (λ r. AllByRecursion (IsTold u.held) (code_part r)) (sym (get_or_from_slice_get (functions_of u) f q nothing e))
        (subst (AllByRecursion (IsTold u.held)) (functions_own ps f q e) (all_owned (IsTold u.held) (suc f) (owners_from 0 (parts ps)) ps (told_placed text u.held unique)))

-- ---- what is picked

picked_chosen : (density : ℕ) (hs : List Held) (ps : List Placed) (words : Lcg) → AllByRecursion (IsTold hs) ps → picked density hs words (placed_serials ps) ≡ chosen density words ps
unfolding chosen
picked_chosen density hs [] words a = refl
picked_chosen density hs (p ∷ ps) words a =
    ap (λ o. cond (is_picked density words o) (p.entry.serial ∷ picked density hs (words_after words o) (placed_serials ps)) (picked density hs (words_after words o) (placed_serials ps))) a.0
    ∙ by_tests (is_drawn p.entry.kind) (nat_lt ((pcg32 words).0 % 100) density) (picked_chosen density hs ps words a.1) (picked_chosen density hs ps (pcg32 words).1 a.1)
  where
    by_tests : (b c : Bool) → picked density hs words (placed_serials ps) ≡ chosen density words ps → picked density hs (pcg32 words).1 (placed_serials ps) ≡ chosen density (pcg32 words).1 ps
        → cond (b && c) (p.entry.serial ∷ picked density hs (cond b (pcg32 words).1 words) (placed_serials ps)) (picked density hs (cond b (pcg32 words).1 words) (placed_serials ps))
        ≡ cond b (cond c (p.entry.serial ∷ chosen density (pcg32 words).1 ps) (chosen density (pcg32 words).1 ps)) (chosen density words ps)
    by_tests true true x y = ap (λ xs. p.entry.serial ∷ xs) y
    by_tests true false x y = y
    by_tests false c x y = x

picked_there : (density : ℕ) (hs : List Held) (s : ℕ) (ss : List ℕ) (words : Lcg) → has_number s (picked density hs words ss) ≡ true → has_number s ss ≡ true
picked_there density hs s [] words e = e
picked_there density hs s (x ∷ ss) words e = by_test (is_picked density words (entry_of hs x)) (nat_eq x s) refl e (picked_there density hs s ss (words_after words (entry_of hs x)))
  where
    rest : List ℕ
    rest = picked density hs (words_after words (entry_of hs x)) ss

    by_test : (b c : Bool) → nat_eq x s ≡ c → has_number s (cond b (x ∷ rest) rest) ≡ true → (has_number s rest ≡ true → has_number s ss ≡ true) → c || has_number s ss ≡ true
    by_test b true g q later = refl
    by_test true false g q later = later (sym (ap (λ c. c || has_number s rest) g) ∙ q)
    by_test false false g q later = later q

-- ---- and they are no more than what weighs

drawn_weighs : (p : Placed) → is_drawn p.entry.kind ≡ true → weighs p ≡ true
drawn_weighs p e = by_kind p.entry.kind e
  where
    by_op : (o : Op) → is_drawn_op o ≡ true → not (is_nop_op o || false) ≡ true
    by_op Op.Nop q = q
    by_op _ q = refl

    by_kind : (k : EntryKind) → is_drawn k ≡ true → not (is_nop_entry k || is_align_kind k) ≡ true
    by_kind (EntryKind.Insn i) q = by_op i.op q
    by_kind _ q = no (sym q)

few_chosen : (density : ℕ) (ps : List Placed) (words : Lcg) → length (chosen density words ps) ≤ length (filter weighs ps)
unfolding chosen
few_chosen density [] words = omega arith
few_chosen density (p ∷ ps) words =
    by_tests (is_drawn p.entry.kind) (weighs p) (nat_lt ((pcg32 words).0 % 100) density) (drawn_weighs p) (few_chosen density ps words) (few_chosen density ps (pcg32 words).1)
  where
    by_tests : (b w c : Bool) → (b ≡ true → w ≡ true) → length (chosen density words ps) ≤ length (filter weighs ps) → length (chosen density (pcg32 words).1 ps) ≤ length (filter weighs ps)
        → length (cond b (cond c (p.entry.serial ∷ chosen density (pcg32 words).1 ps) (chosen density (pcg32 words).1 ps)) (chosen density words ps)) ≤ length (cond w (p ∷ filter weighs ps) (filter weighs ps))
    by_tests true true true h x y = omega (arith, y)
    by_tests true true false h x y = omega (arith, y)
    by_tests true false c h x y = no (sym (h refl))
    by_tests false true c h x y = omega (arith, x)
    by_tests false false c h x y = x

-- ---- the whole

module _ (o : PassOpts) (f : ℕ) (u : Unit) (clear : IsClearAt u f) (unique : AreUnique u.held) where
  abbrev pub places : List ℕ
  places = picked o.density u.held (words_of o.seed) (placed_serials (code_part (body_of u f)))

  are_chosen : places ≡ chosen o.density (words_of o.seed) (code_part (body_of u f))
  are_chosen = picked_chosen o.density u.held (code_part (body_of u f)) (words_of o.seed) (code_told u f unique)

  pub places_can : CanInsert f u places
  places_can = record {
    clear = clear;
    all = each_of (IsOfCode u f) places places
        (λ s e. sym (serials_among s (code_part (body_of u f))) ∙ picked_there o.density u.held s (placed_serials (code_part (body_of u f))) (words_of o.seed) e) (λ s e. e);
  }

  pub places_few : length places ≤ weight u f
  places_few = omega (arith, ap length are_chosen, few_chosen o.density (code_part (body_of u f)) (words_of o.seed))

  pub insert_ran : (v : Unit) (j k : List JournalPart) (n : ℕ) → Inserts f u j places v k → n ≡ length places → Ran PassKind.NopIn o f u v j k n
  insert_ran v j k n h counted = record {
    leads = record {
      edits = nops_before u.last places;
      journal = h.journal;
      counted = counted ∙ sym (nops_many u.last places);
      replayed = h.replayed;
      within = h.within;
      same = h.same;
    };
    rule = ap (nops_before u.last) are_chosen;
  }
