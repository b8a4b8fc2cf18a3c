-- The base power of a function where entries go, change or come.
use Rattle.std.proofs.Common.{◌≡◌, ⊎_elim, ℕ, zero, suc, Bool, true, false, cond, ◌||◌, nat_eq, List, [], ◌∷◌, ◌++◌, map, filter, Some, None, refl, sym, ap, ◌∙◌, arith, subst, append-nil}
use Rattle.std.specs.Prelude.{◌&&◌, max, slice_get, is_some, option_map}
use Rattle.std.specs.List.{AllByRecursion, list_any, list_all}
use Rattle.insn_ir.specs.declared.entry.DirectiveKind.{DirectiveKind}
use Rattle.insn_ir.specs.declared.entry.EntryKind.{EntryKind}
use Rattle.jump_tables.specs.Sections.{Placed}
use Rattle.asm_unit.specs.Functions.{Part, label_of, parts, functions, leads_kind, longest_lead, full_power, greatest, base_power}
use Rattle.asm_unit.specs.Tables.{is_among}
use Rattle.asm_unit.specs.Edits.{joined_parts, part_without, part_map, has_serial}
use Rattle.asm_unit.specs.Grown.{LacksPlaced, IsOnce, put_before, heads, part_with}
use Rattle.asm_unit.specs.CodeLines.{put_entry}
use Rattle.asm_unit.proofs.Whole.{whole}
use Rattle.asm_unit.proofs.OwnedLaws.{IsHeaded, AreHeaded, headed_label, bodyless, parts_headed}
use Rattle.asm_unit.proofs.LineLaws.{lacks_without, lacks_put}
use Rattle.asm_unit.proofs.OnceLaws.{all_get, all_kept, lacks_front, lacks_back, once_first, once_second, once_behind, among_behind, once_front, among_front}

no : {P : Type 0} → true ≡ false → P
no e = absurd (cc)

abbrev leads : Placed → Bool
leads p = leads_kind p.entry.kind

abbrev powers : List Placed → ℕ
powers ps = greatest (map (λ p. full_power p.entry.kind) ps)

-- one entry more at the end of what stands before

all_more : (xs : List Placed) (q : Placed) → list_all leads (xs ++ q ∷ []) ≡ list_all leads xs && leads q
all_more [] q = by_test (leads q)
  where
    by_test : (t : Bool) → (t && true) ≡ t
    by_test true = refl
    by_test false = refl
all_more (x ∷ xs) q = ap (λ t. leads x && t) (all_more xs q) ∙ by_test (leads x)
  where
    by_test : (t : Bool) → (t && (list_all leads xs && leads q)) ≡ ((t && list_all leads xs) && leads q)
    by_test true = refl
    by_test false = refl

lead_more : (xs : List Placed) (q : Placed) → leads q ≡ true → longest_lead (xs ++ q ∷ []) ≡ longest_lead xs ++ q ∷ []
lead_more [] q e = ap (λ t. cond (t && true) (q ∷ []) []) e
lead_more (x ∷ xs) q e =
    ap (λ t. cond (leads x && t) (x ∷ xs ++ q ∷ []) (longest_lead (xs ++ q ∷ []))) (all_more xs q ∙ ap (λ t. list_all leads xs && t) e ∙ and_true (list_all leads xs))
    ∙ by_test (leads x && list_all leads xs) (lead_more xs q e)
  where
    and_true : (t : Bool) → (t && true) ≡ t
    and_true true = refl
    and_true false = refl

    by_test : (t : Bool) → longest_lead (xs ++ q ∷ []) ≡ longest_lead xs ++ q ∷ [] → cond t (x ∷ xs ++ q ∷ []) (longest_lead (xs ++ q ∷ [])) ≡ cond t (x ∷ xs) (longest_lead xs) ++ q ∷ []
    by_test true r = refl
    by_test false r = r

lead_ended : (xs : List Placed) (q : Placed) → leads q ≡ false → longest_lead (xs ++ q ∷ []) ≡ []
lead_ended [] q e = ap (λ t. cond (t && true) (q ∷ []) []) e
lead_ended (x ∷ xs) q e =
    ap (λ t. cond (leads x && t) (x ∷ xs ++ q ∷ []) (longest_lead (xs ++ q ∷ []))) (all_more xs q ∙ ap (λ t. list_all leads xs && t) e ∙ and_false (list_all leads xs))
    ∙ ap (λ t. cond t (x ∷ xs ++ q ∷ []) (longest_lead (xs ++ q ∷ []))) (and_false (leads x)) ∙ lead_ended xs q e
  where
    and_false : (t : Bool) → (t && false) ≡ false
    and_false true = refl
    and_false false = refl

powers_more : (xs : List Placed) (q : Placed) → powers (xs ++ q ∷ []) ≡ max (powers xs) (full_power q.entry.kind)
powers_more [] q = omega arith
powers_more (x ∷ xs) q = ap (max (full_power x.entry.kind)) (powers_more xs q) ∙ omega arith

-- an entry comes

put_lacks : (b : ℕ) (q : Placed) (ps : List Placed) → LacksPlaced b ps → put_before b q ps ≡ ps
put_lacks b q [] l = refl
put_lacks b q (p ∷ ps) l = ap (λ t. cond t (q ∷ p ∷ ps) (p ∷ put_before b q ps)) l.0 ∙ ap (λ xs. p ∷ xs) (put_lacks b q ps l.1)

before_with : (b : ℕ) (q : Placed) (f : Part) → LacksPlaced b f.before → base_power (part_with b q f) ≡ cond (heads b f.body) (powers (longest_lead (f.before ++ q ∷ []))) (base_power f)
before_with b q f l = ap (λ xs. powers (longest_lead (xs ++ cond (heads b f.body) (q ∷ []) []))) (put_lacks b q f.before l) ∙ by_test (heads b f.body)
  where
    by_test : (t : Bool) → powers (longest_lead (f.before ++ cond t (q ∷ []) [])) ≡ cond t (powers (longest_lead (f.before ++ q ∷ []))) (base_power f)
    by_test true = refl
    by_test false = ap (λ xs. powers (longest_lead xs)) (append-nil f.before)

pub base_with_align : (b p : ℕ) (q : Placed) (f : Part) → q.entry.kind ≡ EntryKind.Directive (DirectiveKind.Align p None None) → LacksPlaced b f.before
    → base_power (part_with b q f) ≡ cond (heads b f.body) (max (base_power f) p) (base_power f)
base_with_align b p q f e l =
    before_with b q f l
    ∙ ap (λ n. cond (heads b f.body) n (base_power f)) (ap powers (lead_more f.before q (ap leads_kind e)) ∙ powers_more (longest_lead f.before) q ∙ ap (λ k. max (base_power f) (full_power k)) e)

pub base_with_other : (b : ℕ) (q : Placed) (f : Part) → leads_kind q.entry.kind ≡ false → LacksPlaced b f.before → base_power (part_with b q f) ≡ cond (heads b f.body) 0 (base_power f)
base_with_other b q f e l = before_with b q f l ∙ ap (λ n. cond (heads b f.body) n (base_power f)) (ap powers (lead_ended f.before q e))

-- an entry goes, or changes

pub base_without : (s : ℕ) (f : Part) → LacksPlaced s f.before → base_power (part_without (has_serial s) f) ≡ base_power f
base_without s f l = ap (λ xs. powers (longest_lead xs)) (lacks_without s f.before l)

pub base_put : (s : ℕ) (k : EntryKind) (f : Part) → LacksPlaced s f.before → base_power (part_map (put_entry s k) f) ≡ base_power f
base_put s k f l = ap (λ xs. powers (longest_lead xs)) (lacks_put s k f.before l)

-- what stands in a body stands before no function

module _ (b : ℕ) where
  abbrev LacksBefore : Part → Type 0
  LacksBefore q = LacksPlaced b q.before

  abbrev in_body : Part → Bool
  in_body q = is_among b q.body

  lack_befores : (qs : List Part) → LacksPlaced b (joined_parts qs) → AllByRecursion LacksBefore qs
  lack_befores [] l = tt
  lack_befores (q ∷ qs) l = (lacks_front b q.before q.body (lacks_front b (q.before ++ q.body) (joined_parts qs) l), lack_befores qs (lacks_back b (q.before ++ q.body) (joined_parts qs) l))

  joined_among : (qs : List Part) → list_any in_body qs ≡ true → is_among b (joined_parts qs) ≡ true
  joined_among [] e = no (sym e)
  joined_among (q ∷ qs) e = by_test (in_body q) refl e (joined_among qs)
    where
      by_test : (t : Bool) → in_body q ≡ t → t || list_any in_body qs ≡ true → (list_any in_body qs ≡ true → is_among b (joined_parts qs) ≡ true) → is_among b (joined_parts (q ∷ qs)) ≡ true
      by_test true g a rest = among_front b (q.before ++ q.body) (joined_parts qs) (among_behind b q.before q.body g)
      by_test false g a rest = among_behind b (q.before ++ q.body) (joined_parts qs) (rest a)

  befores_lack : (qs : List Part) → IsOnce b (joined_parts qs) → list_any in_body qs ≡ true → AllByRecursion LacksBefore qs
  befores_lack [] o e = tt
  befores_lack (q ∷ qs) o e = by_test (in_body q) refl e (befores_lack qs (once_second b (q.before ++ q.body) (joined_parts qs) o))
    where
      by_test : (t : Bool) → in_body q ≡ t → t || list_any in_body qs ≡ true → (list_any in_body qs ≡ true → AllByRecursion LacksBefore qs) → AllByRecursion LacksBefore (q ∷ qs)
      by_test true g a rest = (
        once_front b q.before q.body (once_first b (q.before ++ q.body) (joined_parts qs) o) g,
        lack_befores qs (once_behind b (q.before ++ q.body) (joined_parts qs) o (among_behind b q.before q.body g)),
      )
      by_test false g a rest = (lacks_front b q.before q.body (once_front b (q.before ++ q.body) (joined_parts qs) o (joined_among qs a)), rest a)

  any_get : (test : Part → Bool) (qs : List Part) (j : ℕ) (g : Part) → slice_get (filter test qs) j ≡ Some g → in_body g ≡ true → list_any in_body qs ≡ true
  any_get test [] j g e a = absurd (cc)
  any_get test (q ∷ qs) j g e a = by_test (test q) e (λ n w. any_get test qs n g w a)
    where
      or_true : (t : Bool) → (t || true) ≡ true
      or_true true = refl
      or_true false = refl

      by_place : (n : ℕ) → slice_get (q ∷ filter test qs) n ≡ Some g → ((m : ℕ) → slice_get (filter test qs) m ≡ Some g → list_any in_body qs ≡ true) → (in_body q || list_any in_body qs) ≡ true
      by_place zero w rest = let same : q ≡ g = cc in ap (λ t. t || list_any in_body qs) (ap in_body same ∙ a)
      by_place (suc n) w rest = ap (λ t. in_body q || t) (rest n w) ∙ or_true (in_body q)

      by_test : (t : Bool) → slice_get (cond t (q ∷ filter test qs) (filter test qs)) j ≡ Some g → ((m : ℕ) → slice_get (filter test qs) m ≡ Some g → list_any in_body qs ≡ true) → (in_body q || list_any in_body qs) ≡ true
      by_test true w rest = by_place j w rest
      by_test false w rest = ap (λ t. in_body q || t) (rest j w) ∙ or_true (in_body q)

  pub none_before : (ps : List Placed) (j k : ℕ) (g f : Part) → IsOnce b ps → slice_get (functions ps) j ≡ Some g → is_among b g.body ≡ true → slice_get (functions ps) k ≡ Some f → LacksPlaced b f.before
  none_before ps j k g f o there among part =
      all_get LacksBefore (functions ps) k f
      (all_kept LacksBefore (λ q. is_some (label_of q)) (parts ps)
      (befores_lack (parts ps) (subst (IsOnce b) (sym (whole ps)) o) (any_get (λ q. is_some (label_of q)) (parts ps) j g there among))) part

-- the first of a body is the function's label

labelled_headed : (qs : List Part) → AreHeaded qs → AllByRecursion (λ q. is_some (label_of q) ≡ true → IsHeaded q) qs
labelled_headed [] h = tt
labelled_headed (q ∷ []) h = (λ e. ⊎_elim (λ w. no (sym e ∙ bodyless q w)) (λ w. w) h, tt)
labelled_headed (q ∷ r ∷ qs) h = (λ e. h.0, labelled_headed (r ∷ qs) h.1)

passes : {A : Type 0} (test : A → Bool) (xs : List A) → AllByRecursion (λ x. test x ≡ true) (filter test xs)
passes test [] = tt
passes test (x ∷ xs) = by_test (test x) refl (passes test xs)
  where
    by_test : (t : Bool) → test x ≡ t → AllByRecursion (λ y. test y ≡ true) (filter test xs) → AllByRecursion (λ y. test y ≡ true) (cond t (x ∷ filter test xs) (filter test xs))
    by_test true g rest = (g, rest)
    by_test false g rest = rest

pub heads_label : (b n : ℕ) (ps : List Placed) (k : ℕ) (f : Part) → slice_get (functions ps) k ≡ Some f → option_map (λ p. p.entry.serial) (label_of f) ≡ Some n → heads b f.body ≡ nat_eq n b
heads_label b n ps k f part label =
    let w : IsHeaded f = all_get (λ q. is_some (label_of q) ≡ true → IsHeaded q) (functions ps) k f
    (all_kept (λ q. is_some (label_of q) ≡ true → IsHeaded q) (λ q. is_some (label_of q)) (parts ps) (labelled_headed (parts ps) ((parts_headed ps).outside []))) part
    (all_get (λ q. is_some (label_of q) ≡ true) (functions ps) k f (passes (λ q. is_some (label_of q)) (parts ps)) part) in
    let same : Some w.head.entry.serial ≡ Some n = ap (option_map (λ p. p.entry.serial)) (sym (headed_label f w)) ∙ label in
    let one : w.head.entry.serial ≡ n = cc in
    ap (heads b) w.body ∙ ap (λ m. nat_eq m b) one
