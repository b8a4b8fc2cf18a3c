-- Where a function stands in its file, and what that tells of the entry before another and of the end of a code.
use Rattle.std.proofs.Common.{◌≡◌, ℕ, zero, suc, Bool, true, false, cond, ◌||◌, List, [], ◌∷◌, ◌++◌, filter, Option, Some, refl, sym, ap, ◌∙◌, subst, append_assoc}
use Rattle.std.specs.Prelude.{slice_get, is_some, find, bytes_eq}
use Rattle.std.proofs.lemmas.Bool.{eq-eqb}
use Rattle.jump_tables.specs.Sections.{Placed}
use Rattle.asm_unit.specs.Functions.{Part, label_of, section_of, code_part, parts, functions}
use Rattle.asm_unit.specs.Tables.{is_among}
use Rattle.asm_unit.specs.Edits.{has_serial, joined_parts}
use Rattle.asm_unit.specs.Grown.{LacksPlaced, IsOnce, prev_placed, heads}
use Rattle.asm_unit.proofs.Whole.{whole}
use Rattle.asm_unit.proofs.OnceLaws.{lacks_among, lacks_kept}

no : {P : Type 0} → true ≡ false → P
no e = absurd (cc)

-- what stands before a part and behind it
pub record IsAround (ps : List Placed) (f : Part) : Type 0 where
  pub front : List Placed
  pub back : List Placed
  pub whole : ps ≡ (front ++ f.before) ++ (f.body ++ back)

around_part : (qs : List Part) (test : Part → Bool) (k : ℕ) (f : Part) → slice_get (filter test qs) k ≡ Some f → IsAround (joined_parts qs) f
around_part [] test k f e = absurd (cc)
around_part (q ∷ qs) test k f e = by_test (test q) e (λ n g. around_part qs test n f g)
  where
    joined : (q.before ++ q.body) ++ joined_parts qs ≡ ([] ++ q.before) ++ (q.body ++ joined_parts qs)
    joined = append_assoc q.before q.body (joined_parts qs)

    first : q ≡ f → IsAround (joined_parts (q ∷ qs)) f
    first same = record { front = []; back = joined_parts qs; whole = joined ∙ ap (λ r. r.before ++ (r.body ++ joined_parts qs)) same }

    later : IsAround (joined_parts qs) f → IsAround (joined_parts (q ∷ qs)) f
    later w = record {
      front = (q.before ++ q.body) ++ w.front;
      back = w.back;
      whole = ap (λ xs. (q.before ++ q.body) ++ xs) w.whole
          ∙ sym (append_assoc (q.before ++ q.body) (w.front ++ f.before) (f.body ++ w.back))
          ∙ ap (λ xs. xs ++ (f.body ++ w.back)) (sym (append_assoc (q.before ++ q.body) w.front f.before));
    }

    by_place : (n : ℕ) → slice_get (q ∷ filter test qs) n ≡ Some f → ((m : ℕ) → slice_get (filter test qs) m ≡ Some f → IsAround (joined_parts qs) f) → IsAround (joined_parts (q ∷ qs)) f
    by_place zero g rest = let same : q ≡ f = cc in first same
    by_place (suc n) g rest = later (rest n g)

    by_test : (b : Bool) → slice_get (cond b (q ∷ filter test qs) (filter test qs)) k ≡ Some f → ((m : ℕ) → slice_get (filter test qs) m ≡ Some f → IsAround (joined_parts qs) f) → IsAround (joined_parts (q ∷ qs)) f
    by_test true g rest = by_place k g rest
    by_test false g rest = later (rest k g)

pub around : (ps : List Placed) (k : ℕ) (f : Part) → slice_get (functions ps) k ≡ Some f → IsAround ps f
around ps k f e = subst (λ xs. IsAround xs f) (whole ps) (around_part (parts ps) (λ q. is_some (label_of q)) k f e)

-- an entry that stands once in a body is in the code where its section is the code's

in_section : (n : List ℕ) (s : ℕ) (ps : List Placed) (p : Placed) → IsOnce s ps → find (λ x. has_serial s x.entry) ps ≡ Some p → is_among s (filter (λ x. bytes_eq x.section.name n) ps) ≡ bytes_eq p.section.name n
in_section n s [] p o e = absurd (cc)
in_section n s (x ∷ ps) p o e = by_test (has_serial s x.entry) refl e (in_section n s ps p o.1)
  where
    here : x ≡ p → has_serial s x.entry ≡ true → (b : Bool) → is_among s (cond b (x ∷ filter (λ y. bytes_eq y.section.name n) ps) (filter (λ y. bytes_eq y.section.name n) ps)) ≡ b
    here same g true = ap (λ c. c || is_among s (filter (λ y. bytes_eq y.section.name n) ps)) g
    here same g false = lacks_among s (filter (λ y. bytes_eq y.section.name n) ps) (lacks_kept s (λ y. bytes_eq y.section.name n) ps (o.0 g))

    later : has_serial s x.entry ≡ false → (b : Bool) → is_among s (cond b (x ∷ filter (λ y. bytes_eq y.section.name n) ps) (filter (λ y. bytes_eq y.section.name n) ps)) ≡ is_among s (filter (λ y. bytes_eq y.section.name n) ps)
    later g true = ap (λ c. c || is_among s (filter (λ y. bytes_eq y.section.name n) ps)) g
    later g false = refl

    by_test : (t : Bool) → has_serial s x.entry ≡ t → cond t (Some x) (find (λ y. has_serial s y.entry) ps) ≡ Some p
        → (find (λ y. has_serial s y.entry) ps ≡ Some p → is_among s (filter (λ y. bytes_eq y.section.name n) ps) ≡ bytes_eq p.section.name n)
        → is_among s (filter (λ y. bytes_eq y.section.name n) (x ∷ ps)) ≡ bytes_eq p.section.name n
    by_test true g q rest = let same : x ≡ p = cc in here same g (bytes_eq x.section.name n) ∙ ap (λ y. bytes_eq y.section.name n) same
    by_test false g q rest = later g (bytes_eq x.section.name n) ∙ rest q

pub code_by_section : (s : ℕ) (f : Part) (p : Placed) → IsOnce s f.body → find (λ x. has_serial s x.entry) f.body ≡ Some p → is_among s (code_part f) ≡ bytes_eq p.section.name (section_of f).name
code_by_section s f p o e = in_section (section_of f).name s f.body p o e

-- the entry before another in a list: the first with its serial, where that is there once
pub prev_found : (last : Option Placed) (b : ℕ) (ps : List Placed) (r : Placed) → heads b ps ≡ false → is_among b ps ≡ true → prev_placed last b ps ≡ Some r → ((s : ℕ) → IsOnce s ps) → find (λ x. has_serial r.entry.serial x.entry) ps ≡ Some r
prev_found last b [] r h a e once = no (sym a)
prev_found last b (p ∷ ps) r h a e once = by_rest (λ z. prev_found (Some p) b ps r z among behind (λ s. (once s).1)) ps refl
  where
    behind : prev_placed (Some p) b ps ≡ Some r
    behind = sym (ap (λ t. cond t last (prev_placed (Some p) b ps)) h) ∙ e

    among : is_among b ps ≡ true
    among = sym (ap (λ t. t || is_among b ps) h) ∙ a

    itself : (x : Placed) → has_serial x.entry.serial x.entry ≡ true
    itself x = eq-eqb x.entry.serial x.entry.serial refl

    by_rest : (heads b ps ≡ false → find (λ x. has_serial r.entry.serial x.entry) ps ≡ Some r) → (qs : List Placed) → qs ≡ ps → find (λ x. has_serial r.entry.serial x.entry) (p ∷ ps) ≡ Some r
    by_rest rest [] q = no (sym (ap (is_among b) q ∙ among))
    by_rest rest (x ∷ qs) q = by_head (has_serial b x.entry) refl
      where
        at_head : has_serial b x.entry ≡ true → p ≡ r
        at_head g = let w : Some p ≡ Some r = sym (ap (λ t. cond t (Some p) (prev_placed (Some x) b qs)) g) ∙ ap (λ xs. prev_placed (Some p) b xs) q ∙ behind in let same : p ≡ r = cc in same

        further : has_serial b x.entry ≡ false → find (λ y. has_serial r.entry.serial y.entry) ps ≡ Some r
        further g = rest (ap (heads b) (sym q) ∙ g)

        by_head : (t : Bool) → has_serial b x.entry ≡ t → find (λ y. has_serial r.entry.serial y.entry) (p ∷ ps) ≡ Some r
        by_head true g =
            let same = at_head g in
            ap (λ y. find (λ z. has_serial y.entry.serial z.entry) (p ∷ ps)) (sym same) ∙ ap (λ t. cond t (Some p) (find (λ z. has_serial p.entry.serial z.entry) ps)) (itself p) ∙ ap Some same
        by_head false g = by_first (has_serial r.entry.serial p.entry) refl
          where
            by_first : (t : Bool) → has_serial r.entry.serial p.entry ≡ t → cond t (Some p) (find (λ y. has_serial r.entry.serial y.entry) ps) ≡ Some r
            by_first true w = absurd (lacking ps ((once r.entry.serial).0 w) (further g))
              where
                lacking : (xs : List Placed) → LacksPlaced r.entry.serial xs → find (λ y. has_serial r.entry.serial y.entry) xs ≡ Some r → ⊥
                lacking [] l z = absurd (cc)
                lacking (y ∷ xs) l z = lacking xs l.1 (sym (ap (λ t. cond t (Some y) (find (λ v. has_serial r.entry.serial v.entry) xs)) l.0) ∙ z)
            by_first false w = further g
