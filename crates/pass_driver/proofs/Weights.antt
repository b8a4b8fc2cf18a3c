-- A function weighs no more than the entries of its unit are many.
use Rattle.std.proofs.Common.{◌≡◌, ◌≤◌, ◌<◌, ◌+◌, ◌*◌, ◌^◌, ℕ, suc, zero, List, [], ◌∷◌, ◌++◌, length, refl, ap, ◌∙◌, cond, true, false, arith, map, slice_index_or}
use Rattle.std.specs.Prelude.{Bool, filter}
use Rattle.insn_ir.specs.declared.entry.Entry.{Entry}
use Rattle.jump_tables.specs.Sections.{Section, placed, placed_from, section_after, text}
use Rattle.asm_unit.specs.Edits.{joined_parts}
use Rattle.asm_unit.specs.Functions.{Part, nothing, parts, code_part}
use Rattle.asm_unit.specs.Held.{entries_of}
use Rattle.asm_unit.specs.Unit.{Unit}
use Rattle.asm_unit.proofs.Whole.{whole}
use Rattle.unit_edits.specs.Bodies.{body_of, weighs, weight}

few_left : {A : Type 0} (p : A → Bool) (xs : List A) → length (filter p xs) ≤ length xs
few_left p [] = omega arith
few_left p (x ∷ xs) =
    let i : length (filter p xs) ≤ length xs = few_left p xs in
    elim (p x) as (λ b. length (cond b (x ∷ filter p xs) (filter p xs)) ≤ suc (length xs)) [ true ↦ omega arith | false ↦ omega arith ]

as_many : {A B : Type 0} (f : A → B) (xs : List A) → length (map f xs) ≡ length xs
as_many f [] = refl
as_many f (x ∷ xs) = ap suc (as_many f xs)

length_placed : (s : Section) (es : List Entry) → length (placed_from s es) ≡ length es
length_placed s [] = refl
length_placed s (e ∷ es) = ap suc (length_placed (section_after s e.kind) es)

length_append : {A : Type 0} (xs ys : List A) → length (xs ++ ys) ≡ length xs + length ys
length_append [] ys = omega arith
length_append (x ∷ xs) ys = let i : length (xs ++ ys) ≡ length xs + length ys = length_append xs ys in omega (arith, i)

-- a body among those that pass a test
body_few : (test : Part → Bool) (qs : List Part) (k : ℕ) → length (slice_index_or (filter test qs) k nothing).body ≤ length (joined_parts qs)
body_few test [] k = omega arith
body_few test (q ∷ qs) k = by_test (test q) k (body_few test qs)
  where
    sum : length (q.before ++ q.body ++ joined_parts qs) ≡ length q.before + length q.body + length (joined_parts qs)
    sum = length_append (q.before ++ q.body) (joined_parts qs) ∙ ap (λ n. n + length (joined_parts qs)) (length_append q.before q.body)

    later : (n : ℕ) → n ≤ length (joined_parts qs) → n ≤ length (joined_parts (q ∷ qs))
    later n i = omega (arith, i, sum)

    by_place : (m : ℕ) → ((m : ℕ) → length (slice_index_or (filter test qs) m nothing).body ≤ length (joined_parts qs))
        → length (slice_index_or (q ∷ filter test qs) m nothing).body ≤ length (joined_parts (q ∷ qs))
    by_place zero rest = omega (arith, sum)
    by_place (suc m) rest = later _ (rest m)

    by_test : (b : Bool) (m : ℕ) → ((m : ℕ) → length (slice_index_or (filter test qs) m nothing).body ≤ length (joined_parts qs))
        → length (slice_index_or (cond b (q ∷ filter test qs) (filter test qs)) m nothing).body ≤ length (joined_parts (q ∷ qs))
    by_test true m rest = by_place m rest
    by_test false m rest = later _ (rest m)

pub weight_few : (u : Unit) (f : ℕ) → weight u f ≤ length u.held
weight_few u f =
    let code : weight u f ≤ length (code_part (body_of u f)) = few_left weighs (code_part (body_of u f)) in
    let body : length (code_part (body_of u f)) ≤ length (body_of u f).body = few_left _ (body_of u f).body in
    let all : length (body_of u f).body ≤ length (joined_parts (parts (placed (entries_of u.held)))) = body_few _ (parts (placed (entries_of u.held))) f in
    let same : length (joined_parts (parts (placed (entries_of u.held)))) ≡ length u.held =
    ap length (whole (placed (entries_of u.held))) ∙ length_placed text (entries_of u.held) ∙ as_many _ u.held in
    omega (arith, code, body, all, same)

-- the serials that a pass may give to a function are there, where those for all entries are
pub serials_left : (u : Unit) (f : ℕ) → u.last + 31 * length u.held < 2 ^ 32 → u.last + 31 * weight u f < 2 ^ 32
serials_left u f free =
    let w : weight u f ≤ length u.held = weight_few u f in
    omega (arith, w, free)
