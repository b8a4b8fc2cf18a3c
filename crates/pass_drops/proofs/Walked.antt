-- A walk over the code of a function from its label on.
use Rattle.std.proofs.Common.{◌≡◌, ⊎_elim, ℕ, suc, ◌≤◌, Bool, true, false, cond, ◌||◌, nat_eq, List, [], ◌∷◌, ◌++◌, map, filter, length, Option, Some, None, refl, sym, ap, ◌∙◌, subst, option_map, append_assoc, length-append, arith}
use Rattle.std.specs.Prelude.{slice_get, find, bytes_eq, is_some}
use Rattle.std.specs.List.{AllByRecursion}
use Rattle.std.proofs.Math.Bool.{or-true}
use Rattle.std.proofs.lemmas.Slice.Eq.{bytes_eq-Decides}
use Rattle.std.proofs.lemmas.Option.{slice_get_within, get_or_from_slice_get}
use Rattle.std.proofs.lemmas.Bool.{eq-eqb, ne_eqb, or_parts}
use Rattle.jump_tables.specs.Sections.{Section, Placed, placed, placed_from, section_after, text}
use Rattle.asm_unit.specs.declared.held.Held.{Held}
use Rattle.asm_unit.specs.Functions.{Part, nothing, parts, functions, label_of, section_at, section_of, code_part}
use Rattle.asm_unit.specs.Held.{AreUnique, entries_of, serial_is, holds_serial, behind}
use Rattle.asm_unit.specs.Layout.{owners_from}
use Rattle.asm_unit.specs.Owned.{owned}
use Rattle.asm_unit.specs.OwnerWalk.{next_where}
use Rattle.asm_unit.specs.Tables.{is_among}
use Rattle.asm_unit.specs.Unit.{Unit, functions_of, next_among}
use Rattle.asm_unit.proofs.OwnedLaws.{IsHeaded, AreHeaded, parts_headed, headed_label, bodyless, functions_own}
use Rattle.asm_unit.proofs.StandLaws.{among_placed}
use Rattle.asm_unit.proofs.UnitLaws.{all_at}
use Rattle.unit_edits.specs.Bodies.{body_of}

no : {P : Type 0} → true ≡ false → P
no e = absurd (cc)

abbrev pub serials_of : List Held → List ℕ
serials_of hs = map (λ h. h.entry.serial) hs

abbrev pub placed_serials : List Placed → List ℕ
placed_serials ps = map (λ p. p.entry.serial) ps

abbrev pub first_number : List ℕ → Option ℕ
first_number [] = None
first_number (x ∷ xs) = Some x

-- a test that tells other serials alike picks alike
same_picks : (s : ℕ) (more less : ℕ → Bool) (hs : List Held) → holds_serial s hs ≡ false → ((t : ℕ) → nat_eq s t ≡ false → more t ≡ less t)
    → filter more (serials_of hs) ≡ filter less (serials_of hs)
same_picks s more less [] h e = refl
same_picks s more less (x ∷ hs) h e =
    let w = or_parts (serial_is s x) (holds_serial s hs) h in
    let apart : nat_eq s x.entry.serial ≡ false = ne_eqb s x.entry.serial (λ q. no (sym (eq-eqb x.entry.serial s (sym q)) ∙ w.0)) in
    ap (λ b. cond b (x.entry.serial ∷ filter more (serials_of hs)) (filter more (serials_of hs))) (e x.entry.serial apart)
    ∙ by_test (less x.entry.serial) (same_picks s more less hs w.1 e)
  where
    by_test : (b : Bool) → filter more (serials_of hs) ≡ filter less (serials_of hs)
        → cond b (x.entry.serial ∷ filter more (serials_of hs)) (filter more (serials_of hs)) ≡ cond b (x.entry.serial ∷ filter less (serials_of hs)) (filter less (serials_of hs))
    by_test true q = ap (λ xs. x.entry.serial ∷ xs) q
    by_test false q = q

-- what is owned is there
owned_there : (k s : ℕ) (os : List ℕ) (ps : List Placed) → is_among s (owned k os ps) ≡ true → is_among s ps ≡ true
owned_there k s [] ps e = no (sym e)
owned_there k s (o ∷ os) [] e = no (sym e)
owned_there k s (o ∷ os) (p ∷ ps) e = by_test (nat_eq o k) (nat_eq p.entry.serial s) refl e (owned_there k s os ps)
  where
    by_test : (b c : Bool) → nat_eq p.entry.serial s ≡ c → is_among s (cond b (p ∷ owned k os ps) (owned k os ps)) ≡ true → (is_among s (owned k os ps) ≡ true → is_among s ps ≡ true) → c || is_among s ps ≡ true
    by_test b true g a rest = refl
    by_test true false g a rest = rest (sym (ap (λ c. c || is_among s (owned k os ps)) g) ∙ a)
    by_test false false g a rest = rest a

-- the serials of what is owned are those of the file that are among them
owned_picks : (k : ℕ) (t : Section) (os : List ℕ) (hs : List Held) → AreUnique hs
    → placed_serials (owned k os (placed_from t (entries_of hs))) ≡ filter (λ s. is_among s (owned k os (placed_from t (entries_of hs)))) (serials_of hs)
owned_picks k t [] hs u = nothing_picked hs
  where
    nothing_picked : (xs : List Held) → [] ≡ filter (λ s. false) (serials_of xs)
    nothing_picked [] = refl
    nothing_picked (x ∷ xs) = nothing_picked xs
owned_picks k t (o ∷ os) [] u = refl
owned_picks k t (o ∷ os) (x ∷ hs) u = by_test (nat_eq o k) (owned_picks k (section_after t x.entry.kind) os hs u.1)
  where
    s : ℕ
    s = x.entry.serial

    ps : List Placed
    ps = placed_from (section_after t x.entry.kind) (entries_of hs)

    p : Placed
    p = record { entry = x.entry; section = section_after t x.entry.kind }

    lacks : (b : Bool) → is_among s (owned k os ps) ≡ b → b ≡ false
    lacks true e = no (sym (owned_there k s os ps e) ∙ among_placed s (section_after t x.entry.kind) hs ∙ u.0)
    lacks false e = refl

    itself : nat_eq s s ≡ true
    itself = eq-eqb s s refl

    by_test : (b : Bool) → placed_serials (owned k os ps) ≡ filter (λ m. is_among m (owned k os ps)) (serials_of hs)
        → placed_serials (cond b (p ∷ owned k os ps) (owned k os ps)) ≡ filter (λ m. is_among m (cond b (p ∷ owned k os ps) (owned k os ps))) (s ∷ serials_of hs)
    by_test true rest =
        ap (λ xs. s ∷ xs) (rest ∙ sym (same_picks s (λ m. is_among m (p ∷ owned k os ps)) (λ m. is_among m (owned k os ps)) hs u.0 (λ m e. ap (λ b. b || is_among m (owned k os ps)) e)))
        ∙ sym (ap (λ b. cond (b || is_among s (owned k os ps)) (s ∷ filter (λ m. is_among m (p ∷ owned k os ps)) (serials_of hs)) (filter (λ m. is_among m (p ∷ owned k os ps)) (serials_of hs))) itself)
    by_test false rest = rest ∙ sym (ap (λ b. cond b (s ∷ filter (λ m. is_among m (owned k os ps)) (serials_of hs)) (filter (λ m. is_among m (owned k os ps)) (serials_of hs))) (lacks (is_among s (owned k os ps)) refl))

-- the serials of a code are those of the file that are among it
pub code_picked : (hs : List Held) (k : ℕ) (f : Part) → AreUnique hs → slice_get (functions (placed (entries_of hs))) k ≡ Some f
    → placed_serials (code_part f) ≡ filter (λ s. is_among s (code_part f)) (serials_of hs)
code_picked hs k f u part =
    let os = owners_from 0 (parts (placed (entries_of hs))) in
    subst (λ ps. placed_serials ps ≡ filter (λ s. is_among s ps) (serials_of hs)) (functions_own (placed (entries_of hs)) k f part) (owned_picks (suc k) text os hs u)

-- the next of those that are picked

heads_of : (x y : ℕ) (xs ys : List ℕ) → x ∷ xs ≡ y ∷ ys → x ≡ y
heads_of x y xs ys e = cc

tails_of : (x y : ℕ) (xs ys : List ℕ) → x ∷ xs ≡ y ∷ ys → xs ≡ ys
tails_of x y xs ys e = cc

none_of : (s : ℕ) (xs ys : List ℕ) → [] ≡ xs ++ s ∷ ys → ⊥
none_of s [] ys e = cc
none_of s (x ∷ xs) ys e = cc

picked_there : (test : ℕ → Bool) (s : ℕ) (front rest : List ℕ) (hs : List Held) → filter test (serials_of hs) ≡ front ++ s ∷ rest → holds_serial s hs ≡ true
picked_there test s front rest [] e = absurd (none_of s front rest e)
picked_there test s front rest (x ∷ hs) e = by_test (test x.entry.serial) e (λ front' q. picked_there test s front' rest hs q)
  where
    at_front : (front' : List ℕ) → x.entry.serial ∷ filter test (serials_of hs) ≡ front' ++ s ∷ rest → ((ys : List ℕ) → filter test (serials_of hs) ≡ ys ++ s ∷ rest → holds_serial s hs ≡ true)
        → serial_is s x || holds_serial s hs ≡ true
    at_front [] q later = ap (λ b. b || holds_serial s hs) (eq-eqb x.entry.serial s (heads_of x.entry.serial s (filter test (serials_of hs)) rest q))
    at_front (y ∷ ys) q later =
        ap (λ b. serial_is s x || b) (later ys (tails_of x.entry.serial y (filter test (serials_of hs)) (ys ++ s ∷ rest) q)) ∙ or-true (serial_is s x)

    by_test : (b : Bool) → cond b (x.entry.serial ∷ filter test (serials_of hs)) (filter test (serials_of hs)) ≡ front ++ s ∷ rest
        → ((ys : List ℕ) → filter test (serials_of hs) ≡ ys ++ s ∷ rest → holds_serial s hs ≡ true) → serial_is s x || holds_serial s hs ≡ true
    by_test true q later = at_front front q later
    by_test false q later = ap (λ b. serial_is s x || b) (later front q) ∙ or-true (serial_is s x)

found_first : (test : ℕ → Bool) (hs : List Held) → option_map (λ h. h.entry.serial) (find (λ h. test h.entry.serial) hs) ≡ first_number (filter test (serials_of hs))
found_first test [] = refl
found_first test (x ∷ hs) = by_test (test x.entry.serial) (found_first test hs)
  where
    by_test : (b : Bool) → option_map (λ h. h.entry.serial) (find (λ h. test h.entry.serial) hs) ≡ first_number (filter test (serials_of hs))
        → option_map (λ h. h.entry.serial) (cond b (Some x) (find (λ h. test h.entry.serial) hs)) ≡ first_number (cond b (x.entry.serial ∷ filter test (serials_of hs)) (filter test (serials_of hs)))
    by_test true e = refl
    by_test false e = e

next_picked : (test : ℕ → Bool) (s : ℕ) (front rest : List ℕ) (hs : List Held) → AreUnique hs → filter test (serials_of hs) ≡ front ++ s ∷ rest → next_where test hs s ≡ first_number rest
next_picked test s front rest [] u e = absurd (none_of s front rest e)
next_picked test s front rest (x ∷ hs) u e = by_test (test x.entry.serial) e (λ front' q. passed (picked_there test s front' rest hs q) (next_picked test s front' rest hs u.1 q))
  where
    passed : holds_serial s hs ≡ true → next_where test hs s ≡ first_number rest → next_where test (x ∷ hs) s ≡ first_number rest
    passed there q =
        let apart : serial_is s x ≡ false = ne_eqb x.entry.serial s (λ w. no (sym there ∙ ap (λ n. holds_serial n hs) (sym w) ∙ u.0)) in
        ap (λ b. option_map (λ h. h.entry.serial) (find (λ h. test h.entry.serial) (cond b hs (behind s hs)))) apart ∙ q

    at_front : (front' : List ℕ) → x.entry.serial ∷ filter test (serials_of hs) ≡ front' ++ s ∷ rest → ((ys : List ℕ) → filter test (serials_of hs) ≡ ys ++ s ∷ rest → next_where test (x ∷ hs) s ≡ first_number rest)
        → next_where test (x ∷ hs) s ≡ first_number rest
    at_front [] q later =
        ap (λ b. option_map (λ h. h.entry.serial) (find (λ h. test h.entry.serial) (cond b hs (behind s hs)))) (eq-eqb x.entry.serial s (heads_of x.entry.serial s (filter test (serials_of hs)) rest q))
        ∙ found_first test hs
        ∙ ap first_number (tails_of x.entry.serial s (filter test (serials_of hs)) rest q)
    at_front (y ∷ ys) q later = later ys (tails_of x.entry.serial y (filter test (serials_of hs)) (ys ++ s ∷ rest) q)

    by_test : (b : Bool) → cond b (x.entry.serial ∷ filter test (serials_of hs)) (filter test (serials_of hs)) ≡ front ++ s ∷ rest
        → ((ys : List ℕ) → filter test (serials_of hs) ≡ ys ++ s ∷ rest → next_where test (x ∷ hs) s ≡ first_number rest) → next_where test (x ∷ hs) s ≡ first_number rest
    by_test true q later = at_front front q later
    by_test false q later = later front q

-- behind one of a code comes the next of the code
pub next_is : (hs : List Held) (k : ℕ) (f : Part) (front rest : List ℕ) (s : ℕ) → AreUnique hs → slice_get (functions (placed (entries_of hs))) k ≡ Some f
    → placed_serials (code_part f) ≡ front ++ s ∷ rest → next_among (code_part f) hs s ≡ first_number rest
next_is hs k f front rest s u part e = next_picked (λ m. is_among m (code_part f)) s front rest hs u (sym (code_picked hs k f u part) ∙ e)

-- a list up to one of its members, with it
pub record IsWalked (all so_far : List ℕ) (at : ℕ) : Type 0 where
  pub front : List ℕ
  pub rest : List ℕ
  pub reached : so_far ≡ front ++ at ∷ []
  pub whole : all ≡ front ++ at ∷ rest

-- what an option is mapped to is of something that is there
record Got {A B : Type 0} (o : Option A) (h : A → B) (x : B) : Type 0 where
  it : A
  there : o ≡ Some it
  is : h it ≡ x

got : {A B : Type 0} (o : Option A) (h : A → B) (x : B) → option_map h o ≡ Some x → Got o h x
got None h x e = absurd (cc)
got (Some a) h x e = record { it = a; there = refl; is = cc }

some_is : (x y : ℕ) → Some x ≡ Some y → x ≡ y
some_is x y e = cc

-- a code begins with the label of its function

kept : (q : Part) (qs : List Part) → is_some (label_of q) ≡ true → filter (λ r. is_some (label_of r)) (q ∷ qs) ≡ q ∷ filter (λ r. is_some (label_of r)) qs
kept q qs e = ap (λ b. cond b (q ∷ filter (λ r. is_some (label_of r)) qs) (filter (λ r. is_some (label_of r)) qs)) e

all_headed : (qs : List Part) → AreHeaded qs → AllByRecursion IsHeaded (filter (λ q. is_some (label_of q)) qs)
all_headed [] h = absurd h
all_headed (q ∷ []) h =
    ⊎_elim
    (λ e. subst (AllByRecursion IsHeaded) (sym (ap (λ b. cond b (q ∷ []) []) (bodyless q e))) tt)
    (λ w. subst (AllByRecursion IsHeaded) (sym (kept q [] (ap is_some (headed_label q w)))) (w, tt))
    h
all_headed (q ∷ r ∷ qs) h = subst (AllByRecursion IsHeaded) (sym (kept q (r ∷ qs) (ap is_some (headed_label q h.0)))) (h.0, all_headed (r ∷ qs) h.1)

record BeginsWith (all : List ℕ) (at : ℕ) : Type 0 where
  rest : List ℕ
  whole : all ≡ at ∷ rest

begins : (q : Part) (h : IsHeaded q) → BeginsWith (placed_serials (code_part q)) h.head.entry.serial
begins q h =
    let here = λ (p : Placed). bytes_eq p.section.name (section_of q).name in
    let same : (section_of q).name ≡ h.head.section.name = ap (λ o. (section_at o).name) (headed_label q h) in
    let itself : here h.head ≡ true = (bytes_eq-Decides h.head.section.name (section_of q).name).1 (sym same) in
    record {
      rest = placed_serials (filter here h.rest);
      whole = ap (λ b. placed_serials (filter here b)) h.body ∙ ap (λ b. placed_serials (cond b (h.head ∷ filter here h.rest) (filter here h.rest))) itself;
    }

-- it goes on with the next of them, if there is one
next_step : (all so_far : List ℕ) (at t : ℕ) (w : IsWalked all so_far at) → Some t ≡ first_number w.rest → IsWalked all (so_far ++ t ∷ []) t
next_step all so_far at t w e = by_rest w.rest w.whole e
  where
    by_rest : (rest : List ℕ) → all ≡ w.front ++ at ∷ rest → Some t ≡ first_number rest → IsWalked all (so_far ++ t ∷ []) t
    by_rest [] q r = absurd (cc)
    by_rest (x ∷ rest) q r =
        let same : x ≡ t = cc in
        record {
          front = w.front ++ at ∷ [];
          rest = rest;
          reached = ap (λ xs. xs ++ t ∷ []) w.reached;
          whole = q ∙ ap (λ y. w.front ++ at ∷ y ∷ rest) same ∙ sym (append_assoc w.front (at ∷ []) (t ∷ rest));
        }

all_walked : (all so_far : List ℕ) (at : ℕ) (w : IsWalked all so_far at) → None ≡ first_number w.rest → so_far ≡ all
all_walked all so_far at w e = by_rest w.rest w.whole e
  where
    by_rest : (rest : List ℕ) → all ≡ w.front ++ at ∷ rest → None ≡ first_number rest → so_far ≡ all
    by_rest [] q r = w.reached ∙ sym q
    by_rest (x ∷ rest) q r = absurd (cc)

pub not_longer : (all so_far : List ℕ) (at : ℕ) → IsWalked all so_far at → length so_far ≤ length all
not_longer all so_far at w =
    omega (arith, ap length w.reached, ap length w.whole, length-append w.front (at ∷ []), length-append w.front (at ∷ w.rest))

module _ (u : Unit) (f : ℕ) (unique : AreUnique u.held) where
  abbrev all_of : List ℕ
  all_of = placed_serials (code_part (body_of u f))

  next_told : (so_far : List ℕ) (at : ℕ) (w : IsWalked all_of so_far at) (r : Option ℕ) → option_map (λ p. next_among (code_part p) u.held at) (slice_get (functions_of u) f) ≡ Some r → r ≡ first_number w.rest
  next_told so_far at w r e =
      let g = got (slice_get (functions_of u) f) (λ p. next_among (code_part p) u.held at) r e in
      let body : body_of u f ≡ g.it = get_or_from_slice_get (functions_of u) f g.it nothing g.there in
      sym g.is ∙ next_is u.held f g.it w.front w.rest at unique g.there (ap (λ p. placed_serials (code_part p)) (sym body) ∙ w.whole)

  pub walk_more : (so_far more : List ℕ) (at t : ℕ) (r : Option ℕ) → IsWalked all_of so_far at → option_map (λ p. next_among (code_part p) u.held at) (slice_get (functions_of u) f) ≡ Some r → r ≡ Some t
      → more ≡ so_far ++ t ∷ [] → IsWalked all_of more t
  walk_more so_far more at t r w e is pushed = subst (λ xs. IsWalked all_of xs t) (sym pushed) (next_step all_of so_far at t w (sym is ∙ next_told so_far at w r e))

  pub walk_ends : (so_far : List ℕ) (at : ℕ) (r : Option ℕ) → IsWalked all_of so_far at → option_map (λ p. next_among (code_part p) u.held at) (slice_get (functions_of u) f) ≡ Some r → r ≡ None → so_far ≡ all_of
  walk_ends so_far at r w e is = all_walked all_of so_far at w (sym is ∙ next_told so_far at w r e)

-- the walk begins at the label

pub walk_begins : (u : Unit) (f label : ℕ) (so_far : List ℕ) → option_map (λ p. option_map (λ q. q.entry.serial) (label_of p)) (slice_get (functions_of u) f) ≡ Some (Some label) → so_far ≡ label ∷ []
    → IsWalked (placed_serials (code_part (body_of u f))) so_far label
walk_begins u f label so_far e pushed =
    let g = got (slice_get (functions_of u) f) (λ p. option_map (λ q. q.entry.serial) (label_of p)) (Some label) e in
    let body : body_of u f ≡ g.it = get_or_from_slice_get (functions_of u) f g.it nothing g.there in
    let headed : IsHeaded (body_of u f) =
    all_at IsHeaded (functions_of u) f nothing (all_headed (parts (placed (entries_of u.held))) ((parts_headed (placed (entries_of u.held))).outside [])) (slice_get_within (functions_of u) f g.it g.there) in
    let b = begins (body_of u f) headed in
    let label_is : headed.head.entry.serial ≡ label = some_is headed.head.entry.serial label (sym (ap (option_map (λ q. q.entry.serial)) (headed_label (body_of u f) headed)) ∙ ap (λ p. option_map (λ q. q.entry.serial) (label_of p)) body ∙ g.is) in
    record { front = []; rest = b.rest; reached = pushed; whole = b.whole ∙ ap (λ x. x ∷ b.rest) label_is }
