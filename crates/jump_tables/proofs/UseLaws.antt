-- The uses of a name after an entry.
use Rattle.std.proofs.Common.{◌≡◌, ℕ, ◌+◌, ◌<◌, arith, Bool, true, false, not, cond, List, [], ◌∷◌, ◌++◌, map, length, get_or, take, drop, replicate, Option, Some, None, refl, sym, ap, ◌∙◌}
use Rattle.std.specs.Prelude.{bytes_eq, ◌||◌, ◌&&◌, filter, find, option_map}
use Rattle.std.proofs.lemmas.List.{append-nil, append_assoc, take_all, drop_more, drop_all}
use Rattle.std.proofs.lemmas.List.Folds.{list_any-append}
use Rattle.std.proofs.lemmas.Slice.Eq.{bytes_eq-Decides}
use Rattle.insn_ir.specs.declared.entry.Entry.{Entry}
use Rattle.jump_tables.specs.declared.collect.Uses.{Uses}
use Rattle.jump_tables.specs.Names.{has}
use Rattle.jump_tables.specs.Uses.{names, table_jump, is_name, is_table_jump}
use Rattle.jump_tables.specs.Sections.{Section, Placed, is_debug, section_after, placed_from}
use Rattle.jump_tables.specs.Tables.{users, other_use, is_other_use}
use Rattle.jump_tables.specs.Collected.{for_each, at_name, first_of, with_other, with_user, named, noted, none_used, uses_of}
use Rattle.jump_tables.proofs.NameLaws.{differ_back}
use Rattle.jump_tables.proofs.EachLaws.{each_same, each_each}

first_none : (o : Option ℕ) → first_of o None ≡ o
first_none None = refl
first_none (Some k) = refl

first_twice : (o : Option ℕ) (k : ℕ) → first_of (first_of o (Some k)) (Some k) ≡ first_of o (Some k)
first_twice None k = refl
first_twice (Some j) k = refl

no_other : (serial : ℕ) (u : Uses) → with_other false serial u ≡ u
no_other serial u = ap (λ o. record u { other_use = o }) (first_none u.other_use)

no_user : (serial : ℕ) (u : Uses) → with_user false serial u ≡ u
no_user serial u = ap (λ xs. record u { users = xs }) (append-nil u.users)

pub at_name_stays : (m : List ℕ) (serial : ℕ) (n : List ℕ) (u : Uses) → at_name m (with_other (not true) serial) n u ≡ u
at_name_stays m serial n u = by_name (bytes_eq m n)
  where
    by_name : (b : Bool) → cond b (with_other false serial u) u ≡ u
    by_name true = no_other serial u
    by_name false = refl

or_false : (x : Bool) → x || (false || false) ≡ x
or_false true = refl
or_false false = refl

both_others : (x j : Bool) (serial : ℕ) (u : Uses) → with_other j serial (with_other (x && j) serial u) ≡ with_other ((x || (true || false)) && j) serial u
both_others true true serial u = ap (λ o. record u { other_use = o }) (first_twice u.other_use serial)
both_others true false serial u = no_other serial (with_other false serial u)
both_others false true serial u = ap (λ v. with_other true serial v) (no_other serial u)
both_others false false serial u = no_other serial (with_other false serial u)

-- one more name of the entry
name_more : (e : Entry) (ms : List (List ℕ)) (m n : List ℕ) (u : Uses) → at_name m (with_other (not (is_table_jump m e.kind)) e.serial) n (named false e ms n u) ≡ named false e (ms ++ m ∷ []) n u
name_more e ms m n u = by_name (bytes_eq m n) refl ∙ ap (λ b. with_other (b && not (is_table_jump n e.kind)) e.serial u) (sym (list_any-append (bytes_eq n) ms (m ∷ [])))
  where
    by_name : (b : Bool) → bytes_eq m n ≡ b → cond b (with_other (not (is_table_jump m e.kind)) e.serial (named false e ms n u)) (named false e ms n u)
        ≡ with_other ((has n ms || (bytes_eq n m || false)) && not (is_table_jump n e.kind)) e.serial u
    by_name true g =
        let same : m ≡ n = (bytes_eq-Decides m n).0 g in
        ap (λ x. with_other (not (is_table_jump x e.kind)) e.serial (named false e ms n u)) same
        ∙ both_others (has n ms) (not (is_table_jump n e.kind)) e.serial u
        ∙ ap (λ b. with_other ((has n ms || (b || false)) && not (is_table_jump n e.kind)) e.serial u) (sym ((bytes_eq-Decides n m).1 (sym same)))
    by_name false g =
        ap (λ b. with_other (b && not (is_table_jump n e.kind)) e.serial u) (sym (or_false (has n ms)))
        ∙ ap (λ b. with_other ((has n ms || (b || false)) && not (is_table_jump n e.kind)) e.serial u) (sym (differ_back m n g))

pub names_more : (e : Entry) (ms : List (List ℕ)) (m : List ℕ) (ns : List (List ℕ)) (us vs : List Uses) → vs ≡ for_each (named false e ms) ns us
    → for_each (at_name m (with_other (not (is_table_jump m e.kind)) e.serial)) ns vs ≡ for_each (named false e (ms ++ m ∷ [])) ns us
names_more e ms m ns us vs h =
    ap (for_each (at_name m (with_other (not (is_table_jump m e.kind)) e.serial)) ns) h
    ∙ each_each _ _ ns us
    ∙ each_same _ _ (name_more e ms m) ns us

-- the names of the entry, one list after another
others_two : (x y j : Bool) (serial : ℕ) (u : Uses) → with_other (y && j) serial (with_other (x && j) serial u) ≡ with_other ((x || y) && j) serial u
others_two true true true serial u = ap (λ o. record u { other_use = o }) (first_twice u.other_use serial)
others_two true true false serial u = no_other serial (with_other false serial u)
others_two true false true serial u = no_other serial (with_other true serial u)
others_two true false false serial u = no_other serial (with_other false serial u)
others_two false true true serial u = ap (with_other true serial) (no_other serial u)
others_two false true false serial u = no_other serial (with_other false serial u)
others_two false false j serial u = no_other serial (with_other false serial u)

names_two : (e : Entry) (ms ks : List (List ℕ)) (n : List ℕ) (u : Uses) → named false e ks n (named false e ms n u) ≡ named false e (ms ++ ks) n u
names_two e ms ks n u =
    others_two (has n ms) (has n ks) (not (is_table_jump n e.kind)) e.serial u
    ∙ ap (λ b. with_other (b && not (is_table_jump n e.kind)) e.serial u) (sym (list_any-append (bytes_eq n) ms ks))

pub named_both : (e : Entry) (ms ks ns : List (List ℕ)) (us vs ws : List Uses) → vs ≡ for_each (named false e ms) ns us → ws ≡ for_each (named false e ks) ns vs
    → ws ≡ for_each (named false e (ms ++ ks)) ns us
named_both e ms ks ns us vs ws g h = h ∙ ap (for_each (named false e ks) ns) g ∙ each_each _ _ ns us ∙ each_same _ _ (names_two e ms ks) ns us

pub nothing_named : (e : Entry) (n : List ℕ) (u : Uses) → named false e [] n u ≡ u
nothing_named e n u = no_other e.serial u

pub debug_named : (e : Entry) (ns : List (List ℕ)) (n : List ℕ) (u : Uses) → named true e ns n u ≡ u
debug_named e ns n u = no_other e.serial u

-- the jump
user_is : (t n : List ℕ) (serial : ℕ) (u : Uses) → at_name t (with_user true serial) n u ≡ with_user (bytes_eq n t) serial u
user_is t n serial u = by_name (bytes_eq t n) refl
  where
    by_name : (b : Bool) → bytes_eq t n ≡ b → cond b (with_user true serial u) u ≡ with_user (bytes_eq n t) serial u
    by_name true g = ap (λ b. with_user b serial u) (sym ((bytes_eq-Decides n t).1 (sym ((bytes_eq-Decides t n).0 g))))
    by_name false g = sym (no_user serial u) ∙ ap (λ b. with_user b serial u) (sym (differ_back t n g))

pub jump_noted : (debug : Bool) (e : Entry) (t : List ℕ) (ns : List (List ℕ)) (us vs : List Uses) → table_jump e.kind ≡ Some t → vs ≡ for_each (named debug e (names e.kind)) ns us
    → for_each (at_name t (with_user true e.serial)) ns vs ≡ for_each (noted debug e) ns us
jump_noted debug e t ns us vs g h =
    ap (for_each (at_name t (with_user true e.serial)) ns) h
    ∙ each_each _ _ ns us
    ∙ each_same _ _ (λ n u. user_is t n e.serial (named debug e (names e.kind) n u) ∙ ap (λ o. with_user (is_name n o) e.serial (named debug e (names e.kind) n u)) (sym g)) ns us

pub none_noted : (debug : Bool) (e : Entry) (ns : List (List ℕ)) (us vs : List Uses) → table_jump e.kind ≡ None → vs ≡ for_each (named debug e (names e.kind)) ns us
    → vs ≡ for_each (noted debug e) ns us
none_noted debug e ns us vs g h =
    h ∙ each_same _ _ (λ n u. sym (no_user e.serial (named debug e (names e.kind) n u)) ∙ ap (λ o. with_user (is_name n o) e.serial (named debug e (names e.kind) n u)) (sym g)) ns us

-- the uses of a name, and those of the entries that are left
abbrev pub with_rest : List Placed → List ℕ → Uses → Uses
with_rest ps n u = record { users = u.users ++ users ps n; other_use = first_of u.other_use (other_use ps n) }

pub all_left : (ps : List Placed) (ns : List (List ℕ)) → for_each (with_rest ps) ns (replicate (length ns) none_used) ≡ map (uses_of ps) ns
all_left ps [] = refl
all_left ps (n ∷ ns) = ap (λ us. uses_of ps n ∷ us) (all_left ps ns)

pub none_left : (n : List ℕ) (u : Uses) → with_rest [] n u ≡ u
none_left n u =
    ap (λ xs. record { users = xs; other_use = first_of u.other_use None }) (append-nil u.users)
    ∙ ap (λ o. record { users = u.users; other_use = o }) (first_none u.other_use)

users_step : (b : Bool) (serial : ℕ) (us rest : List ℕ) → (us ++ cond b (serial ∷ []) []) ++ rest ≡ us ++ cond b (serial ∷ rest) rest
users_step true serial us rest = append_assoc us (serial ∷ []) rest
users_step false serial us rest = ap (λ xs. xs ++ rest) (append-nil us)

map_cond : (b : Bool) (p : Placed) (ps : List Placed) → map (λ q. q.entry.serial) (cond b (p ∷ ps) ps) ≡ cond b (p.entry.serial ∷ map (λ q. q.entry.serial) ps) (map (λ q. q.entry.serial) ps)
map_cond true p ps = refl
map_cond false p ps = refl

other_step : (b : Bool) (p : Placed) (o : Option ℕ) (rest : Option Placed) → first_of (first_of o (cond b (Some p.entry.serial) None)) (option_map (λ q. q.entry.serial) rest) ≡ first_of o (option_map (λ q. q.entry.serial) (cond b (Some p) rest))
other_step true p None rest = refl
other_step true p (Some k) rest = refl
other_step false p None rest = refl
other_step false p (Some k) rest = refl

rest_step : (p : Placed) (ps : List Placed) (n : List ℕ) (u : Uses) → with_rest ps n (noted (is_debug p.section) p.entry n u) ≡ with_rest (p ∷ ps) n u
rest_step p ps n u =
    ap (λ xs. record { users = xs; other_use = first_of (first_of u.other_use (cond (is_other_use n p) (Some p.entry.serial) None)) (other_use ps n) })
    (users_step (is_table_jump n p.entry.kind) p.entry.serial u.users (users ps n) ∙ ap (λ xs. u.users ++ xs) (sym (map_cond (is_table_jump n p.entry.kind) p (filter (λ q. is_table_jump n q.entry.kind) ps))))
    ∙ ap (λ o. record { users = u.users ++ users (p ∷ ps) n; other_use = o }) (other_step (is_other_use n p) p u.other_use (find (is_other_use n) ps))

-- one entry is noted
pub rest_more : (s : Section) (debug : Bool) (es : List Entry) (i : ℕ) (e : Entry) (ns : List (List ℕ)) (us : List Uses) → i < length es → e ≡ get_or es i e → debug ≡ is_debug (section_after s e.kind)
    → for_each (with_rest (placed_from (section_after s e.kind) (drop (i + 1) es))) ns (for_each (noted debug e) ns us) ≡ for_each (with_rest (placed_from s (drop i es))) ns us
rest_more s debug es i e ns us l g d =
    each_each _ _ ns us
    ∙ ap (λ b. for_each (λ n u. with_rest (placed_from (section_after s e.kind) (drop (i + 1) es)) n (noted b e n u)) ns us) d
    ∙ each_same _ _ (rest_step (record { entry = e; section = section_after s e.kind }) (placed_from (section_after s e.kind) (drop (i + 1) es))) ns us
    ∙ ap (λ xs. for_each (with_rest (placed_from s xs)) ns us) (sym (drop_more es i e l ∙ ap (λ x. x ∷ drop (i + 1) es) (sym g)))

-- what a `Vec` holds after all of it was written as a slice
pub written_whole : {X : Type 0} (n : ℕ) (new old : List X) → length new ≡ n → length old ≡ n → take n (new ++ drop (length new) old) ≡ new
written_whole n new old l m =
    ap (λ xs. take n (new ++ xs)) (drop_all (length new) old (omega (arith, l, m))) ∙ ap (take n) (append-nil new) ∙ take_all n new (omega (arith, l))
