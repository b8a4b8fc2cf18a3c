-- What is kept beside the entries fits them after one came before an entry of a clear function's code.
use Rattle.std.proofs.Common.{◌≡◌, ◌≢◌, ℕ, suc, ◌+◌, ◌-◌, ◌<◌, ◌≤◌, Bool, true, false, cond, ◌||◌, nat_eq, inl, inr, List, [], ◌∷◌, ◌++◌, map, length, Option, Some, None, refl, sym, ap, ◌∙◌, arith, subst, option_map, length-append}
use Rattle.std.specs.Prelude.{◌&&◌, slice_get, slice_index_or, find, is_some, bytes_eq}
use Rattle.std.specs.List.{AllByRecursion}
use Rattle.std.proofs.lemmas.Bool.{cases_eq, eq-eqb, ne_eqb, eqb-true, or_parts}
use Rattle.std.proofs.lemmas.List.{length-map, get_or-map}
use Rattle.insn_ir.specs.declared.entry.EntryKind.{EntryKind}
use Rattle.insn_ir.specs.declared.entry.Entry.{Entry}
use Rattle.jump_tables.specs.declared.table.Table as FileTable
use Rattle.jump_tables.specs.Sections.{Placed, placed, text}
use Rattle.asm_unit.specs.declared.decide.DecidedFunction.{DecidedFunction}
use Rattle.asm_unit.specs.declared.defined_names.DefinedNames.{DefinedNames}
use Rattle.asm_unit.specs.Functions.{Part, nothing, functions, section_of, code_part}
use Rattle.asm_unit.specs.Tables.{is_among}
use Rattle.asm_unit.specs.Decisions.{Decision, is_clear}
use Rattle.asm_unit.specs.Edits.{is_frame}
use Rattle.asm_unit.specs.Grown.{Lacks, AreOnce, inserted, section_before, prev_placed, stands_among, part_with}
use Rattle.asm_unit.specs.Held.{Held, serial_is, holds_serial, held_entry, entry_of, prev_from, prev_of, entries_of, new_held, held_inserted}
use Rattle.asm_unit.specs.LabelOwners.{target_within}
use Rattle.asm_unit.specs.Lasting.{lasting}
use Rattle.asm_unit.specs.Unit.{in_clear_code, is_removable}
use Rattle.asm_unit.specs.UnitFields.{decided_from, lead_power, leads_with, owner_at, owner_with, owner_between, AllStand}
use Rattle.asm_unit.specs.DefinedNames.{NamesTell, Keeps}
use Rattle.asm_unit.proofs.BaseLaws.{heads_label}
use Rattle.asm_unit.proofs.BuildLaws.{get_some}
use Rattle.asm_unit.proofs.GrownCodes.{among_others, functions_inserted}
use Rattle.asm_unit.proofs.InsertLaws.{Meets, stand_with, leads_many, leads_names, leads_given, both_owners}
use Rattle.asm_unit.proofs.KeyLaws.{unique_inserted}
use Rattle.asm_unit.proofs.KeyedLaws.{at_end, at_other}
use Rattle.asm_unit.proofs.LastingLaws.{names_last, insert_lasts}
use Rattle.asm_unit.proofs.OnceLaws.{lacks_among, among_kept, in_one_body}
use Rattle.asm_unit.proofs.OwnerLaws.{new_owned, prev_is}
use Rattle.asm_unit.proofs.StandLaws.{IsClearBefore, once_placed, stands_before_none, clear_there}
use Rattle.asm_unit.proofs.UnitLaws.{decided_length, removable_quiet, all_at, holds_there}

no : {P : Type 0} → true ≡ false → P
no e = absurd (cc)

pub entries_inserted : (b n : ℕ) (k : EntryKind) (hs : List Held) → entries_of (held_inserted b (new_held n k) hs) ≡ inserted b (record { serial = n; kind = k }) (entries_of hs)
entries_inserted b n k [] = refl
entries_inserted b n k (x ∷ hs) = by_test (serial_is b x) (entries_inserted b n k hs)
  where
    by_test : (t : Bool) → entries_of (held_inserted b (new_held n k) hs) ≡ inserted b (record { serial = n; kind = k }) (entries_of hs)
        → entries_of (cond t (new_held n k ∷ x ∷ hs) (x ∷ held_inserted b (new_held n k) hs)) ≡ cond t (record { serial = n; kind = k } ∷ entries_of (x ∷ hs)) (x.entry ∷ inserted b (record { serial = n; kind = k }) (entries_of hs))
    by_test true e = refl
    by_test false e = ap (λ xs. x.entry ∷ xs) e

pub lacks_entries : (n : ℕ) (hs : List Held) → holds_serial n hs ≡ false → Lacks n (entries_of hs)
lacks_entries n [] e = tt
lacks_entries n (x ∷ hs) e = let w = or_parts (serial_is n x) (holds_serial n hs) e in (w.0, lacks_entries n hs w.1)

-- the function in whose code an entry stands
record InCode (ds : List Decision) (fs : List Part) (s : ℕ) : Type 0 where
  place : ℕ
  within : place < length ds
  among : is_among s (code_part (slice_index_or fs place nothing)) ≡ true

clear_index : (ds : List Decision) (fs : List Part) (s : ℕ) → in_clear_code ds fs s ≡ true → InCode ds fs s
clear_index [] fs s e = no (sym e)
clear_index (d ∷ ds) [] s e = no (sym e)
clear_index (d ∷ ds) (f ∷ fs) s e = by_tests (is_clear d) (is_among s (code_part f)) refl e (clear_index ds fs s)
  where
    later : InCode ds fs s → InCode (d ∷ ds) (f ∷ fs) s
    later w = record { place = suc w.place; within = omega (arith, w.within); among = w.among }

    by_tests : (t u : Bool) → is_among s (code_part f) ≡ u → (t && u) || in_clear_code ds fs s ≡ true → (in_clear_code ds fs s ≡ true → InCode ds fs s) → InCode (d ∷ ds) (f ∷ fs) s
    by_tests true true g q rest = record { place = 0; within = omega arith; among = g }
    by_tests true false g q rest = later (rest q)
    by_tests false u g q rest = later (rest q)

still_inserted : (b n s : ℕ) (k : EntryKind) (hs : List Held) → nat_eq n s ≡ false → is_some (entry_of (held_inserted b (new_held n k) hs) s) ≡ is_some (entry_of hs s)
still_inserted b n s k [] d = refl
still_inserted b n s k (x ∷ hs) d = by_test (serial_is b x) (still_inserted b n s k hs d)
  where
    by_here : (t : Bool) → is_some (entry_of (held_inserted b (new_held n k) hs) s) ≡ is_some (entry_of hs s)
        → is_some (held_entry (cond t (Some x) (find (serial_is s) (held_inserted b (new_held n k) hs)))) ≡ is_some (held_entry (cond t (Some x) (find (serial_is s) hs)))
    by_here true e = refl
    by_here false e = e

    by_test : (t : Bool) → is_some (entry_of (held_inserted b (new_held n k) hs) s) ≡ is_some (entry_of hs s)
        → is_some (entry_of (cond t (new_held n k ∷ x ∷ hs) (x ∷ held_inserted b (new_held n k) hs)) s) ≡ is_some (entry_of (x ∷ hs) s)
    by_test true e = ap (λ u. is_some (held_entry (cond u (Some (new_held n k)) (find (serial_is s) (x ∷ hs))))) d
    by_test false e = by_here (serial_is s x) e

-- the entry before another is there
prev_there : (before : Option ℕ) (b m : ℕ) (hs : List Held) → prev_from before hs b ≡ Some m → ((before ≡ Some m) → ⊥) → holds_serial m hs ≡ true
prev_there before b m [] e h = absurd (cc)
prev_there before b m (x ∷ hs) e h = by_test (serial_is b x) e (λ q z. prev_there (Some x.entry.serial) b m hs q z)
  where
    some_is : (i j : ℕ) → Some i ≡ Some j → i ≡ j
    some_is i j z = cc

    by_serial : (t : Bool) → serial_is m x ≡ t → prev_from (Some x.entry.serial) hs b ≡ Some m → (prev_from (Some x.entry.serial) hs b ≡ Some m → ((Some x.entry.serial ≡ Some m) → ⊥) → holds_serial m hs ≡ true) → t || holds_serial m hs ≡ true
    by_serial true g q rest = refl
    by_serial false g q rest = rest q (λ z. no (sym (eq-eqb x.entry.serial m (some_is x.entry.serial m z)) ∙ g))

    by_test : (t : Bool) → cond t before (prev_from (Some x.entry.serial) hs b) ≡ Some m → (prev_from (Some x.entry.serial) hs b ≡ Some m → ((Some x.entry.serial ≡ Some m) → ⊥) → holds_serial m hs ≡ true) → holds_serial m (x ∷ hs) ≡ true
    by_test true q rest = absurd (h q)
    by_test false q rest = by_serial (serial_is m x) refl q rest

prev_held : (b m : ℕ) (hs : List Held) → prev_of hs b ≡ Some m → holds_serial m hs ≡ true
prev_held b m hs e = prev_there None b m hs e (λ z. absurd (cc))

some_owner : (xs : List ℕ) (i m : ℕ) → slice_index_or xs i 0 ≡ suc m → 0 < length xs
some_owner [] i m e = absurd (omega (arith, e))
some_owner (x ∷ xs) i m e = omega arith

and_second : (t u : Bool) → t && u ≡ true → u ≡ true
and_second true u e = e
and_second false u e = no (sym e)

module _ (hs : List Held) (last : ℕ) (kept : List DecidedFunction) (owners : List ℕ) (ts : List FileTable.Table) (us : List ℕ) (names : DefinedNames) (b : ℕ) (k : EntryKind) (keeps : Keeps hs last kept owners ts us names)
    (clear : in_clear_code (decided_from 0 kept ts us) (functions (placed (entries_of hs))) b ≡ true) (removable : is_removable k ≡ true) (n : ℕ) (next : n ≡ suc last) (fresh : holds_serial n hs ≡ false) where
  abbrev es : List Entry
  es = entries_of hs

  abbrev fs : List Part
  fs = functions (placed es)

  abbrev f_at : ℕ → Part
  f_at i = slice_index_or fs i nothing

  abbrev o : ℕ
  o = owner_at owners b

  abbrev e : Entry
  e = record { serial = n; kind = k }

  abbrev q : Placed
  q = record { entry = e; section = section_before text b es }

  quiet : is_frame k ≡ false
  quiet = removable_quiet k removable

  once : AreOnce es
  once s = once_placed s text hs keeps.fits.unique

  lacks : Lacks n es
  lacks = lacks_entries n hs fresh

  there : is_some (entry_of hs b) ≡ true
  there = holds_there b hs (clear_there (decided_from 0 kept ts us) b hs clear)

  code : InCode (decided_from 0 kept ts us) fs b
  code = clear_index (decided_from 0 kept ts us) fs b clear

  within : code.place < length kept
  within = omega (arith, code.within, decided_length 0 kept ts us)

  part : (i : ℕ) → i < length kept → slice_get fs i ≡ Some (f_at i)
  part i lt = get_some fs i nothing (omega (arith, lt, keeps.fits.all))

  between : (i : ℕ) → i < length kept → is_among n (code_part (part_with b q (f_at i))) ≡ stands_among (prev_placed None b (placed es)) (code_part (f_at i)) && is_among b (code_part (f_at i))
  between i lt = new_owned b e es code.place i (f_at code.place) (f_at i) quiet once lacks (part code.place within) code.among (part i lt)

  in_body : is_among b (f_at code.place).body ≡ true
  in_body = among_kept b (λ p. bytes_eq p.section.name (section_of (f_at code.place)).name) (f_at code.place).body code.among

  meets : (i : ℕ) → i < length kept → Meets b q o (suc i) (f_at i)
  meets i lt = record {
    before = all_at (IsClearBefore b) fs i nothing (stands_before_none (decided_from 0 kept ts us) b (placed es) (once b) clear) (omega (arith, lt, keeps.fits.all));
    own = keeps.fits.owners i lt b there;
    body = λ a. elim (cases_eq i code.place) [
      | inl s ↦ ap (λ j. is_among b (code_part (f_at j))) s ∙ code.among
      | inr d ↦ no (sym a ∙ lacks_among b (f_at i).body (in_one_body b (placed es) i code.place (f_at i) (f_at code.place) (once b) (part i lt) (part code.place within) d in_body))
    ];
    head = λ m s. heads_label b m (placed es) i (f_at i) (part i lt) s;
    new = λ y. and_second (stands_among (prev_placed None b (placed es)) (code_part (f_at i))) (is_among b (code_part (f_at i))) (sym (between i lt) ∙ y);
  }

  abbrev ks : List Held
  ks = held_inserted b (new_held n k) hs

  pub functions_grown : functions (placed (entries_of ks)) ≡ map (part_with b q) fs
  functions_grown = ap (λ xs. functions (placed xs)) (entries_inserted b n k hs) ∙ functions_inserted b e es quiet (once b)

  late : (ds : List DecidedFunction) → AllByRecursion (λ d. d.bounds.end ≤ last) ds → AllByRecursion (λ d. nat_eq n d.bounds.end ≡ false) ds
  late [] h = tt
  late (d ∷ ds) h = (ne_eqb n d.bounds.end (λ z. absurd (omega (arith, z, next, h.0))), late ds h.1)

  owner_is : (i : ℕ) → i < length kept → is_among n (code_part (part_with b q (f_at i))) ≡ nat_eq (owner_between hs owners b) (suc i)
  owner_is i lt = between i lt ∙ by_prev (prev_placed None b (placed es)) (prev_is b hs)
    where
      with_prev : (m : ℕ) → prev_of hs b ≡ Some m → is_among m (code_part (f_at i)) && is_among b (code_part (f_at i)) ≡ nat_eq (owner_with owners o (Some m)) (suc i)
      with_prev m s =
          ap (λ t. t && is_among b (code_part (f_at i))) (keeps.fits.owners i lt m (holds_there m hs (prev_held b m hs s)))
          ∙ ap (λ t. nat_eq (owner_at owners m) (suc i) && t) (keeps.fits.owners i lt b there)
          ∙ both_owners (owner_at owners m) o i

      by_prev : (p : Option Placed) → option_map (λ p. p.entry.serial) p ≡ prev_of hs b → stands_among p (code_part (f_at i)) && is_among b (code_part (f_at i)) ≡ nat_eq (owner_between hs owners b) (suc i)
      by_prev None s = sym (ne_eqb 0 (suc i) (λ z. absurd (omega (arith, z)))) ∙ ap (λ x. nat_eq (owner_with owners o x) (suc i)) s
      by_prev (Some r) s = with_prev r.entry.serial (sym s) ∙ ap (λ x. nat_eq (owner_with owners o x) (suc i)) s

  abbrev os : List ℕ
  os = owners ++ owner_between hs owners b ∷ []

  some_owners : 0 < length owners
  some_owners = some_owner owners (b - 1) code.place (eqb-true o (suc code.place) (sym (keeps.fits.owners code.place within b there) ∙ code.among))

  owners_grown : (i : ℕ) → i < length kept → (s : ℕ) → is_some (entry_of ks s) ≡ true → is_among s (code_part (slice_index_or (functions (placed (entries_of ks))) i nothing)) ≡ nat_eq (slice_index_or os (s - 1) 0) (suc i)
  owners_grown i lt s h =
      ap (λ xs. is_among s (code_part (slice_index_or xs i nothing))) functions_grown
      ∙ ap (λ f. is_among s (code_part f)) (get_or-map (part_with b q) fs i nothing nothing (omega (arith, lt, keeps.fits.all)))
      ∙ elim (cases_eq s n) [ inl z ↦ here z | inr d ↦ other d ]
    where
      here : s ≡ n → is_among s (code_part (part_with b q (f_at i))) ≡ nat_eq (slice_index_or os (s - 1) 0) (suc i)
      here z =
          let at : s - 1 ≡ length owners = omega (arith, z, next, keeps.many) in
          ap (λ m. is_among m (code_part (part_with b q (f_at i)))) z ∙ owner_is i lt
          ∙ ap (λ m. nat_eq m (suc i)) (sym (ap (λ m. slice_index_or os m 0) at ∙ at_end owners (owner_between hs owners b)))

      other : s ≢ n → is_among s (code_part (part_with b q (f_at i))) ≡ nat_eq (slice_index_or os (s - 1) 0) (suc i)
      other d =
          let apart : nat_eq n s ≡ false = ne_eqb n s (λ z. d (sym z)) in
          let some = some_owners in
          among_others b q quiet s (f_at i) apart
          ∙ keeps.fits.owners i lt s (sym (still_inserted b n s k hs apart) ∙ h)
          ∙ ap (λ m. nat_eq m (suc i)) (sym (at_other owners (owner_between hs owners b) (s - 1) (λ z. d (omega (arith, z, next, keeps.many, some)))))

  abbrev ds : List DecidedFunction
  ds = leads_with 0 o b (lead_power k) kept

  names_grown : NamesTell hs kept ts us names → NamesTell ks ds ts us names
  names_grown h =
      let t = names_last hs ks kept ts us names (ap lasting (entries_inserted b n k hs) ∙ insert_lasts b e es removable) h in
      let same : length ds ≡ length kept = leads_many o b (lead_power k) 0 kept in
      record {
        defined = t.defined;
        targets = λ i lt m. t.targets i (omega (arith, lt, same)) m ∙ ap (λ xs. target_within names.labels (suc i) (slice_index_or xs i []) m) (sym (leads_names o b (lead_power k) 0 kept));
        cells = λ i lt m. t.cells i (omega (arith, lt, same)) m;
      }

  pub keeps_inserted : Keeps ks n ds os ts us names
  keeps_inserted =
      let same : length ds ≡ length kept = leads_many o b (lead_power k) 0 kept in
      record {
        fits = record {
          unique = unique_inserted b (new_held n k) hs keeps.fits.unique fresh;
          few = omega (arith, keeps.fits.few, same);
          all = omega (arith, keeps.fits.all, same, ap length functions_grown, length-map fs (part_with b q));
          stand = subst (AllStand ks ds) (sym functions_grown) (stand_with b n k q refl quiet o hs 0 kept fs fresh (late kept keeps.given) (λ j lt. subst (λ x. Meets b q o (suc x) (f_at j)) (from_zero j) (meets j lt)) keeps.fits.stand);
          owners = λ i lt s h. owners_grown i (omega (arith, lt, same)) s h;
        };
        tell = names_grown keeps.tell;
        many = omega (arith, length-append owners (owner_between hs owners b ∷ []), keeps.many, next);
        given = leads_given o b (lead_power k) 0 last n kept (omega (arith, next)) keeps.given;
      }
    where
      from_zero : (j : ℕ) → j ≡ 0 + j
      from_zero j = omega arith

  -- every other entry stands in the codes in which it stood
  pub clear_inserted : (dec : List Decision) (s : ℕ) → s ≢ n → in_clear_code dec (functions (placed (entries_of ks))) s ≡ in_clear_code dec fs s
  clear_inserted dec s d = ap (λ xs. in_clear_code dec xs s) functions_grown ∙ in_each dec fs
    where
      in_each : (dec : List Decision) (gs : List Part) → in_clear_code dec (map (part_with b q) gs) s ≡ in_clear_code dec gs s
      in_each [] gs = refl
      in_each (x ∷ dec) [] = refl
      in_each (x ∷ dec) (g ∷ gs) =
          ap (λ t. (is_clear x && t) || in_clear_code dec (map (part_with b q) gs) s) (among_others b q quiet s g (ne_eqb n s (λ z. d (sym z))))
          ∙ ap (λ t. (is_clear x && is_among s (code_part g)) || t) (in_each dec gs)
