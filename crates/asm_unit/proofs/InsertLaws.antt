-- An entry comes before one of a code: what is kept beside the entries follows.
use Rattle.std.proofs.Common.{◌≡◌, ◌⊎◌, ℕ, zero, suc, ◌+◌, ◌<◌, ◌≤◌, Bool, true, false, cond, ◌||◌, nat_eq, inl, inr, List, [], ◌∷◌, ◌++◌, map, length, Option, Some, None, refl, sym, ap, ◌∙◌, arith, subst, option_map, append-nil}
use Rattle.std.specs.Prelude.{◌&&◌, slice_index_or, slice_set, find}
use Rattle.std.specs.List.{AllByRecursion}
use Rattle.std.proofs.lemmas.Bool.{eq-eqb, ne_eqb, eqb-true, or_parts}
use Rattle.insn_ir.specs.declared.entry.EntryKind.{EntryKind}
use Rattle.jump_tables.specs.declared.table.Table as FileTable
use Rattle.jump_tables.specs.Sections.{Placed}
use Rattle.asm_unit.specs.declared.decide.DecidedFunction.{DecidedFunction}
use Rattle.asm_unit.specs.Functions.{Part, nothing, label_of, code_part, base_power, leads_kind, full_power, greatest, longest_lead}
use Rattle.asm_unit.specs.Tables.{is_among}
use Rattle.asm_unit.specs.Edits.{is_frame}
use Rattle.asm_unit.specs.Grown.{put_before, heads, part_with}
use Rattle.asm_unit.specs.Held.{Held, holds_serial, behind, new_held, held_inserted}
use Rattle.asm_unit.specs.UnitFields.{StandsAt, AllStand, decided_at, decided_from, lead_power, power_behind, lead_with, leads_with}
use Rattle.asm_unit.proofs.EndLaws.{end_inserted}
use Rattle.asm_unit.proofs.GrownCodes.{label_with, among_others}
use Rattle.asm_unit.proofs.WalkParts.{lead_goes_on, lead_stops, greatest_more, map_more}

no : {P : Type 0} → true ≡ false → P
no e = absurd (cc)

-- the base power of a lead with one entry more
pub power_with : (xs ys : List Placed) (q : Placed) → base_power (record { before = xs ++ q ∷ []; body = ys }) ≡ power_behind (base_power (record { before = xs; body = ys })) (lead_power q.entry.kind)
power_with xs ys q = by_test (leads_kind q.entry.kind) refl
  where
    by_test : (t : Bool) → leads_kind q.entry.kind ≡ t → greatest (map (λ p. full_power p.entry.kind) (longest_lead (xs ++ q ∷ []))) ≡ power_behind (greatest (map (λ p. full_power p.entry.kind) (longest_lead xs))) (cond t (Some (full_power q.entry.kind)) None)
    by_test true e =
        ap (λ ps. greatest (map (λ p. full_power p.entry.kind) ps)) (lead_goes_on xs q e) ∙ ap greatest (map_more (longest_lead xs) q) ∙ greatest_more (map (λ p. full_power p.entry.kind) (longest_lead xs)) (full_power q.entry.kind)
    by_test false e = ap (λ ps. greatest (map (λ p. full_power p.entry.kind) ps)) (lead_stops xs q e)

put_stays : (b : ℕ) (q : Placed) (ps : List Placed) → is_among b ps ≡ false → put_before b q ps ≡ ps
put_stays b q [] e = refl
put_stays b q (p ∷ ps) e =
    let w = or_parts (nat_eq p.entry.serial b) (is_among b ps) e in
    ap (λ t. cond t (q ∷ p ∷ ps) (p ∷ put_before b q ps)) w.0 ∙ ap (λ xs. p ∷ xs) (put_stays b q ps w.1)

head_among : (b : ℕ) (ps : List Placed) → heads b ps ≡ true → is_among b ps ≡ true
head_among b [] e = e
head_among b (p ∷ ps) e = ap (λ t. t || is_among b ps) e

-- what is known of a function of a number when an entry comes before that of a serial
pub record Meets (b : ℕ) (q : Placed) (o number : ℕ) (f : Part) : Type 0 where
  pub before : is_among b f.before ≡ false
  pub own : is_among b (code_part f) ≡ nat_eq o number
  pub body : is_among b f.body ≡ true → is_among b (code_part f) ≡ true
  pub head : (m : ℕ) → option_map (λ p. p.entry.serial) (label_of f) ≡ Some m → heads b f.body ≡ nat_eq m b
  pub new : is_among q.entry.serial (code_part (part_with b q f)) ≡ true → is_among b (code_part f) ≡ true

module _ (b n : ℕ) (k : EntryKind) (q : Placed) (new : q.entry ≡ record { serial = n; kind = k }) (quiet : is_frame k ≡ false) (o : ℕ) where
  abbrev after : Bool → DecidedFunction → DecidedFunction
  after t d = cond t (lead_with b (lead_power k) d) d

  label_same : (t : Bool) (d : DecidedFunction) → (after t d).bounds.label ≡ d.bounds.label
  label_same true d = by_test (nat_eq (suc d.bounds.label) b)
    where
      by_test : (u : Bool) → (cond u (record d { bounds = record d.bounds { base = power_behind d.bounds.base (lead_power k) } }) d).bounds.label ≡ d.bounds.label
      by_test true = refl
      by_test false = refl
  label_same false d = refl

  end_same : (t : Bool) (d : DecidedFunction) → (after t d).bounds.end ≡ d.bounds.end
  end_same true d = by_test (nat_eq (suc d.bounds.label) b)
    where
      by_test : (u : Bool) → (cond u (record d { bounds = record d.bounds { base = power_behind d.bounds.base (lead_power k) } }) d).bounds.end ≡ d.bounds.end
      by_test true = refl
      by_test false = refl
  end_same false d = refl

  base_is : (u : Bool) (d : DecidedFunction) → nat_eq (suc d.bounds.label) b ≡ u → (lead_with b (lead_power k) d).bounds.base ≡ cond u (power_behind d.bounds.base (lead_power k)) d.bounds.base
  base_is true d e = ap (λ t. (cond t (record d { bounds = record d.bounds { base = power_behind d.bounds.base (lead_power k) } }) d).bounds.base) e
  base_is false d e = ap (λ t. (cond t (record d { bounds = record d.bounds { base = power_behind d.bounds.base (lead_power k) } }) d).bounds.base) e

  abbrev grown : Part → Part
  grown f = part_with b q f

  base_with : (hs : List Held) (d : DecidedFunction) (number : ℕ) (f : Part) → Meets b q o number f → StandsAt hs d.bounds f → (after (nat_eq o number) d).bounds.base ≡ base_power (grown f)
  base_with hs d number f m s = by_head (heads b f.body) refl
    where
      front : (t : Bool) → heads b f.body ≡ t → (grown f).before ≡ f.before ++ (cond t (q ∷ []) [])
      front t g = ap (λ xs. xs ++ (cond (heads b f.body) (q ∷ []) [])) (put_stays b q f.before m.before) ∙ ap (λ u. f.before ++ (cond u (q ∷ []) [])) g

      by_owner : (t : Bool) → heads b f.body ≡ false → (after t d).bounds.base ≡ d.bounds.base
      by_owner true g = base_is false d (sym (m.head (suc d.bounds.label) s.label) ∙ g)
      by_owner false g = refl

      by_head : (t : Bool) → heads b f.body ≡ t → (after (nat_eq o number) d).bounds.base ≡ base_power (grown f)
      by_head true g =
          let owned : nat_eq o number ≡ true = sym m.own ∙ m.body (head_among b f.body g) in
          ap (λ t. (after t d).bounds.base) owned
          ∙ base_is true d (sym (m.head (suc d.bounds.label) s.label) ∙ g)
          ∙ ap (λ p. power_behind p (lead_power k)) s.base
          ∙ ap (λ e. power_behind (base_power f) (lead_power e.kind)) (sym new)
          ∙ sym (power_with f.before f.body q)
          ∙ ap (λ xs. base_power (record { before = xs; body = f.body })) (sym (front true g))
      by_head false g =
          by_owner (nat_eq o number) g
          ∙ s.base
          ∙ ap (λ xs. base_power (record { before = xs; body = f.body })) (sym (front false g ∙ append-nil f.before))

  quiet_new : is_frame q.entry.kind ≡ false
  quiet_new = ap (λ e. is_frame e.kind) new ∙ quiet

  serial_new : (s : ℕ) → nat_eq q.entry.serial s ≡ nat_eq n s
  serial_new s = ap (λ e. nat_eq e.serial s) new

  stand_one : (hs : List Held) (d : DecidedFunction) (number : ℕ) (f : Part) → Meets b q o number f → nat_eq n d.bounds.end ≡ false → holds_serial n hs ≡ false → StandsAt hs d.bounds f
      → StandsAt (held_inserted b (new_held n k) hs) (after (nat_eq o number) d).bounds (grown f)
  stand_one hs d number f m late fresh s =
      let t = nat_eq o number in
      record {
        label = ap (option_map (λ p. p.entry.serial)) (label_with b q quiet_new f) ∙ s.label ∙ ap (λ l. Some (suc l)) (sym (label_same t d));
        small = omega (arith, s.small, label_same t d);
        base = base_with hs d number f m s;
        ends = ap (λ e. option_map (λ h. h.entry.serial) (find (λ h. is_among h.entry.serial (code_part (grown f))) (behind e (held_inserted b (new_held n k) hs)))) (end_same t d)
            ∙ end_inserted (λ x. is_among x (code_part f)) (λ x. is_among x (code_part (grown f))) b n k
            (λ x e y. sym (among_others b q quiet_new x f (serial_new x ∙ e)) ∙ y)
            (λ y. m.new (ap (λ e. is_among e.serial (code_part (grown f))) new ∙ y)) d.bounds.end hs late fresh s.ends;
      }

  pub stand_with : (hs : List Held) (i : ℕ) (ds : List DecidedFunction) (qs : List Part) → holds_serial n hs ≡ false → AllByRecursion (λ d. nat_eq n d.bounds.end ≡ false) ds
      → ((j : ℕ) → j < length ds → Meets b q o (suc (i + j)) (slice_index_or qs j nothing)) → AllStand hs ds qs
      → AllStand (held_inserted b (new_held n k) hs) (leads_with i o b (lead_power k) ds) (map grown qs)
  stand_with hs i [] qs fresh late m a = tt
  stand_with hs i (d ∷ ds) [] fresh late m a = a
  stand_with hs i (d ∷ ds) (f ∷ fs) fresh late m a = (
    stand_one hs d (suc i) f (subst (λ x. Meets b q o (suc x) f) from_zero (m 0 (omega arith))) late.0 fresh a.0,
    stand_with hs (suc i) ds fs fresh late.1 (λ j lt. subst (λ x. Meets b q o (suc x) (slice_index_or fs j nothing)) (shift j) (m (suc j) (omega (arith, lt)))) a.1,
  )
    where
      from_zero : i + 0 ≡ i
      from_zero = omega arith

      shift : (j : ℕ) → i + suc j ≡ suc i + j
      shift j = omega arith

pub same_index : (ds : List DecidedFunction) (i : ℕ) (d e : DecidedFunction) → i < length ds → slice_index_or ds i d ≡ slice_index_or ds i e
same_index [] i d e lt = absurd (omega (arith, lt))
same_index (x ∷ ds) zero d e lt = refl
same_index (x ∷ ds) (suc i) d e lt = same_index ds i d e (omega (arith, lt))

-- no function has this number, or the one that has it has another label
pub leads_none : (i o b : ℕ) (power : Option ℕ) (ds : List DecidedFunction) → (o < suc i) ⊎ (i + length ds < o) → leads_with i o b power ds ≡ ds
leads_none i o b power [] h = refl
leads_none i o b power (x ∷ ds) h =
    ap (λ t. cond t (lead_with b power x) x ∷ leads_with (suc i) o b power ds) (ne_eqb o (suc i) (differs h))
    ∙ ap (λ xs. x ∷ xs) (leads_none (suc i) o b power ds (further h))
  where
    differs : (o < suc i) ⊎ (i + suc (length ds) < o) → o ≡ suc i → ⊥
    differs (inl l) e = omega (arith, l, e)
    differs (inr l) e = omega (arith, l, e)

    further : (o < suc i) ⊎ (i + suc (length ds) < o) → (o < suc (suc i)) ⊎ (suc i + length ds < o)
    further (inl l) = inl (omega (arith, l))
    further (inr l) = inr (omega (arith, l))

pub leads_set : (i j o b : ℕ) (power : Option ℕ) (ds : List DecidedFunction) (d : DecidedFunction) → j < length ds → o ≡ suc (i + j) → leads_with i o b power ds ≡ slice_set ds j (lead_with b power (slice_index_or ds j d))
leads_set i j o b power [] d lt e = absurd (omega (arith, lt))
leads_set i zero o b power (x ∷ ds) d lt e =
    ap (λ t. cond t (lead_with b power x) x ∷ leads_with (suc i) o b power ds) (eq-eqb o (suc i) (omega (arith, e)))
    ∙ ap (λ xs. lead_with b power x ∷ xs) (leads_none (suc i) o b power ds (inl (omega (arith, e))))
leads_set i (suc j) o b power (x ∷ ds) d lt e =
    ap (λ t. cond t (lead_with b power x) x ∷ leads_with (suc i) o b power ds) (ne_eqb o (suc i) (λ q. absurd (omega (arith, q, e))))
    ∙ ap (λ xs. x ∷ xs) (leads_set (suc i) j o b power ds d (omega (arith, lt)) (omega (arith, e)))

pub leads_left : (i j o b : ℕ) (power : Option ℕ) (ds : List DecidedFunction) (d : DecidedFunction) → j < length ds → o ≡ suc (i + j) → nat_eq (suc (slice_index_or ds j d).bounds.label) b ≡ false → leads_with i o b power ds ≡ ds
leads_left i j o b power [] d lt e l = absurd (omega (arith, lt))
leads_left i zero o b power (x ∷ ds) d lt e l =
    ap (λ t. cond t (lead_with b power x) x ∷ leads_with (suc i) o b power ds) (eq-eqb o (suc i) (omega (arith, e)))
    ∙ ap (λ t. cond t (record x { bounds = record x.bounds { base = power_behind x.bounds.base power } }) x ∷ leads_with (suc i) o b power ds) l
    ∙ ap (λ xs. x ∷ xs) (leads_none (suc i) o b power ds (inl (omega (arith, e))))
leads_left i (suc j) o b power (x ∷ ds) d lt e l =
    ap (λ t. cond t (lead_with b power x) x ∷ leads_with (suc i) o b power ds) (ne_eqb o (suc i) (λ q. absurd (omega (arith, q, e))))
    ∙ ap (λ xs. x ∷ xs) (leads_left (suc i) j o b power ds d (omega (arith, lt)) (omega (arith, e)) l)

-- what is decided of functions stays, and so do their ends
module _ (o b : ℕ) (power : Option ℕ) where
  one_decided : (t : Bool) (i : ℕ) (d : DecidedFunction) (ts : List FileTable.Table) (us : List ℕ) → decided_at i (cond t (lead_with b power d) d) ts us ≡ decided_at i d ts us
  one_decided true i d ts us = by_test (nat_eq (suc d.bounds.label) b)
    where
      by_test : (u : Bool) → decided_at i (cond u (record d { bounds = record d.bounds { base = power_behind d.bounds.base power } }) d) ts us ≡ decided_at i d ts us
      by_test true = refl
      by_test false = refl
  one_decided false i d ts us = refl

  pub decided_same : (i : ℕ) (ds : List DecidedFunction) (ts : List FileTable.Table) (us : List ℕ) → decided_from i (leads_with i o b power ds) ts us ≡ decided_from i ds ts us
  decided_same i [] ts us = refl
  decided_same i (d ∷ ds) ts us =
      ap (λ x. x ∷ decided_from (suc i) (leads_with (suc i) o b power ds) ts us) (one_decided (nat_eq o (suc i)) i d ts us) ∙ ap (λ xs. decided_at i d ts us ∷ xs) (decided_same (suc i) ds ts us)

  pub leads_many : (i : ℕ) (ds : List DecidedFunction) → length (leads_with i o b power ds) ≡ length ds
  leads_many i [] = refl
  leads_many i (d ∷ ds) = ap suc (leads_many (suc i) ds)

  one_name : (t : Bool) (d : DecidedFunction) → (cond t (lead_with b power d) d).name ≡ d.name
  one_name true d = by_test (nat_eq (suc d.bounds.label) b)
    where
      by_test : (u : Bool) → (cond u (record d { bounds = record d.bounds { base = power_behind d.bounds.base power } }) d).name ≡ d.name
      by_test true = refl
      by_test false = refl
  one_name false d = refl

  pub leads_names : (i : ℕ) (ds : List DecidedFunction) → map (λ d. d.name) (leads_with i o b power ds) ≡ map (λ d. d.name) ds
  leads_names i [] = refl
  leads_names i (d ∷ ds) = ap (λ x. x ∷ map (λ d. d.name) (leads_with (suc i) o b power ds)) (one_name (nat_eq o (suc i)) d) ∙ ap (λ xs. d.name ∷ xs) (leads_names (suc i) ds)

  one_end : (t : Bool) (d : DecidedFunction) → (cond t (lead_with b power d) d).bounds.end ≡ d.bounds.end
  one_end true d = by_test (nat_eq (suc d.bounds.label) b)
    where
      by_test : (u : Bool) → (cond u (record d { bounds = record d.bounds { base = power_behind d.bounds.base power } }) d).bounds.end ≡ d.bounds.end
      by_test true = refl
      by_test false = refl
  one_end false d = refl

  pub leads_given : (i m n : ℕ) (ds : List DecidedFunction) → m ≤ n → AllByRecursion (λ d. d.bounds.end ≤ m) ds → AllByRecursion (λ d. d.bounds.end ≤ n) (leads_with i o b power ds)
  leads_given i m n [] le h = tt
  leads_given i m n (d ∷ ds) le h = (omega (arith, one_end (nat_eq o (suc i)) d, h.0, le), leads_given (suc i) m n ds le h.1)

-- the owner of the new entry tells in which code it stands
pub both_owners : (r o number : ℕ) → nat_eq r (suc number) && nat_eq o (suc number) ≡ nat_eq (cond (nat_eq r o) o 0) (suc number)
both_owners r o number = by_same (nat_eq r o) refl
  where
    idempotent : (t : Bool) → (t && t) ≡ t
    idempotent true = refl
    idempotent false = refl

    none : nat_eq r o ≡ false → (t : Bool) → nat_eq r (suc number) ≡ t → (u : Bool) → nat_eq o (suc number) ≡ u → (t && u) ≡ false
    none d true g true h = absurd (no (sym (eq-eqb r o (omega (arith, eqb-true r (suc number) g, eqb-true o (suc number) h))) ∙ d))
    none d true g false h = refl
    none d false g u h = refl

    by_same : (t : Bool) → nat_eq r o ≡ t → nat_eq r (suc number) && nat_eq o (suc number) ≡ nat_eq (cond t o 0) (suc number)
    by_same true g = ap (λ m. nat_eq m (suc number) && nat_eq o (suc number)) (eqb-true r o g) ∙ idempotent (nat_eq o (suc number))
    by_same false g = none g (nat_eq r (suc number)) refl (nat_eq o (suc number)) refl ∙ sym (ne_eqb 0 (suc number) (λ q. absurd (omega (arith, q))))
