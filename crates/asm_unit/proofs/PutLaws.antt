-- Another instruction in the place of one: functions stay, and so does all that is kept beside the entries.
use Rattle.std.proofs.Common.{◌≡◌, ℕ, ◌<◌, Bool, true, false, cond, ◌||◌, nat_eq, inl, inr, List, [], ◌∷◌, map, length, Option, Some, None, refl, sym, ap, ◌∙◌, arith, subst, option_map}
use Rattle.std.specs.Prelude.{◌&&◌, slice_index_or, find, is_some}
use Rattle.std.specs.List.{AllByRecursion}
use Rattle.std.proofs.lemmas.Bool.{eqb-true, or_parts}
use Rattle.std.proofs.lemmas.List.{length-map, get_or-map}
use Rattle.insn_ir.specs.declared.entry.EntryKind.{EntryKind}
use Rattle.insn_ir.specs.declared.entry.Entry.{Entry}
use Rattle.jump_tables.specs.Sections.{Placed, placed, text}
use Rattle.asm_unit.specs.declared.decide.DecidedFunction.{DecidedFunction}
use Rattle.asm_unit.specs.Functions.{Part, nothing, functions, label_of, code_part, base_power}
use Rattle.asm_unit.specs.Tables.{is_among}
use Rattle.asm_unit.specs.Decisions.{Decision, is_clear}
use Rattle.asm_unit.specs.Edits.{is_frame, KeepsFrames, placed_map, part_map, has_serial}
use Rattle.asm_unit.specs.CodeLines.{put_entry}
use Rattle.asm_unit.specs.Held.{Held, serial_is, holds_serial, AreUnique, held_entry, entry_of, entries_of, new_held, held_put}
use Rattle.asm_unit.specs.Unit.{in_clear_code, is_removable_entry}
use Rattle.asm_unit.specs.UnitFields.{AllStand, Fits}
use Rattle.asm_unit.proofs.EndLaws.{end_put}
use Rattle.asm_unit.proofs.KeyLaws.{unique_put}
use Rattle.asm_unit.proofs.MappedCodes.{IsKept, find_mapped, code_mapped, kept_functions, functions_changed}
use Rattle.asm_unit.proofs.StandLaws.{IsClearBefore, once_placed, stands_before_none}
use Rattle.asm_unit.proofs.Taken.{HoldsInBody}
use Rattle.asm_unit.proofs.UnitLaws.{removable_quiet, all_at}

pub put_serial : (s : ℕ) (k : EntryKind) (e : Entry) → (put_entry s k e).serial ≡ e.serial
put_serial s k e = by_test (has_serial s e)
  where
    by_test : (b : Bool) → (cond b (record { serial = e.serial; kind = k }) e).serial ≡ e.serial
    by_test true = refl
    by_test false = refl

pub entries_put : (s : ℕ) (k : EntryKind) (hs : List Held) → entries_of (held_put s k hs) ≡ map (put_entry s k) (entries_of hs)
entries_put s k [] = refl
entries_put s k (x ∷ hs) = by_test (serial_is s x) ∙ ap (λ es. put_entry s k x.entry ∷ es) (entries_put s k hs)
  where
    by_test : (b : Bool) → (cond b (new_held x.entry.serial k) x).entry ∷ entries_of (held_put s k hs) ≡ cond b (record { serial = x.entry.serial; kind = k }) x.entry ∷ entries_of (held_put s k hs)
    by_test true = refl
    by_test false = refl

module _ (s : ℕ) (k : EntryKind) where
  same_kind : (e : Entry) → has_serial s e ≡ false → (put_entry s k e).kind ≡ e.kind
  same_kind e g = ap (λ b. (cond b (record { serial = e.serial; kind = k }) e).kind) g

  new_kind : (e : Entry) → has_serial s e ≡ true → (put_entry s k e).kind ≡ k
  new_kind e g = ap (λ b. (cond b (record { serial = e.serial; kind = k }) e).kind) g

  none_changes : (hs : List Held) → holds_serial s hs ≡ false → KeepsFrames (put_entry s k) (entries_of hs)
  none_changes [] h = tt
  none_changes (x ∷ hs) h = let w = or_parts (serial_is s x) (holds_serial s hs) h in (inl (same_kind x.entry w.0), none_changes hs w.1)

  pub keeps_frames : (hs : List Held) → AreUnique hs → is_removable_entry (entry_of hs s) ≡ true → is_frame k ≡ false → KeepsFrames (put_entry s k) (entries_of hs)
  keeps_frames [] u e f = tt
  keeps_frames (x ∷ hs) u e f = by_test (serial_is s x) refl e (λ r. keeps_frames hs u.1 r f)
    where
      by_test : (b : Bool) → serial_is s x ≡ b → is_removable_entry (held_entry (cond b (Some x) (find (serial_is s) hs))) ≡ true
          → (is_removable_entry (entry_of hs s) ≡ true → KeepsFrames (put_entry s k) (entries_of hs)) → KeepsFrames (put_entry s k) (entries_of (x ∷ hs))
      by_test true g r rest = (
        inr (removable_quiet x.entry.kind r, ap is_frame (new_kind x.entry g) ∙ f),
        none_changes hs (ap (λ n. holds_serial n hs) (sym (eqb-true x.entry.serial s g)) ∙ u.0),
      )
      by_test false g r rest = (inl (same_kind x.entry g), rest r)

  pub functions_put : (hs : List Held) → KeepsFrames (put_entry s k) (entries_of hs) → functions (placed (entries_of (held_put s k hs))) ≡ map (part_map (put_entry s k)) (functions (placed (entries_of hs)))
  functions_put hs w = ap (λ es. functions (placed es)) (entries_put s k hs) ∙ functions_changed (put_entry s k) (entries_of hs) w

  among_mapped : (other : ℕ) (ps : List Placed) → is_among other (map (placed_map (put_entry s k)) ps) ≡ is_among other ps
  among_mapped other [] = refl
  among_mapped other (p ∷ ps) =
      ap (λ n. nat_eq n other || is_among other (map (placed_map (put_entry s k)) ps)) (put_serial s k p.entry) ∙ ap (λ b. nat_eq p.entry.serial other || b) (among_mapped other ps)

  among_code : (other : ℕ) (q : Part) → HoldsInBody (IsKept (put_entry s k)) q → is_among other (code_part (part_map (put_entry s k) q)) ≡ is_among other (code_part q)
  among_code other q w = ap (is_among other) (code_mapped (put_entry s k) q w) ∙ among_mapped other (code_part q)

  serial_put : (o : Option Placed) → option_map (λ p. p.entry.serial) (option_map (placed_map (put_entry s k)) o) ≡ option_map (λ p. p.entry.serial) o
  serial_put None = refl
  serial_put (Some p) = ap Some (put_serial s k p.entry)

  label_put : (q : Part) → HoldsInBody (IsKept (put_entry s k)) q → option_map (λ p. p.entry.serial) (label_of (part_map (put_entry s k) q)) ≡ option_map (λ p. p.entry.serial) (label_of q)
  label_put q w = ap (option_map (λ p. p.entry.serial)) (find_mapped (put_entry s k) q.body w) ∙ serial_put (label_of q)

  map_stays : (ps : List Placed) → is_among s ps ≡ false → map (placed_map (put_entry s k)) ps ≡ ps
  map_stays [] e = refl
  map_stays (p ∷ ps) e =
      let w = or_parts (nat_eq p.entry.serial s) (is_among s ps) e in
      ap (λ b. record { entry = cond b (record { serial = p.entry.serial; kind = k }) p.entry; section = p.section } ∷ map (placed_map (put_entry s k)) ps) w.0
      ∙ ap (λ xs. p ∷ xs) (map_stays ps w.1)

  stand_put : (hs : List Held) (ds : List DecidedFunction) (qs : List Part) → AllByRecursion (IsClearBefore s) qs → AllByRecursion (HoldsInBody (IsKept (put_entry s k))) qs
      → AllStand hs ds qs → AllStand (held_put s k hs) ds (map (part_map (put_entry s k)) qs)
  stand_put hs [] qs h w a = tt
  stand_put hs (d ∷ ds) [] h w a = a
  stand_put hs (d ∷ ds) (q ∷ qs) h w a = (
    record {
      label = label_put q w.0 ∙ a.0.label;
      small = a.0.small;
      base = a.0.base ∙ ap (λ xs. base_power (record { before = xs; body = q.body })) (sym (map_stays q.before h.0));
      ends = end_put (λ other. is_among other (code_part q)) (λ other. is_among other (code_part (part_map (put_entry s k) q)))
          (λ other e. sym (among_code other q w.0) ∙ e) s k d.bounds.end hs a.0.ends;
    },
    stand_put hs ds qs h.1 w.1 a.1,
  )

  still_put : (other : ℕ) (hs : List Held) → is_some (entry_of (held_put s k hs) other) ≡ is_some (entry_of hs other)
  still_put other [] = refl
  still_put other (x ∷ hs) =
      by_gone (serial_is s x) ∙ by_here (serial_is other x) (still_put other hs)
    where
      by_gone : (b : Bool) → is_some (held_entry (cond (nat_eq (cond b (new_held x.entry.serial k) x).entry.serial other) (Some (cond b (new_held x.entry.serial k) x)) (find (serial_is other) (held_put s k hs))))
          ≡ is_some (held_entry (cond (serial_is other x) (Some x) (find (serial_is other) (held_put s k hs))))
      by_gone true = by_new (serial_is other x)
        where
          by_new : (c : Bool) → is_some (held_entry (cond c (Some (new_held x.entry.serial k)) (find (serial_is other) (held_put s k hs)))) ≡ is_some (held_entry (cond c (Some x) (find (serial_is other) (held_put s k hs))))
          by_new true = refl
          by_new false = refl
      by_gone false = refl

      by_here : (c : Bool) → is_some (entry_of (held_put s k hs) other) ≡ is_some (entry_of hs other)
          → is_some (held_entry (cond c (Some x) (find (serial_is other) (held_put s k hs)))) ≡ is_some (held_entry (cond c (Some x) (find (serial_is other) hs)))
      by_here true e = refl
      by_here false e = e

  -- an entry stands in the codes in which it stood
  pub among_put : (other i : ℕ) (hs : List Held) → KeepsFrames (put_entry s k) (entries_of hs) → i < length (functions (placed (entries_of hs)))
      → is_among other (code_part (slice_index_or (functions (placed (entries_of (held_put s k hs)))) i nothing)) ≡ is_among other (code_part (slice_index_or (functions (placed (entries_of hs))) i nothing))
  among_put other i hs w lt =
      let fs = functions (placed (entries_of hs)) in
      ap (λ qs. is_among other (code_part (slice_index_or qs i nothing))) (functions_put hs w)
      ∙ ap (λ q. is_among other (code_part q)) (get_or-map (part_map (put_entry s k)) fs i nothing nothing lt)
      ∙ among_code other (slice_index_or fs i nothing)
      (all_at (HoldsInBody (IsKept (put_entry s k))) fs i nothing (kept_functions (put_entry s k) (entries_of hs) w) lt)

  pub fits_put : (hs : List Held) (ds : List Decision) (kept : List DecidedFunction) (numbers : List ℕ) → Fits hs kept numbers → is_removable_entry (entry_of hs s) ≡ true → is_frame k ≡ false
      → in_clear_code ds (functions (placed (entries_of hs))) s ≡ true → Fits (held_put s k hs) kept numbers
  fits_put hs ds kept numbers h e f clear =
      let w = keeps_frames hs h.unique e f in
      let fs = functions (placed (entries_of hs)) in
      record {
        unique = unique_put s k hs h.unique;
        few = h.few;
        all = omega (arith, h.all, ap length (functions_put hs w), length-map fs (part_map (put_entry s k)));
        stand = subst (AllStand (held_put s k hs) kept) (sym (functions_put hs w))
            (stand_put hs kept fs (stands_before_none ds s (placed (entries_of hs)) (once_placed s text hs h.unique) clear) (kept_functions (put_entry s k) (entries_of hs) w) h.stand);
        owners = λ i lt other there. among_put other i hs w (omega (arith, lt, h.all)) ∙ h.owners i lt other (sym (still_put other hs) ∙ there);
      }

  pub clear_put : (ds : List Decision) (other : ℕ) (hs : List Held) → KeepsFrames (put_entry s k) (entries_of hs)
      → in_clear_code ds (functions (placed (entries_of (held_put s k hs)))) other ≡ in_clear_code ds (functions (placed (entries_of hs))) other
  clear_put ds other hs w =
      ap (λ qs. in_clear_code ds qs other) (functions_put hs w) ∙ in_each ds (functions (placed (entries_of hs))) (kept_functions (put_entry s k) (entries_of hs) w)
    where
      in_each : (ds : List Decision) (qs : List Part) → AllByRecursion (HoldsInBody (IsKept (put_entry s k))) qs → in_clear_code ds (map (part_map (put_entry s k)) qs) other ≡ in_clear_code ds qs other
      in_each [] qs v = refl
      in_each (d ∷ ds) [] v = refl
      in_each (d ∷ ds) (q ∷ qs) v =
          ap (λ b. (is_clear d && b) || in_clear_code ds (map (part_map (put_entry s k)) qs) other) (among_code other q v.0)
          ∙ ap (λ b. (is_clear d && is_among other (code_part q)) || b) (in_each ds qs v.1)
