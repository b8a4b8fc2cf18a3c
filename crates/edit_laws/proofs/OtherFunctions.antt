-- Functions stay, but for the one that is edited.
use Rattle.std.proofs.Common.{◌≡◌, ◌≢◌, ◌⊎◌, inl, inr, ℕ, zero, suc, Bool, true, false, not, cond, List, [], ◌∷◌, map, Some, None, refl, sym, ap, ◌∙◌, subst}
use Rattle.std.specs.Prelude.{slice_get, slice_index_or, find, is_some}
use Rattle.std.specs.List.{AllByRecursion}
use Rattle.std.proofs.lemmas.Bool.{eq-eqb}
use Rattle.insn_ir.specs.declared.entry.Entry.{Entry}
use Rattle.insn_ir.specs.declared.entry.EntryKind.{EntryKind}
use Rattle.jump_tables.specs.Sections.{Placed, placed, text}
use Rattle.asm_unit.specs.CodeLines.{put_entry}
use Rattle.asm_unit.specs.Edits.{has_serial, placed_without, part_without, placed_map, part_map}
use Rattle.asm_unit.specs.Functions.{Part, nothing, label_of, code_part, parts, functions}
use Rattle.asm_unit.specs.Grown.{LacksPlaced, heads, put_before, part_with, section_before}
use Rattle.asm_unit.specs.declared.held.Held.{Held}
use Rattle.asm_unit.specs.Held.{serial_is, entries_of, held_without, held_put, held_inserted, new_held}
use Rattle.asm_unit.specs.Tables.{is_among}
use Rattle.asm_unit.specs.Unit.{Unit, functions_of}
use Rattle.asm_unit.proofs.GrownCodes.{functions_inserted}
use Rattle.asm_unit.proofs.InsertFits.{entries_inserted}
use Rattle.asm_unit.proofs.OnceLaws.{all_kept, among_lacks, among_kept, in_one_body}
use Rattle.asm_unit.proofs.OtherEntries.{other_without, other_put, other_inserted}
use Rattle.asm_unit.proofs.PutLaws.{functions_put, keeps_frames}
use Rattle.asm_unit.proofs.StandLaws.{among_placed, once_placed}
use Rattle.asm_unit.proofs.Taken.{HoldsInBody, all_parts}
use Rattle.asm_unit.proofs.UnitLaws.{removable_quiet, insn_removable, takes_no_frame, functions_left}
use Rattle.unit_edits.specs.Bodies.{body_of}
use Rattle.edit_laws.specs.Stays.{IsSound, FunctionStays}
use Rattle.edit_laws.proofs.Sound.{fresh}
use Rattle.edit_laws.proofs.Steps.{OfSteps}

no : {P : Type 0} → true ≡ false → P
no e = absurd (cc)

-- one after the other

all_same : (ps : List Placed) (hs : List Held) → AllByRecursion (λ p. find (serial_is p.entry.serial) hs ≡ find (serial_is p.entry.serial) hs) ps
all_same [] hs = tt
all_same (p ∷ ps) hs = (refl, all_same ps hs)

pub stays_refl : (u : Unit) (k : ℕ) → FunctionStays u u k
stays_refl u k = record { body = refl; held = all_same (body_of u k).body u.held }

all_both : (ps : List Placed) (gs hs ks : List Held) → AllByRecursion (λ p. find (serial_is p.entry.serial) hs ≡ find (serial_is p.entry.serial) gs) ps
    → AllByRecursion (λ p. find (serial_is p.entry.serial) ks ≡ find (serial_is p.entry.serial) hs) ps → AllByRecursion (λ p. find (serial_is p.entry.serial) ks ≡ find (serial_is p.entry.serial) gs) ps
all_both [] gs hs ks a b = tt
all_both (p ∷ ps) gs hs ks a b = (b.0 ∙ a.0, all_both ps gs hs ks a.1 b.1)

pub stays_trans : (u v w : Unit) (k : ℕ) → FunctionStays u v k → FunctionStays v w k → FunctionStays u w k
stays_trans u v w k a b = record {
  body = b.body ∙ a.body;
  held = all_both (body_of u k).body u.held v.held w.held a.held
      (subst (λ ps. AllByRecursion (λ p. find (serial_is p.entry.serial) w.held ≡ find (serial_is p.entry.serial) v.held) ps) a.body b.held);
}

-- by places

pub body_map : (h : Part → Part) (fs : List Part) (k : ℕ) → h nothing ≡ nothing → slice_index_or (map h fs) k nothing ≡ h (slice_index_or fs k nothing)
body_map h [] k e = sym e
body_map h (x ∷ fs) zero e = refl
body_map h (x ∷ fs) (suc k) e = body_map h fs k e

pub at_place : (fs : List Part) (k : ℕ) → (slice_index_or fs k nothing ≡ nothing) ⊎ (slice_get fs k ≡ Some (slice_index_or fs k nothing))
at_place [] k = inl refl
at_place (x ∷ fs) zero = inr refl
at_place (x ∷ fs) (suc k) = at_place fs k

all_at : (T : Part → Type 0) (fs : List Part) (k : ℕ) → AllByRecursion T fs → T nothing → T (slice_index_or fs k nothing)
all_at T [] k a t = t
all_at T (x ∷ fs) zero a t = a.0
all_at T (x ∷ fs) (suc k) a t = all_at T fs k a.1 t

-- an entry of the code of a function stands in no other body
pub others_lack : (u : Unit) (f k s : ℕ) → IsSound u → is_among s (code_part (body_of u f)) ≡ true → k ≢ f → LacksPlaced s (body_of u k).body
others_lack u f k s sound among apart = elim (at_place fs k) [ inl e ↦ subst (λ q. LacksPlaced s q.body) (sym e) tt | inr e ↦ by_owner e (at_place fs f) ]
  where
    fs : List Part
    fs = functions_of u

    by_owner : slice_get fs k ≡ Some (body_of u k) → (body_of u f ≡ nothing) ⊎ (slice_get fs f ≡ Some (body_of u f)) → LacksPlaced s (body_of u k).body
    by_owner e (inl g) = no (sym among ∙ ap (λ q. is_among s (code_part q)) g)
    by_owner e (inr g) =
        in_one_body s (placed (entries_of u.held)) k f (body_of u k) (body_of u f) (once_placed s text u.held sound.once) e g apart (among_kept s _ (body_of u f).body among)

-- the next serial stands in no body
pub new_lacks : (u : Unit) (k : ℕ) → IsSound u → LacksPlaced (suc u.last) (body_of u k).body
new_lacks u k sound =
    let n = suc u.last in
    let ps = placed (entries_of u.held) in
    let all : LacksPlaced n ps = among_lacks n ps (among_placed n text u.held ∙ fresh u.last u.held sound.given) in
    all_at (HoldsInBody (λ p. has_serial n p.entry ≡ false)) (functions ps) k
    (all_kept (HoldsInBody (λ p. has_serial n p.entry ≡ false)) (λ q. is_some (label_of q)) (parts ps) (all_parts (λ p. has_serial n p.entry ≡ false) ps [] None all)) tt

-- bodies without the serial stay

module _ (s : ℕ) where
  pub apart_from : (p : Placed) → has_serial s p.entry ≡ false → p.entry.serial ≢ s
  apart_from p l e = no (sym (eq-eqb p.entry.serial s e) ∙ l)

  pub left_alone : (ps : List Placed) → LacksPlaced s ps → placed_without (has_serial s) ps ≡ ps
  left_alone [] l = refl
  left_alone (p ∷ ps) l =
      ap (λ b. cond (not b) (p ∷ placed_without (has_serial s) ps) (placed_without (has_serial s) ps)) l.0 ∙ ap (λ xs. p ∷ xs) (left_alone ps l.1)

  pub put_elsewhere : (k : EntryKind) (ps : List Placed) → LacksPlaced s ps → map (placed_map (put_entry s k)) ps ≡ ps
  put_elsewhere k [] l = refl
  put_elsewhere k (p ∷ ps) l =
      ap (λ b. (let x : Placed = record { entry = cond b (record { serial = p.entry.serial; kind = k }) p.entry; section = p.section } in x) ∷ map (placed_map (put_entry s k)) ps) l.0
      ∙ ap (λ xs. p ∷ xs) (put_elsewhere k ps l.1)

  pub comes_elsewhere : (q : Placed) (ps : List Placed) → LacksPlaced s ps → put_before s q ps ≡ ps
  comes_elsewhere q [] l = refl
  comes_elsewhere q (p ∷ ps) l = ap (λ b. cond b (q ∷ p ∷ ps) (p ∷ put_before s q ps)) l.0 ∙ ap (λ xs. p ∷ xs) (comes_elsewhere q ps l.1)

  pub body_alone : (q : Placed) (f : Part) → LacksPlaced s f.body → (part_with s q f).body ≡ f.body
  body_alone q f l = by_test (heads s f.body)
    where
      by_test : (b : Bool) → cond b f.body (put_before s q f.body) ≡ f.body
      by_test true = refl
      by_test false = comes_elsewhere q f.body l

  pub held_alone : (gs hs : List Held) → ((other : ℕ) → other ≢ s → find (serial_is other) gs ≡ find (serial_is other) hs) → (ps : List Placed) → LacksPlaced s ps
      → AllByRecursion (λ p. find (serial_is p.entry.serial) gs ≡ find (serial_is p.entry.serial) hs) ps
  held_alone gs hs same [] l = tt
  held_alone gs hs same (p ∷ ps) l = (same p.entry.serial (apart_from p l.0), held_alone gs hs same ps l.1)

-- each step

abbrev pub OthersStay : ℕ → Unit → Unit → Type 0
OthersStay f u v = (k : ℕ) → k ≢ f → FunctionStays u v k

pub others_stay : (f : ℕ) → OfSteps f (OthersStay f)
others_stay f = record {
  both = λ u v w a b k apart. stays_trans u v w k (a k apart) (b k apart);
  goes = λ u s sound among removable k apart.
      let lacks = others_lack u f k s sound among apart in
      record {
        body =
            ap (λ fs. (slice_index_or fs k nothing).body) (functions_left s u.held (takes_no_frame s u.held sound.once removable))
            ∙ ap (λ q. q.body) (body_map (part_without (has_serial s)) (functions_of u) k refl)
            ∙ left_alone s (body_of u k).body lacks;
        held = held_alone s (held_without s u.held) u.held (λ other differ. other_without s other differ u.held) (body_of u k).body lacks;
      };
  becomes = λ u s i sound among insn k apart.
      let lacks = others_lack u f k s sound among apart in
      let kind = EntryKind.Insn i in
      record {
        body =
            ap (λ fs. (slice_index_or fs k nothing).body) (functions_put s kind u.held (keeps_frames s kind u.held sound.once (insn_removable _ insn) refl))
            ∙ ap (λ q. q.body) (body_map (part_map (put_entry s kind)) (functions_of u) k refl)
            ∙ put_elsewhere s kind (body_of u k).body lacks;
        held = held_alone s (held_put s kind u.held) u.held (λ other differ. other_put s other differ kind u.held) (body_of u k).body lacks;
      };
  comes = λ u b kind sound among removable k apart.
      let lacks = others_lack u f k b sound among apart in
      let n = suc u.last in
      let new : Entry = record { serial = n; kind = kind } in
      let q : Placed = record { entry = new; section = section_before text b (entries_of u.held) } in
      record {
        body =
            ap (λ es. (slice_index_or (functions (placed es)) k nothing).body) (entries_inserted b n kind u.held)
            ∙ ap (λ fs. (slice_index_or fs k nothing).body) (functions_inserted b new (entries_of u.held) (removable_quiet kind removable) (once_placed b text u.held sound.once))
            ∙ ap (λ f. f.body) (body_map (part_with b q) (functions_of u) k refl)
            ∙ body_alone b q (body_of u k) lacks;
        held = held_alone n (held_inserted b (new_held n kind) u.held) u.held (λ other differ. other_inserted n other differ b kind u.held) (body_of u k).body (new_lacks u k sound);
      };
}
