-- Nops that are inserted one after another before entries of a function's code.
use Rattle.std.proofs.Common.{◌≡◌, ℕ, suc, ◌+◌, ◌<◌, true, false, cond, List, [], ◌∷◌, ◌++◌, map, length, take, get_or, Some, None, refl, sym, ap, ◌∙◌, subst, length-append, arith}
use Rattle.std.specs.Prelude.{nat_eq, ◌&&◌}
use Rattle.std.specs.List.{AllByRecursion}
use Rattle.std.proofs.lemmas.Bool.{eq-eqb, ne_eqb}
use Rattle.std.proofs.lemmas.List.{take_more, get_or-map}
use Rattle.jump_tables.specs.Sections.{Placed}
use Rattle.asm_unit.specs.Decisions.{codes}
use Rattle.asm_unit.specs.Edits.{is_frame, SameEach}
use Rattle.asm_unit.specs.Functions.{Part, nothing, code_part}
use Rattle.asm_unit.specs.Grown.{part_with}
use Rattle.asm_unit.specs.Held.{holds_serial, entries_of, new_held, held_inserted}
use Rattle.asm_unit.specs.Tables.{is_among}
use Rattle.asm_unit.specs.Unit.{Unit, functions_of, in_clear_code, placed_new, nop_kind}
use Rattle.asm_unit.specs.UnitCodes.{codes_of}
use Rattle.asm_unit.proofs.StandLaws.{clear_there}
use Rattle.asm_unit.proofs.UnitLaws.{all_at}
use Rattle.unit_edits.specs.declared.edit.Edit.{Edit}
use Rattle.unit_edits.specs.declared.journal.Part.{Part as JournalPart}
use Rattle.unit_edits.specs.Bodies.{body_of, IsClearAt}
use Rattle.unit_edits.specs.Journal.{onto_last}
use Rattle.unit_edits.specs.Proper.{IsOfCode, AllProper}
use Rattle.unit_edits.specs.Replay.{edited, replay}
use Rattle.unit_edits.proofs.Replayed.{onto_nothing, onto_append, replay_more, proper_more, replay_keeps}
use Rattle.pass_rules.specs.Draws.{nops_before}
use Rattle.pass_base.specs.Runs.{BehaveAlike}
use Rattle.pass_base.proofs.Steps.{alike_refl, alike_trans}
use Rattle.pass_drops.specs.walks.Inserting.{CanInsert, Inserts}
use Rattle.pass_drops.proofs.Places.{in_clear, code_there, code_within}

no : {P : Type 0} → true ≡ false → P
no e = absurd (cc)

pub nops_many : (n : ℕ) (bs : List ℕ) → length (nops_before n bs) ≡ length bs
nops_many n [] = refl
nops_many n (b ∷ bs) = ap suc (nops_many (suc n) bs)

-- one nop more
nops_more : (n : ℕ) (bs : List ℕ) (b : ℕ) → nops_before n (bs ++ b ∷ []) ≡ nops_before n bs ++ Edit.InsertNop b (suc (n + length bs)) ∷ []
nops_more n [] b = let same : suc n ≡ suc (n + 0) = omega arith in ap (λ m. Edit.InsertNop b m ∷ []) same
nops_more n (x ∷ bs) b =
    let same : suc (suc n + length bs) ≡ suc (n + suc (length bs)) = omega arith in
    ap (λ es. Edit.InsertNop x (suc n) ∷ es) (nops_more (suc n) bs b ∙ ap (λ m. nops_before (suc n) bs ++ Edit.InsertNop b m ∷ []) same)

-- what one insertion makes of a unit
pub record IsNext (v w : Unit) (b s : ℕ) : Type 0 where
  pub serial : s ≡ v.last + 1
  pub fresh : holds_serial s v.held ≡ false
  pub held : w ≡ record v { held = held_inserted b (new_held s nop_kind) v.held; last = s }
  pub functions : functions_of w ≡ map (part_with b (placed_new b s nop_kind v)) (functions_of v)
  pub same : SameEach (codes_of v) (codes_of w)

-- where another entry stands in a code, it does with one more entry in the file
abbrev pub OthersStay : Type 0
OthersStay = (b s : ℕ) (q : Placed) (f : Part) → is_frame q.entry.kind ≡ false → nat_eq q.entry.serial s ≡ false → is_among s (code_part (part_with b q f)) ≡ is_among s (code_part f)

pub nothing_inserted : (f : ℕ) (u : Unit) (j : List JournalPart) → Inserts f u j [] u j
nothing_inserted f u j = record { last = omega arith; replayed = refl; within = tt; same = alike_refl u; journal = sym (onto_nothing j) }

module _ (f : ℕ) (v w : Unit) (b s : ℕ) (next : IsNext v w b s) (clear : IsClearAt v f) where
  still_of_code : OthersStay → (t : ℕ) → IsOfCode v f t → IsOfCode w f t
  still_of_code stay t a =
      let q = placed_new b s nop_kind v in
      let there : holds_serial t v.held ≡ true = clear_there v.decided t v.held (in_clear v.decided (functions_of v) f t clear a) in
      let apart : nat_eq s t ≡ false = ne_eqb s t (λ e. no (sym there ∙ ap (λ n. holds_serial n v.held) (sym e) ∙ next.fresh)) in
      ap (λ qs. is_among t (code_part (get_or qs f nothing))) next.functions
      ∙ ap (λ r. is_among t (code_part r)) (get_or-map (part_with b q) (functions_of v) f nothing nothing (code_within v f t a))
      ∙ stay b t q (body_of v f) refl apart
      ∙ a

  all_of_code : OthersStay → (ts : List ℕ) → AllByRecursion (IsOfCode v f) ts → AllByRecursion (IsOfCode w f) ts
  all_of_code stay [] a = tt
  all_of_code stay (t ∷ ts) a = (still_of_code stay t a.0, all_of_code stay ts a.1)

  same_decided : w.decided ≡ v.decided
  same_decided = ap (λ x. x.decided) next.held

  insertion_edits : IsOfCode v f b → edited (Edit.InsertNop b s) v ≡ Some w
  insertion_edits a =
      let new = record v { held = held_inserted b (new_held s nop_kind) v.held; last = s } in
      let numbered : nat_eq s (suc v.last) ≡ true = eq-eqb s (suc v.last) (omega (arith, next.serial)) in
      ap (λ t. cond (t && nat_eq s (suc v.last)) (Some new) None) (code_there v f b clear a) ∙ ap (λ t. cond t (Some new) None) numbered ∙ ap Some (sym next.held)

  insertion_alike : BehaveAlike v w
  insertion_alike = subst (λ d. SameEach (codes_of v) (codes d (entries_of w.held))) same_decided next.same

pub still_can : (f : ℕ) (v w : Unit) (b s : ℕ) (all : List ℕ) → IsNext v w b s → OthersStay → CanInsert f v all → CanInsert f w all
still_can f v w b s all next stay c = record {
  clear = subst (λ d. IsClearAt (record v { decided = d }) f) (sym (same_decided f v w b s next c.clear)) c.clear;
  all = all_of_code f v w b s next c.clear stay all c.all;
}

inserted_more : (f : ℕ) (u : Unit) (j : List JournalPart) (bs : List ℕ) (v : Unit) (k : List JournalPart) (w : Unit) (l : List JournalPart) (b s : ℕ) → Inserts f u j bs v k
    → IsNext v w b s → IsClearAt v f → IsOfCode v f b → l ≡ onto_last (Edit.InsertNop b s ∷ []) k → Inserts f u j (bs ++ b ∷ []) w l
inserted_more f u j bs v k w l b s h next clear a pushed =
    let es = nops_before u.last bs in
    let e = Edit.InsertNop b s in
    let serial : s ≡ suc (u.last + length bs) = omega (arith, next.serial, h.last) in
    let more : nops_before u.last (bs ++ b ∷ []) ≡ es ++ e ∷ [] = nops_more u.last bs b ∙ ap (λ n. es ++ Edit.InsertNop b n ∷ []) (sym serial) in
    let edits = insertion_edits f v w b s next clear a in
    let last : w.last ≡ s = ap (λ x. x.last) next.held in
    record {
      last = omega (arith, last, serial, length-append bs (b ∷ []));
      replayed = ap (λ xs. replay xs u) more ∙ replay_more es e u v w h.replayed edits;
      within = subst (AllProper f u) (sym more) (proper_more f es e u v w h.within h.replayed a edits);
      same = alike_trans u v w (replay_keeps es u v h.replayed) h.same (insertion_alike f v w b s next clear);
      journal = pushed ∙ ap (onto_last (e ∷ [])) h.journal ∙ sym (onto_append es (e ∷ []) j) ∙ ap (λ xs. onto_last xs j) (sym more);
    }

pub next_clear : (f i d : ℕ) (all : List ℕ) (v : Unit) → i < length all → CanInsert f v all → in_clear_code v.decided (functions_of v) (get_or all i d) ≡ true
next_clear f i d all v lt c = in_clear v.decided (functions_of v) f (get_or all i d) c.clear (all_at (IsOfCode v f) all i d c.all lt)

pub one_inserted : (f i d : ℕ) (u v w : Unit) (j k l : List JournalPart) (all : List ℕ) (s : ℕ) → i < length all → CanInsert f v all → Inserts f u j (take i all) v k → IsNext v w (get_or all i d) s
    → l ≡ onto_last (Edit.InsertNop (get_or all i d) s ∷ []) k → Inserts f u j (take (i + 1) all) w l
one_inserted f i d u v w j k l all s lt c h next pushed =
    subst (λ xs. Inserts f u j xs w l) (sym (take_more all i d lt))
    (inserted_more f u j (take i all) v k w l (get_or all i d) s h next c.clear (all_at (IsOfCode v f) all i d c.all lt) pushed)
