-- Entries of a function that are dropped one after another.
use Rattle.std.proofs.Common.{◌≡◌, ◌≢◌, ℕ, suc, ◌+◌, ◌<◌, true, false, cond, List, [], ◌∷◌, length, drop, get_or, Option, Some, None, refl, sym, ap, ◌∙◌, subst}
use Rattle.std.specs.Prelude.{nat_eq, is_some}
use Rattle.std.specs.List.{AllByRecursion}
use Rattle.std.specs.Option.{IsSomeAnd, option_and_then}
use Rattle.std.proofs.lemmas.Bool.{eq-eqb, or_parts}
use Rattle.std.proofs.lemmas.List.{drop_more}
use Rattle.insn_ir.specs.declared.entry.Entry.{Entry}
use Rattle.asm_unit.specs.Held.{held_entry, entry_of}
use Rattle.asm_unit.specs.Unit.{Unit, functions_of, in_clear_code, is_removable_entry}
use Rattle.asm_unit.proofs.KeyLaws.{unique_without}
use Rattle.asm_unit.proofs.OtherEntries.{other_without}
use Rattle.asm_unit.proofs.UnitLaws.{takes_no_frame, among_left}
use Rattle.unit_edits.specs.declared.edit.Edit.{Edit}
use Rattle.unit_edits.specs.declared.journal.Part.{Part as JournalPart}
use Rattle.unit_edits.specs.Journal.{onto_last}
use Rattle.unit_edits.specs.Proper.{IsProper, IsOfCode, AllProper}
use Rattle.unit_edits.specs.Replay.{edited, replay}
use Rattle.unit_edits.proofs.Replayed.{onto_nothing, onto_append, length_onto}
use Rattle.pass_drops.specs.walks.Dropping.{has_number, dropped, all_dropped, removes, CanDrop}
use Rattle.pass_drops.proofs.Places.{code_within, in_clear}

no : {P : Type 0} → true ≡ false → P
no e = absurd (cc)

pub apart_of : (s t : ℕ) → nat_eq t s ≡ false → t ≢ s
apart_of s t e q = no (sym (eq-eqb t s q) ∙ e)

-- an entry of the code that isn't dropped stays in it

pub entry_left : (s t : ℕ) (u : Unit) → nat_eq t s ≡ false → entry_of (dropped s u).held t ≡ entry_of u.held t
entry_left s t u ne = ap held_entry (other_without s t (apart_of s t ne) u.held)

pub code_left : (f s t : ℕ) (u : Unit) (ss : List ℕ) → CanDrop f u (s ∷ ss) → nat_eq t s ≡ false → IsOfCode (dropped s u) f t → IsOfCode u f t
code_left f s t u ss c ne a =
    sym (among_left s t f u.held (takes_no_frame s u.held c.unique c.proper.0.1) (code_within u f s c.proper.0.0) ne) ∙ a

module _ (f s : ℕ) (u : Unit) (ss : List ℕ) (c : CanDrop f u (s ∷ ss)) where
  still_proper : (ts : List ℕ) → has_number s ts ≡ false → AllByRecursion (λ t. IsProper u f (Edit.Remove t)) ts → AllByRecursion (λ t. IsProper (dropped s u) f (Edit.Remove t)) ts
  still_proper [] h p = tt
  still_proper (t ∷ ts) h p =
      let w = or_parts (nat_eq t s) (has_number s ts) h in (
        (among_left s t f u.held (takes_no_frame s u.held c.unique c.proper.0.1) (code_within u f s c.proper.0.0) w.0 ∙ p.0.0, ap is_removable_entry (entry_left s t u w.0) ∙ p.0.1),
        still_proper ts w.1 p.1,
      )

  pub still_can : CanDrop f (dropped s u) ss
  still_can = record {
    clear = c.clear;
    unique = unique_without s u.held c.unique;
    distinct = c.distinct.1;
    proper = still_proper ss c.distinct.0 c.proper.1;
  }

removable_there : (o : Option Entry) → is_removable_entry o ≡ true → is_some o ≡ true
removable_there None e = no (sym e)
removable_there (Some x) e = refl

pub remove_edits : (f s : ℕ) (u : Unit) → IsProper u f (Edit.Remove s) → edited (Edit.Remove s) u ≡ Some (dropped s u)
remove_edits f s u p = ap (λ b. cond b (Some (dropped s u)) None) (removable_there (entry_of u.held s) p.1)

pub replay_removes : (f : ℕ) (ss : List ℕ) (u : Unit) → CanDrop f u ss → replay (removes ss) u ≡ Some (all_dropped ss u)
replay_removes f [] u c = refl
replay_removes f (s ∷ ss) u c =
    ap (option_and_then (replay (removes ss))) (remove_edits f s u c.proper.0) ∙ replay_removes f ss (dropped s u) (still_can f s u ss c)

pub all_proper : (f : ℕ) (ss : List ℕ) (u : Unit) → CanDrop f u ss → AllProper f u (removes ss)
all_proper f [] u c = tt
all_proper f (s ∷ ss) u c =
    (c.proper.0, subst (λ o. IsSomeAnd o (λ v. AllProper f v (removes ss))) (sym (remove_edits f s u c.proper.0)) (all_proper f ss (dropped s u) (still_can f s u ss c)))

pub removes_many : (ss : List ℕ) → length (removes ss) ≡ length ss
removes_many [] = refl
removes_many (s ∷ ss) = ap suc (removes_many ss)

-- what is left to drop leads where all did
pub record StillDrops (f : ℕ) (u : Unit) (j : List JournalPart) (ss : List ℕ) (v : Unit) (k : List JournalPart) (left : List ℕ) : Type 0 where
  pub may : CanDrop f v left
  pub part : 0 < length k
  pub unit : all_dropped left v ≡ all_dropped ss u
  pub journal : onto_last (removes left) k ≡ onto_last (removes ss) j

pub one_dropped : (f i d : ℕ) (ss : List ℕ) (u v w : Unit) (j k l : List JournalPart) → i < length ss → StillDrops f u j ss v k (drop i ss)
    → l ≡ onto_last (Edit.Remove (get_or ss i d) ∷ []) k → w ≡ dropped (get_or ss i d) v → StillDrops f u j ss w l (drop (i + 1) ss)
one_dropped f i d ss u v w j k l lt h pushed goes =
    let s = get_or ss i d in
    let rest = drop (i + 1) ss in
    let more : drop i ss ≡ s ∷ rest = drop_more ss i d lt in
    let now : StillDrops f u j ss v k (s ∷ rest) = subst (StillDrops f u j ss v k) more h in
    subst (λ x. StillDrops f u j ss x l rest) (sym goes)
    (subst (λ x. StillDrops f u j ss (dropped s v) x rest) (sym pushed)
    (record {
      may = still_can f s v rest now.may;
      part = subst (λ n. 0 < n) (sym (length_onto (Edit.Remove s ∷ []) k)) now.part;
      unit = now.unit;
      journal = sym (onto_append (Edit.Remove s ∷ []) (removes rest) k) ∙ now.journal;
    }))

-- the next may be dropped
pub next_can : (f i d : ℕ) (ss : List ℕ) (v : Unit) → i < length ss → CanDrop f v (drop i ss) → in_clear_code v.decided (functions_of v) (get_or ss i d) ≡ true
next_can f i d ss v lt c =
    let now : CanDrop f v (get_or ss i d ∷ drop (i + 1) ss) = subst (CanDrop f v) (drop_more ss i d lt) c in
    in_clear v.decided (functions_of v) f (get_or ss i d) now.clear now.proper.0.0

pub all_journaled : (f : ℕ) (u v : Unit) (j k : List JournalPart) (ss left : List ℕ) → StillDrops f u j ss v k left → left ≡ [] → k ≡ onto_last (removes ss) j
all_journaled f u v j k ss left h e = sym (onto_nothing k) ∙ ap (λ l. onto_last (removes l) k) (sym e) ∙ h.journal
