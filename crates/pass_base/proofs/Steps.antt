-- What edits lead to, one at a time.
use Rattle.std.proofs.Common.{◌≡◌, ◌+◌, ℕ, List, [], ◌∷◌, ◌++◌, length, ap, refl, arith, sym, subst, ◌∙◌, Some}
use Rattle.std.proofs.lemmas.Grind.{common_steps}
use Rattle.insn_ir.specs.Code.{Code}
use Rattle.insn_ir.proofs.SameLaws.{same_refl, same_trans}
use Rattle.asm_unit.specs.Decisions.{codes}
use Rattle.asm_unit.specs.Edits.{SameEach}
use Rattle.asm_unit.specs.Held.{entries_of}
use Rattle.asm_unit.specs.Unit.{Unit}
use Rattle.unit_edits.specs.declared.edit.Edit.{Edit}
use Rattle.unit_edits.specs.declared.journal.Part.{Part}
use Rattle.unit_edits.specs.Journal.{onto_last}
use Rattle.unit_edits.specs.Proper.{IsProper}
use Rattle.unit_edits.specs.Replay.{edited}
use Rattle.unit_edits.proofs.Replayed.{onto_nothing, onto_append, replay_more, proper_more, replay_keeps}
use Rattle.pass_base.specs.Runs.{BehaveAlike, Leads}

pub each_refl : (cs : List Code) → SameEach cs cs
each_refl [] = tt
each_refl (c ∷ cs) = (same_refl c, each_refl cs)

pub each_trans : (as' bs cs : List Code) → SameEach as' bs → SameEach bs cs → SameEach as' cs
each_trans [] [] [] p q = tt
each_trans (a ∷ as') (b ∷ bs) (c ∷ cs) p q = (same_trans a b c p.0 q.0, each_trans as' bs cs p.1 q.1)
each_trans [] [] (c ∷ cs) p q = absurd q
each_trans [] (b ∷ bs) cs p q = absurd p
each_trans (a ∷ as') [] cs p q = absurd p
each_trans (a ∷ as') (b ∷ bs) [] p q = absurd q

pub alike_refl : (u : Unit) → BehaveAlike u u
alike_refl u = each_refl (codes u.decided (entries_of u.held))

pub alike_trans : (u v w : Unit) → v.decided ≡ u.decided → BehaveAlike u v → BehaveAlike v w → BehaveAlike u w
alike_trans u v w d a b =
    each_trans (codes u.decided (entries_of u.held)) (codes u.decided (entries_of v.held)) (codes u.decided (entries_of w.held)) a
    (subst (λ x. SameEach (codes x (entries_of v.held)) (codes x (entries_of w.held))) d b)

pub start_leads : (f : ℕ) (u : Unit) (j : List Part) → Leads f u u j j 0
start_leads f u j = record { edits = []; journal = sym (onto_nothing j); counted = refl; replayed = refl; within = tt; same = alike_refl u }

-- one edit more
pub one_more : (f : ℕ) (u v w : Unit) (j j' : List Part) (n : ℕ) (e : Edit) → Leads f u v j j' n → IsProper v f e → edited e v ≡ Some w → BehaveAlike v w
    → Leads f u w j (onto_last (e ∷ []) j') (n + 1)
one_more f u v w j j' n e l p d b = record {
  edits = l.edits ++ e ∷ [];
  journal = ap (onto_last (e ∷ [])) l.journal ∙ sym (onto_append l.edits (e ∷ []) j);
  counted = (let c : n ≡ length l.edits = l.counted in grind (arith, common_steps));
  replayed = replay_more l.edits e u v w l.replayed d;
  within = proper_more f l.edits e u v w l.within l.replayed p d;
  same = alike_trans u v w (replay_keeps l.edits u v l.replayed) l.same b;
}
