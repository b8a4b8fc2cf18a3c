-- NOPIN at density 0 edits nothing.
use Rattle.std.proofs.Common.{◌≡◌, ◌%◌, ℕ, List, [], ◌∷◌, refl, ap, sym, ◌∙◌, cond, true, false, arith}
use Rattle.std.specs.Prelude.{Bool, nat_lt}
use Rattle.std.proofs.lemmas.Grind.{common_steps}
use Rattle.rand_pcg.specs.Lcg.{Lcg}
use Rattle.rand_pcg.specs.Pcg.{pcg32}
use Rattle.jump_tables.specs.Sections.{Placed}
use Rattle.asm_unit.specs.Unit.{Unit}
use Rattle.asm_unit.specs.Functions.{code_part}
use Rattle.pass_script.specs.declared.kinds.PassKind.{PassKind}
use Rattle.pass_script.specs.declared.options.PassOpts.{PassOpts}
use Rattle.unit_edits.specs.declared.journal.Part.{Part}
use Rattle.unit_edits.specs.Bodies.{body_of}
use Rattle.unit_edits.proofs.Replayed.{onto_nothing}
use Rattle.pass_rules.specs.Draws.{is_drawn, chosen, words_of, nops_before}
use Rattle.pass_base.specs.Runs.{Ran}
use Rattle.pass_base.proofs.Steps.{alike_refl}

none_below : (n : ℕ) → nat_lt n 0 ≡ false
none_below n = grind (arith, common_steps)

none_chosen : (words : Lcg) (ps : List Placed) → chosen 0 words ps ≡ []
unfolding chosen
none_chosen words [] = refl
none_chosen words (p ∷ ps) = by_drawn (is_drawn p.entry.kind) (nat_lt ((pcg32 words).0 % 100) 0) (none_below ((pcg32 words).0 % 100)) (none_chosen (pcg32 words).1 ps) (none_chosen words ps)
  where
    by_drawn : (drawn low : Bool) → low ≡ false → chosen 0 (pcg32 words).1 ps ≡ [] → chosen 0 words ps ≡ []
        → cond drawn (cond low (p.entry.serial ∷ chosen 0 (pcg32 words).1 ps) (chosen 0 (pcg32 words).1 ps)) (chosen 0 words ps) ≡ []
    by_drawn true true l next same = grind (arith, common_steps)
    by_drawn true false l next same = next
    by_drawn false low l next same = same

pub ran_undrawn : (o : PassOpts) (f : ℕ) (u : Unit) (j : List Part) → o.density ≡ 0 → Ran PassKind.NopIn o f u u j j 0
ran_undrawn o f u j d = record {
  leads = record { edits = []; journal = sym (onto_nothing j); counted = refl; replayed = refl; within = tt; same = alike_refl u };
  rule = sym (ap (λ n. nops_before u.last (chosen n (words_of o.seed) (code_part (body_of u f)))) d ∙ ap (nops_before u.last) (none_chosen (words_of o.seed) (code_part (body_of u f))));
}
