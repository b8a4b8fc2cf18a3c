use Rattle.std.proofs.Common.{◌∙◌, ◌+◌, ◌++◌, ap, map, length, Some, arith, length-append}
use Rattle.std.proofs.lemmas.List.{take_all}
use Rattle.asm_unit.specs.Held.{entries_of}
use Rattle.asm_unit.proofs.HeldBuild.{next_serial, added, spans_added, all_added}
use Rattle.asm_unit.proofs.held_list.HeldList.new.Goals as goal

pub loop-entry-init : goal.loop-entry-init
loop-entry-init c = (
  tt,
  tt,
  ap (λ l. entries_of l.held ++ c.into_iter-entry-iterator.result.rest.items) c.in_ok-list.ensures ∙ c.into_iter-entry-iterator.ensures.into_iter_gives.0,
  ap (λ l. l.last) c.in_ok-list.ensures,
  ap (λ l. length l.held) c.in_ok-list.ensures,
  omega (arith, c.into_iter-entry-iterator.ensures.into_iter_gives.1, c.args.entries.ok.0),
  ap (λ l. map (λ h. h.span) l.held) c.in_ok-list.ensures,
)

pub add-requires-clause-next : goal.add-requires-clause-next
add-requires-clause-next c =
    let i = c.loop-entry.invariant in
    next_serial c.loop-entry.list.held c.in-Some.entry _ _ _ c.loop-entry.list.last c.loop-entry.next i.2 c.in-Some.ensures.steps.0 c.requires.numbered i.3 i.4

pub loop-entry-preserved : goal.loop-entry-preserved
loop-entry-preserved c =
    let i = c.loop-entry.invariant in
    let k = ap (λ l. l.held) c.in_ok-add.ensures in (
      tt,
      tt,
      added c.loop-entry.list.held c.add.new.self.held c.in-Some.entry _ _ _ _ i.2 c.in-Some.ensures.steps.0 k,
      ap (λ l. l.last) c.in_ok-add.ensures ∙ ap (λ n. n + 1) i.3,
      ap length k ∙ length-append c.loop-entry.list.held _ ∙ ap (λ n. n + 1) i.4,
      omega (arith, i.5, c.in-Some.ensures.steps.1),
      spans_added c.loop-entry.list.held c.add.new.self.held c.in-Some.entry c.loop-entry.next c.as_slice-places.result.now _ (omega (arith, i.5, c.in-Some.ensures.steps.1, c.requires.as_many, ap length c.as_slice-places.ensures)) i.6 k,
    )

pub returns : goal.returns
returns c =
    let i = c.loop-entry.invariant in
    record {
      entries = all_added c.loop-entry.list.held _ _ _ _ i.2 i.4 i.5 c.in-None.ensures.steps.0;
      spans = i.6 ∙ ap (map Some) (take_all c.loop-entry.next c.as_slice-places.result.now (omega (arith, i.5, c.in-None.ensures.steps.0, c.requires.as_many, ap length c.as_slice-places.ensures))) ∙ ap (map Some) c.as_slice-places.ensures;
      last = omega (arith, i.3, i.5, c.in-None.ensures.steps.0);
    }
