use Rattle.std.proofs.Common.{◌≡◌, ap, ◌∙◌, sym, length, refl, drop, ◌++◌, take, replicate, arith}
use Rattle.std.proofs.lemmas.List.{drop_all, length-replicate}
use Rattle.jump_tables.specs.Sections.{text, section_after, placed_from, placed}
use Rattle.jump_tables.specs.Collected.{for_each, none_used}
use Rattle.jump_tables.proofs.EachLaws.{each_stays, each_length}
use Rattle.jump_tables.proofs.UseLaws.{with_rest, all_left, none_left, rest_more, written_whole}
use Rattle.jump_tables.proofs.collect.uses_in.Goals as goal

pub loop-entry-init : goal.loop-entry-init
loop-entry-init c =
    let none : c.in_ok-uses.uses.items ≡ replicate (length c.args.labels.now) none_used = c.in_ok-uses.ensures ∙ ap (λ n. replicate n none_used) c.len.ensures in
    record {
      as_many = ap length none ∙ length-replicate (length c.args.labels.now) none_used;
      section = text;
      debug_is = refl;
      with_rest_all = ap (for_each (with_rest (placed c.args.entries.now)) c.args.labels.now) none ∙ all_left (placed c.args.entries.now) c.args.labels.now;
    }

written : (c : goal.In_ok-note_entry) → take c.loop-entry.uses.len (c.note_entry.new.uses ++ drop (length c.note_entry.new.uses) c.loop-entry.uses.items) ≡ c.note_entry.new.uses
written c = written_whole c.loop-entry.uses.len c.note_entry.new.uses c.loop-entry.uses.items (omega (arith, c.loop-entry.uses.ok.0, c.note_entry.auto.uses, c.deref_mut.ensures.len, c.deref_mut.ensures.value)) (omega (arith, c.loop-entry.uses.ok.0))

pub loop-entry-preserved : goal.loop-entry-preserved
loop-entry-preserved c =
    let s = c.loop-entry.invariant.section in
    let e = c.entry-item.result in
    let debug = c.debug_after-debug.ensures s c.loop-entry.invariant.debug_is in
    let new = c.in_ok-note_entry.ensures ∙ ap (for_each _ c.args.labels.now) c.deref_mut.ensures.value in
    record {
      as_many = ap length (written c ∙ new) ∙ each_length _ c.args.labels.now c.loop-entry.uses.items ∙ c.loop-entry.invariant.as_many;
      section = section_after s e.kind;
      debug_is = sym debug;
      with_rest_all = ap (for_each _ c.args.labels.now) (written c ∙ new)
          ∙ rest_more s c.debug_after-debug.result c.args.entries.now c.loop-entry.entry-index e c.args.labels.now c.loop-entry.uses.items c.loop-entry-test.true c.entry-item.is debug
          ∙ c.loop-entry.invariant.with_rest_all;
    }

pub returns : goal.returns
returns c =
    sym (each_stays _ none_left c.args.labels.now c.loop-entry.uses.items)
    ∙ ap (λ es. for_each (with_rest (placed_from c.loop-entry.invariant.section es)) c.args.labels.now c.loop-entry.uses.items) (sym (drop_all c.loop-entry.entry-index c.args.entries.now c.loop-entry-test.false))
    ∙ c.loop-entry.invariant.with_rest_all
