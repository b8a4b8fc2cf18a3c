use Rattle.std.proofs.Common.{◌≡◌, ◌+◌, ◌∷◌, [], length, ap, sym, subst, arith, length-append}
use Rattle.insn_ir.specs.declared.entry.Entry.{Entry}
use Rattle.asm_unit.specs.Held.{AreNumbered}
use Rattle.asm_unit.proofs.Numbered.{numbered_more}
use Rattle.file_tests.proofs.texts.entries_of.Goals as goal

pub loop-i-preserved : goal.loop-i-preserved
loop-i-preserved g c =
    let entry : Entry = c.in_ok-read_entry.field-0 in
    let serial : entry.serial ≡ c.loop-i.i + 1 = ap (λ e. e.serial) c.in_ok-read_entry.ensures.definition in
    record {
      numbered = subst (AreNumbered 0) (sym c.in_ok-push.ensures.items)
          (numbered_more 0 c.loop-i.entries.items entry c.loop-i.invariant.numbered (omega (arith, serial, c.loop-i.invariant.many)));
      many = omega (arith, ap length c.in_ok-push.ensures.items, length-append c.loop-i.entries.items (entry ∷ []), c.loop-i.invariant.many);
    }
