use Rattle.std.proofs.Common.{◌++◌, ◌∙◌, ap, sym, map}
use Rattle.att_grammar.specs.Entries.{kind_of_piece}
use Rattle.mao_core.specs.Entries.{numbered}
use Rattle.jump_tables.specs.Classes.{classes_of}
use Rattle.asm_writer.specs.Unit.{bytes_at}
use Rattle.mao_core.proofs.EntryLaws.{entries_all}
use Rattle.mao_core.proofs.entries.read_entries.Goals as goal

pub loop-i-init : goal.loop-i-init
loop-i-init c = record {
  entries = ap (λ l. l ++ numbered 1 (map kind_of_piece (map (bytes_at c.args.text.now) c.args.spans.now))) c.in_ok-with_capacity.ensures.items
      ∙ entries_all c.args.text.now c.args.spans.now c.requires.cut;
  classes = c.in_ok-with_capacity-2.ensures.items ∙ ap classes_of (sym c.in_ok-with_capacity.ensures.items);
}
