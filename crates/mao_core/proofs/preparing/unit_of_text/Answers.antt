use Rattle.std.proofs.Common.{ap, length, ◌∙◌, arith}
use Rattle.att_lexer.specs.Pieces.{pieces}
use Rattle.mao_core.proofs.KeptLaws.{spans_lie}
use Rattle.mao_core.proofs.Numbers.{length_spans, as_many, are_numbered, length_of_entries}
use Rattle.mao_core.proofs.preparing.unit_of_text.Goals as goal

pub read_entries-requires-clause-spans : goal.read_entries-requires-clause-spans
read_entries-requires-clause-spans c = spans_lie c.args.text.now c.as_slice.result.now (c.as_slice.ensures ∙ c.requires.cut)

pub read_entries-requires-clause-count : goal.read_entries-requires-clause-count
read_entries-requires-clause-count c =
    omega (arith, ap length (c.as_slice.ensures ∙ c.requires.cut) ∙ length_spans 0 (pieces c.args.text.now), c.requires.few)

pub build_by_class-requires-clause-as_many : goal.build_by_class-requires-clause-as_many
build_by_class-requires-clause-as_many c = as_many c.args.text.now c.args.cut.spans c.in_ok-entries.field-0.entries.items c.requires.cut c.in_ok-entries.ensures.entries

pub build_by_class-requires-clause-numbered : goal.build_by_class-requires-clause-numbered
build_by_class-requires-clause-numbered c = are_numbered c.args.text.now c.in_ok-entries.field-0.entries.items c.in_ok-entries.ensures.entries

pub build_by_class-requires-clause-few : goal.build_by_class-requires-clause-few
build_by_class-requires-clause-few c =
    omega (arith, ap length c.in_ok-entries.ensures.entries ∙ length_of_entries c.args.text.now, c.requires.few)
