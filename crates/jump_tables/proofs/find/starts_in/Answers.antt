use Rattle.std.proofs.Common.{◌+◌, ◌++◌, ap, ◌∙◌, sym, refl, map, drop}
use Rattle.std.proofs.lemmas.List.{take_rest}
use Rattle.jump_tables.specs.Sections.{text, section_after, placed_from, placed}
use Rattle.jump_tables.specs.Tables.{file_tables}
use Rattle.jump_tables.specs.Collected.{unused, table_start}
use Rattle.jump_tables.proofs.StartLaws.{start_more}
use Rattle.jump_tables.proofs.find.starts_in.Goals as goal

pub loop-i-init : goal.loop-i-init
loop-i-init c = record {
  section = text;
  code_is = refl;
  with_rest = ap (λ ts. ts ++ map unused (file_tables (placed c.args.entries.now))) c.new-tables.ensures.items;
}

pub loop-i-preserved : goal.loop-i-preserved
loop-i-preserved c =
    let es = c.args.entries.now in
    let s = c.loop-i.invariant.section in
    let e = c.index-entries-i.result in
    let code = c.code_behind-code.ensures s c.loop-i.invariant.code_is in
    record {
      section = section_after s e.kind;
      code_is = sym code;
      with_rest =
          ap (λ ts. ts ++ map unused (file_tables (placed_from (section_after s e.kind) (drop (c.loop-i.i + 1) es))))
          (c.in_ok-push_start_of.ensures ∙ ap (λ xs. c.loop-i.tables.items ++ table_start c.code_behind-code.result e xs) (take_rest es (c.loop-i.i + 1)))
          ∙ start_more s c.code_behind-code.result es c.loop-i.i e c.loop-i.tables.items c.loop-i-test.true c.index-entries-i.is code
          ∙ c.loop-i.invariant.with_rest;
    }
