use Rattle.std.proofs.Common.{◌≡◌, ◌∙◌, ◌++◌, ap, sym, subst, codes, decimal}
use Rattle.mao_core.specs.Notes.{cause_text, line_of, frozen_note}
use Rattle.mao_core.proofs.Joined.{joined_6}
use Rattle.mao_core.proofs.notes.put_frozen_note.Goals as goal

pub returns : goal.returns
returns c =
    let cause = c.in-Some.cause in
    subst (λ o. c.put-5.new.text.items ≡ c.args.text.now.items ++ frozen_note c.args.lines.now c.args.name.now o) (sym c.in-Some.is)
    (joined_6 c.args.text.now.items _ _ _ _ _ _ c.args.name.now (codes " unchanged: ") (cause_text cause.kind) (codes ", line ") (decimal (line_of c.args.lines.now cause.serial)) (codes "\n")
    c.in_ok-put.ensures
    c.in_ok-put-2.ensures
    (c.in_ok-put-3.ensures ∙ ap (λ l. c.put-2.new.text.items ++ l) c.cause_text.ensures)
    c.in_ok-put-4.ensures
    (c.in_ok-put_number.ensures ∙ ap (λ n. c.put-4.new.text.items ++ decimal n) c.line_of.ensures)
    c.in_ok-put-5.ensures)
