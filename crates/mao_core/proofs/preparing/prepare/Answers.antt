use Rattle.std.proofs.Common.{◌≤◌, ◌∙◌, subst, sym, length}
use Rattle.att_lexer.specs.Pieces.{pieces}
use Rattle.mao_core.specs.Input.{IsWhole}
use Rattle.mao_core.proofs.preparing.prepare.Goals as goal

pub returns-in-Ok-prepare_text-clause-whole : goal.returns-in-Ok-prepare_text-clause-whole
returns-in-Ok-prepare_text-clause-whole g c =
    subst (IsWhole (g.S.Source.left c.args.source.now) (g.S.Source.left c.read_all.new.source)) (sym c.in-Ok-prepare_text.ensures.text) c.in-Ok.ensures.whole

pub returns-in-Ok-prepare_text-clause-few : goal.returns-in-Ok-prepare_text-clause-few
returns-in-Ok-prepare_text-clause-few g c =
    subst (λ t. length (pieces t) ≤ 2000000) (c.deref.ensures.value ∙ sym c.in-Ok-prepare_text.ensures.text) c.in-Ok-cut_pieces.ensures.within
