use Rattle.std.proofs.Common.{ap₂, ◌∙◌}
use Rattle.std.proofs.lemmas.Result.{IfOk-weaker}
use Rattle.clap.specs.Words.{with_rule}
use Rattle.mao_words.proofs.command.mao_command.Goals as goal

pub returns : goal.returns
returns c =
    IfOk-weaker c.arg-2.result _ _ (λ r h. h.shape c.journal_arg.ensures.own
    ∙ ap₂ with_rule (c.in_ok-command.ensures.shape c.script_arg.ensures.own
    ∙ ap₂ with_rule c.new.ensures.app c.script_arg.ensures.rule)
    c.journal_arg.ensures.rule) c.arg-2.ensures
