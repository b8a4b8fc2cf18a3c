use Rattle.std.proofs.Common.{◌≡◌, true, sym, subst, map}
use Rattle.clap.specs.Words.{takes}
use Rattle.mao_words.proofs.words.read_words.Goals as goal

pub returns-in-Err-clause-usage : goal.returns-in-Err-clause-usage
returns-in-Err-clause-usage c =
    λ usage taken. c.words_fault.ensures usage (c.in-Err.ensures.passes (subst (λ a. takes a (map (λ w. w.now) c.args.words.now) ≡ true) (sym c.in_ok-command.ensures) taken))
