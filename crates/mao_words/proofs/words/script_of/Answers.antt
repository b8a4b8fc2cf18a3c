use Rattle.std.proofs.Common.{rules, ap, codes, Option, Some, None, List, [], ℕ, ◌≡◌, ◌∙◌}
use Rattle.std.specs.Prelude.{unwrap_or}
use Rattle.clap.specs.Words.{found_of, first_value}
use Rattle.clap.proofs.WalkLemmas.{first_value-rows}
use Rattle.mao_words.proofs.words.script_of.Goals as goal

pub returns-in-Some : goal.returns-in-Some
returns-in-Some c =
    let e : Some c.in-Some.text.now ≡ first_value (found_of c.args.matches.now) (codes "mao") = search rules in
    ap (λ (o : Option (List ℕ)). unwrap_or o []) (e ∙ first_value-rows (found_of c.args.matches.now) (codes "mao"))

pub returns-in-None : goal.returns-in-None
returns-in-None c =
    let e : ◌≡◌ {A = Option (List ℕ)} None (first_value (found_of c.args.matches.now) (codes "mao")) = search rules in
    ap (λ (o : Option (List ℕ)). unwrap_or o []) (e ∙ first_value-rows (found_of c.args.matches.now) (codes "mao"))
