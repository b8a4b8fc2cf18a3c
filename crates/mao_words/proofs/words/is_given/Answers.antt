use Rattle.std.proofs.Common.{rules, ap, codes, false, Option, Some, None, List, ℕ, ◌≡◌, ◌∙◌}
use Rattle.std.specs.Prelude.{bytes_eq}
use Rattle.std.specs.Option.{option_map_or}
use Rattle.clap.specs.Words.{found_of, first_value}
use Rattle.clap.proofs.WalkLemmas.{first_value-rows}
use Rattle.mao_words.proofs.words.is_given.Goals as goal

pub returns-in-Some : goal.returns-in-Some
returns-in-Some c =
    let e : Some c.in-Some.text.now ≡ first_value (found_of c.args.matches.now) c.args.id.now = search rules in
    c.eq.ensures ∙ ap (λ (o : Option (List ℕ)). option_map_or (λ text. bytes_eq text (codes "true")) o false) (e ∙ first_value-rows (found_of c.args.matches.now) c.args.id.now)

pub returns-in-None : goal.returns-in-None
returns-in-None c =
    let e : ◌≡◌ {A = Option (List ℕ)} None (first_value (found_of c.args.matches.now) c.args.id.now) = search rules in
    ap (λ (o : Option (List ℕ)). option_map_or (λ text. bytes_eq text (codes "true")) o false) (e ∙ first_value-rows (found_of c.args.matches.now) c.args.id.now)
