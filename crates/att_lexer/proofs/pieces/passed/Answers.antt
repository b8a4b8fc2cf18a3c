use Rattle.std.proofs.Common.{◌≡◌, ℕ, ◌+◌, List, [], ◌∷◌, drop, refl, ap, sym, ◌∙◌, add-zero}
use Rattle.std.specs.List.{prefix_len}
use Rattle.att_lexer.specs.Walk.{is_passed}
use Rattle.att_lexer.specs.declared.scan.Place.TheVariants.{Escaped}
use Rattle.att_lexer.proofs.pieces.passed.Goals as goal

none : (xs : List ℕ) → prefix_len (is_passed Escaped) xs ≡ 0
none [] = refl
none (x ∷ xs) = refl

pub returns-in-Escaped-clause-value : goal.returns-in-Escaped-clause-value
returns-in-Escaped-clause-value c =
    let rest = drop c.args.from c.args.text.now in
    sym (ap (λ p. c.args.from + prefix_len (is_passed p) rest) c.in-Escaped.is ∙ (ap (λ n. c.args.from + n) (none rest) ∙ add-zero c.args.from))
