use Rattle.std.proofs.Common.{◌+◌, length, drop, [], ◌∷◌, sym, ap, ◌∙◌, subst, arith, ◌++◌, append_assoc}
use Rattle.std.proofs.lemmas.List.{take_rest}
use Rattle.att_lexer.specs.Tokens.{AreInOrder, tokens_from}
use Rattle.att_lexer.proofs.TokensLaws.{left_end, left_none, left_blank, left_token_of, all_taken, tokens_of_in_order, part_of}
use Rattle.att_lexer.proofs.token.take_tokens.Goals as goal

pub loop-at-preserved-then-is_blank : goal.loop-at-preserved-then-is_blank
loop-at-preserved-then-is_blank c =
    record {
      in_range = omega arith;
      told = ap (λ l. c.loop-at.out ++ l) (sym (left_blank c.counted-text.result.now c.loop-at.at (omega arith) (sym c.if-not-ends_tokens.ensures) (sym c.if-is_blank.ensures))) ∙ c.loop-at.invariant.told;
    }

pub loop-at-preserved : goal.loop-at-preserved
loop-at-preserved c =
    let text = c.counted-text.result.now in
    let out = c.loop-at.out in
    let t = c.token_at-token.result in
    let next = c.loop-at.at + t.len in
    let step = left_token_of text _ c.loop-at.at t (take_rest text c.loop-at.at) (omega arith) (sym c.if-not-ends_tokens.ensures) (sym c.if-is_blank.ensures) c.token_at-token.ensures.value c.token_at-token.ensures.not_empty in
    record {
      in_range = omega (arith, simp take_rest at c.token_at-token.ensures.in_range);
      told = ap (λ l. l ++ tokens_from 0 next (drop next text)) c.in_ok-push.ensures.ok
          ∙ append_assoc out (t ∷ []) (tokens_from 0 next (drop next text))
          ∙ ap (λ l. out ++ l) (sym step)
          ∙ c.loop-at.invariant.told;
    }

pub returns-else-not-ends_tokens-clause-tokens : goal.returns-else-not-ends_tokens-clause-tokens
returns-else-not-ends_tokens-clause-tokens c =
    let text = c.counted-text.result.now in
    all_taken text c.loop-at.at c.loop-at.out (left_end text c.loop-at.at (omega arith) (sym c.if-not-ends_tokens.ensures)) c.loop-at.invariant.told ∙ ap (tokens_from 0 0) c.counted-text.ensures

pub returns-else-not-ends_tokens-clause-in_order : goal.returns-else-not-ends_tokens-clause-in_order
returns-else-not-ends_tokens-clause-in_order c =
    subst (λ ts. AreInOrder 0 (length c.args.piece.now) ts) (sym (returns-else-not-ends_tokens-clause-tokens c)) (tokens_of_in_order c.args.piece.now)

pub returns-after-loop-at-clause-tokens : goal.returns-after-loop-at-clause-tokens
returns-after-loop-at-clause-tokens c =
    let text = c.counted-text.result.now in
    all_taken text c.loop-at.at c.loop-at.out (left_none text c.loop-at.at (omega arith)) c.loop-at.invariant.told ∙ ap (tokens_from 0 0) c.counted-text.ensures

pub returns-after-loop-at-clause-in_order : goal.returns-after-loop-at-clause-in_order
returns-after-loop-at-clause-in_order c =
    subst (λ ts. AreInOrder 0 (length c.args.piece.now) ts) (sym (returns-after-loop-at-clause-tokens c)) (tokens_of_in_order c.args.piece.now)

pub returns-in_err-push-clause-part : goal.returns-in_err-push-clause-part
returns-in_err-push-clause-part c =
    let rest = tokens_from 0 c.loop-at.at (drop c.loop-at.at c.counted-text.result.now) in
    part_of c.from_residual.result c.push.new.self rest _
    (ap (λ l. l ++ rest) c.in_err-push.ensures.err ∙ c.loop-at.invariant.told ∙ ap (tokens_from 0 0) c.counted-text.ensures)
