use Rattle.std.proofs.Common.{◌<◌, arith, sym, subst}
use Rattle.std.specs.Prelude.{Contains, All}
use Rattle.std.proofs.lemmas.List.Elements.{All-push}
use Rattle.relaxer.proofs.Grown.{with_next}
use Rattle.relaxer.proofs.solver.all_places.Goals as goal

pub loop-i-preserved : goal.loop-i-preserved
loop-i-preserved c =
    let places = c.loop-i.places.items in
    record {
      all = λ i below. subst (λ xs. Contains xs i) (sym c.in_ok-push.ensures.items) (with_next places c.loop-i.i c.loop-i.invariant.all i below);
      there = subst (All (λ i. i < c.args.count)) (sym c.in_ok-push.ensures.items) (All-push (λ i. i < c.args.count) places c.loop-i.i c.loop-i.invariant.there (omega arith));
    }
