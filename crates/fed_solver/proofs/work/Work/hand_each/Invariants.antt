use Rattle.std.proofs.Common.{◌≡◌, length, fold, drop}
use Rattle.fed_solver.specs.walks.Walk.{walk_of, handed}
use Rattle.fed_solver.proofs.work.Work.hand_each.Given as goal

abbrev pub invariant-loop-place : goal.invariant-loop-place
invariant-loop-place l = record {
  left : fold (handed l.give) (walk_of l.self) (drop l.place-index l.places) ≡ fold (handed l.give) (walk_of l.initial.self) l.places;
  rows : length l.self.rows.items ≡ length l.initial.self.rows.items;
  listed : length l.self.listed.items ≡ length l.initial.self.listed.items;
}
