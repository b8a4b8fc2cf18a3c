use Rattle.std.proofs.Common.{◌≡◌, ◌++◌, ◌-◌}
use Rattle.mao_gen.specs.Shapes.{drawn}
use Rattle.mao_gen.specs.Generated.{functions_from, generated}
use Rattle.mao_gen.proofs.text.generate.Given as goal

-- what was written, joined to the functions that are left
abbrev pub invariant-loop-k : goal.invariant-loop-k
invariant-loop-k l = l.text.items ++ functions_from l.k (drawn (l.n - l.k) l.words) ≡ generated l.n
