use Rattle.std.proofs.Common.{◌≡◌, ◌++◌, ℕ, drop}
use Rattle.std.specs.Fmt.{decimal}
use Rattle.std.specs.List.{flat_map}
use Rattle.mao_gen.specs.Functions.{byte_or_number}
use Rattle.mao_gen.proofs.function.put_numbered.Given as goal

-- what was written, joined to what is left
abbrev pub invariant-loop-byte : goal.invariant-loop-byte
invariant-loop-byte l = (k : ℕ) → l.number ≡ decimal k
    → l.text.items ++ flat_map (byte_or_number k) (drop l.byte-index l.lines) ≡ l.initial.text.items ++ flat_map (byte_or_number k) l.lines
