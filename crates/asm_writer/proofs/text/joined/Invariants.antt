use Rattle.std.proofs.Common.{◌≡◌, ◌++◌, drop}
use Rattle.asm_writer.specs.Fragments.{fragments_text}
use Rattle.asm_writer.proofs.text.joined.Given as goal

-- what was written, joined to what is left
abbrev pub invariant-loop-fragment : goal.invariant-loop-fragment
invariant-loop-fragment l = l.text.items ++ fragments_text (drop l.fragment-index l.fragments) ≡ fragments_text l.fragments
