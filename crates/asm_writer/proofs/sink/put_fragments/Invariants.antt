use Rattle.std.proofs.Common.{◌≡◌, ◌≤◌, ◌++◌, ℕ, List, drop}
use Rattle.std.specs.Io.KnownBytes.{Appends}
use Rattle.asm_writer.specs.Fragments.{fragments_text}
use Rattle.asm_writer.proofs.sink.put_fragments.Given as goal

-- what was put so far, and what is left, is all
abbrev pub invariant-loop-fragment : goal.invariant-loop-fragment
invariant-loop-fragment g l =
    let sink = g.K.Sink in
    record {
      put : (done : List ℕ) × Appends (sink.taken l.initial.sink) (sink.taken l.sink) done × (done ++ fragments_text (drop l.fragment-index l.fragments) ≡ fragments_text l.fragments);
      later : sink.faults l.initial.sink ≤ sink.faults l.sink;
    }
