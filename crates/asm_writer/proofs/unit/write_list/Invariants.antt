use Rattle.std.proofs.Common.{◌≡◌, ◌≤◌, ◌++◌, ℕ, List, length}
use Rattle.std.specs.Io.KnownBytes.{Appends}
use Rattle.entry_list.specs.Listed.{first_key, values_of}
use Rattle.asm_writer.specs.Unit.{unit_text}
use Rattle.asm_writer.specs.Runs.{IsRun, waits}
use Rattle.asm_writer.proofs.UnitLaws.{from_key}
use Rattle.asm_writer.proofs.unit.write_list.Given as goal

-- what was put so far, what waits, and the text of the entries that are left, is the text of the unit
abbrev pub invariant-loop-at : goal.invariant-loop-at
invariant-loop-at g l =
    let sink = g.K.Sink in
    let left = from_key l.at l.fn.list.pairs in
    record {
      there : l.at ≡ first_key left;
      run : IsRun l.text l.run;
      put : (done : List ℕ) × Appends (sink.taken l.initial.sink) (sink.taken l.sink) done
          × (done ++ (waits l.gathered.items l.text l.run ++ unit_text l.text (values_of left)) ≡ unit_text l.text (values_of l.fn.list.pairs));
      idle : length (unit_text l.text (values_of l.fn.list.pairs)) ≡ 0 → l.sink ≡ l.initial.sink;
      later : sink.faults l.initial.sink ≤ sink.faults l.sink;
    }

abbrev pub decreases-loop-at : goal.decreases-loop-at
decreases-loop-at g l = length (values_of (from_key l.at l.fn.list.pairs))
