-- What came of the text and the notes when they were put into their sinks.
use Rattle.std.specs.Prelude.{ℕ, ◌<◌, List, length, take, Option}
use Rattle.std.specs.Io.KnownBytes.{Appends}
use Rattle.mao_outside.specs.Causes.{Rose}
use Rattle.asm_writer.specs.Unit.{unit_text}
use Rattle.mao_core.specs.declared.preparing.Prepared.{Prepared}
use Rattle.mao_core.specs.declared.top.Status.{Status}
use Rattle.mao_core.specs.declared.top.Status.TheVariants.{Fine, WriteFault, NotesFault}
use Rattle.mao_core.specs.Told.{status_line, IsOffered}

-- a proper prefix of the bytes was taken, and a fault counted
abbrev pub IsCut : Option (List ℕ) → Option (List ℕ) → ℕ → ℕ → List ℕ → Type 0
IsCut old new before now bytes = ((n : ℕ) × (n < length bytes) × Appends old new (take n bytes)) × Rose before now

-- the bytes to be written
abbrev pub output : Prepared → List ℕ
output p = unit_text p.text.items p.unit.held

abbrev pub IsDelivered : Status → Prepared → Option (List ℕ) → Option (List ℕ) → ℕ → ℕ → Option (List ℕ) → Option (List ℕ) → ℕ → ℕ → Type 0
IsDelivered Fine r out_old out_new out_before out_now notes_old notes_new notes_before notes_now =
    Appends out_old out_new (output r) × Appends notes_old notes_new r.notes.items
IsDelivered NotesFault r out_old out_new out_before out_now notes_old notes_new notes_before notes_now =
    Appends out_old out_new (output r) × IsCut notes_old notes_new notes_before notes_now r.notes.items
IsDelivered WriteFault r out_old out_new out_before out_now notes_old notes_new notes_before notes_now =
    IsCut out_old out_new out_before out_now (output r)
    × IsOffered notes_old notes_new notes_before notes_now (status_line WriteFault)
IsDelivered _ r out_old out_new out_before out_now notes_old notes_new notes_before notes_now = ⊥
