-- A line that was offered.
use Rattle.std.proofs.Common.{◌≡◌, ℕ, ◌<◌, List, length, take, Option, inl, inr, refl, sym, subst, arith}
use Rattle.std.specs.Prelude.{Result, Ok, Err, OnOk, OnErr, ⊤, ◌≢◌}
use Rattle.std.proofs.Math.Seq.{take-length}
use Rattle.std.specs.Io.KnownBytes.{Appends}
use Rattle.clap.specs.Words.{Text}
use Rattle.mao_outside.specs.Causes.{HasCause}
use Rattle.mao_words.specs.declared.asked.Refusal.{Refusal}
use Rattle.mao_core.specs.declared.preparing.Prepared.{Prepared}
use Rattle.mao_core.specs.declared.top.Status.{Status}
use Rattle.mao_core.specs.declared.top.Status.TheVariants.{Fine, Usage, ReadFault, TooBig, NoMemory, WriteFault, NotesFault}
use Rattle.mao_core.specs.Delivered.{IsDelivered}
use Rattle.mao_core.specs.Outcome.{Refuses}
use Rattle.mao_core.specs.Told.{status_line, IsLine, IsOffered, IsTold}

pub offered : {T E : Type 0} (old new : Option (List ℕ)) (before now : ℕ) (line : List ℕ) (r : Result T E) → OnOk r (Appends old new line)
    → OnErr r ((n : ℕ) × (n < length line) × Appends old new (take n line)) → HasCause before now r → IsOffered old new before now line
offered old new before now line (Ok x) all part cause = record {
  count = length line;
  front = omega arith;
  taken = subst (Appends old new) (sym (take-length line)) all;
  whole = λ no. refl;
}
offered old new before now line (Err e) all part cause = record {
  count = part.0;
  front = omega (arith, part.1);
  taken = part.2;
  whole = λ no. absurd (no cause.failed);
}

-- what was offered to the notes where the text was not written whole
pub told_delivered : (s : Status) (words : List Text) (r : Prepared) (out_old out_new : Option (List ℕ)) (out_before out_now : ℕ) (notes_old notes_new : Option (List ℕ)) (notes_before notes_now : ℕ)
    → IsDelivered s r out_old out_new out_before out_now notes_old notes_new notes_before notes_now → (s ≡ Fine → ⊥) → (s ≡ NotesFault → ⊥)
    → IsTold s words notes_old notes_new notes_before notes_now
told_delivered Fine words r a b c d e f g h w fine noted = absurd (fine refl)
told_delivered NotesFault words r a b c d e f g h w fine noted = absurd (noted refl)
told_delivered WriteFault words r a b c d e f g h w fine noted = record { line = status_line WriteFault; tells = refl; offered = w.1 }
told_delivered Usage words r a b c d e f g h w fine noted = absurd w
told_delivered ReadFault words r a b c d e f g h w fine noted = absurd w
told_delivered TooBig words r a b c d e f g h w fine noted = absurd w
told_delivered NoMemory words r a b c d e f g h w fine noted = absurd w

-- what was offered where the text was not judged
pub told_refused : (s : Status) (words : List Text) (left_old left_new : Option (List ℕ)) (faults_old faults_new : ℕ) (notes_old notes_new : Option (List ℕ)) (notes_before notes_now : ℕ)
    → Refuses s left_old left_new faults_old faults_new → IsOffered notes_old notes_new notes_before notes_now (status_line s) → IsTold s words notes_old notes_new notes_before notes_now
told_refused Fine words a b c d e f g h w o = absurd w
told_refused Usage words a b c d e f g h w o = absurd w
told_refused ReadFault words a b c d e f g h w o = record { line = status_line ReadFault; tells = refl; offered = o }
told_refused TooBig words a b c d e f g h w o = record { line = status_line TooBig; tells = refl; offered = o }
told_refused NoMemory words a b c d e f g h w o = record { line = status_line NoMemory; tells = refl; offered = o }
told_refused WriteFault words a b c d e f g h w o = absurd w
told_refused NotesFault words a b c d e f g h w o = absurd w
