-- The line on the notes of a run that wrote no notes.
use Rattle.std.specs.Prelude.{ℕ, ◌≤◌, ◌≡◌, List, [], length, take, codes, Option}
use Rattle.std.specs.Io.KnownBytes.{Appends}
use Rattle.clap.specs.Words.{Text}
use Rattle.mao_outside.specs.Causes.{Rose}
use Rattle.mao_words.specs.Refused.{IsUsageLine}
use Rattle.mao_core.specs.declared.top.Status.{Status}
use Rattle.mao_core.specs.declared.top.Status.TheVariants.{Fine, Usage, ReadFault, TooBig, NoMemory, WriteFault, NotesFault}

-- the line of a status; where the notes were written, or broke off, there is none, and that of Usage depends on the words
abbrev pub status_line : Status → List ℕ
status_line Fine = []
status_line Usage = []
status_line ReadFault = codes "mao: read fault\n"
status_line TooBig = codes "mao: input too big\n"
status_line NoMemory = codes "mao: out of memory\n"
status_line WriteFault = codes "mao: write fault\n"
status_line NotesFault = []

-- Usage comes by words that the command doesn't take, or by the fault of the script, and the line says which
abbrev pub IsLine : Status → List Text → List ℕ → Type 0
IsLine Usage words line = IsUsageLine words line
IsLine s words line = line ≡ status_line s

-- a line was offered: the sink took a front of it, and the whole where it counted no fault
pub record IsOffered (old new : Option (List ℕ)) (before now : ℕ) (line : List ℕ) : Type 0 where
  pub count : ℕ
  pub front : count ≤ length line
  pub taken : Appends old new (take count line)
  pub whole : (Rose before now → ⊥) → count ≡ length line

-- a line that tells a status of a run by these words was offered
pub record IsTold (status : Status) (words : List Text) (old new : Option (List ℕ)) (before now : ℕ) : Type 0 where
  pub line : List ℕ
  pub tells : IsLine status words line
  pub offered : IsOffered old new before now line
