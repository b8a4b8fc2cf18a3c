-- How the program tells the status of a run.
use Rattle.std.specs.Prelude.{ℕ}
use Rattle.mao_core.specs.declared.top.Status.{Status}
use Rattle.mao_core.specs.declared.top.Status.TheVariants.{Fine, Usage, ReadFault, TooBig, NoMemory, WriteFault, NotesFault}

-- the exit status
abbrev pub exit_number : Status → ℕ
exit_number Fine = 0
exit_number Usage = 1
exit_number ReadFault = 2
exit_number TooBig = 3
exit_number NoMemory = 4
exit_number WriteFault = 5
exit_number NotesFault = 6
