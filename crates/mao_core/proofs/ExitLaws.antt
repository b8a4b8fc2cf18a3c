-- Which status an exit status tells.
use Rattle.std.proofs.Common.{◌≡◌, ◌≤◌, refl, lit≤}
use Rattle.mao_core.specs.declared.top.Status.{Status}
use Rattle.mao_core.specs.declared.top.Status.TheVariants.{Fine, Usage, ReadFault, TooBig, NoMemory, WriteFault, NotesFault}
use Rattle.mao_core.specs.Exit.{exit_number}

pub zero : (s : Status) → exit_number s ≡ 0 → s ≡ Fine
zero Fine e = refl
zero Usage e = cc
zero ReadFault e = cc
zero TooBig e = cc
zero NoMemory e = cc
zero WriteFault e = cc
zero NotesFault e = cc

pub one : (s : Status) → exit_number s ≡ 1 → s ≡ Usage
one Fine e = cc
one Usage e = refl
one ReadFault e = cc
one TooBig e = cc
one NoMemory e = cc
one WriteFault e = cc
one NotesFault e = cc

pub is_usage : (s : Status) → s ≡ Usage → exit_number s ≡ 1
is_usage Usage e = refl
is_usage Fine e = cc
is_usage ReadFault e = cc
is_usage TooBig e = cc
is_usage NoMemory e = cc
is_usage WriteFault e = cc
is_usage NotesFault e = cc

pub is_no_memory : (s : Status) → s ≡ NoMemory → exit_number s ≡ 4
is_no_memory NoMemory e = refl
is_no_memory Fine e = cc
is_no_memory Usage e = cc
is_no_memory ReadFault e = cc
is_no_memory TooBig e = cc
is_no_memory WriteFault e = cc
is_no_memory NotesFault e = cc

pub range : (s : Status) → exit_number s ≤ 6
range Fine = lit≤ tt
range Usage = lit≤ tt
range ReadFault = lit≤ tt
range TooBig = lit≤ tt
range NoMemory = lit≤ tt
range WriteFault = lit≤ tt
range NotesFault = lit≤ tt
