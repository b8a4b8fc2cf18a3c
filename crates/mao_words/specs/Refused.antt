-- Why words are refused, and the line that says so.
use Rattle.std.specs.Prelude.{ℕ, ◌≡◌, ◌≢◌, ◌⊎◌, ◌++◌, ⊤, List, Option, Some, true, codes, decimal}
use Rattle.clap.specs.Words.{Text, takes}
use Rattle.pass_script.specs.declared.script.ScriptFault.{ScriptFault}
use Rattle.pass_script.specs.Script.{fault_of}
use Rattle.mao_words.specs.declared.words.WordsFault.{WordsFault}
use Rattle.mao_words.specs.declared.asked.Refusal.{Refusal}
use Rattle.mao_words.specs.Command.{mao_app, AreFaultless, script_of_words}

-- the fault of the script that words give
abbrev pub script_fault : List Text → Option ScriptFault
script_fault words = fault_of (script_of_words words)

abbrev pub line_at : Text → ℕ → Text
line_at cause place = codes "mao: script: " ++ cause ++ codes " at " ++ decimal place ++ codes "\n"

abbrev pub script_line : ScriptFault → Text
script_line (ScriptFault.UnknownPass place) = line_at (codes "unknown pass") place
script_line (ScriptFault.UnknownOption place) = line_at (codes "unknown option") place
script_line (ScriptFault.BadNumber place) = line_at (codes "bad number") place
script_line (ScriptFault.Malformed place) = line_at (codes "malformed") place
script_line ScriptFault.NoMemory = codes "mao: out of memory\n"

abbrev pub refusal_line : Refusal → Text
refusal_line Refusal.Words = codes "mao: usage\n"
refusal_line (Refusal.Script fault) = script_line fault
refusal_line Refusal.NoMemory = codes "mao: out of memory\n"

-- The cause of a refusal: words that the command doesn't take, or the script's fault where it takes them. Memory may want anywhere.
abbrev pub IsCaused : List Text → Refusal → Type 0
IsCaused words Refusal.Words = takes mao_app words ≢ true
IsCaused words (Refusal.Script fault) = AreFaultless words × (script_fault words ≡ Some fault)
IsCaused words Refusal.NoMemory = ⊤

-- words are refused that the command doesn't take, or that give a script with a fault, and the line says which
abbrev pub IsUsageLine : List Text → Text → Type 0
IsUsageLine words line =
    ((takes mao_app words ≢ true) × (line ≡ codes "mao: usage\n"))
    ⊎ ((f : ScriptFault) × (script_fault words ≡ Some f) × (line ≡ script_line f))

-- a refusal for a fault of words
abbrev pub of_words : WordsFault → Refusal
of_words WordsFault.Usage = Refusal.Words
of_words WordsFault.NoMemory = Refusal.NoMemory

-- a refusal for a fault of the script
abbrev pub of_script : ScriptFault → Refusal
of_script ScriptFault.NoMemory = Refusal.NoMemory
of_script fault = Refusal.Script fault
