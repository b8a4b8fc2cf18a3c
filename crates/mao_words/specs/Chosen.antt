-- What the words choose.
use Rattle.std.specs.Prelude.{◌≡◌, List, codes, ⊤}
use Rattle.clap.specs.Words.{Row}
use Rattle.mao_words.specs.declared.words.Chosen.{Chosen}
use Rattle.mao_words.specs.declared.words.WordsFault.{WordsFault}
use Rattle.mao_words.specs.Command.{script_in, is_given}

pub record AreChosen (c : Chosen) (rows : List Row) : Type 0 where
  pub script : c.script.now ≡ script_in rows
  pub journal : c.journal ≡ is_given (codes "journal") rows

abbrev pub IsUsage : WordsFault → Type 0
IsUsage WordsFault.Usage = ⊤
IsUsage WordsFault.NoMemory = ⊥
