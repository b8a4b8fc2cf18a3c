-- Words that are taken, and words that aren't.
use Rattle.std.proofs.Common.{◌≡◌, refl, [], ◌∷◌, true, false, codes}
use Rattle.std.specs.Prelude.{Some}
use Rattle.clap.specs.Words.{takes, fault_of}
use Rattle.clap.specs.declared.error.kind.ErrorKind.{ErrorKind}
use Rattle.pass_script.specs.declared.script.ScriptFault.{ScriptFault}
use Rattle.clap.proofs.OnLiterals.{clap_on_literals}
use Rattle.mao_words.specs.Command.{mao_app, AreFaultless, script_of_words, asks_for_journal}
use Rattle.mao_words.specs.Refused.{script_fault}

taken : takes mao_app (codes "mao" ∷ codes "--mao=NOPKILL" ∷ codes "--journal" ∷ []) ≡ true
unfolding clap_on_literals
taken = refl

its_script : script_of_words (codes "mao" ∷ codes "--mao=NOPKILL" ∷ codes "--journal" ∷ []) ≡ codes "NOPKILL"
unfolding clap_on_literals
its_script = refl

its_journal : asks_for_journal (codes "mao" ∷ codes "--mao=NOPKILL" ∷ codes "--journal" ∷ []) ≡ true
unfolding clap_on_literals
its_journal = refl

journal_alone : asks_for_journal (codes "mao" ∷ codes "--journal" ∷ []) ≡ true
unfolding clap_on_literals
journal_alone = refl

no_journal : asks_for_journal (codes "mao" ∷ codes "--mao=NOPKILL" ∷ []) ≡ false
unfolding clap_on_literals
no_journal = refl

no_words : takes mao_app (codes "mao" ∷ []) ≡ true
unfolding clap_on_literals
no_words = refl

no_name : takes mao_app [] ≡ true
unfolding clap_on_literals
no_name = refl

no_script : script_of_words (codes "mao" ∷ []) ≡ []
unfolding clap_on_literals
no_script = refl

in_two_words : script_of_words (codes "mao" ∷ codes "--mao" ∷ codes "NOPKILL" ∷ []) ≡ codes "NOPKILL"
unfolding clap_on_literals
in_two_words = refl

help : takes mao_app (codes "mao" ∷ codes "--help" ∷ []) ≡ false
unfolding clap_on_literals
help = refl

two_scripts : takes mao_app (codes "mao" ∷ codes "--mao=NOPKILL" ∷ codes "--mao=NOPIN" ∷ []) ≡ false
unfolding clap_on_literals
two_scripts = refl

unknown : takes mao_app (codes "mao" ∷ codes "--version" ∷ []) ≡ false
unfolding clap_on_literals
unknown = refl

a_file : takes mao_app (codes "mao" ∷ codes "file.s" ∷ []) ≡ false
unfolding clap_on_literals
a_file = refl

faultless : AreFaultless (codes "mao" ∷ codes "--mao=FOO" ∷ codes "--journal" ∷ [])
unfolding clap_on_literals
faultless = refl

help_is_a_fault : fault_of mao_app (codes "mao" ∷ codes "--help" ∷ []) ≡ ErrorKind.DisplayHelp ∷ []
unfolding clap_on_literals
help_is_a_fault = refl

a_script_with_a_fault : script_fault (codes "mao" ∷ codes "--mao=NOPIN=density[101]" ∷ []) ≡ Some (ScriptFault.BadNumber 14)
unfolding clap_on_literals
a_script_with_a_fault = refl
