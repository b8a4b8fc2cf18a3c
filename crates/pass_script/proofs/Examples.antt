-- Scripts that are worked out by hand.
use Rattle.std.proofs.Common.{◌≡◌, refl, [], ◌∷◌}
use Rattle.std.specs.Prelude.{Some, None, codes}
use Rattle.pass_script.specs.declared.kinds.PassKind.{PassKind}
use Rattle.pass_script.specs.declared.script.ScriptFault.{ScriptFault}
use Rattle.pass_script.specs.Catalogue.{defaults}
use Rattle.pass_script.specs.Script.{fault_of, steps_of}

empty : fault_of (codes "") ≡ None
empty = refl

unknown_pass : fault_of (codes "NOPKILL:FOO") ≡ Some (ScriptFault.UnknownPass 8)
unknown_pass = refl

-- a pass that isn't built
not_built : fault_of (codes "REDTEST") ≡ Some (ScriptFault.UnknownPass 0)
not_built = refl

bad_number : fault_of (codes "NOPIN=density[101]") ≡ Some (ScriptFault.BadNumber 14)
bad_number = refl

ends_early : fault_of (codes "NOPIN:") ≡ Some (ScriptFault.Malformed 6)
ends_early = refl

out_of_range : fault_of (codes "NOPKILL=align[2]") ≡ Some (ScriptFault.BadNumber 14)
out_of_range = refl

unknown_option : fault_of (codes "NOPKILL=foo[1]") ≡ Some (ScriptFault.UnknownOption 8)
unknown_option = refl

repeated : fault_of (codes "NOPIN=seed[1],seed[2]") ≡ Some (ScriptFault.Malformed 14)
repeated = refl

-- the number ends at the letter, and its fault stands before that of the letter
letter_in_number : fault_of (codes "NOPIN=density[101a]") ≡ Some (ScriptFault.BadNumber 14)
letter_in_number = refl

letter_behind_number : fault_of (codes "NOPIN=density[100a]") ≡ Some (ScriptFault.Malformed 17)
letter_behind_number = refl

no_digits : fault_of (codes "NOPIN=density[]") ≡ Some (ScriptFault.Malformed 14)
no_digits = refl

leading_zeros : fault_of (codes "NOPIN=density[00000000000000000100]") ≡ None
leading_zeros = refl

too_long : fault_of (codes "NOPIN=density[000000000000000000100]") ≡ Some (ScriptFault.BadNumber 14)
too_long = refl

last_seed : fault_of (codes "NOPIN=seed[18446744073709551615]") ≡ None
last_seed = refl

beyond_seed : fault_of (codes "NOPIN=seed[18446744073709551616]") ≡ Some (ScriptFault.BadNumber 11)
beyond_seed = refl

thirty_two : fault_of (codes "NOPIN:NOPIN:NOPIN:NOPIN:NOPIN:NOPIN:NOPIN:NOPIN:NOPIN:NOPIN:NOPIN:NOPIN:NOPIN:NOPIN:NOPIN:NOPIN:NOPIN:NOPIN:NOPIN:NOPIN:NOPIN:NOPIN:NOPIN:NOPIN:NOPIN:NOPIN:NOPIN:NOPIN:NOPIN:NOPIN:NOPIN:NOPIN") ≡ None
thirty_two = refl

-- the name of the 33rd step is unknown too
thirty_three : fault_of (codes "NOPIN:NOPIN:NOPIN:NOPIN:NOPIN:NOPIN:NOPIN:NOPIN:NOPIN:NOPIN:NOPIN:NOPIN:NOPIN:NOPIN:NOPIN:NOPIN:NOPIN:NOPIN:NOPIN:NOPIN:NOPIN:NOPIN:NOPIN:NOPIN:NOPIN:NOPIN:NOPIN:NOPIN:NOPIN:NOPIN:NOPIN:NOPIN:FOO") ≡ Some (ScriptFault.Malformed 192)
thirty_three = refl

-- an unknown name stands before the byte that can't stand behind it
unknown_before : fault_of (codes "FOO+") ≡ Some (ScriptFault.UnknownPass 0)
unknown_before = refl

blank : fault_of (codes "NOPIN ") ≡ Some (ScriptFault.Malformed 5)
blank = refl

option_of_another_pass : fault_of (codes "NOPKILL=seed[1]") ≡ Some (ScriptFault.UnknownOption 8)
option_of_another_pass = refl

no_option : fault_of (codes "NOPIN=") ≡ Some (ScriptFault.Malformed 6)
no_option = refl

open_number : fault_of (codes "NOPIN=seed[1") ≡ Some (ScriptFault.Malformed 12)
open_number = refl

no_number : fault_of (codes "NOPIN=seed") ≡ Some (ScriptFault.Malformed 10)
no_number = refl

small_letters : fault_of (codes "nopin") ≡ Some (ScriptFault.UnknownPass 0)
small_letters = refl

comma_behind_a_name : fault_of (codes "NOPIN,") ≡ Some (ScriptFault.Malformed 5)
comma_behind_a_name = refl

options_twice : fault_of (codes "NOPIN=seed[1]=density[2]") ≡ Some (ScriptFault.Malformed 13)
options_twice = refl

no_steps : steps_of (codes "") ≡ []
no_steps = refl

two_steps : steps_of (codes "NOPKILL:NOPIN=seed[42],density[50]")
    ≡ record { kind = PassKind.NopKill; opts = defaults }
    ∷ record { kind = PassKind.NopIn; opts = record defaults { seed = 42; density = 50 } } ∷ []
two_steps = refl

-- options in either order, and a later step with the defaults
three_steps : steps_of (codes "NOPIN=density[0],seed[007]:NOPKILL=align[1]:NOPIN")
    ≡ record { kind = PassKind.NopIn; opts = record defaults { seed = 7; density = 0 } }
    ∷ record { kind = PassKind.NopKill; opts = record defaults { align = 1 } }
    ∷ record { kind = PassKind.NopIn; opts = defaults } ∷ []
three_steps = refl
