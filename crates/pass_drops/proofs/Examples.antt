-- What the definitions give where it was computed by hand.
use Rattle.std.proofs.Common.{◌≡◌, ℕ, ◌%◌, List, [], ◌∷◌, map, refl}
use Rattle.rand_core.specs.Steps.{first_words}
use Rattle.rand_pcg.specs.Pcg.{pcg32}
use Rattle.insn_ir.specs.declared.entry.EntryKind.{EntryKind}
use Rattle.insn_ir.specs.declared.insn.Arg.{Arg}
use Rattle.insn_ir.specs.declared.op.Op.{Op}
use Rattle.insn_ir.specs.declared.op.Width.{Width}
use Rattle.jump_tables.specs.Sections.{Placed, text}
use Rattle.pass_rules.specs.Draws.{chosen, words_of}

-- the generator's numbers at seed 42 (the demonstration program of PCG's C library), by their remainders
draws_of_42 : map (λ w. w % 100) (first_words pcg32 5 (words_of 42)) ≡ 83 ∷ 97 ∷ 24 ∷ 55 ∷ 55 ∷ []
unfolding first_words
draws_of_42 = refl

abbrev entry : ℕ → EntryKind → Placed
entry serial k = record { entry = record { serial = serial; kind = k }; section = text }

abbrev insn : Op → EntryKind
insn op = EntryKind.Insn (record { op = op; width = Width.L; a = Arg.Absent; b = Arg.Absent; c = Arg.Absent })

abbrev code : List Placed
code =
    entry 3 (EntryKind.Label [])
    ∷ entry 4 (insn Op.Endbr64)
    ∷ entry 5 (insn Op.Xor)
    ∷ entry 6 (insn Op.Nop)
    ∷ entry 7 (insn Op.Add)
    ∷ entry 8 (insn Op.Sub)
    ∷ entry 9 (insn Op.Ret)
    ∷ []

-- only the third number is below 50, and neither the label nor `endbr64` nor `nop` has one
third_alone : chosen 50 (words_of 42) code ≡ 8 ∷ []
unfolding chosen
third_alone = refl

none_at_0 : chosen 0 (words_of 42) code ≡ []
unfolding chosen
none_at_0 = refl

all_at_100 : chosen 100 (words_of 42) code ≡ 5 ∷ 7 ∷ 8 ∷ 9 ∷ []
unfolding chosen
all_at_100 = refl
