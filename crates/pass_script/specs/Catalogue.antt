-- The catalogue of passes: kinds, their names, and their options with ranges and defaults.
use Rattle.std.specs.Prelude.{ℕ, ◌-◌, ◌≤◌, ◌^◌, Bool, List, [], ◌∷◌, Option, ◌==◌, ◌&&◌, nat_le, codes, bytes_eq, find}
use Rattle.pass_script.specs.declared.kinds.PassKind.{PassKind}
use Rattle.pass_script.specs.declared.options.PassOption.{PassOption}
use Rattle.pass_script.specs.declared.options.PassOpts.{PassOpts}

-- the kinds of the passes that are built, in order of their places
abbrev pub catalogue : List PassKind
catalogue = PassKind.NopIn ∷ PassKind.NopKill ∷ []

-- a kind's place among all kinds
abbrev pub place_of : PassKind → ℕ
place_of PassKind.RedTest = 0
place_of PassKind.RedMov = 1
place_of PassKind.Zee = 2
place_of PassKind.AddAdd = 3
place_of PassKind.Dce = 4
place_of PassKind.NopIn = 5
place_of PassKind.NopKill = 6
place_of PassKind.Loop16 = 7
place_of PassKind.BrAlign = 8

abbrev pub same_kind : PassKind → PassKind → Bool
same_kind a b = place_of a == place_of b

abbrev pub name_of : PassKind → List ℕ
name_of PassKind.RedTest = codes "REDTEST"
name_of PassKind.RedMov = codes "REDMOV"
name_of PassKind.Zee = codes "ZEE"
name_of PassKind.AddAdd = codes "ADDADD"
name_of PassKind.Dce = codes "DCE"
name_of PassKind.NopIn = codes "NOPIN"
name_of PassKind.NopKill = codes "NOPKILL"
name_of PassKind.Loop16 = codes "LOOP16"
name_of PassKind.BrAlign = codes "BRALIGN"

-- the kind of the catalogue that has a name
abbrev pub kind_of : List ℕ → Option PassKind
kind_of name = find (λ k. bytes_eq (name_of k) name) catalogue

abbrev pub options_of : PassKind → List PassOption
options_of PassKind.NopIn = PassOption.Seed ∷ PassOption.Density ∷ []
options_of PassKind.NopKill = PassOption.Align ∷ []
options_of PassKind.BrAlign = PassOption.Max ∷ []
options_of _ = []

abbrev pub name_of_option : PassOption → List ℕ
name_of_option PassOption.Seed = codes "seed"
name_of_option PassOption.Density = codes "density"
name_of_option PassOption.Align = codes "align"
name_of_option PassOption.Max = codes "max"

-- the option of a pass that has a name
abbrev pub option_of : PassKind → List ℕ → Option PassOption
option_of k name = find (λ o. bytes_eq (name_of_option o) name) (options_of k)

-- the least and the greatest number of an option
abbrev pub least_of : PassOption → ℕ
least_of PassOption.Max = 1
least_of _ = 0

abbrev pub greatest_of : PassOption → ℕ
greatest_of PassOption.Seed = 2 ^ 64 - 1
greatest_of PassOption.Density = 100
greatest_of PassOption.Align = 1
greatest_of PassOption.Max = 64

abbrev pub is_in_range : PassOption → ℕ → Bool
is_in_range o n = nat_le (least_of o) n && nat_le n (greatest_of o)

abbrev pub defaults : PassOpts
defaults = record { seed = 1; density = 10; align = 0; max = 16 }

-- options of which one is given a number
abbrev pub with_number : PassOption → ℕ → PassOpts → PassOpts
with_number PassOption.Seed n o = record o { seed = n }
with_number PassOption.Density n o = record o { density = n }
with_number PassOption.Align n o = record o { align = n }
with_number PassOption.Max n o = record o { max = n }

abbrev pub IsInRange : PassOption → ℕ → Type 0
IsInRange o n = (least_of o ≤ n) × (n ≤ greatest_of o)

-- each option lies in its range
pub record AreInRange (o : PassOpts) : Type 0 where
  pub seed : IsInRange PassOption.Seed o.seed
  pub density : IsInRange PassOption.Density o.density
  pub align : IsInRange PassOption.Align o.align
  pub max : IsInRange PassOption.Max o.max
