-- The symbols that an entry lends.
use Rattle.std.specs.Prelude.{ℕ, List, ◌++◌, Option, option_map, option_to_list}
use Rattle.std.specs.Borrow.{Bor}
use Rattle.jump_tables.specs.declared.uses.EntryNames.{EntryNames}

abbrev pub lent_name : Option (Bor (List ℕ)) → List (List ℕ)
lent_name o = option_to_list (option_map (λ n. n.now) o)

abbrev pub names_in : EntryNames → List (List ℕ)
names_in e = lent_name e.first ++ lent_name e.second ++ lent_name e.third ++ e.rest.now
