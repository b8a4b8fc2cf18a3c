-- Which options a step gave.
use Rattle.std.specs.Prelude.{Bool, bytes_eq}
use Rattle.pass_script.specs.declared.options.PassOption.{PassOption}
use Rattle.pass_script.specs.declared.read.Given.{Given}
use Rattle.pass_script.specs.Catalogue.{name_of_option}

abbrev pub gives : Given → PassOption → Bool
gives g PassOption.Seed = g.seed
gives g PassOption.Density = g.density
gives g PassOption.Align = g.align
gives g PassOption.Max = g.max

abbrev pub same_option : PassOption → PassOption → Bool
same_option a b = bytes_eq (name_of_option a) (name_of_option b)
