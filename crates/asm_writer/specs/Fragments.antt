-- Text in fragments: bytes, and numbers in decimal.
use Rattle.std.specs.Prelude.{ℕ, List}
use Rattle.std.specs.List.{flat_map}
use Rattle.std.specs.Fmt.{decimal, signed_decimal}
use Rattle.asm_writer.specs.declared.fragment.Fragment.{Fragment}

-- what a fragment says
abbrev pub fragment_text : Fragment → List ℕ
fragment_text (Fragment.Text bytes) = bytes.now
fragment_text (Fragment.Number n) = signed_decimal n
fragment_text (Fragment.Digits n) = decimal n

-- what fragments say, one after another
abbrev pub fragments_text : List Fragment → List ℕ
fragments_text fragments = flat_map fragment_text fragments
