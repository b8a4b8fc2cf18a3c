-- The bytes of assembly text, by class (GNU as manual, "Whitespace", "Symbol Names").
use Rattle.std.specs.Prelude.{ℕ, Bool, not, ◌==◌, ◌||◌, ◌&&◌, nat_le}

-- space, tab and carriage return
unfoldable pub is_blank : ℕ → Bool
is_blank b = b == 32 || b == 9 || b == 13

unfoldable pub is_digit : ℕ → Bool
is_digit b = nat_le 48 b && nat_le b 57

unfoldable pub is_letter : ℕ → Bool
is_letter b = (nat_le 65 b && nat_le b 90) || (nat_le 97 b && nat_le b 122)

-- letters, digits, `_`, `.`, `$` and the bytes from 128 on
unfoldable pub is_symbol_byte : ℕ → Bool
is_symbol_byte b = is_letter b || is_digit b || b == 95 || b == 46 || b == 36 || nat_le 128 b

abbrev pub is_no_symbol_byte : ℕ → Bool
is_no_symbol_byte b = not (is_symbol_byte b)

-- what a symbol may begin with: a symbol byte that is no digit and no `$`
unfoldable pub is_symbol_start : ℕ → Bool
is_symbol_start b = is_symbol_byte b && not (is_digit b) && not (b == 36)

-- `'`, `/`, backquote and `\`
unfoldable pub is_freeze_byte : ℕ → Bool
is_freeze_byte b = b == 39 || b == 47 || b == 96 || b == 92

-- a byte that may end a piece, begin a string or a comment, or keep a file as it is
unfoldable pub is_stop : ℕ → Bool
is_stop b = b == 10 || b == 58 || b == 59 || b == 34 || b == 35 || is_freeze_byte b

abbrev pub is_calm : ℕ → Bool
is_calm b = not (is_stop b)

abbrev pub is_one_of : ℕ → ℕ → ℕ → ℕ → Bool
is_one_of x y z b = b == x || b == y || b == z

abbrev pub is_none_of : ℕ → ℕ → ℕ → ℕ → Bool
is_none_of x y z b = not (is_one_of x y z b)
