-- The tokens of a piece (GNU as manual, "Constants": "Integers", "Strings"; "Symbol Names").
use Rattle.std.specs.Prelude.{ℕ, ◌+◌, ◌-◌, ◌*◌, ◌^◌, ◌<◌, ◌≤◌, ⊤, List, [], ◌∷◌, length, take, zero, suc, Bool, false, not, ◌==◌, ◌||◌, ◌&&◌, nat_lt, nat_le, if◌then◌else◌, Some, None, slice_index}
use Rattle.std.specs.declared.option.Option.{Option}
use Rattle.std.specs.List.{fold, take_while}
use Rattle.att_lexer.specs.Bytes.{is_blank, is_digit, is_symbol_byte}
use Rattle.att_lexer.specs.Scan.{lead_after, is_name, Blanks}
use Rattle.att_lexer.specs.declared.token.TokenKind.TheVariants.{Word, Number, Text, Mark, Odd}
use Rattle.att_lexer.specs.declared.token.Token.{Token}

-- what a digit stands for, in either case; 16 for any other byte
unfoldable pub digit_of : ℕ → ℕ
digit_of b = if is_digit b then b - 48 else (if nat_le 97 b && nat_le b 102 then b - 87 else (if nat_le 65 b && nat_le b 70 then b - 55 else 16))

-- the number of digits behind n, where all are digits of the base
abbrev pub value_from : ℕ → ℕ → List ℕ → Option ℕ
value_from base n [] = Some n
value_from base n (b ∷ bs) = if nat_lt (digit_of b) base then value_from base (n * base + digit_of b) bs else None

abbrev pub if_fits : Option ℕ → Option ℕ
if_fits None = None
if_fits (Some n) = if nat_lt n (2 ^ 64) then Some n else None

-- at least one digit of the base, and a number below 2 ^ 64
abbrev pub number_in : ℕ → List ℕ → Option ℕ
number_in base [] = None
number_in base (b ∷ bs) = if_fits (value_from base 0 (b ∷ bs))

-- decimal without a leading 0, `0`, octal behind `0`, hexadecimal behind `0x` or `0X`, binary behind `0b` or `0B`
unfoldable pub number_of : List ℕ → Option ℕ
number_of [] = None
number_of (b ∷ []) = number_in 10 (b ∷ [])
number_of (b ∷ c ∷ ds) =
    if b == 48
    then (if c == 120 || c == 88 then number_in 16 ds
    else (if c == 98 || c == 66 then number_in 2 ds
    else number_in 8 (c ∷ ds)))
    else number_in 10 (b ∷ c ∷ ds)

abbrev pub numbered : ℕ → ℕ → Option ℕ → Token
numbered at len (Some n) = record { kind = Number; start = at; len = len; value = n }
numbered at len None = record { kind = Odd; start = at; len = len; value = 0 }

-- the token that a run of symbol bytes is
abbrev pub run_token : ℕ → List ℕ → Token
run_token at run =
    if is_digit (slice_index run 0) then numbered at (length run) (number_of run)
    else record { kind = Word; start = at; len = length run; value = 0 }

-- How many bytes of a string follow its first quote. It goes on to the next `"`, where `\` takes the next byte with
-- it, or else to the newline or the end.
abbrev pub text_len : Bool → List ℕ → ℕ
text_len escaped [] = 0
text_len escaped (b ∷ bs) =
    if b == 10 then 0
    else (if not escaped && b == 34 then 1
    else 1 + text_len (not escaped && b == 92) bs)

-- the token that begins with b, where bs follows
unfoldable pub token_of : ℕ → ℕ → List ℕ → Token
token_of at b bs =
    if b == 34 then record { kind = Text; start = at; len = 1 + text_len false bs; value = 0 }
    else (if is_symbol_byte b && not (b == 36) then run_token at (take_while is_symbol_byte (b ∷ bs))
    else record { kind = Mark; start = at; len = 1; value = 0 })

-- a newline, a `;` or the `#` of a comment, behind which no token begins
unfoldable pub ends_tokens : ℕ → Bool
ends_tokens b = b == 10 || b == 59 || b == 35

-- The tokens of bytes that begin at a place, where the first few are taken already. Each token begins at the first
-- byte that is not yet taken and is no blank.
unfoldable pub tokens_from : ℕ → ℕ → List ℕ → List Token
tokens_from taken at [] = []
tokens_from (suc taken) at (b ∷ bs) = tokens_from taken (at + 1) bs
tokens_from zero at (b ∷ bs) =
    if ends_tokens b then []
    else (if is_blank b then tokens_from 0 (at + 1) bs
    else token_of at b bs ∷ tokens_from ((token_of at b bs).len - 1) (at + 1) bs)

-- the whole is blanks, a symbol or a run of digits, and `:`
abbrev pub is_first_label : List ℕ → Bool
is_first_label piece = slice_index piece (length piece - 1) == 58 && is_name (fold lead_after Blanks (take (length piece - 1) piece))

-- all but the `:` of a first label
abbrev pub counted : List ℕ → List ℕ
counted piece = if is_first_label piece then take (length piece - 1) piece else piece

abbrev pub tokens_of : List ℕ → List Token
tokens_of piece = tokens_from 0 0 (counted piece)

-- not empty, in order and within a part of a text
abbrev pub AreInOrder : ℕ → ℕ → List Token → Type 0
AreInOrder from end [] = ⊤
AreInOrder from end (t ∷ ts) = (from ≤ t.start) × (0 < t.len) × (t.start + t.len ≤ end) × AreInOrder (t.start + t.len) end ts
