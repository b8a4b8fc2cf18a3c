-- What stands in front of a list of lexemes, and what follows it.
use Rattle.std.specs.Prelude.{ℕ, Bool, true, false, ◌==◌, List, [], ◌∷◌, Option, Some, None, bytes_eq, length, take, if◌then◌else◌}
use Rattle.att_grammar.specs.Lexemes.{Lexeme, word, number, text, mark, odd}

infixl 10 ◌>>=◌
abbrev pub ◌>>=◌ : {A B : Type 0} → Option A → (A → Option B) → Option B
None >>= f = None
(Some x) >>= f = f x

-- the first that is there
abbrev pub or_else : {A : Type 0} → Option A → Option A → Option A
or_else None other = other
or_else (Some x) other = Some x

-- whether a word is one of these
abbrev pub is_among : List (List ℕ) → List ℕ → Bool
is_among [] bytes = false
is_among (w ∷ ws) bytes = if bytes_eq w bytes then true else is_among ws bytes

abbrev pub begins_with : List ℕ → List ℕ → Bool
begins_with front bytes = bytes_eq front (take (length front) bytes)

-- what follows a mark in front
unfoldable pub expect : ℕ → List Lexeme → Option (List Lexeme)
expect b [] = None
expect b (mark m ∷ rest) = if m == b then Some rest else None
expect b (word bytes ∷ rest) = None
expect b (number n ∷ rest) = None
expect b (text bytes ∷ rest) = None
expect b (odd bytes ∷ rest) = None

unfoldable pub word_of : List Lexeme → Option (List ℕ × List Lexeme)
word_of [] = None
word_of (word bytes ∷ rest) = Some (bytes, rest)
word_of (number n ∷ rest) = None
word_of (text bytes ∷ rest) = None
word_of (mark m ∷ rest) = None
word_of (odd bytes ∷ rest) = None

unfoldable pub number_of : List Lexeme → Option (ℕ × List Lexeme)
number_of [] = None
number_of (number n ∷ rest) = Some (n, rest)
number_of (word bytes ∷ rest) = None
number_of (text bytes ∷ rest) = None
number_of (mark m ∷ rest) = None
number_of (odd bytes ∷ rest) = None

unfoldable pub text_of : List Lexeme → Option (List ℕ × List Lexeme)
text_of [] = None
text_of (text bytes ∷ rest) = Some (bytes, rest)
text_of (word bytes ∷ rest) = None
text_of (number n ∷ rest) = None
text_of (mark m ∷ rest) = None
text_of (odd bytes ∷ rest) = None

-- what follows this word in front
unfoldable pub this_word : List ℕ → List Lexeme → Option (List Lexeme)
this_word bytes lexemes = word_of lexemes >>= λ w. if bytes_eq bytes w.0 then Some w.1 else None

abbrev pub is_end : List Lexeme → Bool
is_end [] = true
is_end (l ∷ ls) = false

-- what was read, where nothing follows it
abbrev pub whole : {A : Type 0} → A × List Lexeme → Option A
whole r = if is_end r.1 then Some r.0 else None

-- a word, and nothing behind it
abbrev pub only_word : List Lexeme → Option (List ℕ)
only_word lexemes = word_of lexemes >>= whole

-- the words among lexemes
abbrev pub words_in : List Lexeme → List (List ℕ)
words_in [] = []
words_in (word bytes ∷ rest) = bytes ∷ words_in rest
words_in (number n ∷ rest) = words_in rest
words_in (text bytes ∷ rest) = words_in rest
words_in (mark m ∷ rest) = words_in rest
words_in (odd bytes ∷ rest) = words_in rest
