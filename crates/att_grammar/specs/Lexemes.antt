-- Tokens by what they say, without their places: what the grammar is over.
use Rattle.std.specs.Prelude.{ℕ, ◌+◌, ◌^◌, ◌<◌, ◌≤◌, List, length, take, drop, map, slice_index}
use Rattle.std.specs.List.{AllByRecursion}
use Rattle.att_lexer.specs.Tokens.{tokens_of}
use Rattle.att_lexer.specs.declared.token.TokenKind.{TokenKind}
use Rattle.att_lexer.specs.declared.token.TokenKind.TheVariants.{Word, Number, Text, Mark, Odd}
use Rattle.att_lexer.specs.declared.token.Token.{Token}

pub data Lexeme : Type 0 where
  word : List ℕ → Lexeme
  number : ℕ → Lexeme
  text : List ℕ → Lexeme
  mark : ℕ → Lexeme
  odd : List ℕ → Lexeme

abbrev pub lexeme : TokenKind → List ℕ → ℕ → Lexeme
lexeme Word bytes value = word bytes
lexeme Number bytes value = number value
lexeme Text bytes value = text bytes
lexeme Mark bytes value = mark (slice_index bytes 0)
lexeme Odd bytes value = odd bytes

-- what a token of a piece says
abbrev pub content : List ℕ → Token → Lexeme
content piece t = lexeme t.kind (take t.len (drop t.start piece)) t.value

abbrev pub says_all : List ℕ → List Token → List Lexeme
says_all piece tokens = map (content piece) tokens

-- the lexemes of a piece
abbrev pub lexemes_of : List ℕ → List Lexeme
lexemes_of piece = says_all piece (tokens_of piece)

-- not empty, and within the piece
abbrev pub LiesIn : List ℕ → Token → Type 0
LiesIn piece t = (0 < t.len) × (t.start + t.len ≤ length piece)

abbrev pub LieIn : List ℕ → List Token → Type 0
LieIn piece tokens = AllByRecursion (LiesIn piece) tokens

-- tokens of a piece, fewer than 2^32
pub record AreReadable (piece : List ℕ) (tokens : List Token) : Type 0 where
  pub within : LieIn piece tokens
  pub few : length tokens < 2 ^ 32
