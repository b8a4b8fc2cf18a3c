-- A line up to the comment at its end (GNU as manual, "Comments"). Only private clauses cite it.
use Rattle.std.specs.Prelude.{ℕ, ◌+◌, ◌<◌, ◌≡◌, List, length, take, get_or}
use Rattle.std.specs.List.{prefix_len}
use Rattle.att_lexer.specs.Bytes.{is_calm}

-- where the first byte stands that may end a piece or begin a string or a comment
abbrev pub calm_len : List ℕ → ℕ
calm_len line = prefix_len is_calm line

-- the front ends with the `#` of the line's comment
pub record IsUpToComment (front line : List ℕ) : Type 0 where
  pub within : calm_len line < length line
  pub hash : get_or line (calm_len line) 0 ≡ 35
  pub is_front : front ≡ take (calm_len line + 1) line
