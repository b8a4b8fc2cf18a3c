use Rattle.text_laws.proofs.AsRead.{serials_say}
use Rattle.text_laws.proofs.ReadBack.{piece_says}
use Rattle.text_laws.proofs.Others.{other_left, other_put, other_inserted}
use Rattle.text_laws.proofs.laws.kept_entries_say_their_pieces.Goals as goal

pub returns-clause-piece : goal.returns-clause-piece
returns-clause-piece c = piece_says

pub returns-clause-read : goal.returns-clause-read
returns-clause-read c = serials_say

pub returns-clause-drop : goal.returns-clause-drop
returns-clause-drop c = λ hs s other differ. other_left s other differ hs

pub returns-clause-put : goal.returns-clause-put
returns-clause-put c = λ hs s other k differ. other_put s other differ k hs

pub returns-clause-insert : goal.returns-clause-insert
returns-clause-insert c = λ hs before other new differ. other_inserted before other new differ hs
