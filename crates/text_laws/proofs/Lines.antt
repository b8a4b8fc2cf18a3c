-- What comes anew is a piece by itself, and is read as its entry.
use Rattle.std.proofs.Common.{◌≡◌, ℕ, ◌<◌, List, [], ◌∷◌, ◌++◌, length, subst, lit<}
use Rattle.insn_ir.specs.declared.entry.DirectiveKind.{DirectiveKind}
use Rattle.insn_ir.specs.declared.entry.EntryKind.{EntryKind}
use Rattle.att_lexer.specs.Pieces.{IsEnded, NoneEarlier, ArePieces, pieces}
use Rattle.att_lexer.proofs.Cutting.{pieces_some}
use Rattle.att_lexer.proofs.PiecesLaws.{are_pieces}
use Rattle.att_grammar.specs.Entries.{kind_of_piece, IsOfProfile}
use Rattle.att_grammar.proofs.CanonicalLaw.{insn_line_read, align_line_read}
use Rattle.att_grammar.proofs.CanonicalPieces.{insn_line_piece, align_line_piece}
use Rattle.asm_writer.specs.Unit.{new_text}
use Rattle.text_laws.specs.Edited.{IsNewKind}
use Rattle.text_laws.proofs.Chains.{first}

-- a piece that is read as an entry, wherever it stands
pub record IsReadAs (k : EntryKind) (piece : List ℕ) : Type 0 where
  pub some : 0 < length piece
  pub earliest : NoneEarlier piece
  pub kind : kind_of_piece piece ≡ k

new_piece : (k : EntryKind) (behind : List ℕ) → IsNewKind k → pieces (new_text k ++ behind) ≡ new_text k ∷ pieces behind
new_piece (EntryKind.Insn i) behind h = insn_line_piece i behind h
new_piece (EntryKind.Directive (DirectiveKind.Align p f m)) behind h = align_line_piece p f m behind h.0 h.1 h.2
new_piece _ behind h = absurd h

new_read : (k : EntryKind) → IsNewKind k → kind_of_piece (new_text k) ≡ k
new_read (EntryKind.Insn i) h = insn_line_read i h
new_read (EntryKind.Directive (DirectiveKind.Align p f m)) h = align_line_read p f m h.0 h.1 h.2
new_read _ h = absurd h

pub new_profile : (k : EntryKind) → IsNewKind k → IsOfProfile k
new_profile (EntryKind.Insn i) h = h
new_profile (EntryKind.Directive (DirectiveKind.Align p f m)) h = h
new_profile _ h = absurd h

-- the line in front of a blank is cut off
before_blank : (k : EntryKind) → IsNewKind k → ArePieces (new_text k ∷ pieces (32 ∷ [])) (new_text k ++ 32 ∷ [])
before_blank k h = subst (λ ps. ArePieces ps (new_text k ++ 32 ∷ [])) (new_piece k (32 ∷ []) h) (are_pieces (new_text k ++ 32 ∷ []))

pub new_ended : (k : EntryKind) → IsNewKind k → IsEnded (new_text k)
new_ended k h = first IsEnded (new_text k) (pieces (32 ∷ [])) (before_blank k h).ended (pieces_some (32 ∷ []) 0 (lit< tt))

pub new_reads : (k : EntryKind) → IsNewKind k → IsReadAs k (new_text k)
new_reads k h =
    let are = before_blank k h in
    record { some = are.no_empty.0; earliest = are.earliest.0; kind = new_read k h }
