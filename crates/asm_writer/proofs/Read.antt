-- Canonical text that was written is read back.
use Rattle.std.proofs.Common.{◌≡◌, ℕ, ◌^◌, ◌≤◌, List, Option, ap, ◌∙◌}
use Rattle.insn_ir.specs.declared.insn.Insn.{Insn}
use Rattle.insn_ir.specs.declared.entry.EntryKind.{EntryKind}
use Rattle.insn_ir.specs.declared.entry.DirectiveKind.{DirectiveKind}
use Rattle.insn_ir.specs.Profile.{IsInstruction}
use Rattle.att_grammar.specs.Directives.{IsBelow}
use Rattle.att_grammar.specs.Canonical.{insn_text, align_text}
use Rattle.att_grammar.specs.Entries.{kind_of_piece}
use Rattle.att_grammar.proofs.CanonicalLaw.{insn_text_read, align_text_read}

pub insn_read : (bytes : List ℕ) (i : Insn) → bytes ≡ insn_text i → IsInstruction i → kind_of_piece bytes ≡ EntryKind.Insn i
insn_read bytes i e h = ap kind_of_piece e ∙ insn_text_read i h

pub align_read : (bytes : List ℕ) (power : ℕ) (fill max : Option ℕ) → bytes ≡ align_text power fill max → power ≤ 12 → IsBelow (2 ^ 64) fill → IsBelow (2 ^ 32) max
    → kind_of_piece bytes ≡ EntryKind.Directive (DirectiveKind.Align power fill max)
align_read bytes power fill max e p f m = ap kind_of_piece e ∙ align_text_read power fill max p f m
