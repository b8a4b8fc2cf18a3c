use Rattle.std.proofs.Common.{◌≡◌, List, [], ◌∷◌, ◌++◌, sym, ap, subst, ◌∙◌}
use Rattle.insn_ir.specs.declared.entry.Entry.{Entry}
use Rattle.att_grammar.specs.Entries.{kind_of_piece, IsOfProfile}
use Rattle.att_grammar.proofs.InProfile.{kind_is}
use Rattle.att_reader.specs.Made.{entry}
use Rattle.att_reader.proofs.entries.read_entry.Goals as goal

-- the last of one entry is that entry
last_is : (front : List Entry) (x e : Entry) → front ++ x ∷ [] ≡ e ∷ [] → x ≡ e
last_is [] x e h = cc
last_is (f ∷ []) x e h = cc
last_is (f ∷ g ∷ gs) x e h = cc

pub returns-clause-profile : goal.returns-clause-profile
returns-clause-profile c =
    let piece = c.args.piece.now in
    let e = entry c.args.serial (kind_of_piece piece) in
    let made : c.line.new.out.items ≡ e ∷ [] = c.in_ok-line.ensures.ok ∙ ap (λ l. l ++ e ∷ []) c.in_ok-made.ensures.items in
    let last = last_is c.take_last.new.self.items c.take_last.result e (sym c.take_last.ensures.items ∙ made) in
    subst IsOfProfile (sym (ap (λ (x : Entry). x.kind) last)) (kind_is piece)
