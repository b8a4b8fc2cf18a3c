-- Passes that are done: each edit was legal, and none is left.
use Rattle.std.proofs.Common.{◌≡◌, ℕ, zero, suc, Bool, true, false, not, List, [], ◌∷◌, Option, Some, ⊎_elim, refl, sym, ◌∙◌, ap, subst}
use Rattle.std.specs.Prelude.{codes, slice_get}
use Rattle.std.specs.List.{list_all}
use Rattle.insn_ir.specs.declared.insn.Insn.{Insn}
use Rattle.insn_ir.specs.declared.op.Cond.{Cond}
use Rattle.insn_ir.specs.declared.op.Op.{Op}
use Rattle.insn_ir.specs.Code.{Code, One, Line, Do}
use Rattle.insn_ir.specs.declared.op.Reg.TheVariants.{Rax, Rdx, Rdi}
use Rattle.insn_ir.specs.declared.op.Width.TheVariants.{L, Q}
use Rattle.insn_effects.specs.Control.{Straight, place_way}
use Rattle.insn_effects.specs.Footprint.{InReg, ◌⊔◌}
use Rattle.insn_effects.specs.Places.{own_footprint}
use Rattle.blocks_cfg.specs.Fed.{is_among}
use Rattle.blocks_cfg.proofs.Codes.{reg, num, at_base, mem, to_name, with_none, with_one, with_two, code}
use Rattle.blocks_cfg.proofs.Codes as lines
use Rattle.blocks_cfg.proofs.Computed.{live_are, reached_are}
use Rattle.drop_laws.specs.Removals.{place_of, IsUnreached, IsDead}
use Rattle.asm_unit.specs.Functions.{parts_from}
use Rattle.asm_unit.specs.Held.{held_without}
use Rattle.asm_unit.specs.Unit.{Unit}
use Rattle.pass_script.specs.declared.kinds.PassKind.{PassKind}
use Rattle.pass_script.specs.Catalogue.{defaults}
use Rattle.unit_edits.specs.declared.edit.Edit.{Edit}
use Rattle.unit_edits.specs.Bodies.{code_of}
use Rattle.pass_rules.specs.Legal.{IsToldTest, IsClearingMove, IsLegal}
use Rattle.pass_rules.specs.Rules.{Rule}
use Rattle.pass_rules.specs.Sites.{line_of}
use Rattle.pass_rules.proofs.LegalExamples.{tested, told_before_je, by_cmov, clears_after_cmov, jump_over, same_place}
use Rattle.pass_rules.proofs.Small.{f, both, not_true}

-- ---- lines of which an instruction's test holds on none

abbrev line_test : (Op → Bool) → Line → Bool
line_test t (Do (One i)) = t i.op
line_test t _ = false

abbrev lacks : (Op → Bool) → List Line → Bool
lacks t ls = list_all (λ l. not (line_test t l)) ls

some_line : (x y : Line) → ◌≡◌ {A = Option Line} (Some x) (Some y) → x ≡ y
some_line x y e = cc

fails_there : (t : Op → Bool) (ls : List Line) (at : ℕ) (i : Insn) → lacks t ls ≡ true → slice_get ls at ≡ Some (Do (One i)) → t i.op ≡ false
fails_there t [] zero i h e = cc
fails_there t [] (suc at) i h e = cc
fails_there t (l ∷ ls) zero i h e =
    subst (λ x. line_test t x ≡ false) (some_line l (Do (One i)) e) (not_true (line_test t l) (both (not (line_test t l)) (lacks t ls) h).0)
fails_there t (l ∷ ls) (suc at) i h e = fails_there t ls at i (both (not (line_test t l)) (lacks t ls) h).1 e

cross : (b : Bool) → b ≡ true → b ≡ false → ⊥
cross b h k = let e : true ≡ false = sym h ∙ k in cc

-- ---- REDTEST

abbrev is_test : Op → Bool
is_test Op.Test = true
is_test _ = false

none_told : (c : Code) (at : ℕ) (i : Insn) → lacks is_test c.lines ≡ true → IsToldTest c at i → ⊥
none_told c at i h k = cross (is_test k.2.insn.op) (ap is_test k.2.op) (fails_there is_test c.lines at k.2.insn h k.2.there)

abbrev untested : Unit
untested = record (tested Op.Sub Cond.E) { held = held_without 7 (tested Op.Sub Cond.E).held }

no_test_left : (e : Edit) → IsLegal PassKind.RedTest defaults untested 0 e → ⊥
unfolding parts_from
no_test_left (Edit.Remove serial) h = none_told (code_of untested 0) (line_of untested 0 serial) h.insn refl h.holds
no_test_left _ h = h

test_is_gone : Rule PassKind.RedTest defaults 0 (tested Op.Sub Cond.E) (Edit.Remove 7 ∷ []) untested
test_is_gone = record { legal = (told_before_je, tt); none_left = no_test_left }

-- ---- ZEE

abbrev is_mov : Op → Bool
is_mov Op.Mov = true
is_mov _ = false

none_clearing : (c : Code) (at : ℕ) (i : Insn) → lacks is_mov c.lines ≡ true → IsClearingMove c at i → ⊥
none_clearing c at i h k = cross (is_mov k.1.insn.op) (ap is_mov k.1.op) (fails_there is_mov c.lines at k.1.insn h k.1.there)

abbrev by_cmov_alone : Unit
by_cmov_alone = record by_cmov { held = held_without 8 by_cmov.held }

no_move_left : (e : Edit) → IsLegal PassKind.Zee defaults by_cmov_alone 0 e → ⊥
unfolding parts_from
no_move_left (Edit.Remove serial) h = none_clearing (code_of by_cmov_alone 0) (line_of by_cmov_alone 0 serial) h.insn refl h.holds
no_move_left _ h = h

move_is_gone : Rule PassKind.Zee defaults 0 by_cmov (Edit.Remove 8 ∷ []) by_cmov_alone
move_is_gone = record { legal = (clears_after_cmov, tt); none_left = no_move_left }

-- ---- DCE

-- `movl (%rdi), %edx / jmp .L2 / .L2: / movl $1, %eax / movl $2, %edx / ret`: nothing more goes
abbrev jump_alone : Unit
jump_alone = record jump_over { held = held_without 9 (held_without 6 jump_over.held) }

abbrev jump_alone_code : Code
jump_alone_code =
    code
    (lines.label f ∷ lines.two Op.Mov L (mem (at_base 0 Rdi)) (reg Rdx) ∷ lines.jmp (codes ".L2") ∷ lines.label (codes ".L2") ∷ lines.two Op.Mov L (num 1) (reg Rax) ∷ lines.two Op.Mov L (num 2) (reg Rdx) ∷ lines.ret ∷ [])

is_reached : (at : ℕ) → is_among (place_of jump_alone_code at) (0 ∷ 1 ∷ 2 ∷ 3 ∷ 4 ∷ []) ≡ true → IsUnreached jump_alone_code at → ⊥
unfolding ◌⊔◌
is_reached at h n = n.unreached ((reached_are jump_alone_code (0 ∷ 1 ∷ 2 ∷ 3 ∷ 4 ∷ []) refl).exactly.sound (place_of jump_alone_code at) h)

keeps_dead : (at : ℕ) → IsDead jump_alone_code at → ⊥
unfolding ◌⊔◌
keeps_dead zero d = let e = d.there in cc
keeps_dead (suc zero) d =
    let e = subst (λ p. (own_footprint p).may_stop ≡ false) (sym (same_place (One (with_two Op.Mov L (mem (at_base 0 Rdi)) (reg Rdx))) d.place d.there)) d.goes_on in cc
keeps_dead (suc (suc zero)) d =
    let e = subst (λ p. place_way [] p ≡ Straight) (sym (same_place (One (with_one Op.Jmp Q (to_name (codes ".L2")))) d.place d.there)) d.straight in cc
keeps_dead (suc (suc (suc zero))) d = let e = d.there in cc
keeps_dead (suc (suc (suc (suc zero)))) d =
    d.unread (InReg Rax) (subst (λ p. (own_footprint p).writes (InReg Rax) ≡ true) (same_place (One (with_two Op.Mov L (num 1) (reg Rax))) d.place d.there) refl) ((live_are jump_alone_code (InReg Rax) (2 ∷ 3 ∷ []) refl).exactly.sound 2 refl)
keeps_dead (suc (suc (suc (suc (suc zero))))) d =
    d.unread (InReg Rdx) (subst (λ p. (own_footprint p).writes (InReg Rdx) ≡ true) (same_place (One (with_two Op.Mov L (num 2) (reg Rdx))) d.place d.there) refl) ((live_are jump_alone_code (InReg Rdx) (3 ∷ []) refl).exactly.sound 3 refl)
keeps_dead (suc (suc (suc (suc (suc (suc zero)))))) d =
    let e = subst (λ p. place_way [] p ≡ Straight) (sym (same_place (One (with_none Op.Ret Q)) d.place d.there)) d.straight in cc
keeps_dead (suc (suc (suc (suc (suc (suc (suc at))))))) d = let e = d.there in cc

keeps_unreached : (at : ℕ) → IsUnreached jump_alone_code at → ⊥
unfolding ◌⊔◌
keeps_unreached zero n = let e = n.there in cc
keeps_unreached (suc zero) n = is_reached 1 refl n
keeps_unreached (suc (suc zero)) n = is_reached 2 refl n
keeps_unreached (suc (suc (suc zero))) n = let e = n.there in cc
keeps_unreached (suc (suc (suc (suc zero)))) n = is_reached 4 refl n
keeps_unreached (suc (suc (suc (suc (suc zero))))) n = is_reached 5 refl n
keeps_unreached (suc (suc (suc (suc (suc (suc zero)))))) n = is_reached 6 refl n
keeps_unreached (suc (suc (suc (suc (suc (suc (suc at))))))) n = let e = n.there in cc

nothing_more_goes : (e : Edit) → IsLegal PassKind.Dce defaults jump_alone 0 e → ⊥
unfolding parts_from
nothing_more_goes (Edit.Remove serial) h =
    ⊎_elim (λ n. keeps_unreached (line_of jump_alone 0 serial) n) (λ n. keeps_dead (line_of jump_alone 0 serial) n.0) h.holds
nothing_more_goes _ h = h
