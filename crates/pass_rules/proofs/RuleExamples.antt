-- What NOPIN, LOOP16 and BRALIGN do to small units.
use Rattle.std.proofs.Common.{◌≡◌, ◌<◌, ℕ, zero, suc, Bool, true, false, not, List, [], ◌∷◌, replicate, Option, Some, None, inl, inr, ⊎_elim, refl, sym, ◌∙◌, ap, subst, arith, lit<, lit≤}
use Rattle.std.specs.Prelude.{codes, slice_get, bytes_eq, unwrap_or, find, option_map, if◌then◌else◌}
use Rattle.std.specs.List.{list_all}
use Rattle.insn_ir.specs.declared.entry.DirectiveKind.{DirectiveKind}
use Rattle.insn_ir.specs.declared.entry.Entry.{Entry}
use Rattle.insn_ir.specs.declared.entry.EntryKind.{EntryKind}
use Rattle.insn_ir.specs.declared.op.Cond.{Cond}
use Rattle.insn_ir.specs.declared.op.Op.{Op}
use Rattle.insn_ir.specs.declared.op.Reg.TheVariants.{Rax, Rcx, Rdx, Rsi, Rdi}
use Rattle.insn_ir.specs.declared.op.Width.TheVariants.{L, Q}
use Rattle.insn_ir.specs.Code.{Code, Place, One, Line, LocalLabel, Do}
use Rattle.insn_ir.specs.Edits.{is_nop_op}
use Rattle.insn_ir.specs.Entries.{is_nop_entry}
use Rattle.insn_effects.specs.Control.{place_way}
use Rattle.blocks_cfg.specs.Loops.{JumpsTo, IsLoop}
use Rattle.blocks_cfg.proofs.Codes.{reg, num, to_name, with_none, with_one, code}
use Rattle.blocks_cfg.proofs.Codes as lines
use Rattle.relaxer.proofs.Rounds.{layout_at_once}
use Rattle.jump_tables.specs.Sections.{text}
use Rattle.asm_unit.specs.Functions.{parts_from}
use Rattle.asm_unit.specs.Edits.{has_serial}
use Rattle.asm_unit.specs.Held.{new_held, entries_of, held_without, held_inserted}
use Rattle.asm_unit.specs.Unit.{Unit, align_kind}
use Rattle.pass_script.specs.declared.kinds.PassKind.{PassKind}
use Rattle.pass_script.specs.declared.options.PassOpts.{PassOpts}
use Rattle.pass_script.specs.Catalogue.{defaults}
use Rattle.unit_edits.specs.declared.edit.Edit.{Edit}
use Rattle.pass_rules.specs.Aligning.{WithBase, WhereLaidOut, is_guarded, AlignsHeads, leaves_heads, aligns_heads, MovesBranches, aligns_branches}
use Rattle.pass_rules.specs.Branches.{none, picked, left, line_serials, AreHeads, AreBackBranches}
use Rattle.pass_rules.specs.Draws.{chosen, nops_before}
use Rattle.pass_rules.specs.Legal.{IsLegal}
use Rattle.pass_rules.specs.Layouts.{HasOffset, layout_items, jumps_elsewhere, has_layout}
use Rattle.unit_edits.specs.Replay.{replay}
use Rattle.pass_rules.specs.Rules.{Rule}
use Rattle.unit_edits.specs.Bodies.{body_of}
use Rattle.pass_rules.specs.Sites.{IsInsnAt}
use Rattle.pass_rules.proofs.Picked.{one_pick}
use Rattle.pass_rules.proofs.Small.{f, unit_with, unit_of, both, not_true, insn_at, insn, two, ret, nop, jmp, jcc, label, align, section}

-- ---- NOPKILL, from a unit to one where no edit is left

abbrev pub lacks_nops : List Entry → Bool
lacks_nops es = list_all (λ e. not (is_nop_entry e.kind)) es

kind_is : (k l : EntryKind) → ◌≡◌ {A = Option EntryKind} (Some k) (Some l) → k ≡ l
kind_is k l e = cc

pub no_nop_found : (t : Entry → Bool) (es : List Entry) (k : EntryKind) → lacks_nops es ≡ true → option_map (λ e. e.kind) (find t es) ≡ Some k → is_nop_entry k ≡ false
no_nop_found t [] k h e = cc
no_nop_found t (x ∷ es) k h e =
    let w = both (not (is_nop_entry x.kind)) (lacks_nops es) h in
    by_test (t x) (not_true (is_nop_entry x.kind) w.0) (no_nop_found t es k w.1) e
  where
    by_test : (b : Bool) → is_nop_entry x.kind ≡ false → (option_map (λ e. e.kind) (find t es) ≡ Some k → is_nop_entry k ≡ false) → option_map (λ e. e.kind) (if b then Some x else find t es) ≡ Some k → is_nop_entry k ≡ false
    by_test true n later e = subst (λ l. is_nop_entry l ≡ false) (kind_is x.kind k e) n
    by_test false n later e = later e

-- `nop / ret`
abbrev padded : Unit
padded = unit_of (nop ∷ ret ∷ [])

abbrev bare : Unit
bare = record padded { held = held_without 6 padded.held }

pub zero_is_not_one : ◌≡◌ {A = ℕ} 0 1 → ⊥
zero_is_not_one e = omega arith

none_left : (e : Edit) → IsLegal PassKind.NopKill defaults bare 0 e → ⊥
none_left (Edit.Remove serial) h =
    ⊎_elim
    (λ k. let e : is_nop_op k.insn.op ≡ false = no_nop_found (has_serial serial) (entries_of bare.held) (EntryKind.Insn k.insn) refl k.there.insn in
    let n : is_nop_op Op.Nop ≡ false = subst (λ o. is_nop_op o ≡ false) k.holds e in cc)
    (λ k. zero_is_not_one k.0)
    h
none_left _ h = h

nop_is_killed : Rule PassKind.NopKill defaults 0 padded (Edit.Remove 6 ∷ []) bare
unfolding parts_from
nop_is_killed =
    record { legal = (inl (record { insn = with_none Op.Nop Q; there = insn_at padded 6 (with_none Op.Nop Q) refl refl refl; holds = refl }), tt); none_left = none_left }

-- without that edit one is left
nop_is_left : Rule PassKind.NopKill defaults 0 padded [] padded → ⊥
unfolding parts_from
nop_is_left h = h.none_left (Edit.Remove 6) (inl (record { insn = with_none Op.Nop Q; there = insn_at padded 6 (with_none Op.Nop Q) refl refl refl; holds = refl }))

-- `nop; nop; ret`
abbrev padded_twice : Unit
padded_twice = unit_of (nop ∷ nop ∷ ret ∷ [])

abbrev padded_once : Unit
padded_once = record padded_twice { held = held_without 6 padded_twice.held }

abbrev bared : Unit
bared = record padded_twice { held = held_without 7 padded_once.held }

kills_nop : (u : Unit) (serial : ℕ) → IsInsnAt u 0 serial (with_none Op.Nop Q) → IsLegal PassKind.NopKill defaults u 0 (Edit.Remove serial)
kills_nop u serial there = inl (record { insn = with_none Op.Nop Q; there = there; holds = refl })

none_left_bared : (e : Edit) → IsLegal PassKind.NopKill defaults bared 0 e → ⊥
none_left_bared (Edit.Remove serial) h =
    ⊎_elim
    (λ k. let e : is_nop_op k.insn.op ≡ false = no_nop_found (has_serial serial) (entries_of bared.held) (EntryKind.Insn k.insn) refl k.there.insn in
    let n : is_nop_op Op.Nop ≡ false = subst (λ o. is_nop_op o ≡ false) k.holds e in cc)
    (λ k. zero_is_not_one k.0)
    h
none_left_bared _ h = h

both_nops_are_killed : Rule PassKind.NopKill defaults 0 padded_twice (Edit.Remove 6 ∷ Edit.Remove 7 ∷ []) bared
unfolding parts_from
both_nops_are_killed =
    record { legal = (kills_nop padded_twice 6 (insn_at padded_twice 6 (with_none Op.Nop Q) refl refl refl), (kills_nop padded_once 7 (insn_at padded_once 7 (with_none Op.Nop Q) refl refl refl), tt)); none_left = none_left_bared }

-- ---- NOPIN

abbrev pub seeded : PassOpts
seeded = record defaults { seed = 42; density = 50 }

-- `movl $1, %eax / movl $2, %ecx / movl $3, %edx / ret`: the numbers modulo 100 are 83, 97, 24 and 55
abbrev three_moves : Unit
three_moves = unit_of (two Op.Mov L (num 1) (reg Rax) ∷ two Op.Mov L (num 2) (reg Rcx) ∷ two Op.Mov L (num 3) (reg Rdx) ∷ ret ∷ [])

one_nop : (v : Unit) → Rule PassKind.NopIn seeded 0 three_moves (Edit.InsertNop 8 11 ∷ []) v
unfolding parts_from chosen
one_nop v = refl

not_another : (v : Unit) → Rule PassKind.NopIn seeded 0 three_moves (Edit.InsertNop 8 11 ∷ Edit.InsertNop 9 12 ∷ []) v → ⊥
unfolding parts_from chosen
not_another v h = let e = h in cc

-- `nop / ret`: no number is drawn for the `nop`, and the one for `ret` is 83
no_nop : (v : Unit) → Rule PassKind.NopIn seeded 0 padded [] v
unfolding parts_from chosen
no_nop v = refl

-- `endbr64` before the three moves: no number is drawn for it either
behind_endbr64 : (v : Unit) → Rule PassKind.NopIn seeded 0 (unit_of (insn (with_none Op.Endbr64 Q) ∷ two Op.Mov L (num 1) (reg Rax) ∷ two Op.Mov L (num 2) (reg Rcx) ∷ two Op.Mov L (num 3) (reg Rdx) ∷ ret ∷ [])) (Edit.InsertNop 9 12 ∷ []) v
unfolding parts_from chosen
behind_endbr64 v = refl

-- ---- which lines are heads or back branches

some_line : (x y : Line) → ◌≡◌ {A = Option Line} (Some x) (Some y) → x ≡ y
some_line x y e = cc

place_or_label : (p : Place) (n : List ℕ) → Do p ≡ LocalLabel n → ⊥
place_or_label p n e = cc

same_label : (m n : List ℕ) → LocalLabel m ≡ LocalLabel n → m ≡ n
same_label m n e = cc

same_place : (p q : Place) → Do p ≡ Do q → p ≡ q
same_place p q e = cc

pub place_is_no_head : (c : Code) (a b : ℕ) (p : Place) → slice_get c.lines a ≡ Some (Do p) → IsLoop c a b → ⊥
place_is_no_head c a b p e h = place_or_label p h.label (some_line (Do p) (LocalLabel h.label) (sym e ∙ h.head))

pub name_is_no_head : (c : Code) (a b : ℕ) → slice_get c.lines a ≡ Some (LocalLabel c.name) → IsLoop c a b → ⊥
name_is_no_head c a b e h = h.is_local (same_label h.label c.name (some_line (LocalLabel h.label) (LocalLabel c.name) (sym h.head ∙ e)))

pub label_is_no_branch : (c : Code) (a b : ℕ) (n : List ℕ) → slice_get c.lines b ≡ Some (LocalLabel n) → IsLoop c a b → ⊥
label_is_no_branch c a b n e h = place_or_label h.jump n (some_line (Do h.jump) (LocalLabel n) (sym h.back ∙ e))

pub place_is_no_branch : (c : Code) (a b : ℕ) (p : Place) → slice_get c.lines b ≡ Some (Do p) → ((n : List ℕ) → JumpsTo n (place_way c.tables p) → ⊥) → IsLoop c a b → ⊥
place_is_no_branch c a b p e other h =
    other h.label (subst (λ q. JumpsTo h.label (place_way c.tables q)) (sym (same_place p h.jump (some_line (Do p) (Do h.jump) (sym e ∙ h.back)))) h.jumps)

-- a jump to another label than that of the line a
jumps_to_one : (c : Code) (a b : ℕ) (m n : List ℕ) → slice_get c.lines a ≡ Some (LocalLabel m) → slice_get c.lines b ≡ Some (lines.jcc Cond.Ne n) → (m ≡ n → ⊥) → IsLoop c a b → ⊥
jumps_to_one c a b m n at back differ h =
    let l : m ≡ h.label = same_label m h.label (some_line (LocalLabel m) (LocalLabel h.label) (sym at ∙ h.head)) in
    let j : One (with_one (Op.Jcc Cond.Ne) Q (to_name n)) ≡ h.jump = same_place (One (with_one (Op.Jcc Cond.Ne) Q (to_name n))) h.jump (some_line (lines.jcc Cond.Ne n) (Do h.jump) (sym back ∙ h.back)) in
    let k : JumpsTo h.label (place_way c.tables (One (with_one (Op.Jcc Cond.Ne) Q (to_name n)))) = subst (λ p. JumpsTo h.label (place_way c.tables p)) (sym j) h.jumps in
    differ (l ∙ sym k)

-- ---- LOOP16

abbrev to_l1 : Place
to_l1 = One (with_one (Op.Jcc Cond.Ne) Q (to_name (codes ".L1")))

-- `xorl %eax, %eax / .L1: / addl %edi, %eax / subl $1, %edi / jne .L1 / ret`
abbrev pub counted : Unit
counted =
    unit_of
    (two Op.Xor L (reg Rax) (reg Rax) ∷ label (codes ".L1") ∷ EntryKind.Blank ∷ two Op.Add L (reg Rdi) (reg Rax) ∷ two Op.Sub L (num 1) (reg Rdi) ∷ jcc Cond.Ne (codes ".L1") ∷ ret ∷ [])

abbrev pub counted_code : Code
counted_code =
    code
    (lines.label f ∷ lines.two Op.Xor L (reg Rax) (reg Rax) ∷ lines.label (codes ".L1") ∷ lines.two Op.Add L (reg Rdi) (reg Rax) ∷ lines.two Op.Sub L (num 1) (reg Rdi) ∷ lines.jcc Cond.Ne (codes ".L1") ∷ lines.ret ∷ [])

no_label_in_it : (k : ℕ) (n : List ℕ) → 2 < k → k < 5 → slice_get counted_code.lines k ≡ Some (LocalLabel n) → ⊥
no_label_in_it zero n lo hi e = omega arith
no_label_in_it (suc zero) n lo hi e = omega arith
no_label_in_it (suc (suc zero)) n lo hi e = omega arith
no_label_in_it (suc (suc (suc zero))) n lo hi e = cc
no_label_in_it (suc (suc (suc (suc zero)))) n lo hi e = cc
no_label_in_it (suc (suc (suc (suc (suc k))))) n lo hi e = omega arith

pub counted_loop : IsLoop counted_code 2 5
counted_loop =
    record { label = codes ".L1"; jump = to_l1; head = refl; is_local = λ h. cc; back = refl; later = lit< tt; jumps = refl; closed = λ k c p n out there lo hi mark l. no_label_in_it k n lo hi mark }

pub counted_heads : AreHeads counted 0 (7 ∷ [])
unfolding parts_from
counted_heads =
    left 4 _ _ (λ h. name_is_no_head counted_code 0 h.0 refl h.1)
    (left 6 _ _ (λ h. place_is_no_head counted_code 1 h.0 _ refl h.1)
    (picked 7 _ _ (5, counted_loop)
    (left 9 _ _ (λ h. place_is_no_head counted_code 3 h.0 _ refl h.1)
    (left 10 _ _ (λ h. place_is_no_head counted_code 4 h.0 _ refl h.1)
    (left 11 _ _ (λ h. place_is_no_head counted_code 5 h.0 _ refl h.1)
    (left 12 _ _ (λ h. place_is_no_head counted_code 6 h.0 _ refl h.1) none))))))

-- with the alignment before `.L1`
abbrev pub counted_aligned : Unit
counted_aligned = record counted { held = held_inserted 7 (new_held 14 (align_kind 4)) counted.held; last = 14 }

head_is_aligned : (v : Unit) → Rule PassKind.Loop16 defaults 0 counted (Edit.InsertAlign 7 14 4 ∷ []) v
unfolding parts_from
head_is_aligned v = aligns_heads 7 [] counted_heads refl (inl (lit≤ tt, inl (refl, inr (counted_aligned, [], record { unguarded = refl; first = refl; after = refl }, refl))))

-- `xorl`, `addl`, `subl`, `jne` and `ret` draw 83, 97, 24, 55 and 55; the alignment and labels draw none
one_nop_in_the_loop : (v : Unit) → Rule PassKind.NopIn seeded 0 counted_aligned (Edit.InsertNop 10 15 ∷ []) v
unfolding parts_from chosen
one_nop_in_the_loop v = refl

-- it isn't left out
not_left_out : AlignsHeads 0 (7 ∷ []) counted [] → ⊥
unfolding parts_from
not_left_out h = ⊎_elim (λ k. let e = k.0 in cc) (λ k. let e = k.2.first in cc) h

not_idle : (v : Unit) → Rule PassKind.Loop16 defaults 0 counted [] v → ⊥
unfolding parts_from
not_idle v (leaves_heads heads are none_or_elsewhere e) =
    ⊎_elim (λ k. let d : 7 ∷ [] ≡ [] = one_pick (line_serials counted 0) (7 ∷ []) heads counted_heads are ∙ k in cc) (λ k. cc) none_or_elsewhere
not_idle v (aligns_heads head heads are goes h) =
    let d : 7 ∷ [] ≡ head ∷ heads = one_pick (line_serials counted 0) (7 ∷ []) (head ∷ heads) counted_heads are in
    ⊎_elim
    (λ k. ⊎_elim (λ m. not_left_out (subst (λ hs. AlignsHeads 0 hs counted []) (sym d) m.1)) (λ m. let e = m.0 in cc) k.1)
    (λ k. let e = k.2.first in cc)
    h

-- nor done twice
pub aligned_heads : AreHeads counted_aligned 0 (7 ∷ [])
unfolding parts_from
aligned_heads =
    left 4 _ _ (λ h. name_is_no_head counted_code 0 h.0 refl h.1)
    (left 6 _ _ (λ h. place_is_no_head counted_code 1 h.0 _ refl h.1)
    (picked 7 _ _ (5, counted_loop)
    (left 9 _ _ (λ h. place_is_no_head counted_code 3 h.0 _ refl h.1)
    (left 10 _ _ (λ h. place_is_no_head counted_code 4 h.0 _ refl h.1)
    (left 11 _ _ (λ h. place_is_no_head counted_code 5 h.0 _ refl h.1)
    (left 12 _ _ (λ h. place_is_no_head counted_code 6 h.0 _ refl h.1) none))))))

guarded_then : (v : Unit) → Rule PassKind.Loop16 defaults 0 counted_aligned [] v
unfolding parts_from
guarded_then v = aligns_heads 7 [] aligned_heads refl (inl (lit≤ tt, inl (refl, inl (refl, refl))))

-- `nop / .L1: / .L2: / jne .L2 / jne .L1 / ret`: the alignment before the one head guards the next
abbrev nested : Unit
nested =
    unit_of
    (nop ∷ label (codes ".L1") ∷ EntryKind.Blank ∷ label (codes ".L2") ∷ EntryKind.Blank ∷ jcc Cond.Ne (codes ".L2") ∷ jcc Cond.Ne (codes ".L1") ∷ ret ∷ [])

one_guards_both : AlignsHeads 0 (7 ∷ 9 ∷ []) nested (Edit.InsertAlign 7 15 4 ∷ [])
unfolding parts_from
one_guards_both =
    inr (record nested { held = held_inserted 7 (new_held 15 (align_kind 4)) nested.held; last = 15 }, [], record { unguarded = refl; first = refl; after = refl }, inl (refl, refl))

-- `.p2align 5 / .L1: / jne .L1 / ret` behind a label without an alignment: the one before the label is set, and then there is
-- still no layout
abbrev unaligned : Unit
unaligned =
    unit_with false
    (section text.name true ∷ EntryKind.Directive (DirectiveKind.FuncType f) ∷ label f ∷ EntryKind.Blank ∷ align 5 ∷ label (codes ".L1") ∷ EntryKind.Blank ∷ jcc Cond.Ne (codes ".L1") ∷ ret ∷ EntryKind.Directive (DirectiveKind.FuncEnd f) ∷ [])

abbrev label_aligned : Unit
label_aligned = record unaligned { held = held_inserted 3 (new_held 11 (align_kind 4)) unaligned.held; last = 11 }

label_alone : WithBase 4 0 (WhereLaidOut 0 (AlignsHeads 0 (6 ∷ []))) unaligned (Edit.InsertAlign 3 11 4 ∷ [])
unfolding parts_from
label_alone =
    inr (label_aligned, [], record { lower = lit< tt; label = 3; is_label = (record { entry = record { serial = 3; kind = label f }; section = text }, refl, refl); first = refl; after = refl }, inr (refl, refl))

-- `jmp .L2 / .L1: / nop / .L2: / jne .L1 / ret`: the first jump names a label of the loop, so there is no head, and nothing is done
abbrev entered : Unit
entered =
    unit_of
    (jmp (codes ".L2") ∷ label (codes ".L1") ∷ EntryKind.Blank ∷ nop ∷ label (codes ".L2") ∷ EntryKind.Blank ∷ jcc Cond.Ne (codes ".L1") ∷ ret ∷ [])

abbrev entered_code : Code
entered_code =
    code
    (lines.label f ∷ lines.jmp (codes ".L2") ∷ lines.label (codes ".L1") ∷ lines.nop ∷ lines.label (codes ".L2") ∷ lines.jcc Cond.Ne (codes ".L1") ∷ lines.ret ∷ [])

entered_l1 : (b : ℕ) → IsLoop entered_code 2 b → ⊥
entered_l1 zero h = absurd (omega (arith, h.later))
entered_l1 (suc zero) h = absurd (omega (arith, h.later))
entered_l1 (suc (suc zero)) h = absurd (omega (arith, h.later))
entered_l1 (suc (suc (suc zero))) h = place_is_no_branch entered_code 2 3 _ refl (λ n j. j) h
entered_l1 (suc (suc (suc (suc zero)))) h = label_is_no_branch entered_code 2 4 _ refl h
entered_l1 (suc (suc (suc (suc (suc zero))))) h =
    h.closed 4 1 (One (with_one Op.Jmp Q (to_name (codes ".L2")))) (codes ".L2") (inl (lit< tt)) refl (lit< tt) (lit< tt) refl refl
entered_l1 (suc (suc (suc (suc (suc (suc zero)))))) h = place_is_no_branch entered_code 2 6 _ refl (λ n j. j) h
entered_l1 (suc (suc (suc (suc (suc (suc (suc b))))))) h = let e = h.back in cc

labels_differ : codes ".L2" ≡ codes ".L1" → ⊥
labels_differ e = let k : true ≡ false = ap (bytes_eq (codes ".L2")) e in cc

entered_l2 : (b : ℕ) → IsLoop entered_code 4 b → ⊥
entered_l2 (suc (suc (suc (suc (suc zero))))) h = jumps_to_one entered_code 4 5 (codes ".L2") (codes ".L1") refl refl labels_differ h
entered_l2 (suc (suc (suc (suc (suc (suc zero)))))) h = place_is_no_branch entered_code 4 6 _ refl (λ n j. j) h
entered_l2 (suc (suc (suc (suc (suc (suc (suc b))))))) h = let e = h.back in cc
entered_l2 _ h = absurd (omega (arith, h.later))

entered_heads : AreHeads entered 0 []
unfolding parts_from
entered_heads =
    left 4 _ _ (λ h. name_is_no_head entered_code 0 h.0 refl h.1)
    (left 6 _ _ (λ h. place_is_no_head entered_code 1 h.0 _ refl h.1)
    (left 7 _ _ (λ h. entered_l1 h.0 h.1)
    (left 9 _ _ (λ h. place_is_no_head entered_code 3 h.0 _ refl h.1)
    (left 10 _ _ (λ h. entered_l2 h.0 h.1)
    (left 12 _ _ (λ h. place_is_no_head entered_code 5 h.0 _ refl h.1)
    (left 13 _ _ (λ h. place_is_no_head entered_code 6 h.0 _ refl h.1) none))))))

no_loop_no_edit : (v : Unit) → Rule PassKind.Loop16 defaults 0 entered [] v
unfolding parts_from
no_loop_no_edit v = leaves_heads [] entered_heads (inl refl) refl

-- `.p2align 4,,10` before the head doesn't always pad, `.p2align 3` pads to less, `.p2align 4,,15` does; where nothing stands before a head, the function's alignment is its own
not_guarded_within_10 : is_guarded (unit_of (ret ∷ EntryKind.Directive (DirectiveKind.Align 4 None (Some 10)) ∷ label (codes ".L1") ∷ jcc Cond.Ne (codes ".L1") ∷ ret ∷ [])) 0 8 ≡ false
unfolding parts_from
not_guarded_within_10 = refl

not_guarded_by_8 : is_guarded (unit_of (ret ∷ align 3 ∷ label (codes ".L1") ∷ jcc Cond.Ne (codes ".L1") ∷ ret ∷ [])) 0 8 ≡ false
unfolding parts_from
not_guarded_by_8 = refl

guarded_within_15 : is_guarded (unit_of (ret ∷ EntryKind.Directive (DirectiveKind.Align 4 None (Some 15)) ∷ EntryKind.Directive DirectiveKind.Cfi ∷ label (codes ".L1") ∷ jcc Cond.Ne (codes ".L1") ∷ ret ∷ [])) 0 9 ≡ true
unfolding parts_from
guarded_within_15 = refl

guarded_at_the_begin : is_guarded (unit_of (label (codes ".L1") ∷ jcc Cond.Ne (codes ".L1") ∷ ret ∷ [])) 0 6 ≡ true
unfolding parts_from
guarded_at_the_begin = refl

-- ---- whether there is a layout

-- `.L1: / jne .L1 / jmp f`: a jump to the function's own name
jump_to_itself : jumps_elsewhere (unit_of (label (codes ".L1") ∷ jcc Cond.Ne (codes ".L1") ∷ jmp f ∷ [])) 0 ≡ true
unfolding parts_from
jump_to_itself = refl

-- `jmp g`, where the file has no `g`
jump_out_of_the_file : jumps_elsewhere (unit_of (jmp (codes "g") ∷ [])) 0 ≡ false
unfolding parts_from
jump_out_of_the_file = refl

laid_out : has_layout (unit_of (align 4 ∷ ret ∷ [])) 0 ≡ true
unfolding parts_from
laid_out = refl

-- the base power is 4
base_too_small : has_layout (unit_of (align 5 ∷ ret ∷ [])) 0 ≡ false
unfolding parts_from
base_too_small = refl

-- ---- BRALIGN

abbrev to_l2 : Place
to_l2 = One (with_one (Op.Jcc Cond.Ne) Q (to_name (codes ".L2")))

-- `.L1: / subl $1, %edi / jne .L1 / .L2: / subl $1, %esi / jne .L2 / ret`
abbrev pub two_loops : Unit
two_loops =
    unit_of
    (label (codes ".L1") ∷ EntryKind.Blank ∷ two Op.Sub L (num 1) (reg Rdi) ∷ jcc Cond.Ne (codes ".L1") ∷ label (codes ".L2") ∷ EntryKind.Blank ∷ two Op.Sub L (num 1) (reg Rsi) ∷ jcc Cond.Ne (codes ".L2") ∷ ret ∷ [])

abbrev pub two_loops_code : Code
two_loops_code =
    code
    (lines.label f ∷ lines.label (codes ".L1") ∷ lines.two Op.Sub L (num 1) (reg Rdi) ∷ lines.jcc Cond.Ne (codes ".L1") ∷ lines.label (codes ".L2") ∷ lines.two Op.Sub L (num 1) (reg Rsi) ∷ lines.jcc Cond.Ne (codes ".L2") ∷ lines.ret ∷ [])

no_label_in_first : (k : ℕ) (n : List ℕ) → 1 < k → k < 3 → slice_get two_loops_code.lines k ≡ Some (LocalLabel n) → ⊥
no_label_in_first zero n lo hi e = omega arith
no_label_in_first (suc zero) n lo hi e = omega arith
no_label_in_first (suc (suc zero)) n lo hi e = cc
no_label_in_first (suc (suc (suc k))) n lo hi e = omega arith

no_label_in_second : (k : ℕ) (n : List ℕ) → 4 < k → k < 6 → slice_get two_loops_code.lines k ≡ Some (LocalLabel n) → ⊥
no_label_in_second zero n lo hi e = omega arith
no_label_in_second (suc zero) n lo hi e = omega arith
no_label_in_second (suc (suc zero)) n lo hi e = omega arith
no_label_in_second (suc (suc (suc zero))) n lo hi e = omega arith
no_label_in_second (suc (suc (suc (suc zero)))) n lo hi e = omega arith
no_label_in_second (suc (suc (suc (suc (suc zero))))) n lo hi e = cc
no_label_in_second (suc (suc (suc (suc (suc (suc k)))))) n lo hi e = omega arith

pub first_loop : IsLoop two_loops_code 1 3
first_loop =
    record { label = codes ".L1"; jump = to_l1; head = refl; is_local = λ h. cc; back = refl; later = lit< tt; jumps = refl; closed = λ k c p n out there lo hi mark l. no_label_in_first k n lo hi mark }

pub second_loop : IsLoop two_loops_code 4 6
second_loop =
    record { label = codes ".L2"; jump = to_l2; head = refl; is_local = λ h. cc; back = refl; later = lit< tt; jumps = refl; closed = λ k c p n out there lo hi mark l. no_label_in_second k n lo hi mark }

pub two_back_branches : AreBackBranches two_loops 0 (9 ∷ 13 ∷ [])
unfolding parts_from
two_back_branches =
    left 4 _ _ (λ h. label_is_no_branch two_loops_code h.0 0 _ refl h.1)
    (left 6 _ _ (λ h. label_is_no_branch two_loops_code h.0 1 _ refl h.1)
    (left 8 _ _ (λ h. place_is_no_branch two_loops_code h.0 2 _ refl (λ n j. j) h.1)
    (picked 9 _ _ (1, first_loop)
    (left 10 _ _ (λ h. label_is_no_branch two_loops_code h.0 4 _ refl h.1)
    (left 12 _ _ (λ h. place_is_no_branch two_loops_code h.0 5 _ refl (λ n j. j) h.1)
    (picked 13 _ _ (4, second_loop)
    (left 14 _ _ (λ h. place_is_no_branch two_loops_code h.0 7 _ refl (λ n j. j) h.1) none)))))))

-- with `.p2align 5` before `f:`
abbrev pub two_loops_aligned : Unit
two_loops_aligned = record two_loops { held = held_inserted 4 (new_held 16 (align_kind 5)) two_loops.held; last = 16 }

-- the second branch stands at 8, so 24 `nop` go before it
abbrev nops : List Edit
nops = nops_before 16 (replicate 24 13)

abbrev pub two_loops_apart : Unit
two_loops_apart = unwrap_or (replay nops two_loops_aligned) two_loops_aligned

pub first_at_3 : HasOffset (body_of two_loops_aligned 0) 9 3
unfolding parts_from
first_at_3 = record { rounds = 0; layout = layout_at_once (layout_items (body_of two_loops_aligned 0)) refl; at = refl }

pub second_at_8 : HasOffset (body_of two_loops_aligned 0) 13 8
unfolding parts_from
second_at_8 = record { rounds = 0; layout = layout_at_once (layout_items (body_of two_loops_aligned 0)) refl; at = refl }

pub second_then_at_32 : HasOffset (body_of two_loops_apart 0) 13 32
unfolding parts_from
second_then_at_32 = record { rounds = 0; layout = layout_at_once (layout_items (body_of two_loops_apart 0)) refl; at = refl }

second_is_moved : (v : Unit) → Rule PassKind.BrAlign defaults 0 two_loops (Edit.InsertAlign 4 16 5 ∷ nops) v
unfolding parts_from
second_is_moved v =
    aligns_branches 9 13 [] two_back_branches refl
    (inr (two_loops_aligned, nops, record { lower = lit< tt; label = 4; is_label = (record { entry = record { serial = 4; kind = label f }; section = text }, refl, refl); first = refl; after = refl }, inl (refl, inl (two_loops_apart, [], record { allowed = lit< tt; from = 3; at = 8; offsets = record { last_there = first_at_3; there = second_at_8 }; together = refl; first = refl; after = refl }, refl))))

-- also where only one may be moved
one_is_enough : (v : Unit) → Rule PassKind.BrAlign (record defaults { max = 1 }) 0 two_loops (Edit.InsertAlign 4 16 5 ∷ nops) v
unfolding parts_from
one_is_enough v =
    aligns_branches 9 13 [] two_back_branches refl
    (inr (two_loops_aligned, nops, record { lower = lit< tt; label = 4; is_label = (record { entry = record { serial = 4; kind = label f }; section = text }, refl, refl); first = refl; after = refl }, inl (refl, inl (two_loops_apart, [], record { allowed = lit< tt; from = 3; at = 8; offsets = record { last_there = first_at_3; there = second_at_8 }; together = refl; first = refl; after = refl }, refl))))

-- where none may be moved any more it stays
none_left_to_move : MovesBranches 0 0 9 (13 ∷ []) two_loops_aligned []
none_left_to_move = inr (inl refl, refl)

no_more_than_max : MovesBranches 0 0 9 (13 ∷ []) two_loops_aligned nops → ⊥
no_more_than_max h = ⊎_elim (λ k. absurd (omega (arith, k.2.allowed))) (λ k. let e = k.1 in cc) h
