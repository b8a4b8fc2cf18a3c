-- Loops of small codes: the lines a and b of each, counted from 0 with labels.
use Rattle.std.proofs.Common.{◌≡◌, ◌⊎◌, ℕ, zero, suc, ◌<◌, ltb, Bool, true, false, not, ◌&&◌, ◌||◌, List, [], ◌∷◌, length, Option, Some, inl, inr, ⊎_elim, refl, sym, ap, subst, arith}
use Rattle.std.specs.Prelude.{codes, slice_get, bytes_eq}
use Rattle.std.specs.List.{list_any}
use Rattle.std.proofs.lemmas.Bool.Decides.{Decides-ltb}
use Rattle.std.proofs.lemmas.Option.{slice_get_within}
use Rattle.insn_ir.specs.declared.op.Reg.TheVariants.{Rax, Rsi, Rdi}
use Rattle.insn_ir.specs.declared.op.Cond.{Cond}
use Rattle.insn_ir.specs.declared.op.Op.{Op}
use Rattle.insn_ir.specs.declared.op.Width.TheVariants.{L, Q}
use Rattle.insn_ir.specs.Machine.{Target, Named, Numbered}
use Rattle.insn_ir.specs.Code.{Code, Place, One, Line, LocalLabel, Do}
use Rattle.insn_effects.specs.Control.{Way, Direct, Conditional, Through, place_way}
use Rattle.blocks_cfg.specs.Flow.{IsAmong}
use Rattle.blocks_cfg.specs.Loops.{TargetIs, LeadsTo, IsLoop}
use Rattle.blocks_cfg.proofs.Codes.{reg, num, to_name, with_one, two, label, ret, nop, jmp, jcc, through, code, with_table}
use Rattle.blocks_cfg.proofs.Makers.{bytes_tell}
use Rattle.blocks_cfg.proofs.Computed.{and_left, and_right, below_or_last}
use Rattle.blocks_cfg.proofs.LiveExamples.{counted}

-- ---- a test that nothing outside jumps to a label between

abbrev target_is : List ℕ → Target → Bool
target_is n (Named m spec) = bytes_eq m n
target_is n (Numbered v) = false

abbrev leads_to : List ℕ → Way → Bool
leads_to n (Direct t) = target_is n t
leads_to n (Conditional t) = target_is n t
leads_to n (Through cells) = list_any (λ m. bytes_eq m n) cells
leads_to n _ = false

name_leads : (n : List ℕ) (t : Target) → TargetIs n t → target_is n t ≡ true
name_leads n (Named m spec) h = (bytes_tell m n).is_true h
name_leads n (Numbered v) h = absurd h

cell_leads : (n : List ℕ) (cells : List (List ℕ)) → IsAmong n cells → list_any (λ m. bytes_eq m n) cells ≡ true
cell_leads n [] h = absurd h
cell_leads n (m ∷ ms) h =
    ⊎_elim (λ e. ap (λ b. (b || list_any (λ m. bytes_eq m n) ms)) ((bytes_tell m n).is_true e)) (λ k. behind (bytes_eq m n) (cell_leads n ms k)) h
  where
    behind : (b : Bool) → list_any (λ m. bytes_eq m n) ms ≡ true → (b || list_any (λ m. bytes_eq m n) ms) ≡ true
    behind true k = refl
    behind false k = k

leads : (n : List ℕ) (y : Way) → LeadsTo n y → leads_to n y ≡ true
leads n (Direct t) h = name_leads n t h
leads n (Conditional t) h = name_leads n t h
leads n (Through cells) h = cell_leads n cells h
leads n _ h = absurd h

abbrev leads_line : Code → Option Line → Option Line → Bool
leads_line f (Some (Do p)) (Some (LocalLabel n)) = leads_to n (place_way f.tables p)
leads_line f _ _ = false

abbrev each_below : (ℕ → Bool) → ℕ → Bool
each_below t zero = true
each_below t (suc n) = t n && each_below t n

-- no line c outside a to b leads to a label k between
abbrev stays_out : Code → ℕ → ℕ → ℕ → ℕ → Bool
stays_out f a b c k =
    not (leads_line f (slice_get f.lines c) (slice_get f.lines k)) || not ((ltb c a || ltb b c) && (ltb a k && ltb k b))

abbrev closed_test : Code → ℕ → ℕ → Bool
closed_test f a b = each_below (λ c. each_below (λ k. stays_out f a b c k) (length f.lines)) (length f.lines)

below_is : (t : ℕ → Bool) (n : ℕ) → each_below t n ≡ true → (k : ℕ) → k < n → t k ≡ true
below_is t zero h k lt = absurd (omega arith)
below_is t (suc n) h k lt =
    ⊎_elim (λ l. below_is t n (and_right (t n) (each_below t n) h) k l) (λ e. subst (λ z. t z ≡ true) (sym e) (and_left _ _ h)) (below_or_last k n lt)

closed : (f : Code) (a b : ℕ) → closed_test f a b ≡ true → (k c : ℕ) (p : Place) (n : List ℕ) → (c < a) ⊎ (b < c) → slice_get f.lines c ≡ Some (Do p) → a < k → k < b → slice_get f.lines k ≡ Some (LocalLabel n) → LeadsTo n (place_way f.tables p) → ⊥
closed f a b h k c p n out there lo hi mark l =
    clash (leads_line f (slice_get f.lines c) (slice_get f.lines k)) _ led (outside (ltb c a) (ltb b c) (⊎_elim (λ e. inl ((Decides-ltb c a).1 e)) (λ e. inr ((Decides-ltb b c).1 e)) out) (ltb a k) (ltb k b) ((Decides-ltb a k).1 lo) ((Decides-ltb k b).1 hi))
    (below_is (λ k. stays_out f a b c k) (length f.lines) (below_is (λ c. each_below (λ k. stays_out f a b c k) (length f.lines)) (length f.lines) h c (slice_get_within f.lines c (Do p) there)) k (slice_get_within f.lines k (LocalLabel n) mark))
  where
    led : leads_line f (slice_get f.lines c) (slice_get f.lines k) ≡ true
    led =
        subst (λ z. leads_line f z (slice_get f.lines k) ≡ true) (sym there)
        (subst (λ z. leads_line f (Some (Do p)) z ≡ true) (sym mark) (leads n (place_way f.tables p) l))

    outside : (x y : Bool) → (x ≡ true) ⊎ (y ≡ true) → (v w : Bool) → v ≡ true → w ≡ true → ((x || y) && (v && w)) ≡ true
    outside true y h true true d e = refl
    outside false true h true true d e = refl
    outside false false h true true d e = ⊎_elim (λ z. cc) (λ z. cc) h
    outside x y h false w d e = cc
    outside x y h true false d e = cc

    clash : (x y : Bool) → x ≡ true → y ≡ true → (not x || not y) ≡ true → ⊥
    clash true true d e z = cc
    clash true false d e z = cc
    clash false y d e z = cc

-- ---- cases

-- `xorl %eax, %eax / .L3: / addl %edi, %eax / subl $1, %edi / jne .L3 / ret`
counted_loop : IsLoop counted 1 4
counted_loop =
    record { label = codes ".L3"; jump = One (with_one (Op.Jcc Cond.Ne) Q (to_name (codes ".L3"))); head = refl; is_local = λ h. cc; back = refl; later = omega arith; jumps = refl; closed = closed counted 1 4 refl }

-- `.L1: / subl $1, %edi / jne .L1 / .L2: / subl $1, %esi / jne .L2 / ret`: one after the other
abbrev two_loops : Code
two_loops =
    code
    (label (codes ".L1") ∷ two Op.Sub L (num 1) (reg Rdi) ∷ jcc Cond.Ne (codes ".L1") ∷ label (codes ".L2") ∷ two Op.Sub L (num 1) (reg Rsi) ∷ jcc Cond.Ne (codes ".L2") ∷ ret ∷ [])

first_loop : IsLoop two_loops 0 2
first_loop =
    record { label = codes ".L1"; jump = One (with_one (Op.Jcc Cond.Ne) Q (to_name (codes ".L1"))); head = refl; is_local = λ h. cc; back = refl; later = omega arith; jumps = refl; closed = closed two_loops 0 2 refl }

second_loop : IsLoop two_loops 3 5
second_loop =
    record { label = codes ".L2"; jump = One (with_one (Op.Jcc Cond.Ne) Q (to_name (codes ".L2"))); head = refl; is_local = λ h. cc; back = refl; later = omega arith; jumps = refl; closed = closed two_loops 3 5 refl }

-- `jmp .L2 / .L1: / nop / .L2: / jne .L1 / ret`: the jump before it names a label between
abbrev entered : Code
entered =
    code (jmp (codes ".L2") ∷ label (codes ".L1") ∷ nop ∷ label (codes ".L2") ∷ jcc Cond.Ne (codes ".L1") ∷ ret ∷ [])

entered_is_none : IsLoop entered 1 4 → ⊥
entered_is_none h =
    h.closed 3 0 (One (with_one Op.Jmp Q (to_name (codes ".L2")))) (codes ".L2") (inl (omega arith)) refl (omega arith) (omega arith) refl refl

-- `jmp *T(,%rax,8)` in its stead, with `.L2` in a cell
abbrev entered_by_a_table : Code
entered_by_a_table =
    with_table (codes ".L1" ∷ codes ".L2" ∷ []) (through (codes "T") Rax ∷ label (codes ".L1") ∷ nop ∷ label (codes ".L2") ∷ jcc Cond.Ne (codes ".L1") ∷ ret ∷ [])

entered_by_a_table_is_none : IsLoop entered_by_a_table 1 4 → ⊥
entered_by_a_table_is_none h =
    h.closed 3 0 _ (codes ".L2") (inl (omega arith)) refl (omega arith) (omega arith) refl (inr (inl refl))

-- a jump to the head from outside leaves it a loop
abbrev head_entered : Code
head_entered =
    with_table (codes ".L1" ∷ []) (through (codes "T") Rax ∷ label (codes ".L1") ∷ nop ∷ label (codes ".L2") ∷ jcc Cond.Ne (codes ".L1") ∷ ret ∷ [])

head_entered_loop : IsLoop head_entered 1 4
head_entered_loop =
    record { label = codes ".L1"; jump = One (with_one (Op.Jcc Cond.Ne) Q (to_name (codes ".L1"))); head = refl; is_local = λ h. cc; back = refl; later = omega arith; jumps = refl; closed = closed head_entered 1 4 refl }

-- `f: / nop / jmp f` leaves the function
abbrev to_itself : Code
to_itself = code (label (codes "f") ∷ nop ∷ jmp (codes "f") ∷ [])

to_itself_is_none : IsLoop to_itself 0 2 → ⊥
to_itself_is_none h = h.is_local (sym (label_is (h.label) h.head))
  where
    label_is : (n : List ℕ) → ◌≡◌ {A = Option Line} (Some (LocalLabel (codes "f"))) (Some (LocalLabel n)) → codes "f" ≡ n
    label_is n e = cc
