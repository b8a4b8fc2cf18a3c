-- Tests that decide what makes a fact.
use Rattle.std.proofs.Common.{◌≡◌, ◌⊎◌, ℕ, Bool, true, false, not, ◌&&◌, ◌||◌, ℤ, pos, negsuc, List, Option, Some, None, inl, inr, ⊎_elim, refl, sym, ap, ◌∙◌, subst, T, eqb→eq, eq-eqb}
use Rattle.std.specs.Prelude.{nat_eq, bytes_eq}
use Rattle.std.proofs.lemmas.Slice.Eq.{bytes_eq-Decides}
use Rattle.insn_ir.specs.declared.op.Reg.{Reg}
use Rattle.insn_ir.specs.declared.op.Op.{Op}
use Rattle.insn_ir.specs.declared.op.Width.{Width}
use Rattle.insn_ir.specs.declared.op.Width.TheVariants.{B, W, L, Q}
use Rattle.insn_ir.specs.declared.insn.Atom.{Atom}
use Rattle.insn_ir.specs.declared.insn.Disp.{Disp}
use Rattle.insn_ir.specs.declared.insn.Base.{Base}
use Rattle.insn_ir.specs.declared.insn.Mem.{Mem}
use Rattle.insn_ir.specs.declared.insn.Imm.{Imm}
use Rattle.insn_ir.specs.declared.insn.Arg.{Arg}
use Rattle.insn_ir.specs.declared.insn.Insn.{Insn}
use Rattle.insn_ir.specs.Mnemonics.{has_width}
use Rattle.insn_ir.specs.Machine.{same_reg, reg_number, bits_of}
use Rattle.insn_ir.specs.Code.{Code, Place, One, place_at}
use Rattle.insn_effects.specs.Footprint.{InReg}
use Rattle.insn_effects.specs.Operations.{footprint}
use Rattle.insn_effects.proofs.Fits.{same_reg_is}
use Rattle.blocks_cfg.specs.Cells.{int_is, spec_is, disp_is, base_is, index_is, bool_is, mem_is, MemCell, is_wide, is_early}
use Rattle.blocks_cfg.specs.Rules.{TestOf, InsnAt, ClearsUpper, MarksResult, MarksLogic, MakesLogic, MakesFlags, is_of_address, MakesCell, Counts, upper_zero, flags_of, clear_flags_of, cell_in}
use Rattle.blocks_cfg.specs.Facts.{Holds}
use Rattle.blocks_cfg.specs.Fed.{Decides}
use Rattle.blocks_cfg.proofs.Computed.{held_in, fact_test, fact_holds}

-- the test b is true exactly where P holds
pub record Tells (b : Bool) (P : Type 0) : Type 0 where
  pub true_is : b ≡ true → P
  pub is_true : P → b ≡ true

pub both_tell : {P R : Type 0} (a b : Bool) → Tells a P → Tells b R → Tells (a && b) (P × R)
both_tell true b t u =
    record { true_is = λ h. (t.true_is refl, u.true_is h); is_true = λ h. u.is_true h.1 }
both_tell false b t u = record { true_is = λ h. cc; is_true = λ h. let e = t.is_true h.0 in cc }

pub either_tells : {P R : Type 0} (a b : Bool) → Tells a P → Tells b R → Tells (a || b) (P ⊎ R)
either_tells true b t u = record { true_is = λ h. inl (t.true_is refl); is_true = λ h. refl }
either_tells false b t u =
    record { true_is = λ h. inr (u.true_is h); is_true = λ h. ⊎_elim (λ k. let e : false ≡ true = t.is_true k in cc) (λ k. u.is_true k) h }

never : {P : Type 0} → (P → ⊥) → Tells false P
never no_p = record { true_is = λ h. cc; is_true = λ h. absurd (no_p h) }

itself : (b : Bool) → Tells b (b ≡ true)
itself b = record { true_is = λ h. h; is_true = λ h. h }

-- ---- operands

reg_tells : (r q : Reg) → Tells (same_reg r q) (r ≡ q)
reg_tells r q =
    record { true_is = same_reg_is r q; is_true = λ h. subst (λ z. same_reg r z ≡ true) h (eq-eqb (reg_number r) (reg_number r) refl) }

width_is : (d e : Width) → nat_eq (bits_of d) (bits_of e) ≡ true → d ≡ e
width_is B B h = refl
width_is W W h = refl
width_is L L h = refl
width_is Q Q h = refl
width_is _ _ h = cc

abbrev pub same_size : Width → Width → Bool
same_size d e = nat_eq (bits_of d) (bits_of e)

width_tells : (d e : Width) → Tells (same_size d e) (d ≡ e)
width_tells d e =
    record { true_is = width_is d e; is_true = λ h. subst (λ z. same_size d z ≡ true) h (eq-eqb (bits_of d) (bits_of d) refl) }

abbrev pub is_reg : Reg → Arg → Bool
is_reg r (Arg.Reg q) = same_reg q r
is_reg r _ = false

reg_back : Reg → Arg → Reg
reg_back r (Arg.Reg q) = q
reg_back r _ = r

is_reg_tells : (r : Reg) (a : Arg) → Tells (is_reg r a) (a ≡ Arg.Reg r)
unfolding reg_back
is_reg_tells r (Arg.Reg q) =
    record { true_is = λ h. ap Arg.Reg (same_reg_is q r h); is_true = λ h. (reg_tells q r).is_true (ap (reg_back r) h) }
is_reg_tells r _ = never (λ h. cc)

int_tells : (m n : ℤ) → Tells (int_is m n) (m ≡ n)
int_tells (pos a) (pos b) =
    record { true_is = λ h. ap pos (eqb→eq a b (subst T (sym h) tt)); is_true = λ h. eq-eqb a b (inside h) }
  where
    inside : ◌≡◌ {A = ℤ} (pos a) (pos b) → a ≡ b
    inside h = cc
int_tells (negsuc a) (negsuc b) =
    record { true_is = λ h. ap negsuc (eqb→eq a b (subst T (sym h) tt)); is_true = λ h. eq-eqb a b (inside h) }
  where
    inside : ◌≡◌ {A = ℤ} (negsuc a) (negsuc b) → a ≡ b
    inside h = cc
int_tells (pos a) (negsuc b) = never (λ h. cc)
int_tells (negsuc a) (pos b) = never (λ h. cc)

pub bytes_tell : (a b : List ℕ) → Tells (bytes_eq a b) (a ≡ b)
bytes_tell a b = let d = bytes_eq-Decides a b in record { true_is = d.0; is_true = d.1 }

spec_tells : (a b : Option (List ℕ)) → Tells (spec_is a b) (a ≡ b)
spec_tells None None = record { true_is = λ h. refl; is_true = λ h. refl }
spec_tells (Some a) (Some b) =
    record { true_is = λ h. ap Some ((bytes_tell a b).true_is h); is_true = λ h. (bytes_tell a b).is_true (inside h) }
  where
    inside : ◌≡◌ {A = Option (List ℕ)} (Some a) (Some b) → a ≡ b
    inside h = cc
spec_tells None (Some b) = never (λ h. cc)
spec_tells (Some a) None = never (λ h. cc)

atom_path : (a b : Atom) → a.name ≡ b.name → a.spec ≡ b.spec → a.offset ≡ b.offset → a ≡ b
atom_path a b h k l = ap (λ z. make z a.spec a.offset) h ∙ ap (λ z. make b.name z a.offset) k ∙ ap (λ z. make b.name b.spec z) l
  where
    make : List ℕ → Option (List ℕ) → ℤ → Atom
    make n s o = record { name = n; spec = s; offset = o }

disp_tells : (a b : Disp) → Tells (disp_is a b) (a ≡ b)
disp_tells (Disp.Num a) (Disp.Num b) =
    record { true_is = λ h. ap Disp.Num ((int_tells a b).true_is h); is_true = λ h. (int_tells a b).is_true (inside h) }
  where
    inside : ◌≡◌ {A = Disp} (Disp.Num a) (Disp.Num b) → a ≡ b
    inside h = cc
disp_tells (Disp.Sym a) (Disp.Sym b) =
    record {
      true_is = λ h. let k = fields.true_is h in ap Disp.Sym (atom_path a b k.0.0 k.0.1 k.1);
      is_true = λ h. let e = inside h in fields.is_true ((ap (λ z. z.name) e, ap (λ z. z.spec) e), ap (λ z. z.offset) e);
    }
  where
    inside : ◌≡◌ {A = Disp} (Disp.Sym a) (Disp.Sym b) → a ≡ b
    inside h = cc

    fields : Tells (disp_is (Disp.Sym a) (Disp.Sym b)) (((a.name ≡ b.name) × (a.spec ≡ b.spec)) × (a.offset ≡ b.offset))
    fields =
        both_tell (bytes_eq a.name b.name && spec_is a.spec b.spec) (int_is a.offset b.offset)
        (both_tell (bytes_eq a.name b.name) (spec_is a.spec b.spec) (bytes_tell a.name b.name) (spec_tells a.spec b.spec))
        (int_tells a.offset b.offset)
disp_tells (Disp.Num a) (Disp.Sym b) = never (λ h. cc)
disp_tells (Disp.Sym a) (Disp.Num b) = never (λ h. cc)

base_tells : (a b : Base) → Tells (base_is a b) (a ≡ b)
base_tells (Base.Reg a) (Base.Reg b) =
    record { true_is = λ h. ap Base.Reg ((reg_tells a b).true_is h); is_true = λ h. (reg_tells a b).is_true (inside h) }
  where
    inside : ◌≡◌ {A = Base} (Base.Reg a) (Base.Reg b) → a ≡ b
    inside h = cc
base_tells Base.Absent Base.Absent = record { true_is = λ h. refl; is_true = λ h. refl }
base_tells Base.Rip Base.Rip = record { true_is = λ h. refl; is_true = λ h. refl }
base_tells _ _ = never (λ h. cc)

index_tells : (a b : Option Reg) → Tells (index_is a b) (a ≡ b)
index_tells None None = record { true_is = λ h. refl; is_true = λ h. refl }
index_tells (Some a) (Some b) =
    record { true_is = λ h. ap Some ((reg_tells a b).true_is h); is_true = λ h. (reg_tells a b).is_true (inside h) }
  where
    inside : ◌≡◌ {A = Option Reg} (Some a) (Some b) → a ≡ b
    inside h = cc
index_tells None (Some b) = never (λ h. cc)
index_tells (Some a) None = never (λ h. cc)

bool_tells : (a b : Bool) → Tells (bool_is a b) (a ≡ b)
bool_tells true true = record { true_is = λ h. refl; is_true = λ h. refl }
bool_tells true false = never (λ h. cc)
bool_tells false true = never (λ h. cc)
bool_tells false false = record { true_is = λ h. refl; is_true = λ h. refl }

-- operands are equal where each part is
pub mem_tells : (m n : Mem) → Tells (mem_is m n) (m ≡ n)
mem_tells m n =
    record {
      true_is = λ h. let k = fields.true_is h in path k.0.0.0.0 k.0.0.0.1 k.0.0.1 k.0.1 k.1;
      is_true = λ h. fields.is_true ((((ap (λ z. z.fs) h, ap (λ z. z.disp) h), ap (λ z. z.base) h), ap (λ z. z.index) h), ap (λ z. z.scale) h);
    }
  where
    make : Bool → Disp → Base → Option Reg → ℕ → Mem
    make fs d b i s = record { disp = d; fs = fs; base = b; index = i; scale = s }

    path : m.fs ≡ n.fs → m.disp ≡ n.disp → m.base ≡ n.base → m.index ≡ n.index → m.scale ≡ n.scale → m ≡ n
    path a b c d e =
        ap (λ z. make z m.disp m.base m.index m.scale) a ∙ ap (λ z. make n.fs z m.base m.index m.scale) b ∙ ap (λ z. make n.fs n.disp z m.index m.scale) c ∙ ap (λ z. make n.fs n.disp n.base z m.scale) d ∙ ap (λ z. make n.fs n.disp n.base n.index z) e

    fields : Tells (mem_is m n) (((((m.fs ≡ n.fs) × (m.disp ≡ n.disp)) × (m.base ≡ n.base)) × (m.index ≡ n.index)) × (m.scale ≡ n.scale))
    fields =
        both_tell _ (nat_eq m.scale n.scale)
        (both_tell _ (index_is m.index n.index)
        (both_tell _ (base_is m.base n.base)
        (both_tell (bool_is m.fs n.fs) (disp_is m.disp n.disp) (bool_tells m.fs n.fs) (disp_tells m.disp n.disp))
        (base_tells m.base n.base))
        (index_tells m.index n.index))
        (record { true_is = λ h. eqb→eq m.scale n.scale (subst T (sym h) tt); is_true = λ h. eq-eqb m.scale n.scale h })

abbrev pub is_mem : Mem → Arg → Bool
is_mem m (Arg.Mem n) = mem_is n m
is_mem m _ = false

mem_back : Mem → Arg → Mem
mem_back m (Arg.Mem n) = n
mem_back m _ = m

is_mem_tells : (m : Mem) (a : Arg) → Tells (is_mem m a) (a ≡ Arg.Mem m)
unfolding mem_back
is_mem_tells m (Arg.Mem n) =
    record { true_is = λ h. ap Arg.Mem ((mem_tells n m).true_is h); is_true = λ h. (mem_tells n m).is_true (ap (mem_back m) h) }
is_mem_tells m _ = never (λ h. cc)

-- ---- upper halves

abbrev pub is_short_zero : Op → Bool
is_short_zero (Op.Movz B) = true
is_short_zero (Op.Movz W) = true
is_short_zero _ = false

short_zero_tells : (o : Op) → Tells (is_short_zero o) ((o ≡ Op.Movz B) ⊎ (o ≡ Op.Movz W))
short_zero_tells (Op.Movz B) = record { true_is = λ h. inl refl; is_true = λ h. refl }
short_zero_tells (Op.Movz W) = record { true_is = λ h. inr refl; is_true = λ h. refl }
short_zero_tells _ = never (λ h. ⊎_elim (λ k. cc) (λ k. cc) h)

abbrev pub clears_upper : Reg → Insn → Bool
clears_upper r i =
    (same_size i.width L && (has_width i.op i.width && (footprint i).kills (InReg r))) || (is_reg r i.b && (same_size i.width Q && is_short_zero i.op))

-- the same with pairs alone
abbrev Nested : Reg → Insn → Type 0
Nested r i =
    ((i.width ≡ L) × ((has_width i.op i.width ≡ true) × ((footprint i).kills (InReg r) ≡ true))) ⊎ ((i.b ≡ Arg.Reg r) × ((i.width ≡ Q) × ((i.op ≡ Op.Movz B) ⊎ (i.op ≡ Op.Movz W))))

clears_upper_tells : (r : Reg) (i : Insn) → Tells (clears_upper r i) (ClearsUpper r i)
clears_upper_tells r i =
    record { true_is = λ h. flat (nested.true_is h); is_true = λ h. nested.is_true (deep h) }
  where
    nested : Tells (clears_upper r i) (Nested r i)
    nested =
        either_tells (same_size i.width L && (has_width i.op i.width && (footprint i).kills (InReg r))) (is_reg r i.b && (same_size i.width Q && is_short_zero i.op))
        (both_tell (same_size i.width L) _ (width_tells i.width L)
        (both_tell (has_width i.op i.width) ((footprint i).kills (InReg r)) (itself (has_width i.op i.width)) (itself ((footprint i).kills (InReg r)))))
        (both_tell (is_reg r i.b) _ (is_reg_tells r i.b)
        (both_tell (same_size i.width Q) (is_short_zero i.op) (width_tells i.width Q) (short_zero_tells i.op)))

    flat : Nested r i → ClearsUpper r i
    flat h = ⊎_elim (λ k. inl (k.0, k.1.0, k.1.1)) (λ k. inr (k.0, k.1.0, k.1.1)) h

    deep : ClearsUpper r i → Nested r i
    deep h = ⊎_elim (λ k. inl (k.0, (k.1, k.2))) (λ k. inr (k.0, (k.1, k.2))) h

-- ---- flags

abbrev pub marks_result : Reg → Op → Arg → Arg → Bool
marks_result r Op.Add a b = is_reg r b
marks_result r Op.Adc a b = is_reg r b
marks_result r Op.Sub a b = is_reg r b
marks_result r Op.Sbb a b = is_reg r b
marks_result r Op.Neg a b = is_reg r a
marks_result r Op.Inc a b = is_reg r a
marks_result r Op.Dec a b = is_reg r a
marks_result r Op.Shl (Arg.Imm (Imm.Num n)) b = is_reg r b
marks_result r Op.Shr (Arg.Imm (Imm.Num n)) b = is_reg r b
marks_result r Op.Sar (Arg.Imm (Imm.Num n)) b = is_reg r b
marks_result r _ a b = false

marks_result_tells : (r : Reg) (o : Op) (a b : Arg) → Tells (marks_result r o a b) (MarksResult r o a b)
marks_result_tells r Op.Add a b = is_reg_tells r b
marks_result_tells r Op.Adc a b = is_reg_tells r b
marks_result_tells r Op.Sub a b = is_reg_tells r b
marks_result_tells r Op.Sbb a b = is_reg_tells r b
marks_result_tells r Op.Neg a b = is_reg_tells r a
marks_result_tells r Op.Inc a b = is_reg_tells r a
marks_result_tells r Op.Dec a b = is_reg_tells r a
marks_result_tells r Op.Shl (Arg.Imm (Imm.Num n)) b = is_reg_tells r b
marks_result_tells r Op.Shr (Arg.Imm (Imm.Num n)) b = is_reg_tells r b
marks_result_tells r Op.Sar (Arg.Imm (Imm.Num n)) b = is_reg_tells r b
marks_result_tells r _ a b = never (λ h. h)

abbrev pub marks_logic : Reg → Op → Arg → Arg → Bool
marks_logic r Op.And a b = is_reg r b
marks_logic r Op.Or a b = is_reg r b
marks_logic r Op.Xor a b = is_reg r b
marks_logic r Op.Test a b = is_reg r a && is_reg r b
marks_logic r _ a b = false

marks_logic_tells : (r : Reg) (o : Op) (a b : Arg) → Tells (marks_logic r o a b) (MarksLogic r o a b)
marks_logic_tells r Op.And a b = is_reg_tells r b
marks_logic_tells r Op.Or a b = is_reg_tells r b
marks_logic_tells r Op.Xor a b = is_reg_tells r b
marks_logic_tells r Op.Test a b = both_tell (is_reg r a) (is_reg r b) (is_reg_tells r a) (is_reg_tells r b)
marks_logic_tells r _ a b = never (λ h. h)

abbrev pub makes_logic : Reg → Width → Insn → Bool
makes_logic r d i = same_size i.width d && marks_logic r i.op i.a i.b

makes_logic_tells : (r : Reg) (d : Width) (i : Insn) → Tells (makes_logic r d i) (MakesLogic r d i)
makes_logic_tells r d i =
    both_tell (same_size i.width d) (marks_logic r i.op i.a i.b) (width_tells i.width d) (marks_logic_tells r i.op i.a i.b)

abbrev pub makes_flags : Reg → Width → Insn → Bool
makes_flags r d i = same_size i.width d && (marks_result r i.op i.a i.b || marks_logic r i.op i.a i.b)

makes_flags_tells : (r : Reg) (d : Width) (i : Insn) → Tells (makes_flags r d i) (MakesFlags r d i)
makes_flags_tells r d i =
    both_tell (same_size i.width d) _ (width_tells i.width d)
    (either_tells (marks_result r i.op i.a i.b) (marks_logic r i.op i.a i.b) (marks_result_tells r i.op i.a i.b) (marks_logic_tells r i.op i.a i.b))

-- ---- cells

abbrev pub is_mov : Op → Bool
is_mov Op.Mov = true
is_mov _ = false

is_mov_tells : (o : Op) → Tells (is_mov o) (o ≡ Op.Mov)
is_mov_tells Op.Mov = record { true_is = λ h. refl; is_true = λ h. refl }
is_mov_tells _ = never (λ h. cc)

abbrev pub loads_cell : MemCell → Reg → Insn → Bool
loads_cell c q i = is_mem c.mem i.a && (is_reg q i.b && not (is_of_address c.mem q))

abbrev pub stores_cell : MemCell → Reg → Insn → Bool
stores_cell c q i = is_reg q i.a && is_mem c.mem i.b

abbrev pub makes_cell : MemCell → Reg → Insn → Bool
makes_cell c q i = is_mov i.op && (same_size i.width c.width && ((loads_cell c q i || stores_cell c q i) && is_wide c.width))

not_tells : (b : Bool) → Tells (not b) (b ≡ false)
not_tells true = never (λ h. cc)
not_tells false = record { true_is = λ h. refl; is_true = λ h. refl }

makes_cell_tells : (c : MemCell) (q : Reg) (i : Insn) → Tells (makes_cell c q i) (MakesCell c q i)
makes_cell_tells c q i =
    record {
      true_is = λ h. let k = nested.true_is h in (k.0, k.1.0, ⊎_elim (λ l. inl (l.0, l.1.0, l.1.1)) inr k.1.1.0, k.1.1.1);
      is_true = λ h. nested.is_true (h.0, (h.1, (⊎_elim (λ l. inl (l.0, (l.1, l.2))) inr h.2, h.3)));
    }
  where
    loads : Tells (loads_cell c q i) ((i.a ≡ Arg.Mem c.mem) × ((i.b ≡ Arg.Reg q) × (is_of_address c.mem q ≡ false)))
    loads =
        both_tell (is_mem c.mem i.a) _ (is_mem_tells c.mem i.a)
        (both_tell (is_reg q i.b) (not (is_of_address c.mem q)) (is_reg_tells q i.b) (not_tells (is_of_address c.mem q)))

    stores : Tells (stores_cell c q i) ((i.a ≡ Arg.Reg q) × (i.b ≡ Arg.Mem c.mem))
    stores = both_tell (is_reg q i.a) (is_mem c.mem i.b) (is_reg_tells q i.a) (is_mem_tells c.mem i.b)

    nested : Tells (makes_cell c q i) ((i.op ≡ Op.Mov) × ((i.width ≡ c.width) × ((((i.a ≡ Arg.Mem c.mem) × ((i.b ≡ Arg.Reg q) × (is_of_address c.mem q ≡ false))) ⊎ ((i.a ≡ Arg.Reg q) × (i.b ≡ Arg.Mem c.mem))) × (is_wide c.width ≡ true))))
    nested =
        both_tell (is_mov i.op) _ (is_mov_tells i.op)
        (both_tell (same_size i.width c.width) _ (width_tells i.width c.width)
        (both_tell (loads_cell c q i || stores_cell c q i) (is_wide c.width) (either_tells (loads_cell c q i) (stores_cell c q i) loads stores) (itself (is_wide c.width))))

abbrev pub counts : Code → (ℕ → ℕ) → MemCell → ℕ → ℕ → Bool
counts f stretch c p k = is_early f c || nat_eq (stretch k) (stretch p)

counts_tells : (f : Code) (stretch : ℕ → ℕ) (c : MemCell) (p k : ℕ) → Tells (counts f stretch c p k) (Counts f stretch c p k)
counts_tells f stretch c p k =
    either_tells (is_early f c) (nat_eq (stretch k) (stretch p)) (itself (is_early f c))
    (record { true_is = λ h. eqb→eq (stretch k) (stretch p) (subst T (sym h) tt); is_true = λ h. eq-eqb (stretch k) (stretch p) h })

-- ---- places

abbrev pub test_of : (Insn → Bool) → Option Place → Bool
test_of t None = false
test_of t (Some (One i)) = t i

abbrev pub insn_at : Code → (Insn → Bool) → ℕ → Bool
insn_at f t p = test_of t (place_at f p)

insn_at_tells : (f : Code) (t : Insn → Bool) (P : Insn → Type 0) → ((i : Insn) → Tells (t i) (P i)) → (p : ℕ) → Tells (insn_at f t p) (InsnAt f P p)
insn_at_tells f t P h p = by_place (place_at f p)
  where
    by_place : (o : Option Place) → Tells (test_of t o) (TestOf P o)
    by_place None = never (λ h. h)
    by_place (Some (One i)) = h i

abbrev pub upper_makes : Code → Reg → ℕ → Bool
upper_makes f r = insn_at f (clears_upper r)

abbrev pub flags_make : Code → Reg → Width → ℕ → Bool
flags_make f r d = insn_at f (makes_flags r d)

abbrev pub logic_makes : Code → Reg → Width → ℕ → Bool
logic_makes f r d = insn_at f (makes_logic r d)

abbrev pub cell_makes : Code → (ℕ → ℕ) → MemCell → Reg → ℕ → ℕ → Bool
cell_makes f stretch c q p k = insn_at f (makes_cell c q) k && counts f stretch c p k

pub upper_decides : (f : Code) (r : Reg) → Decides (upper_makes f r) (upper_zero f r).makes
upper_decides f r =
    record { sound = λ p. (tells p).true_is; complete = λ p. (tells p).is_true }
  where
    tells : (p : ℕ) → Tells (upper_makes f r p) (InsnAt f (ClearsUpper r) p)
    tells = insn_at_tells f (clears_upper r) (ClearsUpper r) (clears_upper_tells r)

pub flags_decide : (f : Code) (r : Reg) (d : Width) → Decides (flags_make f r d) (flags_of f r d).makes
flags_decide f r d = record { sound = λ p. (tells p).true_is; complete = λ p. (tells p).is_true }
  where
    tells : (p : ℕ) → Tells (flags_make f r d p) (InsnAt f (MakesFlags r d) p)
    tells = insn_at_tells f (makes_flags r d) (MakesFlags r d) (makes_flags_tells r d)

pub logic_decides : (f : Code) (r : Reg) (d : Width) → Decides (logic_makes f r d) (clear_flags_of f r d).makes
logic_decides f r d = record { sound = λ p. (tells p).true_is; complete = λ p. (tells p).is_true }
  where
    tells : (p : ℕ) → Tells (logic_makes f r d p) (InsnAt f (MakesLogic r d) p)
    tells = insn_at_tells f (makes_logic r d) (MakesLogic r d) (makes_logic_tells r d)

pub cell_decides : (f : Code) (stretch : ℕ → ℕ) (c : MemCell) (q : Reg) (p : ℕ) → Decides (cell_makes f stretch c q p) (cell_in f stretch c q p).makes
cell_decides f stretch c q p = record { sound = λ k. (tells k).true_is; complete = λ k. (tells k).is_true }
  where
    tells : (k : ℕ) → Tells (cell_makes f stretch c q p k) (InsnAt f (MakesCell c q) k × Counts f stretch c p k)
    tells k =
        both_tell (insn_at f (makes_cell c q) k) (counts f stretch c p k)
        (insn_at_tells f (makes_cell c q) (MakesCell c q) (makes_cell_tells c q) k) (counts_tells f stretch c p k)

-- ---- facts by computation

-- the upper half of r is zero at exactly these places
pub record UpperAre (f : Code) (r : Reg) (ps : List ℕ) : Type 0 where
  pub exactly : Decides (held_in ps) (Holds f (upper_zero f r))

abbrev pub upper_test : Code → Reg → List ℕ → List ℕ → Bool
upper_test f r rs ps =
    fact_test f (upper_zero f r) (upper_makes f r) rs ps

pub upper_are : (f : Code) (r : Reg) (rs ps : List ℕ) → upper_test f r rs ps ≡ true → UpperAre f r ps
upper_are f r rs ps h =
    record { exactly = fact_holds f (upper_zero f r) (upper_makes f r) (upper_decides f r) rs ps h }

-- the flags are by r at exactly these places
pub record FlagsBy (f : Code) (r : Reg) (d : Width) (ps : List ℕ) : Type 0 where
  pub exactly : Decides (held_in ps) (Holds f (flags_of f r d))

abbrev pub flags_test : Code → Reg → Width → List ℕ → List ℕ → Bool
flags_test f r d rs ps =
    fact_test f (flags_of f r d) (flags_make f r d) rs ps

pub flags_by : (f : Code) (r : Reg) (d : Width) (rs ps : List ℕ) → flags_test f r d rs ps ≡ true → FlagsBy f r d ps
flags_by f r d rs ps h =
    record { exactly = fact_holds f (flags_of f r d) (flags_make f r d) (flags_decide f r d) rs ps h }

-- and CF and OF are cleared at exactly these
pub record ClearBy (f : Code) (r : Reg) (d : Width) (ps : List ℕ) : Type 0 where
  pub exactly : Decides (held_in ps) (Holds f (clear_flags_of f r d))

abbrev pub clear_test : Code → Reg → Width → List ℕ → List ℕ → Bool
clear_test f r d rs ps =
    fact_test f (clear_flags_of f r d) (logic_makes f r d) rs ps

pub clear_by : (f : Code) (r : Reg) (d : Width) (rs ps : List ℕ) → clear_test f r d rs ps ≡ true → ClearBy f r d ps
clear_by f r d rs ps h =
    record { exactly = fact_holds f (clear_flags_of f r d) (logic_makes f r d) (logic_decides f r d) rs ps h }

-- q holds the cell, as far as the makers count that count at the place p, at exactly these places
pub record CellIn (f : Code) (stretch : ℕ → ℕ) (c : MemCell) (q : Reg) (p : ℕ) (ps : List ℕ) : Type 0 where
  pub exactly : Decides (held_in ps) (Holds f (cell_in f stretch c q p))

abbrev pub cell_test : Code → (ℕ → ℕ) → MemCell → Reg → ℕ → List ℕ → List ℕ → Bool
cell_test f stretch c q p rs ps =
    fact_test f (cell_in f stretch c q p) (cell_makes f stretch c q p) rs ps

pub cell_held : (f : Code) (stretch : ℕ → ℕ) (c : MemCell) (q : Reg) (p : ℕ) (rs ps : List ℕ) → cell_test f stretch c q p rs ps ≡ true → CellIn f stretch c q p ps
cell_held f stretch c q p rs ps h =
    record { exactly = fact_holds f (cell_in f stretch c q p) (cell_makes f stretch c q p) (cell_decides f stretch c q p) rs ps h }
