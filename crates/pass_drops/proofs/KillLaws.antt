-- What NOPKILL drops, and that none of it is left.
use Rattle.std.proofs.Common.{◌≡◌, ◌⊎◌, inl, inr, ⊎_elim, ℕ, Bool, true, false, ◌||◌, List, [], ◌∷◌, filter, length, Option, Some, None, refl, sym, ap, ◌∙◌, subst, option_map, arith}
use Rattle.std.specs.Prelude.{nat_eq}
use Rattle.std.specs.List.{AllByRecursion}
use Rattle.std.specs.Option.{IsSomeAnd}
use Rattle.std.proofs.lemmas.Grind.{common_steps}
use Rattle.std.proofs.lemmas.Bool.{eq-eqb, eqb-true, ne_eqb, or_parts}
use Rattle.insn_ir.specs.declared.entry.DirectiveKind.{DirectiveKind}
use Rattle.insn_ir.specs.declared.entry.Entry.{Entry}
use Rattle.insn_ir.specs.declared.entry.EntryKind.{EntryKind}
use Rattle.insn_ir.specs.declared.insn.Insn.{Insn}
use Rattle.insn_ir.specs.declared.op.Op.{Op}
use Rattle.insn_ir.specs.Entries.{is_nop_entry}
use Rattle.jump_tables.specs.Sections.{text}
use Rattle.asm_unit.specs.Decisions.{codes}
use Rattle.asm_unit.specs.Edits.{SameEach, has_serial}
use Rattle.asm_unit.specs.Functions.{code_part, is_align_kind}
use Rattle.asm_unit.specs.Held.{AreUnique, entry_of, entries_of, held_without}
use Rattle.asm_unit.specs.Unit.{Unit, is_removable, is_insn, is_removable_entry, is_insn_entry}
use Rattle.asm_unit.proofs.EditCodes.{align_dropped}
use Rattle.asm_unit.proofs.NopLaw.{nops_same}
use Rattle.asm_unit.proofs.OtherEntries.{gone_without}
use Rattle.asm_unit.proofs.StandLaws.{once_placed}
use Rattle.asm_unit.proofs.UnitLaws.{entries_without, entry_found, one_goes}
use Rattle.pass_script.specs.declared.kinds.PassKind.{PassKind}
use Rattle.pass_script.specs.declared.options.PassOpts.{PassOpts}
use Rattle.unit_edits.specs.declared.edit.Edit.{Edit}
use Rattle.unit_edits.specs.declared.journal.Part.{Part as JournalPart}
use Rattle.unit_edits.specs.Bodies.{body_of, IsClearAt}
use Rattle.unit_edits.specs.Journal.{onto_last}
use Rattle.unit_edits.specs.Proper.{IsProper, IsOfCode}
use Rattle.pass_rules.specs.Legal.{IsLegal, IsNop, is_align}
use Rattle.pass_rules.specs.Rules.{AllLegal, IsExhausted}
use Rattle.pass_rules.specs.Sites.{OfLine}
use Rattle.pass_base.specs.Runs.{BehaveAlike, Ran}
use Rattle.pass_base.proofs.Steps.{each_refl, alike_refl, alike_trans}
use Rattle.pass_drops.specs.walks.Dropping.{goes_kind, goes, goes_at, has_number, dropped, all_dropped, removes, CanDrop}
use Rattle.pass_drops.proofs.DropLaws.{entry_left, code_left, still_can, remove_edits, replay_removes, all_proper, removes_many}
use Rattle.pass_drops.proofs.Walked.{placed_serials}
use Rattle.pass_drops.proofs.Serials.{each_of, serials_among, filtered, kept, distinct_kept, code_distinct}

no : {P : Type 0} → true ≡ false → P
no e = absurd (cc)

-- ---- what goes

goes_removable : (align : ℕ) (o : Option Entry) → goes align o ≡ true → is_removable_entry o ≡ true
goes_removable align None e = no (sym e)
goes_removable align (Some x) e = by_kind x.kind e
  where
    by_kind : (k : EntryKind) → goes_kind align k ≡ true → is_removable k ≡ true
    by_kind (EntryKind.Insn i) q = refl
    by_kind (EntryKind.Directive (DirectiveKind.Align p g m)) q = refl
    by_kind (EntryKind.Directive _) q = no (sym q)
    by_kind _ q = no (sym q)

-- a nop, or an alignment where these go
abbrev IsGoing : ℕ → Option Entry → Type 0
IsGoing align o =
    ((i : Insn) × (option_map (λ e. e.kind) o ≡ Some (EntryKind.Insn i)) × (is_nop_entry (EntryKind.Insn i) ≡ true))
    ⊎ ((align ≡ 1) × (is_align o ≡ true) × (is_insn_entry o ≡ false))

going : (align : ℕ) (o : Option Entry) → goes align o ≡ true → IsGoing align o
going align None e = no (sym e)
going align (Some x) e = by_kind x.kind refl e
  where
    by_kind : (k : EntryKind) → x.kind ≡ k → goes_kind align k ≡ true → IsGoing align (Some x)
    by_kind (EntryKind.Insn i) w q = inl (i, ap Some w, q)
    by_kind (EntryKind.Directive (DirectiveKind.Align p g m)) w q = inr (eqb-true align 1 q, ap is_align_kind w, ap is_insn w)
    by_kind (EntryKind.Directive _) w q = no (sym q)
    by_kind _ w q = no (sym q)

nop_goes : (align : ℕ) (i : Insn) (o : Option Entry) → option_map (λ e. e.kind) o ≡ Some (EntryKind.Insn i) → is_nop_entry (EntryKind.Insn i) ≡ true → goes align o ≡ true
nop_goes align i None e n = absurd (cc)
nop_goes align i (Some x) e n = let same : x.kind ≡ EntryKind.Insn i = cc in ap (goes_kind align) same ∙ n

align_goes : (align : ℕ) (o : Option Entry) → align ≡ 1 → is_align o ≡ true → goes align o ≡ true
align_goes align None one e = no (sym e)
align_goes align (Some x) one e = by_kind x.kind e
  where
    by_kind : (k : EntryKind) → is_align_kind k ≡ true → goes_kind align k ≡ true
    by_kind (EntryKind.Directive (DirectiveKind.Align p g m)) q = eq-eqb align 1 one
    by_kind (EntryKind.Directive _) q = no (sym q)
    by_kind _ q = no (sym q)

op_is_nop : (i : Insn) → is_nop_entry (EntryKind.Insn i) ≡ true → i.op ≡ Op.Nop
op_is_nop i e = grind (arith, common_steps)

nop_is_op : (i : Insn) → i.op ≡ Op.Nop → is_nop_entry (EntryKind.Insn i) ≡ true
nop_is_op i e = grind (arith, common_steps)

-- ---- legal edits

pub goes_legal : (o : PassOpts) (f s : ℕ) (u : Unit) → AreUnique u.held → goes_at o.align u.held s ≡ true → IsOfCode u f s → IsLegal PassKind.NopKill o u f (Edit.Remove s)
goes_legal o f s u unique g a = ⊎_elim (λ w. inl (of_nop w)) (λ w. inr (w.0, (w.1, a))) (going o.align (entry_of u.held s) g)
  where
    of_nop : (i : Insn) × (option_map (λ e. e.kind) (entry_of u.held s) ≡ Some (EntryKind.Insn i)) × (is_nop_entry (EntryKind.Insn i) ≡ true) → OfLine u f s IsNop
    of_nop w = record {
      insn = w.0;
      there = record { once = once_placed s text u.held unique; insn = ap (option_map (λ e. e.kind)) (entry_found s u.held) ∙ w.1; among = a };
      holds = op_is_nop w.0 w.2;
    }

legal_goes : (o : PassOpts) (f s : ℕ) (u : Unit) → IsLegal PassKind.NopKill o u f (Edit.Remove s) → (goes_at o.align u.held s ≡ true) × IsOfCode u f s
legal_goes o f s u l =
    ⊎_elim
    (λ w. (nop_goes o.align w.insn (entry_of u.held s) (sym (ap (option_map (λ e. e.kind)) (entry_found s u.held)) ∙ w.there.insn) (nop_is_op w.insn w.holds), w.there.among))
    (λ w. (align_goes o.align (entry_of u.held s) w.0 w.1.0, w.1.1))
    l

-- each drop is one
abbrev AllGo : ℕ → Unit → List ℕ → Type 0
AllGo align u ss = AllByRecursion (λ s. goes_at align u.held s ≡ true) ss

still_go : (align s : ℕ) (u : Unit) (ts : List ℕ) → has_number s ts ≡ false → AllGo align u ts → AllGo align (dropped s u) ts
still_go align s u [] h g = tt
still_go align s u (t ∷ ts) h g = let w = or_parts (nat_eq t s) (has_number s ts) h in (ap (goes align) (entry_left s t u w.0) ∙ g.0, still_go align s u ts w.1 g.1)

all_legal : (o : PassOpts) (f : ℕ) (ss : List ℕ) (u : Unit) → CanDrop f u ss → AllGo o.align u ss → AllLegal PassKind.NopKill o f u (removes ss)
all_legal o f [] u c g = tt
all_legal o f (s ∷ ss) u c g = (
  goes_legal o f s u c.unique g.0 c.proper.0.0,
  subst (λ x. IsSomeAnd x (λ v. AllLegal PassKind.NopKill o f v (removes ss))) (sym (remove_edits f s u c.proper.0))
      (all_legal o f ss (dropped s u) (still_can f s u ss c) (still_go o.align s u ss c.distinct.0 g.1)),
)

-- ---- each function behaves as before

one_alike : (align s : ℕ) (u : Unit) → AreUnique u.held → goes_at align u.held s ≡ true → BehaveAlike u (dropped s u)
one_alike align s u unique g = ⊎_elim of_nop of_align (going align (entry_of u.held s) g)
  where
    of_nop : (i : Insn) × (option_map (λ e. e.kind) (entry_of u.held s) ≡ Some (EntryKind.Insn i)) × (is_nop_entry (EntryKind.Insn i) ≡ true) → BehaveAlike u (dropped s u)
    of_nop w =
        subst (λ es. SameEach (codes u.decided (entries_of u.held)) (codes u.decided es)) (sym (entries_without s u.held))
        (nops_same (has_serial s) u.decided (entries_of u.held)
        (one_goes (λ k. is_nop_entry k ≡ true) s u.held unique (λ e is. ap is_nop_entry (kind_is e w.0 (sym (ap (option_map (λ x. x.kind)) is) ∙ w.1)) ∙ w.2)))
      where
        kind_is : (e : Entry) (i : Insn) → Some e.kind ≡ Some (EntryKind.Insn i) → e.kind ≡ EntryKind.Insn i
        kind_is e i q = cc

    of_align : (align ≡ 1) × (is_align (entry_of u.held s) ≡ true) × (is_insn_entry (entry_of u.held s) ≡ false) → BehaveAlike u (dropped s u)
    of_align w =
        subst (λ cs. SameEach (codes u.decided (entries_of u.held)) cs) (sym (align_dropped u.decided u.held s unique (goes_removable align (entry_of u.held s) g) w.2))
        (each_refl (codes u.decided (entries_of u.held)))

all_alike : (align f : ℕ) (ss : List ℕ) (u : Unit) → CanDrop f u ss → AllGo align u ss → BehaveAlike u (all_dropped ss u)
all_alike align f [] u c g = alike_refl u
all_alike align f (s ∷ ss) u c g =
    alike_trans u (dropped s u) (all_dropped ss (dropped s u)) refl (one_alike align s u c.unique g.0)
    (all_alike align f ss (dropped s u) (still_can f s u ss c) (still_go align s u ss c.distinct.0 g.1))

-- ---- and nothing is left that goes

record IsLeft (align f s : ℕ) (u : Unit) (ss : List ℕ) : Type 0 where
  other : has_number s ss ≡ false
  go : goes_at align u.held s ≡ true
  code : IsOfCode u f s

was_there : (align f s : ℕ) (ss : List ℕ) (u : Unit) → CanDrop f u ss → goes_at align (all_dropped ss u).held s ≡ true → IsOfCode (all_dropped ss u) f s → IsLeft align f s u ss
was_there align f s [] u c g a = record { other = refl; go = g; code = a }
was_there align f s (t ∷ ss) u c g a = by_test (nat_eq t s) refl (was_there align f s ss (dropped t u) (still_can f t u ss c) g a)
  where
    by_test : (b : Bool) → nat_eq t s ≡ b → IsLeft align f s (dropped t u) ss → IsLeft align f s u (t ∷ ss)
    by_test true q w =
        let same : t ≡ s = eqb-true t s q in
        no (sym w.go ∙ ap (goes align) (ap (λ n. entry_of (held_without t u.held) n) (sym same) ∙ gone_without t u.held))
    by_test false q w =
        let apart : nat_eq s t ≡ false = ne_eqb s t (λ z. no (sym (eq-eqb t s (sym z)) ∙ q)) in
        record {
          other = ap (λ b. b || has_number s ss) q ∙ w.other;
          go = sym (ap (goes align) (entry_left t s u apart)) ∙ w.go;
          code = code_left f t s u ss c apart w.code;
        }

-- ---- the whole

module _ (o : PassOpts) (f : ℕ) (u : Unit) (clear : IsClearAt u f) (unique : AreUnique u.held) where
  abbrev pub gone : List ℕ
  gone = filter (goes_at o.align u.held) (placed_serials (code_part (body_of u f)))

  gone_is : (s : ℕ) → has_number s gone ≡ true → IsProper u f (Edit.Remove s) × (goes_at o.align u.held s ≡ true)
  gone_is s e =
      let w = filtered (goes_at o.align u.held) s (placed_serials (code_part (body_of u f))) e in
      ((sym (serials_among s (code_part (body_of u f))) ∙ w.0, goes_removable o.align (entry_of u.held s) w.1), w.1)

  pub gone_can : CanDrop f u gone
  gone_can = record {
    clear = clear;
    unique = unique;
    distinct = distinct_kept (goes_at o.align u.held) (placed_serials (code_part (body_of u f))) (code_distinct u f unique);
    proper = each_of (λ s. IsProper u f (Edit.Remove s)) gone gone (λ s e. (gone_is s e).0) (λ s e. e);
  }

  gone_go : AllGo o.align u gone
  gone_go = each_of (λ s. goes_at o.align u.held s ≡ true) gone gone (λ s e. (gone_is s e).1) (λ s e. e)

  none_left : (s : ℕ) → IsLegal PassKind.NopKill o (all_dropped gone u) f (Edit.Remove s) → ⊥
  none_left s l =
      let g = legal_goes o f s (all_dropped gone u) l in
      let w = was_there o.align f s gone u gone_can g.0 g.1 in
      no (sym (kept (goes_at o.align u.held) s (placed_serials (code_part (body_of u f))) (serials_among s (code_part (body_of u f)) ∙ w.code) w.go) ∙ w.other)

  no_edit : (e : Edit) → IsLegal PassKind.NopKill o (all_dropped gone u) f e → ⊥
  no_edit (Edit.Remove s) l = none_left s l
  no_edit (Edit.Put s i) l = l
  no_edit (Edit.Merge s t i) l = l
  no_edit (Edit.InsertNop b s) l = l
  no_edit (Edit.InsertAlign b s p) l = l

  pub kill_ran : (v : Unit) (j k : List JournalPart) (n : ℕ) → v ≡ all_dropped gone u → k ≡ onto_last (removes gone) j → n ≡ length gone → Ran PassKind.NopKill o f u v j k n
  kill_ran v j k n e pushed counted = record {
    leads = record {
      edits = removes gone;
      journal = pushed;
      counted = counted ∙ sym (removes_many gone);
      replayed = replay_removes f gone u gone_can ∙ ap Some (sym e);
      within = all_proper f gone u gone_can;
      same = subst (BehaveAlike u) (sym e) (all_alike o.align f gone u gone_can gone_go);
    };
    rule = subst (λ x. IsExhausted PassKind.NopKill o f u (removes gone) x) (sym e) (record { legal = all_legal o f gone u gone_can gone_go; none_left = no_edit });
  }
