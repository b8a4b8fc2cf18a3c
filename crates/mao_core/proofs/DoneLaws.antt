-- What was done to the unit of a text.
use Rattle.std.proofs.Common.{◌≡◌, ◌<◌, ◌≤◌, ℕ, Bool, true, false, List, [], ◌∷◌, map, length, Option, Some, None, suc, refl, ap, sym, subst, ◌∙◌, ◌+◌, ◌++◌, take, drop, zero-add, arith}
use Rattle.std.specs.Prelude.{slice_get, option_map}
use Rattle.std.specs.Option.{IsSome}
use Rattle.std.specs.List.{AllByRecursion, concat}
use Rattle.std.proofs.lemmas.List.{drop-drop, take_at, drop_at}
use Rattle.clap.specs.Words.{Text}
use Rattle.att_lexer.specs.Pieces.{pieces, spans_of}
use Rattle.att_lexer.proofs.PiecesLaws.{are_pieces}
use Rattle.att_lexer.specs.declared.pieces.CutFreeze.{CutFreeze}
use Rattle.att_lexer.specs.declared.pieces.Span.{Span}
use Rattle.att_lexer.specs.Pieces.{first_freeze}
use Rattle.insn_ir.specs.declared.entry.Entry.{Entry}
use Rattle.insn_ir.specs.Entries.{kinds_of}
use Rattle.jump_tables.specs.Sections.{placed}
use Rattle.asm_unit.specs.declared.held.Held.{Held}
use Rattle.asm_unit.specs.Held as Held
use Rattle.asm_unit.specs.declared.cause.FreezeCause.{FreezeCause}
use Rattle.asm_unit.specs.Decisions.{Decision, codes, decision, decisions, functions_unless, is_clear}
use Rattle.asm_unit.specs.Edits.{SameEach}
use Rattle.asm_unit.specs.Freeze.{file_cause, function_names}
use Rattle.asm_unit.specs.Unit.{Unit, freeze_serial}
use Rattle.asm_unit.proofs.EndLaws.{numbered_rise, rise_unique}
use Rattle.asm_unit.proofs.OfKinds.{of_kinds}
use Rattle.asm_writer.specs.Unit.{entry_text, unit_text}
use Rattle.pass_script.specs.declared.script.Step.{Step}
use Rattle.pass_base.specs.Books.{BoxView}
use Rattle.pass_driver.specs.Plan.{Task, AreDone, clear_places, script_tasks}
use Rattle.pass_driver.specs.Outcome.{IsRun}
use Rattle.pass_driver.proofs.Laws.{run_along}
use Rattle.unit_edits.specs.declared.edit.Edit.{Edit}
use Rattle.unit_edits.specs.declared.journal.Part.{Part}
use Rattle.unit_edits.specs.Bodies.{IsClearAt}
use Rattle.unit_edits.specs.Proper.{IsProper}
use Rattle.unit_edits.specs.Replay.{edited}
use Rattle.unit_edits.proofs.Replayed.{edit_keeps}
use Rattle.edit_laws.specs.Stays.{IsSound, FunctionStays}
use Rattle.edit_laws.proofs.Steps.{of_edit, edit_sound}
use Rattle.edit_laws.proofs.OtherFunctions.{OthersStay, others_stay, stays_refl, stays_trans}
use Rattle.edit_laws.proofs.Names.{LastingStay, lasting_stay, same_names}
use Rattle.text_laws.specs.Edited.{AreRead, IsEditOf}
use Rattle.text_laws.proofs.AsRead.{as_read}
use Rattle.text_laws.proofs.FromEntries.{read_entries, entries_back}
use Rattle.text_laws.proofs.ReadBack.{writable}
use Rattle.pass_script.specs.Script.{steps_of}
use Rattle.mao_words.specs.Command.{script_of_words, asks_for_journal}
use Rattle.mao_core.specs.declared.preparing.Prepared.{Prepared}
use Rattle.mao_core.specs.Input.{IsWhole}
use Rattle.mao_core.specs.Notes.{lines_from, notes_of, notes_text}
use Rattle.mao_core.specs.declared.top.Status.{Status}
use Rattle.mao_core.specs.Delivered.{IsDelivered}
use Rattle.mao_core.specs.Outcome.{IsDone, IsFine, IsCutInNotes, IsCutShort, notes_by}
use Rattle.std.specs.Io.KnownBytes.{Appends}
use Rattle.mao_core.specs.Prepared.{IsPrepared}
use Rattle.mao_core.specs.Entries.{entries_of, kinds_of_text}
use Rattle.mao_core.specs.Decided.{IsUnitOf, decided, file_frozen}
use Rattle.mao_core.specs.Behaves.{BehavesAs, names_in}
use Rattle.mao_core.specs.Frozen.{FrozenStay}
use Rattle.mao_core.proofs.Numbers.{kinds_numbered, text_numbered, length_of_entries}
use Rattle.mao_core.proofs.NameLaws.{names_of_kinds}
use Rattle.mao_core.proofs.EditedText.{text_stays, file_stays as edited_file}

-- what was built is the unit of the text
pub built : (text : List ℕ) (spans : List Span) (freeze : Option CutFreeze) (es : List Entry) (u : Unit) → spans ≡ spans_of 0 (pieces text) → freeze ≡ first_freeze 1 (pieces text) → es ≡ entries_of text
    → Held.entries_of u.held ≡ es → map (λ h. h.span) u.held ≡ map Some spans → u.decided ≡ decisions (freeze_serial freeze) es → u.file ≡ file_cause (freeze_serial freeze) (placed es) → u.last ≡ length es → IsUnitOf text u
built text spans freeze es u cut frozen read entries held decided file last = record {
  entries = entries ∙ read;
  spans = held ∙ ap (map Some) cut;
  decided = decided ∙ ap (λ f. decisions (freeze_serial f) es) frozen ∙ ap (decisions (freeze_serial (first_freeze 1 (pieces text)))) read;
  file = file ∙ ap (λ f. file_cause (freeze_serial f) (placed es)) frozen ∙ ap (λ es. file_cause (freeze_serial (first_freeze 1 (pieces text))) (placed es)) read;
  last = last ∙ ap length (sym entries) ∙ length_held u.held;
}
  where
    length_held : (hs : List Held) → length (Held.entries_of hs) ≡ length hs
    length_held [] = refl
    length_held (h ∷ hs) = ap suc (length_held hs)

-- the unit of a text is read from it
pub are_read : (text : List ℕ) (u : Unit) → IsUnitOf text u → AreRead text u.held
are_read text u of = read_entries text u.held (entries_of text) of.entries (kinds_numbered 1 (kinds_of_text text)) of.spans

-- serials from 1 on are at most their number
given : (n : ℕ) (hs : List Held) → Held.AreNumbered n (Held.entries_of hs) → AllByRecursion (λ h. h.entry.serial ≤ n + length hs) hs
given n [] h = tt
given n (x ∷ hs) h = (omega (arith, h.0), more hs (given (suc n) hs h.1))
  where
    more : (ys : List Held) → AllByRecursion (λ h. h.entry.serial ≤ suc n + length hs) ys → AllByRecursion (λ h. h.entry.serial ≤ n + length (x ∷ hs)) ys
    more [] a = tt
    more (y ∷ ys) a = (omega (arith, a.0), more ys a.1)

pub sound : (text : List ℕ) (u : Unit) → IsUnitOf text u → IsSound u
sound text u of =
    let numbers : Held.AreNumbered 0 (Held.entries_of u.held) = subst (Held.AreNumbered 0) (sym of.entries) (text_numbered text) in
    record {
      once = rise_unique 0 u.held (numbered_rise 0 u.held numbers);
      given = subst (λ n. AllByRecursion (λ h. h.entry.serial ≤ n) u.held) (zero-add (length u.held) ∙ sym of.last) (given 0 u.held numbers);
    }

-- what stays of the unit of a text under edits within functions that are clear
pub record Stays (text : List ℕ) (u v : Unit) : Type 0 where
  pub sound : IsSound v
  pub decided : v.decided ≡ u.decided
  pub file : v.file ≡ u.file
  pub comes : IsEditOf text v.held
  pub names : function_names (placed (Held.entries_of v.held)) ≡ function_names (placed (Held.entries_of u.held))
  pub frozen : FrozenStay u v

at_first : (text : List ℕ) (u : Unit) → IsUnitOf text u → Stays text u u
at_first text u of = record {
  sound = sound text u of;
  decided = refl;
  file = refl;
  comes = as_read text u.held (are_read text u of);
  names = refl;
  frozen = λ k d found not_clear. stays_refl u k;
}

-- a function that is clear is none that isn't
differs : (ds : List Decision) (f k : ℕ) (d : Decision) → option_map is_clear (slice_get ds f) ≡ Some true → slice_get ds k ≡ Some d → is_clear d ≡ false → k ≡ f → ⊥
differs ds f k d clear found unclear e =
    let same : option_map is_clear (Some d) ≡ Some true = ap (option_map is_clear) (sym found ∙ ap (slice_get ds) e) ∙ clear in
    let both : Some false ≡ Some true = ap Some (sym unclear) ∙ same in
    absurd (cc)

one_more : (text : List ℕ) (u : Unit) (f : ℕ) (e : Edit) (x y : Unit) → Stays text u x → IsClearAt x f → IsProper x f e → edited e x ≡ Some y → Stays text u y
one_more text u f e x y s clear p r = record {
  sound = edit_sound f x y e s.sound p r;
  decided = edit_keeps e x y r ∙ s.decided;
  file = edited_file e x y r ∙ s.file;
  comes = text_stays text f e x y s.comes p r;
  names = same_names (Held.entries_of y.held) (Held.entries_of x.held) (of_edit f LastingStay (lasting_stay f) x y e s.sound p r) ∙ s.names;
  frozen = λ k d found unclear.
      stays_trans u x y k (s.frozen k d found unclear)
      (of_edit f (OthersStay f) (others_stay f) x y e s.sound p r k (differs x.decided f k d clear (ap (λ ds. slice_get ds k) s.decided ∙ found) unclear));
}

pub run_stays : (text : List ℕ) (steps : List Step) (j : List Part) (u v : Unit) (before after : List BoxView) → IsUnitOf text u → IsRun steps j u v before after → Stays text u v
run_stays text steps j u v before after of run = run_along (Stays text u) steps j u v before after (one_more text u) (at_first text u of) run

-- the text that is written, cut and read again
pub read_again : (text : List ℕ) (u v : Unit) → Stays text u v → kinds_of_text (unit_text text v.held) ≡ kinds_of (Held.entries_of v.held)
read_again text u v s = entries_back text v.held s.comes

-- each function of the text that is written behaves as the one that was read
pub behaves : (text : List ℕ) (u v : Unit) → IsUnitOf text u → Stays text u v → SameEach (codes u.decided (Held.entries_of u.held)) (codes u.decided (Held.entries_of v.held))
    → BehavesAs text (unit_text text v.held)
behaves text u v of s same =
    let out = unit_text text v.held in
    let kinds : kinds_of (entries_of out) ≡ kinds_of (Held.entries_of v.held) = kinds_numbered 1 (kinds_of_text out) ∙ read_again text u v s in
    record {
      names =
          names_of_kinds (entries_of out) (Held.entries_of v.held) kinds
          ∙ s.names
          ∙ ap (λ es. function_names (placed es)) of.entries;
      same =
          subst (λ es. SameEach (codes (decided text) es) (codes (decided text) (entries_of out))) of.entries
          (subst (λ ds. SameEach (codes ds (Held.entries_of u.held)) (codes ds (entries_of out))) of.decided
          (subst (SameEach (codes u.decided (Held.entries_of u.held))) (sym (of_kinds u.decided (entries_of out) (Held.entries_of v.held) kinds)) same));
    }

-- no functions, no tasks
no_tasks : (n : ℕ) (ss : List Step) → script_tasks n ss [] ≡ []
no_tasks n [] = refl
no_tasks n (s ∷ ss) = no_tasks (suc n) ss

nothing_done : (ts : List Task) (j : List Part) (u v : Unit) → ts ≡ [] → AreDone ts j u v → v ≡ u
nothing_done [] [] u v e d = sym d
nothing_done [] (p ∷ ps) u v e d = absurd d
nothing_done (t ∷ ts) j u v e d = let none : t ∷ ts ≡ [] = e in absurd (cc)

none_decided : (text : List ℕ) → IsSome (file_frozen text) → decided text ≡ []
none_decided text some = by_cause (file_frozen text) refl some
  where
    by_cause : (o : Option FreezeCause) → file_frozen text ≡ o → IsSome o → decided text ≡ []
    by_cause None e some = absurd (cc)
    by_cause (Some c) e some = ap (λ o. map (decision (placed (entries_of text))) (functions_unless o (placed (entries_of text)))) e

-- kept pieces, all of them, are the text
whole_text : (text : List ℕ) (hs : List Held) (at : ℕ) (ps : List (List ℕ)) → drop at text ≡ concat ps → map (λ h. h.span) hs ≡ map Some (spans_of at ps) → unit_text text hs ≡ concat ps
whole_text text [] at [] here e = refl
whole_text text [] at (p ∷ ps) here e = absurd (cc)
whole_text text (h ∷ hs) at [] here e = absurd (cc)
whole_text text (h ∷ hs) at (p ∷ ps) here e =
    let span : h.span ≡ Some (record { start = at; len = length p }) = cc in
    let rest : map (λ h. h.span) hs ≡ map Some (spans_of (at + length p) ps) = cc in
    let behind : drop (at + length p) text ≡ concat ps = sym (drop-drop (length p) at text) ∙ ap (drop (length p)) here ∙ drop_at p (concat ps) (length p) refl in
    let own : entry_text text h.entry.kind h.span ≡ p = ap (entry_text text h.entry.kind) span ∙ ap (take (length p)) here ∙ take_at p (concat ps) (length p) refl in
    ap (λ l. l ++ unit_text text hs) own ∙ ap (λ l. p ++ l) (whole_text text hs (at + length p) ps behind rest)

-- a file that is frozen as a whole is written as it was
pub file_stays : (text : List ℕ) (steps : List Step) (j : List Part) (u v : Unit) (before after : List BoxView) → IsUnitOf text u → IsRun steps j u v before after → IsSome (file_frozen text)
    → unit_text text v.held ≡ text
file_stays text steps j u v before after of run some =
    let none : u.decided ≡ [] = of.decided ∙ none_decided text some in
    let same : v ≡ u = nothing_done (script_tasks 1 steps (clear_places u.decided)) j u v (ap (λ ds. script_tasks 1 steps (clear_places ds)) none ∙ no_tasks 1 steps) run.done in
    ap (λ x. unit_text text x.held) same
    ∙ whole_text text u.held 0 (pieces text) (sym (are_pieces text).whole) of.spans
    ∙ (are_pieces text).whole

-- what is made of the unit of a text is what is to be written
pub prepared : (p : Prepared) (u : Unit) (lines : List ℕ) (ss steps : List Step) (with_journal : Bool) (before after : List BoxView) → ss ≡ steps → IsUnitOf p.text.items u → IsRun ss p.journal u p.unit before after
    → lines ≡ lines_from 1 (pieces p.text.items) → p.notes.items ≡ notes_text lines p.unit.file p.unit.decided steps with_journal p.unit p.journal → IsPrepared steps with_journal p before after
prepared p u lines ss steps with_journal before after same of ran at notes =
    let run : IsRun steps p.journal u p.unit before after = subst (λ xs. IsRun xs p.journal u p.unit before after) same ran in
    let stays = run_stays p.text.items steps p.journal u p.unit before after of run in
    record {
      read = u;
      of_text = of;
      run = run;
      notes =
          notes
          ∙ ap (λ l. notes_text l p.unit.file p.unit.decided steps with_journal p.unit p.journal) at
          ∙ ap (λ f. notes_text (lines_from 1 (pieces p.text.items)) f p.unit.decided steps with_journal p.unit p.journal) (stays.file ∙ of.file)
          ∙ ap (λ ds. notes_text (lines_from 1 (pieces p.text.items)) (file_frozen p.text.items) ds steps with_journal p.unit p.journal) (stays.decided ∙ of.decided);
      writable = writable p.text.items p.unit.held stays.comes;
    }

-- what was prepared is what was done
pub done_of : (words : List Text) (old new : Option (List ℕ)) (steps : List Step) (with_journal : Bool) (p : Prepared) (before after : List BoxView)
    → steps ≡ steps_of (script_of_words words) → IsWhole old new p.text.items → length (pieces p.text.items) ≤ 2000000 → IsPrepared steps with_journal p before after
    → IsDone words old new p.text.items p.unit p.journal before after
done_of words old new steps with_journal p before after same whole few is =
    let stays = run_stays p.text.items steps p.journal is.read p.unit before after is.of_text is.run in
    record {
      read = whole.whole;
      at_end = whole.to_the_end;
      bytes_within = whole.within;
      pieces_within = few;
      unit = is.read;
      of_text = is.of_text;
      run = subst (λ ss. IsRun ss p.journal is.read p.unit before after) same is.run;
      read_again = read_again p.text.items is.read p.unit stays;
      behaves = behaves p.text.items is.read p.unit is.of_text stays is.run.same;
      file = file_stays p.text.items steps p.journal is.read p.unit before after is.of_text is.run;
      frozen = stays.frozen;
    }

-- the notes are those that the words ask for
pub noted_by : (words : List Text) (steps : List Step) (with_journal : Bool) (p : Prepared) (before after : List BoxView)
    → steps ≡ steps_of (script_of_words words) → with_journal ≡ asks_for_journal words → IsPrepared steps with_journal p before after
    → p.notes.items ≡ notes_by words p.text.items p.unit p.journal
noted_by words steps with_journal p before after same asked is =
    is.notes
    ∙ ap (λ ss. notes_of ss with_journal p.text.items p.unit p.journal) same
    ∙ ap (λ b. notes_of (steps_of (script_of_words words)) b p.text.items p.unit p.journal) asked

-- What prepares a run, and what came of it.
module _ (words : List Text) (steps : List Step) (with_journal : Bool) (p : Prepared) (j : List Part) (left_old left_new : Option (List ℕ)) (before after : List BoxView)
    (same : steps ≡ steps_of (script_of_words words)) (asked : with_journal ≡ asks_for_journal words) (journal : j ≡ p.journal)
    (whole : IsWhole left_old left_new p.text.items) (few : length (pieces p.text.items) ≤ 2000000) (is : IsPrepared steps with_journal p before after) where
  done : IsDone words left_old left_new p.text.items p.unit j before after
  done = subst (λ x. IsDone words left_old left_new p.text.items p.unit x before after) (sym journal) (done_of words left_old left_new steps with_journal p before after same whole few is)

  noted : p.notes.items ≡ notes_by words p.text.items p.unit j
  noted = noted_by words steps with_journal p before after same asked is ∙ ap (notes_by words p.text.items p.unit) (sym journal)

  pub fine_of : (s : Status) (out_old out_new : Option (List ℕ)) (out_before out_now : ℕ) (notes_old notes_new : Option (List ℕ)) (notes_before notes_now : ℕ)
      → IsDelivered s p out_old out_new out_before out_now notes_old notes_new notes_before notes_now → s ≡ Status.Fine
      → IsFine words left_old left_new out_old out_new notes_old notes_new j before after
  fine_of s out_old out_new out_before out_now notes_old notes_new notes_before notes_now d e =
      let came = subst (λ x. IsDelivered x p out_old out_new out_before out_now notes_old notes_new notes_before notes_now) e d in
      record { text = p.text.items; final = p.unit; done = done; taken = came.0; noted = subst (Appends notes_old notes_new) noted came.1 }

  pub cut_in_notes_of : (s : Status) (out_old out_new : Option (List ℕ)) (out_before out_now : ℕ) (notes_old notes_new : Option (List ℕ)) (notes_before notes_now : ℕ)
      → IsDelivered s p out_old out_new out_before out_now notes_old notes_new notes_before notes_now → s ≡ Status.NotesFault
      → IsCutInNotes words left_old left_new out_old out_new notes_old notes_new j before after
  cut_in_notes_of s out_old out_new out_before out_now notes_old notes_new notes_before notes_now d e =
      let came = subst (λ x. IsDelivered x p out_old out_new out_before out_now notes_old notes_new notes_before notes_now) e d in
      record {
        text = p.text.items;
        final = p.unit;
        count = came.1.0.0;
        done = done;
        taken = came.0;
        part = subst (λ l. came.1.0.0 < length l) noted came.1.0.1;
        noted = subst (λ l. Appends notes_old notes_new (take came.1.0.0 l)) noted came.1.0.2;
      }

  pub cut_short_of : (s : Status) (out_old out_new : Option (List ℕ)) (out_before out_now : ℕ) (notes_old notes_new : Option (List ℕ)) (notes_before notes_now : ℕ)
      → IsDelivered s p out_old out_new out_before out_now notes_old notes_new notes_before notes_now → s ≡ Status.WriteFault
      → IsCutShort words left_old left_new out_old out_new j before after
  cut_short_of s out_old out_new out_before out_now notes_old notes_new notes_before notes_now d e =
      let came = subst (λ x. IsDelivered x p out_old out_new out_before out_now notes_old notes_new notes_before notes_now) e d in
      record { text = p.text.items; final = p.unit; count = came.0.0.0; done = done; part = came.0.0.1; taken = came.0.0.2 }
