-- What each status says of a run.
use Rattle.std.specs.Prelude.{ℕ, ◌<◌, ◌≤◌, ◌≡◌, ◌⊎◌, Bool, List, length, take, None, Some, ⊤, true}
use Rattle.std.specs.declared.option.Option.{Option}
use Rattle.std.specs.Option.{IsSome}
use Rattle.std.specs.Io.KnownBytes.{Consumes, IsAtEnd, Appends}
use Rattle.clap.specs.Words.{Text, takes}
use Rattle.mao_outside.specs.Causes.{Rose}
use Rattle.att_lexer.specs.Pieces.{pieces}
use Rattle.asm_unit.specs.Held as Held
use Rattle.asm_unit.specs.Unit.{Unit}
use Rattle.asm_writer.specs.Unit.{unit_text}
use Rattle.insn_ir.specs.Entries.{kinds_of}
use Rattle.pass_script.specs.Script.{steps_of}
use Rattle.pass_base.specs.Books.{BoxView, views}
use Rattle.pass_script.specs.declared.kinds.PassKind.{PassKind}
use Rattle.pass_script.specs.declared.options.PassOpts.{PassOpts}
use Rattle.pass_driver.specs.Outcome.{IsRun}
use Rattle.unit_edits.specs.declared.journal.Part.{Part}
use Rattle.mao_words.specs.Command.{mao_app, AreFaultless, script_of_words, asks_for_journal}
use Rattle.mao_words.specs.Refused.{script_fault}
use Rattle.mao_core.specs.declared.top.Status.{Status}
use Rattle.mao_core.specs.declared.top.Status.TheVariants.{Fine, Usage, ReadFault, TooBig, NoMemory, WriteFault, NotesFault}
use Rattle.mao_core.specs.Entries.{kinds_of_text}
use Rattle.mao_core.specs.Decided.{IsUnitOf, file_frozen}
use Rattle.mao_core.specs.Frozen.{FrozenStay}
use Rattle.mao_core.specs.Behaves.{BehavesAs}
use Rattle.mao_core.specs.Notes.{notes_of}

-- what is seen of the boxes of a book before and after, by what each says of itself
abbrev pub between : {B : Type 0} → List B → List B → (B → PassKind) → (B → PassOpts) → (B → ℕ) → (List BoxView → List BoxView → Type 0) → Type 0
between old new k o c holds = holds (views k o c old) (views k o c new)

-- the command takes the words, and the script that they give has no fault
pub record IsCommand (words : List Text) : Type 0 where
  pub taken : takes mao_app words ≡ true
  pub script : script_fault words ≡ None

-- `clap` and the script's grammar found no fault in the words
pub record AreRead (words : List Text) : Type 0 where
  pub faultless : AreFaultless words
  pub script : script_fault words ≡ None

-- more bytes or more pieces than are taken
abbrev pub IsTooBig : List ℕ → Type 0
IsTooBig text = (33554432 < length text) ⊎ (2000000 < length (pieces text))

-- a source that tells what is left, and has no more than is taken
abbrev pub IsWithinLimits : Option (List ℕ) → Type 0
IsWithinLimits None = ⊥
IsWithinLimits (Some text) = IsTooBig text → ⊥

-- The source was read to its end, its text judged whole, and the script of the words done to its unit by the boxes of the book.
pub record IsDone (words : List Text) (left_old left_new : Option (List ℕ)) (text : List ℕ) (final : Unit) (journal : List Part) (before after : List BoxView) : Type 0 where
  pub read : Consumes left_old left_new text
  pub at_end : IsAtEnd left_new
  pub bytes_within : length text ≤ 33554432
  pub pieces_within : length (pieces text) ≤ 2000000
  pub unit : Unit
  pub of_text : IsUnitOf text unit
  pub run : IsRun (steps_of (script_of_words words)) journal unit final before after
  -- what is written, cut and read again, is the entries of the final unit
  pub read_again : kinds_of_text (unit_text text final.held) ≡ kinds_of (Held.entries_of final.held)
  pub behaves : BehavesAs text (unit_text text final.held)
  -- a text that is frozen as a whole stays, and so does each function that is frozen
  pub file : IsSome (file_frozen text) → unit_text text final.held ≡ text
  pub frozen : FrozenStay unit final

-- the notes on a run
abbrev pub notes_by : List Text → List ℕ → Unit → List Part → List ℕ
notes_by words text final journal = notes_of (steps_of (script_of_words words)) (asks_for_journal words) text final journal

-- the one sink took the text of the final unit, and the other the notes
pub record IsFine (words : List Text) (left_old left_new out_old out_new notes_old notes_new : Option (List ℕ)) (journal : List Part) (before after : List BoxView) : Type 0 where
  pub text : List ℕ
  pub final : Unit
  pub done : IsDone words left_old left_new text final journal before after
  pub taken : Appends out_old out_new (unit_text text final.held)
  pub noted : Appends notes_old notes_new (notes_by words text final journal)

-- the same, but the sink of the notes took a proper prefix
pub record IsCutInNotes (words : List Text) (left_old left_new out_old out_new notes_old notes_new : Option (List ℕ)) (journal : List Part) (before after : List BoxView) : Type 0 where
  pub text : List ℕ
  pub final : Unit
  pub count : ℕ
  pub done : IsDone words left_old left_new text final journal before after
  pub taken : Appends out_old out_new (unit_text text final.held)
  pub part : count < length (notes_by words text final journal)
  pub noted : Appends notes_old notes_new (take count (notes_by words text final journal))

-- the same, but the sink of the text took a proper prefix
pub record IsCutShort (words : List Text) (left_old left_new out_old out_new : Option (List ℕ)) (journal : List Part) (before after : List BoxView) : Type 0 where
  pub text : List ℕ
  pub final : Unit
  pub count : ℕ
  pub done : IsDone words left_old left_new text final journal before after
  pub part : count < length (unit_text text final.held)
  pub taken : Appends out_old out_new (take count (unit_text text final.held))

-- the bytes that were read are more than are taken: 33,554,433 of them, or the whole input
pub record IsSeenTooBig (left_old left_new : Option (List ℕ)) : Type 0 where
  pub text : List ℕ
  pub read : Consumes left_old left_new text
  pub big : (length text ≡ 33554433) ⊎ ((2000000 < length (pieces text)) × IsAtEnd left_new)

-- why a text was not judged
abbrev pub Refuses : Status → Option (List ℕ) → Option (List ℕ) → ℕ → ℕ → Type 0
Refuses Fine old new before now = ⊥
Refuses Usage old new before now = ⊥
Refuses ReadFault old new before now = Rose before now
Refuses TooBig old new before now = IsSeenTooBig old new
Refuses NoMemory old new before now = ⊤
Refuses WriteFault old new before now = ⊥
Refuses NotesFault old new before now = ⊥
