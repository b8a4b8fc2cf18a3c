-- What is to be written of a text.
use Rattle.std.specs.Prelude.{◌≡◌, Bool, List}
use Rattle.asm_unit.specs.Unit.{Unit}
use Rattle.asm_writer.specs.Unit.{AreWritable}
use Rattle.pass_script.specs.declared.script.Step.{Step}
use Rattle.pass_base.specs.Books.{BoxView}
use Rattle.pass_driver.specs.Outcome.{IsRun}
use Rattle.mao_core.specs.declared.preparing.Prepared.{Prepared}
use Rattle.mao_core.specs.Decided.{IsUnitOf}
use Rattle.mao_core.specs.Notes.{notes_of}

-- the steps were done to the unit of the text by the boxes of a book; the notes tell of it, and the unit can be written
pub record IsPrepared (steps : List Step) (with_journal : Bool) (p : Prepared) (before after : List BoxView) : Type 0 where
  pub read : Unit
  pub of_text : IsUnitOf p.text.items read
  pub run : IsRun steps p.journal read p.unit before after
  pub notes : p.notes.items ≡ notes_of steps with_journal p.text.items p.unit p.journal
  pub writable : AreWritable p.text.items p.unit.held
