-- Edits leave the lasting entries, and with them the names of functions.
use Rattle.std.proofs.Common.{◌≡◌, ℕ, List, [], ◌∷◌, map, refl, sym, ap, ◌∙◌, suc}
use Rattle.insn_ir.specs.declared.entry.Entry.{Entry}
use Rattle.insn_ir.specs.declared.entry.EntryKind.{EntryKind}
use Rattle.jump_tables.specs.Sections.{placed}
use Rattle.asm_unit.specs.Freeze.{function_names}
use Rattle.asm_unit.specs.Functions.{Part, label_of, name_at, name_of, functions}
use Rattle.asm_unit.specs.Held.{entries_of}
use Rattle.asm_unit.specs.Lasting.{lasting}
use Rattle.asm_unit.specs.Unit.{Unit}
use Rattle.asm_unit.proofs.InsertFits.{entries_inserted}
use Rattle.asm_unit.proofs.LastingLaws.{insert_lasts, drop_lasts, put_lasts, same_labels}
use Rattle.asm_unit.proofs.PutLaws.{entries_put}
use Rattle.asm_unit.proofs.UnitLaws.{entries_without, insn_removable, is_removable_once}
use Rattle.edit_laws.proofs.Steps.{OfSteps}

abbrev pub LastingStay : Unit → Unit → Type 0
LastingStay u v = lasting (entries_of v.held) ≡ lasting (entries_of u.held)

pub lasting_stay : (f : ℕ) → OfSteps f LastingStay
lasting_stay f = record {
  both = λ u v w a b. b ∙ a;
  goes = λ u s sound among removable.
      ap lasting (entries_without s u.held) ∙ drop_lasts s (entries_of u.held) (is_removable_once s u.held sound.once removable);
  becomes = λ u s i sound among insn.
      ap lasting (entries_put s (EntryKind.Insn i) u.held)
      ∙ put_lasts s (EntryKind.Insn i) (entries_of u.held) refl (is_removable_once s u.held sound.once (insn_removable _ insn));
  comes = λ u b k sound among removable.
      ap lasting (entries_inserted b (suc u.last) k u.held) ∙ insert_lasts b (record { serial = suc u.last; kind = k }) (entries_of u.held) removable;
}

-- a function's name is that of its label
named : (fs : List Part) → map name_of fs ≡ map name_at (map label_of fs)
named [] = refl
named (f ∷ fs) = ap (λ ns. name_of f ∷ ns) (named fs)

pub same_names : (es fs : List Entry) → lasting es ≡ lasting fs → function_names (placed es) ≡ function_names (placed fs)
same_names es fs l = named (functions (placed es)) ∙ ap (map name_at) (same_labels es fs l) ∙ sym (named (functions (placed fs)))
