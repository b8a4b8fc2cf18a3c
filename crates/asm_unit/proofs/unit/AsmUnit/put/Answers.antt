use Rattle.std.proofs.Common.{◌≡◌, ◌∙◌, ap, sym, subst, map, refl, true}
use Rattle.std.specs.Prelude.{slice_get, slice_set}
use Rattle.insn_ir.specs.Code.{One}
use Rattle.insn_ir.specs.Edits.{with_line}
use Rattle.insn_ir.specs.declared.entry.EntryKind.{EntryKind}
use Rattle.jump_tables.specs.Sections.{placed}
use Rattle.asm_unit.specs.Edits.{part_map}
use Rattle.asm_unit.specs.CodeLines.{lines_before, put_entry}
use Rattle.asm_unit.specs.Lasting.{lasting}
use Rattle.asm_unit.specs.Functions.{code_part, functions}
use Rattle.asm_unit.specs.Held.{held_put, entry_of, entries_of}
use Rattle.asm_unit.specs.Unit.{functions_of, in_clear_code, is_removable_entry, is_insn_entry}
use Rattle.asm_unit.specs.UnitCodes.{codes_of}
use Rattle.asm_unit.specs.UnitFields.{decided_from}
use Rattle.asm_unit.specs.Decisions.{codes}
use Rattle.asm_unit.proofs.EditCodes.{line_put}
use Rattle.asm_unit.specs.DefinedNames.{Keeps}
use Rattle.asm_unit.proofs.PutLaws.{entries_put, fits_put, keeps_frames, functions_put, clear_put}
use Rattle.asm_unit.proofs.LastingLaws.{names_last, put_lasts}
use Rattle.asm_unit.proofs.UnitLaws.{insn_removable, insn_there, is_removable_once}
use Rattle.asm_unit.proofs.unit.AsmUnit.put.Goals as goal

pub put-requires : goal.put-requires
put-requires c = insn_there _ (ap (λ v. is_insn_entry (entry_of v.held c.args.serial)) c.self.view_is ∙ c.requires.instruction)

pub invariant_of-self : goal.invariant_of-self
invariant_of-self c =
    let u = c.self.inside in
    let serial = c.args.serial in
    let k = EntryKind.Insn c.args.insn in
    let ds = decided_from 0 u.functions.items u.tables u.table_owners.items in
    let removable : is_removable_entry (entry_of u.held.held serial) ≡ true = insn_removable _ (ap (λ v. is_insn_entry (entry_of v.held serial)) c.self.view_is ∙ c.requires.instruction) in
    let clear : in_clear_code ds (functions (placed (entries_of u.held.held))) serial ≡ true = ap (λ v. in_clear_code v.decided (functions_of v) serial) c.self.view_is ∙ c.requires.clear in
    subst (λ l. Keeps l.held l.last u.functions.items u.owners.items u.tables u.table_owners.items u.names) (sym c.put.ensures)
    (record {
      fits = fits_put serial k u.held.held ds u.functions.items u.owners.items c.self.invariant.fits removable refl clear;
      tell = names_last u.held.held (held_put serial k u.held.held) u.functions.items u.tables u.table_owners.items u.names
          (ap lasting (entries_put serial k u.held.held) ∙ put_lasts serial k (entries_of u.held.held) refl (is_removable_once serial u.held.held c.self.invariant.fits.unique removable)) c.self.invariant.tell;
      many = c.self.invariant.many;
      given = c.self.invariant.given;
    })

pub returns-clause-functions : goal.returns-clause-functions
returns-clause-functions c =
    let u = c.self.inside in
    let serial = c.args.serial in
    let k = EntryKind.Insn c.args.insn in
    let removable : is_removable_entry (entry_of u.held.held serial) ≡ true = insn_removable _ (ap (λ v. is_insn_entry (entry_of v.held serial)) c.self.view_is ∙ c.requires.instruction) in
    ap (λ l. functions (placed (entries_of l.held))) c.put.ensures
    ∙ functions_put serial k u.held.held (keeps_frames serial k u.held.held c.self.invariant.fits.unique removable refl)
    ∙ ap (λ v. map (part_map (put_entry serial k)) (functions_of v)) c.self.view_is

pub returns-clause-codes : goal.returns-clause-codes
returns-clause-codes c = λ other.
    let u = c.self.inside in
    let serial = c.args.serial in
    let k = EntryKind.Insn c.args.insn in
    let ds = decided_from 0 u.functions.items u.tables u.table_owners.items in
    let removable : is_removable_entry (entry_of u.held.held serial) ≡ true = insn_removable _ (ap (λ v. is_insn_entry (entry_of v.held serial)) c.self.view_is ∙ c.requires.instruction) in
    ap (λ l. in_clear_code ds (functions (placed (entries_of l.held))) other) c.put.ensures
    ∙ clear_put serial k ds other u.held.held (keeps_frames serial k u.held.held c.self.invariant.fits.unique removable refl)
    ∙ ap (λ v. in_clear_code v.decided (functions_of v) other) c.self.view_is

pub returns-clause-line : goal.returns-clause-line
returns-clause-line c = λ k f code stands.
    let u = c.self.inside in
    let serial = c.args.serial in
    let ds = decided_from 0 u.functions.items u.tables u.table_owners.items in
    ap (λ l. codes ds (entries_of l.held)) c.put.ensures
    ∙ line_put ds u.held.held serial k f code c.self.invariant.fits.unique
    (ap (λ v. is_insn_entry (entry_of v.held serial)) c.self.view_is ∙ c.requires.instruction) (ap (λ v. slice_get (functions_of v) k) c.self.view_is ∙ stands.function) (ap (λ v. slice_get (codes_of v) k) c.self.view_is ∙ stands.code) stands.among c.args.insn
    ∙ ap (λ v. slice_set (codes_of v) k (with_line code (lines_before serial (code_part f)) (One c.args.insn))) c.self.view_is
