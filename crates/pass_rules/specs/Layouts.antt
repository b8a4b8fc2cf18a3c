-- The layout of a function of a unit.
use Rattle.std.specs.Prelude.{◌≡◌, ℕ, Bool, true, not, ◌&&◌, List, [], ◌∷◌, map, length, nat_le, is_none, Option, Some, None}
use Rattle.std.specs.List.{list_any, list_all, take_while}
use Rattle.insn_ir.specs.declared.entry.DirectiveKind.{DirectiveKind}
use Rattle.insn_ir.specs.declared.entry.EntryKind.{EntryKind}
use Rattle.insn_ir.specs.declared.insn.Insn.{Insn}
use Rattle.size_table.specs.declared.form.JumpForm.{JumpForm}
use Rattle.size_table.specs.Sizes.{size_of_insn}
use Rattle.relaxer.specs.declared.item.Item.{Item}
use Rattle.relaxer.specs.Layout.{sizes_of, offset_of, round, IsLayout}
use Rattle.jump_tables.specs.Names.{has}
use Rattle.jump_tables.specs.Sections.{Placed, placed}
use Rattle.asm_unit.specs.Edits.{has_serial}
use Rattle.asm_unit.specs.Freeze.{defined}
use Rattle.asm_unit.specs.Functions.{Part, code_part, base_power}
use Rattle.asm_unit.specs.Held.{entries_of}
use Rattle.asm_unit.specs.Names.{jump_names}
use Rattle.asm_unit.specs.Unit.{Unit, target_of}
use Rattle.unit_edits.specs.Bodies.{body_of}

-- the index of the entry of a serial
abbrev pub index_of : ℕ → List Placed → ℕ
index_of serial ps = length (take_while (λ p. not (has_serial serial p.entry)) ps)

-- a direct jump to a name: short or near where the name is a local label, else near, as the assembler leaves it to the linker
abbrev pub jump_to : List Placed → Insn → Option ℕ → Item
jump_to code i None = Item.Fixed (size_of_insn i JumpForm.Near)
jump_to code i (Some label) = Item.Short (size_of_insn i JumpForm.Short) (size_of_insn i JumpForm.Near) (index_of label code)

abbrev pub item_by : Part → Insn → List (List ℕ) → Item
item_by body i [] = Item.Fixed (size_of_insn i JumpForm.Near)
item_by body i (n ∷ ns) = jump_to (code_part body) i (target_of body n)

-- what layout looks at in an entry: labels and other directives than alignments take no bytes
abbrev pub layout_item : Part → EntryKind → Item
layout_item body (EntryKind.Insn i) = item_by body i (jump_names (EntryKind.Insn i))
layout_item body (EntryKind.Directive (DirectiveKind.Align power fill max)) = Item.Align power max
layout_item body _ = Item.Fixed 0

abbrev pub layout_items : Part → List Item
layout_items body = map (λ p. layout_item body p.entry.kind) (code_part body)

-- the offset, from its label, of the entry of a serial of its code
pub record HasOffset (body : Part) (serial offset : ℕ) : Type 0 where
  pub rounds : ℕ
  pub layout : IsLayout (layout_items body) rounds
  pub at : offset_of (sizes_of (round rounds (layout_items body))) (index_of serial (code_part body)) ≡ offset

-- a direct jump of the code names a symbol that the file defines and that is no local label: how it is encoded is decided elsewhere
abbrev pub jumps_elsewhere : Unit → ℕ → Bool
jumps_elsewhere u f =
    list_any (λ p. list_any (λ n. has n (defined (placed (entries_of u.held))) && is_none (target_of (body_of u f) n)) (jump_names p.entry.kind)) (code_part (body_of u f))

-- an alignment of at most the base power: where the label stands is known modulo that power alone
abbrev pub is_within_base : Part → EntryKind → Bool
is_within_base body (EntryKind.Directive (DirectiveKind.Align power fill max)) = nat_le power (base_power body)
is_within_base body _ = true

-- whether there is a layout
abbrev pub has_layout : Unit → ℕ → Bool
has_layout u f = not (jumps_elsewhere u f) && list_all (λ p. is_within_base (body_of u f) p.entry.kind) (code_part (body_of u f))
