-- What the entries of a function are for stretches.
use Rattle.std.specs.Prelude.{List, map, bytes_eq, if◌then◌else◌}
use Rattle.insn_ir.specs.declared.entry.DirectiveKind.{DirectiveKind}
use Rattle.insn_ir.specs.declared.entry.EntryKind.{EntryKind}
use Rattle.insn_ir.specs.Code.{One}
use Rattle.blocks_cfg.specs.Stretch.{Item, Cuts, Stands, Rests}
use Rattle.jump_tables.specs.Sections.{Section, Placed}
use Rattle.asm_unit.specs.Functions.{Part, section_of}

-- a label, an alignment and a `.cfi_` directive cut a stretch, and an instruction stands for a place
abbrev pub item_of_kind : EntryKind → Item
item_of_kind (EntryKind.Label n) = Cuts
item_of_kind (EntryKind.Insn i) = Stands (One i)
item_of_kind (EntryKind.Directive (DirectiveKind.Align p f m)) = Cuts
item_of_kind (EntryKind.Directive DirectiveKind.Cfi) = Cuts
item_of_kind (EntryKind.Directive DirectiveKind.CfiTable) = Cuts
item_of_kind _ = Rests

-- so does an entry in another section than that of the function. A section directive stands in the section that it opens, so
-- one that leaves the section cuts, and one that opens the section which is in effect doesn't
abbrev pub item_of : Section → Placed → Item
item_of here p = if bytes_eq p.section.name here.name then item_of_kind p.entry.kind else Cuts

-- the entries of a function, from its label to its `.size`
abbrev pub items_of : Part → List Item
items_of body = map (item_of (section_of body)) body.body
