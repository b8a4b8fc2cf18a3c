-- The items of a function are those of the lines of its code.
use Rattle.std.proofs.Common.{Bool, true, false, List, [], ◌∷◌, map}
use Rattle.std.specs.Prelude.{filter, bytes_eq, if◌then◌else◌}
use Rattle.insn_ir.specs.declared.entry.DirectiveKind.{DirectiveKind}
use Rattle.insn_ir.specs.declared.entry.EntryKind.{EntryKind}
use Rattle.insn_ir.specs.Code.{One}
use Rattle.insn_ir.specs.Entries.{lines_of}
use Rattle.blocks_cfg.specs.Stretch.{Item, Cuts, AreOf, none, label, place, cut, rest}
use Rattle.jump_tables.specs.Sections.{Section, Placed}
use Rattle.asm_unit.specs.Functions.{Part, section_of, code_part}
use Rattle.pass_rules.specs.Stretches.{item_of_kind, item_of, items_of}

-- one more entry of the section
one_more : (k : EntryKind) (xs : List Item) (ks : List EntryKind) → AreOf xs (lines_of ks) → AreOf (item_of_kind k ∷ xs) (lines_of (k ∷ ks))
one_more (EntryKind.Label n) xs ks h = label xs n (lines_of ks) h
one_more (EntryKind.Insn i) xs ks h = place xs (One i) (lines_of ks) h
one_more (EntryKind.Directive (DirectiveKind.Align p f m)) xs ks h = cut xs (lines_of ks) h
one_more (EntryKind.Directive DirectiveKind.Cfi) xs ks h = cut xs (lines_of ks) h
one_more (EntryKind.Directive DirectiveKind.CfiTable) xs ks h = cut xs (lines_of ks) h
one_more _ xs ks h = rest xs (lines_of ks) h

are_of : (s : Section) (ps : List Placed) → AreOf (map (item_of s) ps) (lines_of (map (λ p. p.entry.kind) (filter (λ p. bytes_eq p.section.name s.name) ps)))
are_of s [] = none
are_of s (p ∷ ps) = by_section (bytes_eq p.section.name s.name) (are_of s ps)
  where
    by_section : (b : Bool) → AreOf (map (item_of s) ps) (lines_of (map (λ p. p.entry.kind) (filter (λ p. bytes_eq p.section.name s.name) ps)))
        → AreOf ((if b then item_of_kind p.entry.kind else Cuts) ∷ map (item_of s) ps) (lines_of (map (λ p. p.entry.kind) (if b then p ∷ filter (λ p. bytes_eq p.section.name s.name) ps else filter (λ p. bytes_eq p.section.name s.name) ps)))
    by_section true h = one_more p.entry.kind (map (item_of s) ps) (map (λ p. p.entry.kind) (filter (λ p. bytes_eq p.section.name s.name) ps)) h
    by_section false h = cut _ _ h

pub items_are_of_lines : (body : Part) → AreOf (items_of body) (lines_of (map (λ p. p.entry.kind) (code_part body)))
items_are_of_lines body = are_of (section_of body) body.body
