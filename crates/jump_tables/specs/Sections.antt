-- Entries with the sections that they stand in (GNU as manual, 7.88 .section, 7.103 .text).
use Rattle.std.specs.Prelude.{ℕ, Bool, true, ◌||◌, List, [], ◌∷◌, nat_eq}
use Rattle.std.specs.List.{starts_with}
use Rattle.insn_ir.specs.declared.entry.DirectiveKind.{DirectiveKind}
use Rattle.insn_ir.specs.declared.entry.EntryKind.{EntryKind}
use Rattle.insn_ir.specs.declared.entry.Entry.{Entry}

-- a section: its name alone says which it is
pub record Section : Type 0 where
  pub name : List ℕ
  pub code : Bool

-- `.text`
abbrev pub text : Section
text = record { name = 46 ∷ 116 ∷ 101 ∷ 120 ∷ 116 ∷ []; code = true }

-- `.debug_`
abbrev pub debug_front : List ℕ
debug_front = 46 ∷ 100 ∷ 101 ∷ 98 ∷ 117 ∷ 103 ∷ 95 ∷ []

-- `.gnu.debuglto_.debug_`
abbrev pub lto_front : List ℕ
lto_front = 46 ∷ 103 ∷ 110 ∷ 117 ∷ 46 ∷ 100 ∷ 101 ∷ 98 ∷ 117 ∷ 103 ∷ 108 ∷ 116 ∷ 111 ∷ 95 ∷ debug_front

abbrev pub is_debug_name : List ℕ → Bool
is_debug_name n = starts_with nat_eq n debug_front || starts_with nat_eq n lto_front

abbrev pub is_debug : Section → Bool
is_debug s = is_debug_name s.name

-- the section in effect from an entry on
abbrev pub section_after : Section → EntryKind → Section
section_after s (EntryKind.Directive (DirectiveKind.Section n c)) = record { name = n; code = c }
section_after s _ = s

pub record Placed : Type 0 where
  pub entry : Entry
  pub section : Section

-- each entry with the section that it stands in: a section directive stands in the section that it opens
abbrev pub placed_from : Section → List Entry → List Placed
placed_from s [] = []
placed_from s (e ∷ es) =
    record { entry = e; section = section_after s e.kind } ∷ placed_from (section_after s e.kind) es

-- the entries of a file, each with its section: `.text` before any directive
abbrev pub placed : List Entry → List Placed
placed es = placed_from text es
