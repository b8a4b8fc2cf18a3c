-- Nops that are inserted one after another, at places that a generator chooses.
use Rattle.std.specs.Prelude.{◌≡◌, ◌+◌, ◌%◌, ℕ, Bool, false, ◌&&◌, List, [], ◌∷◌, length, nat_lt, Option, Some, None, if◌then◌else◌}
use Rattle.std.specs.List.{AllByRecursion}
use Rattle.rand_pcg.specs.Lcg.{Lcg}
use Rattle.rand_pcg.specs.Pcg.{pcg32}
use Rattle.insn_ir.specs.declared.entry.Entry.{Entry}
use Rattle.asm_unit.specs.declared.held.Held.{Held}
use Rattle.asm_unit.specs.Held.{entry_of}
use Rattle.asm_unit.specs.Unit.{Unit}
use Rattle.unit_edits.specs.declared.journal.Part.{Part}
use Rattle.unit_edits.specs.Bodies.{IsClearAt}
use Rattle.unit_edits.specs.Journal.{onto_last}
use Rattle.unit_edits.specs.Proper.{IsOfCode, AllProper}
use Rattle.unit_edits.specs.Replay.{replay}
use Rattle.pass_rules.specs.Draws.{is_drawn, nops_before}
use Rattle.pass_base.specs.Runs.{BehaveAlike}

abbrev pub is_drawn_entry : Option Entry → Bool
is_drawn_entry None = false
is_drawn_entry (Some e) = is_drawn e.kind

-- whether a number is drawn for an entry and is below the density, and the generator behind it
abbrev pub is_picked : (density : ℕ) → Lcg → Option Entry → Bool
is_picked density words o = is_drawn_entry o && nat_lt ((pcg32 words).0 % 100) density

abbrev pub words_after : Lcg → Option Entry → Lcg
words_after words o = if is_drawn_entry o then (pcg32 words).1 else words

-- the serials that are picked
abbrev pub picked : (density : ℕ) → List Held → Lcg → List ℕ → List ℕ
picked density hs words [] = []
picked density hs words (s ∷ ss) =
    if is_picked density words (entry_of hs s) then s ∷ picked density hs (words_after words (entry_of hs s)) ss
    else picked density hs (words_after words (entry_of hs s)) ss

-- the entries of these serials stand in a clear function's code
pub record CanInsert (f : ℕ) (u : Unit) (places : List ℕ) : Type 0 where
  pub clear : IsClearAt u f
  pub all : AllByRecursion (IsOfCode u f) places

-- nops before these entries lead from a unit and a journal to others, and each function behaves as before
pub record Inserts (f : ℕ) (u : Unit) (j : List Part) (places : List ℕ) (v : Unit) (k : List Part) : Type 0 where
  pub last : v.last ≡ u.last + length places
  pub replayed : replay (nops_before u.last places) u ≡ Some v
  pub within : AllProper f u (nops_before u.last places)
  pub same : BehaveAlike u v
  pub journal : k ≡ onto_last (nops_before u.last places) j
