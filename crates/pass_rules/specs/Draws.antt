-- The `nop` that NOPIN inserts.
use Rattle.std.specs.Prelude.{ℕ, suc, ◌%◌, Bool, true, false, List, [], ◌∷◌, nat_lt, if◌then◌else◌}
use Rattle.rand_pcg.specs.Lcg.{Lcg, started, increment_of}
use Rattle.rand_pcg.specs.Pcg.{multiplier_64, pcg32}
use Rattle.insn_ir.specs.declared.entry.EntryKind.{EntryKind}
use Rattle.insn_ir.specs.declared.op.Op.{Op}
use Rattle.jump_tables.specs.Sections.{Placed}
use Rattle.unit_edits.specs.declared.edit.Edit.{Edit}

abbrev pub is_drawn_op : Op → Bool
is_drawn_op Op.Nop = false
is_drawn_op Op.Endbr64 = false
is_drawn_op _ = true

-- a number is drawn for each instruction that is neither `nop` nor `endbr64`
abbrev pub is_drawn : EntryKind → Bool
is_drawn (EntryKind.Insn i) = is_drawn_op i.op
is_drawn _ = false

-- the serials of those whose number modulo 100 is below the density
unfoldable pub chosen : (density : ℕ) → Lcg → List Placed → List ℕ
chosen density words [] = []
chosen density words (p ∷ ps) =
    if is_drawn p.entry.kind
    then (if nat_lt ((pcg32 words).0 % 100) density then p.entry.serial ∷ chosen density (pcg32 words).1 ps else chosen density (pcg32 words).1 ps)
    else chosen density words ps

-- the generator of a function: XSH RR 64/32 from the seed, at stream 54 (O'Neill, "PCG: A Family of Simple Fast Space-Efficient
-- Statistically Good Algorithms for Random Number Generation", 2014)
abbrev pub words_of : (seed : ℕ) → Lcg
words_of seed = started 64 multiplier_64 seed (increment_of 64 54)

-- a `nop` before each entry of these serials, with the next serials
abbrev pub nops_before : (last : ℕ) → List ℕ → List Edit
nops_before last [] = []
nops_before last (before ∷ ss) = Edit.InsertNop before (suc last) ∷ nops_before (suc last) ss
