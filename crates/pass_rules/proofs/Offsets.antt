-- An entry has one offset.
use Rattle.std.proofs.Common.{◌≡◌, ℕ, sym, ◌∙◌, subst}
use Rattle.relaxer.proofs.Rounds.{one_layout}
use Rattle.relaxer.specs.Layout.{sizes_of, offset_of, round}
use Rattle.asm_unit.specs.Functions.{Part, code_part}
use Rattle.pass_rules.specs.Layouts.{HasOffset, layout_items, index_of}

pub one_offset : (body : Part) (serial m n : ℕ) → HasOffset body serial m → HasOffset body serial n → m ≡ n
one_offset body serial m n g h =
    sym g.at ∙ subst (λ k. offset_of (sizes_of (round k (layout_items body))) (index_of serial (code_part body)) ≡ n) (sym (one_layout (layout_items body) g.rounds h.rounds g.layout h.layout)) h.at
