-- Kept pieces that wait, and the entry behind them.
use Rattle.std.proofs.Common.{◌≡◌, ℕ, ◌+◌, ◌-◌, ◌≤◌, List, [], ◌++◌, take, drop, Option, Some, None, ap, sym, ◌∙◌, arith, append-nil}
use Rattle.std.proofs.lemmas.List.{drop-drop}
use Rattle.std.proofs.Math.Seq.{take-add}
use Rattle.att_lexer.specs.declared.pieces.Span.{Span}
use Rattle.insn_ir.specs.declared.entry.EntryKind.{EntryKind}
use Rattle.asm_writer.specs.declared.unit.Run.{Run}
use Rattle.asm_writer.specs.Unit.{new_text, entry_text}
use Rattle.asm_writer.specs.Runs.{run_text, waits}

run_more : (text : List ℕ) (from to len : ℕ) → from ≤ to → take (to + len - from) (drop from text) ≡ take (to - from) (drop from text) ++ take len (drop to text)
run_more text from to len le =
    ap (λ n. take n (drop from text)) (omega (arith, le))
    ∙ take-add (to - from) len (drop from text)
    ∙ ap (λ l. take (to - from) (drop from text) ++ take len l) (drop-drop (to - from) from text ∙ ap (λ n. drop n text) (omega (arith, le)))

-- a piece that begins where the run ends joins it
pub joins : (text : List ℕ) (kind : EntryKind) (o : Option Span) (s : Span) (run : Run) → o ≡ Some s → s.start ≡ run.to → run.from ≤ run.to
    → run_text text (record { from = run.from; to = s.start + s.len }) ≡ run_text text run ++ entry_text text kind o
joins text kind o s run is e le =
    ap (λ n. take (n + s.len - run.from) (drop run.from text)) e
    ∙ run_more text run.from run.to s.len le
    ∙ ap (λ n. run_text text run ++ take s.len (drop n text)) (sym e)
    ∙ ap (λ o. run_text text run ++ entry_text text kind o) (sym is)

-- a run that ends where it begins says nothing
none_waits : (text : List ℕ) (at : ℕ) → take (at - at) (drop at text) ≡ []
none_waits text at = let e : at - at ≡ 0 = omega arith in ap (λ n. take n (drop at text)) e

-- a new entry behind what was put, and an empty run
pub put_first : (text : List ℕ) (kind : EntryKind) (o : Option Span) (before : List ℕ) (at : ℕ) → o ≡ None
    → (before ++ new_text kind) ++ waits [] text (record { from = at; to = at }) ≡ before ++ entry_text text kind o
put_first text kind o before at is =
    ap (λ l. (before ++ new_text kind) ++ l) (none_waits text at)
    ∙ append-nil (before ++ new_text kind)
    ∙ ap (λ o. before ++ entry_text text kind o) (sym is)

-- a piece that begins a run
pub begins : (text : List ℕ) (kind : EntryKind) (o : Option Span) (s : Span) → o ≡ Some s
    → run_text text (record { from = s.start; to = s.start + s.len }) ≡ entry_text text kind o
begins text kind o s is =
    let long : s.start + s.len - s.start ≡ s.len = omega arith in
    ap (λ n. take n (drop s.start text)) long ∙ ap (entry_text text kind) (sym is)
