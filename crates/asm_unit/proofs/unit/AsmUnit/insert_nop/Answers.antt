use Rattle.std.proofs.Common.{◌≡◌, refl, true}
use Rattle.std.proofs.lemmas.Result.{IfOk-weaker}
use Rattle.insn_ir.specs.Entries.{is_nop_entry}
use Rattle.asm_unit.specs.Edits.{SameEach}
use Rattle.asm_unit.specs.Unit.{nop_kind}
use Rattle.asm_unit.specs.UnitCodes.{codes_of}
use Rattle.asm_unit.proofs.unit.AsmUnit.insert_nop.Goals as goal

pub returns-clause-same : goal.returns-clause-same
returns-clause-same c = IfOk-weaker c.insert.result (λ s. is_nop_entry nop_kind ≡ true → SameEach (codes_of c.args.self.now) (codes_of c.insert.new.self)) (λ s. SameEach (codes_of c.args.self.now) (codes_of c.insert.new.self)) (λ s h. h refl) c.insert.ensures.nop
