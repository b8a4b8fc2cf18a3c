use Rattle.std.proofs.Common.{◌≡◌, refl, true}
use Rattle.std.proofs.lemmas.Result.{IfOk-weaker}
use Rattle.asm_unit.specs.Functions.{is_align_kind}
use Rattle.asm_unit.specs.Unit.{align_kind}
use Rattle.asm_unit.specs.UnitCodes.{codes_of}
use Rattle.asm_unit.proofs.unit.AsmUnit.insert_align.Goals as goal

pub returns-clause-unchanged : goal.returns-clause-unchanged
returns-clause-unchanged c = IfOk-weaker c.insert.result (λ s. is_align_kind (align_kind c.args.power) ≡ true → codes_of c.insert.new.self ≡ codes_of c.args.self.now) (λ s. codes_of c.insert.new.self ≡ codes_of c.args.self.now) (λ s h. h refl) c.insert.ensures.alignment
