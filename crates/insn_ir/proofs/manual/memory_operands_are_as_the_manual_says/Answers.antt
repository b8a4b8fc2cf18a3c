use Rattle.std.proofs.Common.{refl}
use Rattle.insn_ir.proofs.manual.memory_operands_are_as_the_manual_says.Goals as goal

pub returns-clause-movq_by_base_index_scale_and_displacement : goal.returns-clause-movq_by_base_index_scale_and_displacement
returns-clause-movq_by_base_index_scale_and_displacement c = (refl, refl, refl, refl)

pub returns-clause-movl_below_the_base : goal.returns-clause-movl_below_the_base
returns-clause-movl_below_the_base c = (refl, refl, refl, refl)

pub returns-clause-movzwl_goes_round : goal.returns-clause-movzwl_goes_round
returns-clause-movzwl_goes_round c = (refl, refl, refl, refl)

pub returns-clause-movq_of_the_segment : goal.returns-clause-movq_of_the_segment
returns-clause-movq_of_the_segment c = (refl, refl, refl, refl)

pub returns-clause-movq_of_a_specified_symbol : goal.returns-clause-movq_of_a_specified_symbol
returns-clause-movq_of_a_specified_symbol c = (refl, refl, refl, refl)

pub returns-clause-leaq_of_a_symbol : goal.returns-clause-leaq_of_a_symbol
returns-clause-leaq_of_a_symbol c = (refl, refl, refl, refl)

pub returns-clause-movb_stores_one_byte : goal.returns-clause-movb_stores_one_byte
returns-clause-movb_stores_one_byte c = (refl, refl, refl, refl)

pub returns-clause-movw_stores_two_bytes : goal.returns-clause-movw_stores_two_bytes
returns-clause-movw_stores_two_bytes c = (refl, refl, refl, refl)

pub returns-clause-addl_stores_four_bytes : goal.returns-clause-addl_stores_four_bytes
returns-clause-addl_stores_four_bytes c = (refl, refl, refl, refl)

pub returns-clause-movq_beyond_memory : goal.returns-clause-movq_beyond_memory
returns-clause-movq_beyond_memory c = refl

pub returns-clause-movl_of_read_only_memory : goal.returns-clause-movl_of_read_only_memory
returns-clause-movl_of_read_only_memory c = (refl, refl, refl, refl)

pub returns-clause-movl_to_read_only_memory : goal.returns-clause-movl_to_read_only_memory
returns-clause-movl_to_read_only_memory c = refl
