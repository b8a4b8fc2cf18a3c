use Rattle.insn_ir.proofs.Addresses.{perform_address, address_same}
use Rattle.insn_ir.proofs.laws.operands_have_addresses.Goals as goal

pub returns-clause-taken : goal.returns-clause-taken
returns-clause-taken c = perform_address

pub returns-clause-depends : goal.returns-clause-depends
returns-clause-depends c = address_same
