use Rattle.std.proofs.Common.{length, ap, ◌∙◌}
use Rattle.std.specs.Prelude.{nat_eq}
use Rattle.att_lexer.specs.Bytes.{is_symbol_byte}
use Rattle.att_lexer.proofs.Vectors.{run_of_all}
use Rattle.att_lexer.proofs.scan.are_symbol_bytes.Goals as goal

pub returns : goal.returns
returns c = ap (λ n. nat_eq n (length c.args.bytes.now)) c.symbol_run.ensures.value ∙ run_of_all is_symbol_byte c.args.bytes.now
