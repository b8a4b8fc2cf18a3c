-- The mnemonic that is written for an operation is read as its first operation of that name, with the width.
use Rattle.std.proofs.Common.{◌≡◌, true, false, Option, Some, refl}
use Rattle.std.specs.Prelude.{◌==◌, ⊤, slice_index}
use Rattle.std.proofs.lemmas.Bool.{false≢true}
use Rattle.insn_ir.specs.declared.op.Width.{Width}
use Rattle.insn_ir.specs.declared.op.Width.TheVariants.{B, W, L, Q}
use Rattle.insn_ir.specs.declared.op.Cond.{Cond}
use Rattle.insn_ir.specs.declared.op.Op.{Op}
use Rattle.insn_ir.specs.declared.mnemonics.MnemonicHit.{MnemonicHit}
use Rattle.insn_ir.specs.Mnemonics.{has_width, written_mnemonic, op_named, lettered_hit, hit_of}
use Rattle.att_lexer.specs.Bytes.{is_digit, is_letter, is_symbol_byte, is_symbol_start}
use Rattle.att_grammar.proofs.CanonicalSpelling.{is_symbol}

-- the first operation that has the name of one
abbrev pub first_op : Op → Op
first_op Op.Imul2 = Op.Imul1
first_op Op.Imul3 = Op.Imul1
first_op Op.JmpStar = Op.Jmp
first_op Op.CallStar = Op.Call
first_op op = op

-- not one of the two operations whose mnemonics are two words
abbrev pub IsOneWord : Op → Type 0
IsOneWord Op.JmpStarNotrack = ⊥
IsOneWord Op.RepRet = ⊥
IsOneWord _ = ⊤

abbrev pub hit_as : Op → Width → Option MnemonicHit
hit_as op width = Some (record { op = first_op op; width = Some width })

-- a mnemonic: a symbol, no directive's name, and read as the operation
pub record IsRead (op : Op) (width : Width) : Type 0 where
  pub hit : hit_of (written_mnemonic op width) ≡ hit_as op width
  pub symbol : is_symbol (written_mnemonic op width) ≡ true
  pub plain : (slice_index (written_mnemonic op width) 0 == 46) ≡ false

pub mnemonic_read : (op : Op) (width : Width) → has_width op width ≡ true → IsOneWord op → IsRead op width
unfolding hit_of lettered_hit op_named written_mnemonic is_digit is_letter is_symbol_byte is_symbol_start
mnemonic_read Op.Mov B h k = record { hit = refl; symbol = refl; plain = refl }
mnemonic_read Op.Mov W h k = record { hit = refl; symbol = refl; plain = refl }
mnemonic_read Op.Mov L h k = record { hit = refl; symbol = refl; plain = refl }
mnemonic_read Op.Mov Q h k = record { hit = refl; symbol = refl; plain = refl }
mnemonic_read Op.Not B h k = record { hit = refl; symbol = refl; plain = refl }
mnemonic_read Op.Not W h k = record { hit = refl; symbol = refl; plain = refl }
mnemonic_read Op.Not L h k = record { hit = refl; symbol = refl; plain = refl }
mnemonic_read Op.Not Q h k = record { hit = refl; symbol = refl; plain = refl }
mnemonic_read Op.Neg B h k = record { hit = refl; symbol = refl; plain = refl }
mnemonic_read Op.Neg W h k = record { hit = refl; symbol = refl; plain = refl }
mnemonic_read Op.Neg L h k = record { hit = refl; symbol = refl; plain = refl }
mnemonic_read Op.Neg Q h k = record { hit = refl; symbol = refl; plain = refl }
mnemonic_read Op.Inc B h k = record { hit = refl; symbol = refl; plain = refl }
mnemonic_read Op.Inc W h k = record { hit = refl; symbol = refl; plain = refl }
mnemonic_read Op.Inc L h k = record { hit = refl; symbol = refl; plain = refl }
mnemonic_read Op.Inc Q h k = record { hit = refl; symbol = refl; plain = refl }
mnemonic_read Op.Dec B h k = record { hit = refl; symbol = refl; plain = refl }
mnemonic_read Op.Dec W h k = record { hit = refl; symbol = refl; plain = refl }
mnemonic_read Op.Dec L h k = record { hit = refl; symbol = refl; plain = refl }
mnemonic_read Op.Dec Q h k = record { hit = refl; symbol = refl; plain = refl }
mnemonic_read Op.Add B h k = record { hit = refl; symbol = refl; plain = refl }
mnemonic_read Op.Add W h k = record { hit = refl; symbol = refl; plain = refl }
mnemonic_read Op.Add L h k = record { hit = refl; symbol = refl; plain = refl }
mnemonic_read Op.Add Q h k = record { hit = refl; symbol = refl; plain = refl }
mnemonic_read Op.Adc B h k = record { hit = refl; symbol = refl; plain = refl }
mnemonic_read Op.Adc W h k = record { hit = refl; symbol = refl; plain = refl }
mnemonic_read Op.Adc L h k = record { hit = refl; symbol = refl; plain = refl }
mnemonic_read Op.Adc Q h k = record { hit = refl; symbol = refl; plain = refl }
mnemonic_read Op.Sub B h k = record { hit = refl; symbol = refl; plain = refl }
mnemonic_read Op.Sub W h k = record { hit = refl; symbol = refl; plain = refl }
mnemonic_read Op.Sub L h k = record { hit = refl; symbol = refl; plain = refl }
mnemonic_read Op.Sub Q h k = record { hit = refl; symbol = refl; plain = refl }
mnemonic_read Op.Sbb B h k = record { hit = refl; symbol = refl; plain = refl }
mnemonic_read Op.Sbb W h k = record { hit = refl; symbol = refl; plain = refl }
mnemonic_read Op.Sbb L h k = record { hit = refl; symbol = refl; plain = refl }
mnemonic_read Op.Sbb Q h k = record { hit = refl; symbol = refl; plain = refl }
mnemonic_read Op.Cmp B h k = record { hit = refl; symbol = refl; plain = refl }
mnemonic_read Op.Cmp W h k = record { hit = refl; symbol = refl; plain = refl }
mnemonic_read Op.Cmp L h k = record { hit = refl; symbol = refl; plain = refl }
mnemonic_read Op.Cmp Q h k = record { hit = refl; symbol = refl; plain = refl }
mnemonic_read Op.And B h k = record { hit = refl; symbol = refl; plain = refl }
mnemonic_read Op.And W h k = record { hit = refl; symbol = refl; plain = refl }
mnemonic_read Op.And L h k = record { hit = refl; symbol = refl; plain = refl }
mnemonic_read Op.And Q h k = record { hit = refl; symbol = refl; plain = refl }
mnemonic_read Op.Or B h k = record { hit = refl; symbol = refl; plain = refl }
mnemonic_read Op.Or W h k = record { hit = refl; symbol = refl; plain = refl }
mnemonic_read Op.Or L h k = record { hit = refl; symbol = refl; plain = refl }
mnemonic_read Op.Or Q h k = record { hit = refl; symbol = refl; plain = refl }
mnemonic_read Op.Xor B h k = record { hit = refl; symbol = refl; plain = refl }
mnemonic_read Op.Xor W h k = record { hit = refl; symbol = refl; plain = refl }
mnemonic_read Op.Xor L h k = record { hit = refl; symbol = refl; plain = refl }
mnemonic_read Op.Xor Q h k = record { hit = refl; symbol = refl; plain = refl }
mnemonic_read Op.Test B h k = record { hit = refl; symbol = refl; plain = refl }
mnemonic_read Op.Test W h k = record { hit = refl; symbol = refl; plain = refl }
mnemonic_read Op.Test L h k = record { hit = refl; symbol = refl; plain = refl }
mnemonic_read Op.Test Q h k = record { hit = refl; symbol = refl; plain = refl }
mnemonic_read Op.Lea B h k = absurd (false≢true h)
mnemonic_read Op.Lea W h k = absurd (false≢true h)
mnemonic_read Op.Lea L h k = record { hit = refl; symbol = refl; plain = refl }
mnemonic_read Op.Lea Q h k = record { hit = refl; symbol = refl; plain = refl }
mnemonic_read Op.Xchg B h k = absurd (false≢true h)
mnemonic_read Op.Xchg W h k = absurd (false≢true h)
mnemonic_read Op.Xchg L h k = record { hit = refl; symbol = refl; plain = refl }
mnemonic_read Op.Xchg Q h k = record { hit = refl; symbol = refl; plain = refl }
mnemonic_read Op.Bswap B h k = absurd (false≢true h)
mnemonic_read Op.Bswap W h k = absurd (false≢true h)
mnemonic_read Op.Bswap L h k = record { hit = refl; symbol = refl; plain = refl }
mnemonic_read Op.Bswap Q h k = record { hit = refl; symbol = refl; plain = refl }
mnemonic_read Op.Shl B h k = absurd (false≢true h)
mnemonic_read Op.Shl W h k = absurd (false≢true h)
mnemonic_read Op.Shl L h k = record { hit = refl; symbol = refl; plain = refl }
mnemonic_read Op.Shl Q h k = record { hit = refl; symbol = refl; plain = refl }
mnemonic_read Op.Shr B h k = absurd (false≢true h)
mnemonic_read Op.Shr W h k = absurd (false≢true h)
mnemonic_read Op.Shr L h k = record { hit = refl; symbol = refl; plain = refl }
mnemonic_read Op.Shr Q h k = record { hit = refl; symbol = refl; plain = refl }
mnemonic_read Op.Sar B h k = absurd (false≢true h)
mnemonic_read Op.Sar W h k = absurd (false≢true h)
mnemonic_read Op.Sar L h k = record { hit = refl; symbol = refl; plain = refl }
mnemonic_read Op.Sar Q h k = record { hit = refl; symbol = refl; plain = refl }
mnemonic_read Op.Imul1 B h k = absurd (false≢true h)
mnemonic_read Op.Imul1 W h k = absurd (false≢true h)
mnemonic_read Op.Imul1 L h k = record { hit = refl; symbol = refl; plain = refl }
mnemonic_read Op.Imul1 Q h k = record { hit = refl; symbol = refl; plain = refl }
mnemonic_read Op.Mul B h k = absurd (false≢true h)
mnemonic_read Op.Mul W h k = absurd (false≢true h)
mnemonic_read Op.Mul L h k = record { hit = refl; symbol = refl; plain = refl }
mnemonic_read Op.Mul Q h k = record { hit = refl; symbol = refl; plain = refl }
mnemonic_read Op.Div B h k = absurd (false≢true h)
mnemonic_read Op.Div W h k = absurd (false≢true h)
mnemonic_read Op.Div L h k = record { hit = refl; symbol = refl; plain = refl }
mnemonic_read Op.Div Q h k = record { hit = refl; symbol = refl; plain = refl }
mnemonic_read Op.Idiv B h k = absurd (false≢true h)
mnemonic_read Op.Idiv W h k = absurd (false≢true h)
mnemonic_read Op.Idiv L h k = record { hit = refl; symbol = refl; plain = refl }
mnemonic_read Op.Idiv Q h k = record { hit = refl; symbol = refl; plain = refl }
mnemonic_read Op.Imul2 B h k = absurd (false≢true h)
mnemonic_read Op.Imul2 W h k = absurd (false≢true h)
mnemonic_read Op.Imul2 L h k = record { hit = refl; symbol = refl; plain = refl }
mnemonic_read Op.Imul2 Q h k = record { hit = refl; symbol = refl; plain = refl }
mnemonic_read Op.Imul3 B h k = absurd (false≢true h)
mnemonic_read Op.Imul3 W h k = absurd (false≢true h)
mnemonic_read Op.Imul3 L h k = record { hit = refl; symbol = refl; plain = refl }
mnemonic_read Op.Imul3 Q h k = record { hit = refl; symbol = refl; plain = refl }
mnemonic_read Op.Movabs B h k = absurd (false≢true h)
mnemonic_read Op.Movabs W h k = absurd (false≢true h)
mnemonic_read Op.Movabs L h k = absurd (false≢true h)
mnemonic_read Op.Movabs Q h k = record { hit = refl; symbol = refl; plain = refl }
mnemonic_read Op.Push B h k = absurd (false≢true h)
mnemonic_read Op.Push W h k = absurd (false≢true h)
mnemonic_read Op.Push L h k = absurd (false≢true h)
mnemonic_read Op.Push Q h k = record { hit = refl; symbol = refl; plain = refl }
mnemonic_read Op.Pop B h k = absurd (false≢true h)
mnemonic_read Op.Pop W h k = absurd (false≢true h)
mnemonic_read Op.Pop L h k = absurd (false≢true h)
mnemonic_read Op.Pop Q h k = record { hit = refl; symbol = refl; plain = refl }
mnemonic_read Op.Leave B h k = absurd (false≢true h)
mnemonic_read Op.Leave W h k = absurd (false≢true h)
mnemonic_read Op.Leave L h k = absurd (false≢true h)
mnemonic_read Op.Leave Q h k = record { hit = refl; symbol = refl; plain = refl }
mnemonic_read Op.Cltq B h k = absurd (false≢true h)
mnemonic_read Op.Cltq W h k = absurd (false≢true h)
mnemonic_read Op.Cltq L h k = absurd (false≢true h)
mnemonic_read Op.Cltq Q h k = record { hit = refl; symbol = refl; plain = refl }
mnemonic_read Op.Cqto B h k = absurd (false≢true h)
mnemonic_read Op.Cqto W h k = absurd (false≢true h)
mnemonic_read Op.Cqto L h k = absurd (false≢true h)
mnemonic_read Op.Cqto Q h k = record { hit = refl; symbol = refl; plain = refl }
mnemonic_read Op.Jmp B h k = absurd (false≢true h)
mnemonic_read Op.Jmp W h k = absurd (false≢true h)
mnemonic_read Op.Jmp L h k = absurd (false≢true h)
mnemonic_read Op.Jmp Q h k = record { hit = refl; symbol = refl; plain = refl }
mnemonic_read Op.JmpStar B h k = absurd (false≢true h)
mnemonic_read Op.JmpStar W h k = absurd (false≢true h)
mnemonic_read Op.JmpStar L h k = absurd (false≢true h)
mnemonic_read Op.JmpStar Q h k = record { hit = refl; symbol = refl; plain = refl }
mnemonic_read Op.Call B h k = absurd (false≢true h)
mnemonic_read Op.Call W h k = absurd (false≢true h)
mnemonic_read Op.Call L h k = absurd (false≢true h)
mnemonic_read Op.Call Q h k = record { hit = refl; symbol = refl; plain = refl }
mnemonic_read Op.CallStar B h k = absurd (false≢true h)
mnemonic_read Op.CallStar W h k = absurd (false≢true h)
mnemonic_read Op.CallStar L h k = absurd (false≢true h)
mnemonic_read Op.CallStar Q h k = record { hit = refl; symbol = refl; plain = refl }
mnemonic_read Op.Ret B h k = absurd (false≢true h)
mnemonic_read Op.Ret W h k = absurd (false≢true h)
mnemonic_read Op.Ret L h k = absurd (false≢true h)
mnemonic_read Op.Ret Q h k = record { hit = refl; symbol = refl; plain = refl }
mnemonic_read Op.Nop B h k = absurd (false≢true h)
mnemonic_read Op.Nop W h k = absurd (false≢true h)
mnemonic_read Op.Nop L h k = absurd (false≢true h)
mnemonic_read Op.Nop Q h k = record { hit = refl; symbol = refl; plain = refl }
mnemonic_read Op.Endbr64 B h k = absurd (false≢true h)
mnemonic_read Op.Endbr64 W h k = absurd (false≢true h)
mnemonic_read Op.Endbr64 L h k = absurd (false≢true h)
mnemonic_read Op.Endbr64 Q h k = record { hit = refl; symbol = refl; plain = refl }
mnemonic_read Op.Ud2 B h k = absurd (false≢true h)
mnemonic_read Op.Ud2 W h k = absurd (false≢true h)
mnemonic_read Op.Ud2 L h k = absurd (false≢true h)
mnemonic_read Op.Ud2 Q h k = record { hit = refl; symbol = refl; plain = refl }
mnemonic_read Op.Cwtl B h k = absurd (false≢true h)
mnemonic_read Op.Cwtl W h k = absurd (false≢true h)
mnemonic_read Op.Cwtl L h k = record { hit = refl; symbol = refl; plain = refl }
mnemonic_read Op.Cwtl Q h k = absurd (false≢true h)
mnemonic_read Op.Cltd B h k = absurd (false≢true h)
mnemonic_read Op.Cltd W h k = absurd (false≢true h)
mnemonic_read Op.Cltd L h k = record { hit = refl; symbol = refl; plain = refl }
mnemonic_read Op.Cltd Q h k = absurd (false≢true h)
mnemonic_read (Op.Movz B) B h k = absurd (false≢true h)
mnemonic_read (Op.Movz B) W h k = record { hit = refl; symbol = refl; plain = refl }
mnemonic_read (Op.Movz B) L h k = record { hit = refl; symbol = refl; plain = refl }
mnemonic_read (Op.Movz B) Q h k = record { hit = refl; symbol = refl; plain = refl }
mnemonic_read (Op.Movz W) B h k = absurd (false≢true h)
mnemonic_read (Op.Movz W) W h k = absurd (false≢true h)
mnemonic_read (Op.Movz W) L h k = record { hit = refl; symbol = refl; plain = refl }
mnemonic_read (Op.Movz W) Q h k = record { hit = refl; symbol = refl; plain = refl }
mnemonic_read (Op.Movz L) B h k = absurd (false≢true h)
mnemonic_read (Op.Movz L) W h k = absurd (false≢true h)
mnemonic_read (Op.Movz L) L h k = absurd (false≢true h)
mnemonic_read (Op.Movz L) Q h k = absurd (false≢true h)
mnemonic_read (Op.Movz Q) B h k = absurd (false≢true h)
mnemonic_read (Op.Movz Q) W h k = absurd (false≢true h)
mnemonic_read (Op.Movz Q) L h k = absurd (false≢true h)
mnemonic_read (Op.Movz Q) Q h k = absurd (false≢true h)
mnemonic_read (Op.Movs B) B h k = absurd (false≢true h)
mnemonic_read (Op.Movs B) W h k = record { hit = refl; symbol = refl; plain = refl }
mnemonic_read (Op.Movs B) L h k = record { hit = refl; symbol = refl; plain = refl }
mnemonic_read (Op.Movs B) Q h k = record { hit = refl; symbol = refl; plain = refl }
mnemonic_read (Op.Movs W) B h k = absurd (false≢true h)
mnemonic_read (Op.Movs W) W h k = absurd (false≢true h)
mnemonic_read (Op.Movs W) L h k = record { hit = refl; symbol = refl; plain = refl }
mnemonic_read (Op.Movs W) Q h k = record { hit = refl; symbol = refl; plain = refl }
mnemonic_read (Op.Movs L) B h k = absurd (false≢true h)
mnemonic_read (Op.Movs L) W h k = absurd (false≢true h)
mnemonic_read (Op.Movs L) L h k = absurd (false≢true h)
mnemonic_read (Op.Movs L) Q h k = record { hit = refl; symbol = refl; plain = refl }
mnemonic_read (Op.Movs Q) B h k = absurd (false≢true h)
mnemonic_read (Op.Movs Q) W h k = absurd (false≢true h)
mnemonic_read (Op.Movs Q) L h k = absurd (false≢true h)
mnemonic_read (Op.Movs Q) Q h k = absurd (false≢true h)
mnemonic_read Op.JmpStarNotrack width h k = absurd k
mnemonic_read Op.RepRet width h k = absurd k
mnemonic_read (Op.Setcc Cond.O) B h k = record { hit = refl; symbol = refl; plain = refl }
mnemonic_read (Op.Setcc Cond.No) B h k = record { hit = refl; symbol = refl; plain = refl }
mnemonic_read (Op.Setcc Cond.B) B h k = record { hit = refl; symbol = refl; plain = refl }
mnemonic_read (Op.Setcc Cond.Ae) B h k = record { hit = refl; symbol = refl; plain = refl }
mnemonic_read (Op.Setcc Cond.E) B h k = record { hit = refl; symbol = refl; plain = refl }
mnemonic_read (Op.Setcc Cond.Ne) B h k = record { hit = refl; symbol = refl; plain = refl }
mnemonic_read (Op.Setcc Cond.Be) B h k = record { hit = refl; symbol = refl; plain = refl }
mnemonic_read (Op.Setcc Cond.A) B h k = record { hit = refl; symbol = refl; plain = refl }
mnemonic_read (Op.Setcc Cond.S) B h k = record { hit = refl; symbol = refl; plain = refl }
mnemonic_read (Op.Setcc Cond.Ns) B h k = record { hit = refl; symbol = refl; plain = refl }
mnemonic_read (Op.Setcc Cond.P) B h k = record { hit = refl; symbol = refl; plain = refl }
mnemonic_read (Op.Setcc Cond.Np) B h k = record { hit = refl; symbol = refl; plain = refl }
mnemonic_read (Op.Setcc Cond.L) B h k = record { hit = refl; symbol = refl; plain = refl }
mnemonic_read (Op.Setcc Cond.Ge) B h k = record { hit = refl; symbol = refl; plain = refl }
mnemonic_read (Op.Setcc Cond.Le) B h k = record { hit = refl; symbol = refl; plain = refl }
mnemonic_read (Op.Setcc Cond.G) B h k = record { hit = refl; symbol = refl; plain = refl }
mnemonic_read (Op.Setcc cond) W h k = absurd (false≢true h)
mnemonic_read (Op.Setcc cond) L h k = absurd (false≢true h)
mnemonic_read (Op.Setcc cond) Q h k = absurd (false≢true h)
mnemonic_read (Op.Cmov cond) B h k = absurd (false≢true h)
mnemonic_read (Op.Cmov cond) W h k = absurd (false≢true h)
mnemonic_read (Op.Cmov Cond.O) L h k = record { hit = refl; symbol = refl; plain = refl }
mnemonic_read (Op.Cmov Cond.No) L h k = record { hit = refl; symbol = refl; plain = refl }
mnemonic_read (Op.Cmov Cond.B) L h k = record { hit = refl; symbol = refl; plain = refl }
mnemonic_read (Op.Cmov Cond.Ae) L h k = record { hit = refl; symbol = refl; plain = refl }
mnemonic_read (Op.Cmov Cond.E) L h k = record { hit = refl; symbol = refl; plain = refl }
mnemonic_read (Op.Cmov Cond.Ne) L h k = record { hit = refl; symbol = refl; plain = refl }
mnemonic_read (Op.Cmov Cond.Be) L h k = record { hit = refl; symbol = refl; plain = refl }
mnemonic_read (Op.Cmov Cond.A) L h k = record { hit = refl; symbol = refl; plain = refl }
mnemonic_read (Op.Cmov Cond.S) L h k = record { hit = refl; symbol = refl; plain = refl }
mnemonic_read (Op.Cmov Cond.Ns) L h k = record { hit = refl; symbol = refl; plain = refl }
mnemonic_read (Op.Cmov Cond.P) L h k = record { hit = refl; symbol = refl; plain = refl }
mnemonic_read (Op.Cmov Cond.Np) L h k = record { hit = refl; symbol = refl; plain = refl }
mnemonic_read (Op.Cmov Cond.L) L h k = record { hit = refl; symbol = refl; plain = refl }
mnemonic_read (Op.Cmov Cond.Ge) L h k = record { hit = refl; symbol = refl; plain = refl }
mnemonic_read (Op.Cmov Cond.Le) L h k = record { hit = refl; symbol = refl; plain = refl }
mnemonic_read (Op.Cmov Cond.G) L h k = record { hit = refl; symbol = refl; plain = refl }
mnemonic_read (Op.Cmov Cond.O) Q h k = record { hit = refl; symbol = refl; plain = refl }
mnemonic_read (Op.Cmov Cond.No) Q h k = record { hit = refl; symbol = refl; plain = refl }
mnemonic_read (Op.Cmov Cond.B) Q h k = record { hit = refl; symbol = refl; plain = refl }
mnemonic_read (Op.Cmov Cond.Ae) Q h k = record { hit = refl; symbol = refl; plain = refl }
mnemonic_read (Op.Cmov Cond.E) Q h k = record { hit = refl; symbol = refl; plain = refl }
mnemonic_read (Op.Cmov Cond.Ne) Q h k = record { hit = refl; symbol = refl; plain = refl }
mnemonic_read (Op.Cmov Cond.Be) Q h k = record { hit = refl; symbol = refl; plain = refl }
mnemonic_read (Op.Cmov Cond.A) Q h k = record { hit = refl; symbol = refl; plain = refl }
mnemonic_read (Op.Cmov Cond.S) Q h k = record { hit = refl; symbol = refl; plain = refl }
mnemonic_read (Op.Cmov Cond.Ns) Q h k = record { hit = refl; symbol = refl; plain = refl }
mnemonic_read (Op.Cmov Cond.P) Q h k = record { hit = refl; symbol = refl; plain = refl }
mnemonic_read (Op.Cmov Cond.Np) Q h k = record { hit = refl; symbol = refl; plain = refl }
mnemonic_read (Op.Cmov Cond.L) Q h k = record { hit = refl; symbol = refl; plain = refl }
mnemonic_read (Op.Cmov Cond.Ge) Q h k = record { hit = refl; symbol = refl; plain = refl }
mnemonic_read (Op.Cmov Cond.Le) Q h k = record { hit = refl; symbol = refl; plain = refl }
mnemonic_read (Op.Cmov Cond.G) Q h k = record { hit = refl; symbol = refl; plain = refl }
mnemonic_read (Op.Jcc cond) B h k = absurd (false≢true h)
mnemonic_read (Op.Jcc cond) W h k = absurd (false≢true h)
mnemonic_read (Op.Jcc cond) L h k = absurd (false≢true h)
mnemonic_read (Op.Jcc Cond.O) Q h k = record { hit = refl; symbol = refl; plain = refl }
mnemonic_read (Op.Jcc Cond.No) Q h k = record { hit = refl; symbol = refl; plain = refl }
mnemonic_read (Op.Jcc Cond.B) Q h k = record { hit = refl; symbol = refl; plain = refl }
mnemonic_read (Op.Jcc Cond.Ae) Q h k = record { hit = refl; symbol = refl; plain = refl }
mnemonic_read (Op.Jcc Cond.E) Q h k = record { hit = refl; symbol = refl; plain = refl }
mnemonic_read (Op.Jcc Cond.Ne) Q h k = record { hit = refl; symbol = refl; plain = refl }
mnemonic_read (Op.Jcc Cond.Be) Q h k = record { hit = refl; symbol = refl; plain = refl }
mnemonic_read (Op.Jcc Cond.A) Q h k = record { hit = refl; symbol = refl; plain = refl }
mnemonic_read (Op.Jcc Cond.S) Q h k = record { hit = refl; symbol = refl; plain = refl }
mnemonic_read (Op.Jcc Cond.Ns) Q h k = record { hit = refl; symbol = refl; plain = refl }
mnemonic_read (Op.Jcc Cond.P) Q h k = record { hit = refl; symbol = refl; plain = refl }
mnemonic_read (Op.Jcc Cond.Np) Q h k = record { hit = refl; symbol = refl; plain = refl }
mnemonic_read (Op.Jcc Cond.L) Q h k = record { hit = refl; symbol = refl; plain = refl }
mnemonic_read (Op.Jcc Cond.Ge) Q h k = record { hit = refl; symbol = refl; plain = refl }
mnemonic_read (Op.Jcc Cond.Le) Q h k = record { hit = refl; symbol = refl; plain = refl }
mnemonic_read (Op.Jcc Cond.G) Q h k = record { hit = refl; symbol = refl; plain = refl }
