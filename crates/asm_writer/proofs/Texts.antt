-- Fragments and items that say the same.
use Rattle.std.proofs.Common.{◌≡◌, ◌∷◌, suc, refl, ap, append-nil}
use Rattle.std.specs.Prelude.{ℤ, pos, negsuc}
use Rattle.std.specs.Fmt.{decimal, signed_decimal}
use Rattle.insn_ir.specs.declared.op.Op.{Op}
use Rattle.insn_ir.specs.declared.op.Width.{Width}
use Rattle.insn_ir.specs.Mnemonics.{written_mnemonic}
use Rattle.att_grammar.specs.Spelling.{render}
use Rattle.att_grammar.specs.Canonical.{number_items, mnemonic_items}

-- a signed number is written as std writes it
pub number_text : (n : ℤ) → render (number_items n) ≡ signed_decimal n
number_text (pos n) = append-nil (decimal n)
number_text (negsuc n) = ap (λ l. 45 ∷ l) (append-nil (decimal (suc n)))

-- a mnemonic of two words is written with its blank
pub mnemonic_text : (op : Op) (width : Width) → render (mnemonic_items op width) ≡ written_mnemonic op width
unfolding written_mnemonic
mnemonic_text Op.JmpStarNotrack width = refl
mnemonic_text Op.RepRet width = refl
mnemonic_text Op.Mov width = append-nil (written_mnemonic Op.Mov width)
mnemonic_text Op.Movabs width = append-nil (written_mnemonic Op.Movabs width)
mnemonic_text (Op.Movz source) width = append-nil (written_mnemonic (Op.Movz source) width)
mnemonic_text (Op.Movs source) width = append-nil (written_mnemonic (Op.Movs source) width)
mnemonic_text Op.Lea width = append-nil (written_mnemonic Op.Lea width)
mnemonic_text Op.Push width = append-nil (written_mnemonic Op.Push width)
mnemonic_text Op.Pop width = append-nil (written_mnemonic Op.Pop width)
mnemonic_text Op.Leave width = append-nil (written_mnemonic Op.Leave width)
mnemonic_text Op.Xchg width = append-nil (written_mnemonic Op.Xchg width)
mnemonic_text Op.Bswap width = append-nil (written_mnemonic Op.Bswap width)
mnemonic_text Op.Not width = append-nil (written_mnemonic Op.Not width)
mnemonic_text Op.Neg width = append-nil (written_mnemonic Op.Neg width)
mnemonic_text Op.Inc width = append-nil (written_mnemonic Op.Inc width)
mnemonic_text Op.Dec width = append-nil (written_mnemonic Op.Dec width)
mnemonic_text Op.Add width = append-nil (written_mnemonic Op.Add width)
mnemonic_text Op.Adc width = append-nil (written_mnemonic Op.Adc width)
mnemonic_text Op.Sub width = append-nil (written_mnemonic Op.Sub width)
mnemonic_text Op.Sbb width = append-nil (written_mnemonic Op.Sbb width)
mnemonic_text Op.Cmp width = append-nil (written_mnemonic Op.Cmp width)
mnemonic_text Op.And width = append-nil (written_mnemonic Op.And width)
mnemonic_text Op.Or width = append-nil (written_mnemonic Op.Or width)
mnemonic_text Op.Xor width = append-nil (written_mnemonic Op.Xor width)
mnemonic_text Op.Test width = append-nil (written_mnemonic Op.Test width)
mnemonic_text Op.Shl width = append-nil (written_mnemonic Op.Shl width)
mnemonic_text Op.Shr width = append-nil (written_mnemonic Op.Shr width)
mnemonic_text Op.Sar width = append-nil (written_mnemonic Op.Sar width)
mnemonic_text Op.Imul1 width = append-nil (written_mnemonic Op.Imul1 width)
mnemonic_text Op.Mul width = append-nil (written_mnemonic Op.Mul width)
mnemonic_text Op.Div width = append-nil (written_mnemonic Op.Div width)
mnemonic_text Op.Idiv width = append-nil (written_mnemonic Op.Idiv width)
mnemonic_text Op.Imul2 width = append-nil (written_mnemonic Op.Imul2 width)
mnemonic_text Op.Imul3 width = append-nil (written_mnemonic Op.Imul3 width)
mnemonic_text (Op.Setcc cond) width = append-nil (written_mnemonic (Op.Setcc cond) width)
mnemonic_text (Op.Cmov cond) width = append-nil (written_mnemonic (Op.Cmov cond) width)
mnemonic_text Op.Cwtl width = append-nil (written_mnemonic Op.Cwtl width)
mnemonic_text Op.Cltq width = append-nil (written_mnemonic Op.Cltq width)
mnemonic_text Op.Cltd width = append-nil (written_mnemonic Op.Cltd width)
mnemonic_text Op.Cqto width = append-nil (written_mnemonic Op.Cqto width)
mnemonic_text Op.Jmp width = append-nil (written_mnemonic Op.Jmp width)
mnemonic_text (Op.Jcc cond) width = append-nil (written_mnemonic (Op.Jcc cond) width)
mnemonic_text Op.JmpStar width = append-nil (written_mnemonic Op.JmpStar width)
mnemonic_text Op.Call width = append-nil (written_mnemonic Op.Call width)
mnemonic_text Op.CallStar width = append-nil (written_mnemonic Op.CallStar width)
mnemonic_text Op.Ret width = append-nil (written_mnemonic Op.Ret width)
mnemonic_text Op.Nop width = append-nil (written_mnemonic Op.Nop width)
mnemonic_text Op.Endbr64 width = append-nil (written_mnemonic Op.Endbr64 width)
mnemonic_text Op.Ud2 width = append-nil (written_mnemonic Op.Ud2 width)
