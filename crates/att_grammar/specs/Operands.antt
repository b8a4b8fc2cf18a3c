-- Operands (GNU as manual, "i386-Syntax", "i386-Regs" and "i386-Memory"; SDM volume 1, "Specifying an Offset").
use Rattle.std.specs.Prelude.{ℕ, ◌^◌, ℤ, pos, negsuc, Bool, true, false, not, ◌==◌, ◌||◌, ◌&&◌, nat_lt, List, Option, Some, None, codes, if◌then◌else◌}
use Rattle.insn_ir.specs.declared.op.Reg.{Reg}
use Rattle.insn_ir.specs.declared.op.Reg.TheVariants.{Rsp}
use Rattle.insn_ir.specs.declared.op.Width.{Width}
use Rattle.insn_ir.specs.declared.op.Width.TheVariants.{Q}
use Rattle.insn_ir.specs.declared.insn.Base.{Base}
use Rattle.insn_ir.specs.Machine.{same_reg}
use Rattle.insn_ir.specs.Mnemonics.{same_width}
use Rattle.att_grammar.specs.Lexemes.{Lexeme}
use Rattle.att_grammar.specs.Notions.{◌>>=◌, or_else, expect, word_of, number_of, this_word, is_end}
use Rattle.att_grammar.specs.Expressions.{expression_of}
use Rattle.att_grammar.specs.Registers.{register_named}
use Rattle.att_grammar.specs.declared.syntax.Symbol.{Symbol}
use Rattle.att_grammar.specs.declared.syntax.Sum.{Sum}
use Rattle.att_grammar.specs.declared.syntax.Displacement.{Displacement}
use Rattle.att_grammar.specs.declared.syntax.Paren.{Paren}
use Rattle.att_grammar.specs.declared.syntax.Address.{Address}
use Rattle.att_grammar.specs.declared.syntax.Operand.{Operand}
use Rattle.att_grammar.specs.declared.syntax.Operands.{Operands}

-- `%` and a name
unfoldable pub register_of : List Lexeme → Option ((Reg × Width) × List Lexeme)
register_of lexemes = expect 37 lexemes >>= word_of >>= λ w. register_named w.0 >>= λ r. Some (r, w.1)

-- a register of 64 bits
unfoldable pub wide_of : List Lexeme → Option (Reg × List Lexeme)
wide_of lexemes = register_of lexemes >>= λ r. if same_width r.0.1 Q then Some (r.0.0, r.1) else None

-- an index: a register of 64 bits that isn't `%rsp`
unfoldable pub index_of : List Lexeme → Option (Reg × List Lexeme)
index_of lexemes = wide_of lexemes >>= λ r. if same_reg r.0 Rsp then None else Some r

abbrev pub is_scale : ℕ → Bool
is_scale n = n == 1 || n == 2 || n == 4 || n == 8

-- `)`, where the scale is 1, or `,`, a scale and `)`
unfoldable pub scale_of : List Lexeme → Option (ℕ × List Lexeme)
scale_of lexemes = or_else
    (expect 41 lexemes >>= λ rest. Some (1, rest))
    (expect 44 lexemes >>= number_of >>= λ n. if is_scale n.0 then (expect 41 n.1 >>= λ rest. Some (n.0, rest)) else None)

abbrev pub paren : Base → Option Reg → ℕ → Paren
paren base index scale = record { base = base; index = index; scale = scale }

-- `,` and an index behind a base
unfoldable pub indexed_of : Base → List Lexeme → Option (Paren × List Lexeme)
indexed_of base lexemes = expect 44 lexemes >>= index_of >>= λ i. scale_of i.1 >>= λ s. Some (paren base (Some i.0) s.0, s.1)

-- `%rip)`
unfoldable pub rip_of : List Lexeme → Option (Paren × List Lexeme)
rip_of lexemes = expect 37 lexemes >>= this_word (codes "rip") >>= expect 41 >>= λ rest. Some (paren Base.Rip None 1, rest)

unfoldable pub based_of : List Lexeme → Option (Paren × List Lexeme)
based_of lexemes = wide_of lexemes >>= λ b. or_else
    (expect 41 b.1 >>= λ rest. Some (paren (Base.Reg b.0) None 1, rest))
    (indexed_of (Base.Reg b.0) b.1)

-- `(%rip)`, `(b)`, `(b,i)`, `(b,i,s)`, `(,i)` or `(,i,s)`
unfoldable pub paren_of : List Lexeme → Option (Paren × List Lexeme)
paren_of lexemes = expect 40 lexemes >>= λ inner. or_else (rip_of inner) (or_else (based_of inner) (indexed_of Base.Absent inner))

abbrev pub no_paren : Paren
no_paren = paren Base.Absent None 1

-- a number from -low to high - 1
abbrev pub is_within : ℕ → ℕ → ℤ → Bool
is_within low high (pos n) = nat_lt n high
is_within low high (negsuc n) = nat_lt n low

abbrev pub displaced : Option Symbol → ℤ → Option Displacement
displaced None n = if is_within (2 ^ 31) (2 ^ 31) n then Some (Displacement.Number n) else None
displaced (Some s) n = Some (Displacement.Symbol s n)

-- an expression as a displacement: without a symbol it is a number of 32 bits
unfoldable pub displacement_of : List Lexeme → Option (Displacement × List Lexeme)
displacement_of lexemes = expression_of lexemes >>= λ e. displaced e.0.symbol e.0.number >>= λ d. Some (d, e.1)

-- a parenthesis, or a displacement and perhaps a parenthesis
unfoldable pub place_of : List Lexeme → Option (Displacement × Paren × List Lexeme)
place_of lexemes = or_else
    (paren_of lexemes >>= λ p. Some (Displacement.Number (pos 0), p.0, p.1))
    (displacement_of lexemes >>= λ d. or_else (paren_of d.1 >>= λ p. Some (d.0, p.0, p.1)) (Some (d.0, no_paren, d.1)))

abbrev pub is_symbolic : Displacement → Bool
is_symbolic (Displacement.Number n) = false
is_symbolic (Displacement.Symbol s n) = true

-- relative to `%rip` stands a symbol, without a segment
abbrev pub is_address : Bool → Displacement → Base → Bool
is_address fs disp Base.Absent = true
is_address fs disp Base.Rip = is_symbolic disp && not fs
is_address fs disp (Base.Reg r) = true

unfoldable pub address_behind : Bool → List Lexeme → Option (Address × List Lexeme)
address_behind fs lexemes = place_of lexemes >>= λ p.
    if is_address fs p.0 p.1.base then Some (record { fs = fs; disp = p.0; paren = p.1 }, p.2) else None

-- `%fs:` (GNU as manual, "i386-Memory", section overrides)
unfoldable pub segment_of : List Lexeme → Option (List Lexeme)
segment_of lexemes = expect 37 lexemes >>= this_word (codes "fs") >>= expect 58

abbrev pub address_with : Option (List Lexeme) → List Lexeme → Option (Address × List Lexeme)
address_with None lexemes = address_behind false lexemes
address_with (Some rest) lexemes = address_behind true rest

unfoldable pub address_of : List Lexeme → Option (Address × List Lexeme)
address_of lexemes = address_with (segment_of lexemes) lexemes

-- `$` and an expression
unfoldable pub immediate_of : List Lexeme → Option (Sum × List Lexeme)
immediate_of lexemes = expect 36 lexemes >>= expression_of

-- the operand in front, and what follows it
unfoldable pub operand_of : List Lexeme → Option (Operand × List Lexeme)
operand_of lexemes = or_else
    (register_of lexemes >>= λ r. Some (Operand.Register r.0.0 r.0.1, r.1))
    (or_else (immediate_of lexemes >>= λ s. Some (Operand.Immediate s.0, s.1))
    (address_of lexemes >>= λ a. Some (Operand.Memory a.0, a.1)))

-- `,` and an operand
unfoldable pub next_of : List Lexeme → Option (Operand × List Lexeme)
next_of lexemes = expect 44 lexemes >>= operand_of

-- up to three operands, and nothing behind them
unfoldable pub operands_of : List Lexeme → Option Operands
operands_of lexemes =
    if is_end lexemes then Some Operands.Nothing
    else operand_of lexemes >>= λ a. if is_end a.1 then Some (Operands.One a.0)
    else next_of a.1 >>= λ b. if is_end b.1 then Some (Operands.Two a.0 b.0)
    else next_of b.1 >>= λ c. if is_end c.1 then Some (Operands.Three a.0 b.0 c.0)
    else None
