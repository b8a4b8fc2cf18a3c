-- What plain values stand for. Only private clauses cite it.
use Rattle.insn_ir.specs.declared.insn.Arg.{Arg}
use Rattle.insn_ir.specs.declared.insn.Disp.{Disp}
use Rattle.insn_ir.specs.declared.insn.Imm.{Imm}
use Rattle.insn_ir.specs.declared.insn.Insn.{Insn}
use Rattle.insn_ir.specs.declared.insn.Mem.{Mem}
use Rattle.insn_ir.specs.declared.entry.DirectiveKind.{DirectiveKind}
use Rattle.insn_ir.specs.declared.entry.EntryKind.{EntryKind}
use Rattle.att_reader.specs.declared.plain.PlainMem.{PlainMem}
use Rattle.att_reader.specs.declared.plain.PlainArg.{PlainArg}
use Rattle.att_reader.specs.declared.plain.PlainInsn.{PlainInsn}
use Rattle.att_reader.specs.declared.plain.PlainKind.{PlainKind}

abbrev pub mem_of : PlainMem → Mem
mem_of m = record { fs = m.fs; disp = Disp.Num m.disp; base = m.base; index = m.index; scale = m.scale }

abbrev pub arg_of : PlainArg → Arg
arg_of PlainArg.Absent = Arg.Absent
arg_of (PlainArg.Reg r) = Arg.Reg r
arg_of (PlainArg.Number n) = Arg.Imm (Imm.Num n)
arg_of (PlainArg.Mem m) = Arg.Mem (mem_of m)

abbrev pub insn_of : PlainInsn → Insn
insn_of i = record { op = i.op; width = i.width; a = arg_of i.a; b = arg_of i.b; c = arg_of i.c }

abbrev pub kind_of : PlainKind → EntryKind
kind_of PlainKind.Blank = EntryKind.Blank
kind_of PlainKind.Inert = EntryKind.Directive DirectiveKind.Inert
kind_of PlainKind.Cfi = EntryKind.Directive DirectiveKind.Cfi
kind_of (PlainKind.Align p f m) = EntryKind.Directive (DirectiveKind.Align p f m)
kind_of (PlainKind.Insn i) = EntryKind.Insn (insn_of i)
