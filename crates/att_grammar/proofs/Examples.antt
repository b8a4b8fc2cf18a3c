-- Lines and what they are, by the definitions alone.
use Rattle.std.proofs.Common.{◌≡◌, refl, pos, negsuc, List, [], ◌∷◌, Some, None, true, false}
use Rattle.std.specs.Prelude.{codes}
use Rattle.insn_ir.specs.declared.op.Reg.TheVariants.{Rax, Rcx, Rsp, Rdi, Rsi}
use Rattle.insn_ir.specs.declared.op.Width.TheVariants.{B, W, L, Q}
use Rattle.insn_ir.specs.declared.op.Op.{Op}
use Rattle.insn_ir.specs.declared.op.Cond.{Cond}
use Rattle.insn_ir.specs.declared.insn.Base.{Base}
use Rattle.insn_ir.specs.declared.insn.Disp.{Disp}
use Rattle.insn_ir.specs.declared.insn.Imm.{Imm}
use Rattle.insn_ir.specs.declared.insn.Arg.{Arg}
use Rattle.insn_ir.specs.declared.entry.Cell.{Cell}
use Rattle.insn_ir.specs.declared.entry.DirectiveKind.{DirectiveKind}
use Rattle.insn_ir.specs.declared.entry.EntryKind.{EntryKind}
use Rattle.insn_ir.specs.Mnemonics.{op_named, lettered_hit, hit_of}
use Rattle.att_lexer.specs.Bytes.{is_blank, is_digit, is_letter, is_symbol_byte, is_symbol_start}
use Rattle.att_lexer.specs.Tokens.{digit_of, number_of as number_in_run, token_of, ends_tokens, tokens_from}
use Rattle.att_grammar.specs.Notions.{expect, word_of, number_of, text_of, this_word}
use Rattle.att_grammar.specs.Expressions.{name_of, specifier_of, symbol_of, term_of, sign_of, terms_within, terms_behind, expression_of}
use Rattle.att_grammar.specs.Registers.{register_at, register_named}
use Rattle.att_grammar.specs.Operands.{register_of, wide_of, index_of, scale_of, indexed_of, rip_of, based_of, paren_of, displacement_of, place_of, address_behind, segment_of, address_of, immediate_of, operand_of, next_of, operands_of}
use Rattle.att_grammar.specs.Instructions.{insn, plain_of, target_of, starred_of, jump_of, notrack_of, rep_of, prefixed_of, instruction_of}
use Rattle.att_grammar.specs.Directives.{cell_width, typed_of, sized_of, alias_of, signed_of, constant_of, is_section_byte, flags_of, section_of, power_of, max_of, fill_of, padding_of, aligned_of, cut_at_commas, difference_of, data_of, filled_of, placed_of, bound_of, named_of, directive_of}
use Rattle.att_grammar.specs.Entries.{is_inline_mark, statement_of, kind_of_piece}

octal_displacement : kind_of_piece (codes " movl 010(%rsp), %eax") ≡ EntryKind.Insn (insn Op.Mov L (Arg.Mem (record { fs = false; disp = Disp.Num (pos 8); base = (Base.Reg Rsp); index = None; scale = 1 })) (Arg.Reg Rax) Arg.Absent)
unfolding op_named lettered_hit hit_of is_blank is_digit is_letter is_symbol_byte is_symbol_start digit_of number_in_run token_of ends_tokens tokens_from expect word_of number_of text_of this_word name_of specifier_of symbol_of term_of sign_of terms_within terms_behind expression_of register_at register_named register_of wide_of index_of scale_of indexed_of rip_of based_of paren_of displacement_of place_of address_behind segment_of address_of immediate_of operand_of next_of operands_of plain_of target_of starred_of jump_of notrack_of rep_of prefixed_of instruction_of cell_width typed_of sized_of alias_of signed_of constant_of is_section_byte flags_of section_of power_of max_of fill_of padding_of aligned_of cut_at_commas difference_of data_of filled_of placed_of bound_of named_of directive_of is_inline_mark statement_of kind_of_piece
octal_displacement = refl

no_number : kind_of_piece (codes " movl 08(%rsp), %eax") ≡ EntryKind.Opaque (codes "movl" ∷ codes "rsp" ∷ codes "eax" ∷ [])
unfolding op_named lettered_hit hit_of is_blank is_digit is_letter is_symbol_byte is_symbol_start digit_of number_in_run token_of ends_tokens tokens_from expect word_of number_of text_of this_word name_of specifier_of symbol_of term_of sign_of terms_within terms_behind expression_of register_at register_named register_of wide_of index_of scale_of indexed_of rip_of based_of paren_of displacement_of place_of address_behind segment_of address_of immediate_of operand_of next_of operands_of plain_of target_of starred_of jump_of notrack_of rep_of prefixed_of instruction_of cell_width typed_of sized_of alias_of signed_of constant_of is_section_byte flags_of section_of power_of max_of fill_of padding_of aligned_of cut_at_commas difference_of data_of filled_of placed_of bound_of named_of directive_of is_inline_mark statement_of kind_of_piece
no_number = refl

unsigned_immediate : kind_of_piece (codes " addl $4294967295, %eax") ≡ EntryKind.Insn (insn Op.Add L (Arg.Imm (Imm.Num (negsuc 0))) (Arg.Reg Rax) Arg.Absent)
unfolding op_named lettered_hit hit_of is_blank is_digit is_letter is_symbol_byte is_symbol_start digit_of number_in_run token_of ends_tokens tokens_from expect word_of number_of text_of this_word name_of specifier_of symbol_of term_of sign_of terms_within terms_behind expression_of register_at register_named register_of wide_of index_of scale_of indexed_of rip_of based_of paren_of displacement_of place_of address_behind segment_of address_of immediate_of operand_of next_of operands_of plain_of target_of starred_of jump_of notrack_of rep_of prefixed_of instruction_of cell_width typed_of sized_of alias_of signed_of constant_of is_section_byte flags_of section_of power_of max_of fill_of padding_of aligned_of cut_at_commas difference_of data_of filled_of placed_of bound_of named_of directive_of is_inline_mark statement_of kind_of_piece
unsigned_immediate = refl

wide_number : kind_of_piece (codes " movq $4294967295, %rax") ≡ EntryKind.Insn (insn Op.Movabs Q (Arg.Imm (Imm.Num (pos 4294967295))) (Arg.Reg Rax) Arg.Absent)
unfolding op_named lettered_hit hit_of is_blank is_digit is_letter is_symbol_byte is_symbol_start digit_of number_in_run token_of ends_tokens tokens_from expect word_of number_of text_of this_word name_of specifier_of symbol_of term_of sign_of terms_within terms_behind expression_of register_at register_named register_of wide_of index_of scale_of indexed_of rip_of based_of paren_of displacement_of place_of address_behind segment_of address_of immediate_of operand_of next_of operands_of plain_of target_of starred_of jump_of notrack_of rep_of prefixed_of instruction_of cell_width typed_of sized_of alias_of signed_of constant_of is_section_byte flags_of section_of power_of max_of fill_of padding_of aligned_of cut_at_commas difference_of data_of filled_of placed_of bound_of named_of directive_of is_inline_mark statement_of kind_of_piece
wide_number = refl

shift_by_one : kind_of_piece (codes " sal %eax") ≡ EntryKind.Insn (insn Op.Shl L (Arg.Imm (Imm.Num (pos 1))) (Arg.Reg Rax) Arg.Absent)
unfolding op_named lettered_hit hit_of is_blank is_digit is_letter is_symbol_byte is_symbol_start digit_of number_in_run token_of ends_tokens tokens_from expect word_of number_of text_of this_word name_of specifier_of symbol_of term_of sign_of terms_within terms_behind expression_of register_at register_named register_of wide_of index_of scale_of indexed_of rip_of based_of paren_of displacement_of place_of address_behind segment_of address_of immediate_of operand_of next_of operands_of plain_of target_of starred_of jump_of notrack_of rep_of prefixed_of instruction_of cell_width typed_of sized_of alias_of signed_of constant_of is_section_byte flags_of section_of power_of max_of fill_of padding_of aligned_of cut_at_commas difference_of data_of filled_of placed_of bound_of named_of directive_of is_inline_mark statement_of kind_of_piece
shift_by_one = refl

product_of_two : kind_of_piece (codes " imull $3, %eax") ≡ EntryKind.Insn (insn Op.Imul3 L (Arg.Imm (Imm.Num (pos 3))) (Arg.Reg Rax) (Arg.Reg Rax))
unfolding op_named lettered_hit hit_of is_blank is_digit is_letter is_symbol_byte is_symbol_start digit_of number_in_run token_of ends_tokens tokens_from expect word_of number_of text_of this_word name_of specifier_of symbol_of term_of sign_of terms_within terms_behind expression_of register_at register_named register_of wide_of index_of scale_of indexed_of rip_of based_of paren_of displacement_of place_of address_behind segment_of address_of immediate_of operand_of next_of operands_of plain_of target_of starred_of jump_of notrack_of rep_of prefixed_of instruction_of cell_width typed_of sized_of alias_of signed_of constant_of is_section_byte flags_of section_of power_of max_of fill_of padding_of aligned_of cut_at_commas difference_of data_of filled_of placed_of bound_of named_of directive_of is_inline_mark statement_of kind_of_piece
product_of_two = refl

condition_first : kind_of_piece (codes " cmovl %ecx, %eax") ≡ EntryKind.Insn (insn (Op.Cmov Cond.L) L (Arg.Reg Rcx) (Arg.Reg Rax) Arg.Absent)
unfolding op_named lettered_hit hit_of is_blank is_digit is_letter is_symbol_byte is_symbol_start digit_of number_in_run token_of ends_tokens tokens_from expect word_of number_of text_of this_word name_of specifier_of symbol_of term_of sign_of terms_within terms_behind expression_of register_at register_named register_of wide_of index_of scale_of indexed_of rip_of based_of paren_of displacement_of place_of address_behind segment_of address_of immediate_of operand_of next_of operands_of plain_of target_of starred_of jump_of notrack_of rep_of prefixed_of instruction_of cell_width typed_of sized_of alias_of signed_of constant_of is_section_byte flags_of section_of power_of max_of fill_of padding_of aligned_of cut_at_commas difference_of data_of filled_of placed_of bound_of named_of directive_of is_inline_mark statement_of kind_of_piece
condition_first = refl

table_jump : kind_of_piece (codes " notrack jmp *.L4(,%rdi,8)") ≡ EntryKind.Insn (insn Op.JmpStarNotrack Q (Arg.Mem (record { fs = false; disp = Disp.Sym (record { name = codes ".L4"; spec = None; offset = pos 0 }); base = Base.Absent; index = Some Rdi; scale = 8 })) Arg.Absent Arg.Absent)
unfolding op_named lettered_hit hit_of is_blank is_digit is_letter is_symbol_byte is_symbol_start digit_of number_in_run token_of ends_tokens tokens_from expect word_of number_of text_of this_word name_of specifier_of symbol_of term_of sign_of terms_within terms_behind expression_of register_at register_named register_of wide_of index_of scale_of indexed_of rip_of based_of paren_of displacement_of place_of address_behind segment_of address_of immediate_of operand_of next_of operands_of plain_of target_of starred_of jump_of notrack_of rep_of prefixed_of instruction_of cell_width typed_of sized_of alias_of signed_of constant_of is_section_byte flags_of section_of power_of max_of fill_of padding_of aligned_of cut_at_commas difference_of data_of filled_of placed_of bound_of named_of directive_of is_inline_mark statement_of kind_of_piece
table_jump = refl

thread_local : kind_of_piece (codes " movq %fs:x@tpoff+16-8, %rsi") ≡ EntryKind.Insn (insn Op.Mov Q (Arg.Mem (record { fs = true; disp = Disp.Sym (record { name = codes "x"; spec = Some (codes "tpoff"); offset = pos 8 }); base = Base.Absent; index = None; scale = 1 })) (Arg.Reg Rsi) Arg.Absent)
unfolding op_named lettered_hit hit_of is_blank is_digit is_letter is_symbol_byte is_symbol_start digit_of number_in_run token_of ends_tokens tokens_from expect word_of number_of text_of this_word name_of specifier_of symbol_of term_of sign_of terms_within terms_behind expression_of register_at register_named register_of wide_of index_of scale_of indexed_of rip_of based_of paren_of displacement_of place_of address_behind segment_of address_of immediate_of operand_of next_of operands_of plain_of target_of starred_of jump_of notrack_of rep_of prefixed_of instruction_of cell_width typed_of sized_of alias_of signed_of constant_of is_section_byte flags_of section_of power_of max_of fill_of padding_of aligned_of cut_at_commas difference_of data_of filled_of placed_of bound_of named_of directive_of is_inline_mark statement_of kind_of_piece
thread_local = refl

target : kind_of_piece (codes " jmp .L2@PLT") ≡ EntryKind.Insn (insn Op.Jmp Q (Arg.Code (record { name = codes ".L2"; spec = Some (codes "PLT"); offset = pos 0 })) Arg.Absent Arg.Absent)
unfolding op_named lettered_hit hit_of is_blank is_digit is_letter is_symbol_byte is_symbol_start digit_of number_in_run token_of ends_tokens tokens_from expect word_of number_of text_of this_word name_of specifier_of symbol_of term_of sign_of terms_within terms_behind expression_of register_at register_named register_of wide_of index_of scale_of indexed_of rip_of based_of paren_of displacement_of place_of address_behind segment_of address_of immediate_of operand_of next_of operands_of plain_of target_of starred_of jump_of notrack_of rep_of prefixed_of instruction_of cell_width typed_of sized_of alias_of signed_of constant_of is_section_byte flags_of section_of power_of max_of fill_of padding_of aligned_of cut_at_commas difference_of data_of filled_of placed_of bound_of named_of directive_of is_inline_mark statement_of kind_of_piece
target = refl

two_in_memory : kind_of_piece (codes " movl (%rax), (%rdx)") ≡ EntryKind.Opaque (codes "movl" ∷ codes "rax" ∷ codes "rdx" ∷ [])
unfolding op_named lettered_hit hit_of is_blank is_digit is_letter is_symbol_byte is_symbol_start digit_of number_in_run token_of ends_tokens tokens_from expect word_of number_of text_of this_word name_of specifier_of symbol_of term_of sign_of terms_within terms_behind expression_of register_at register_named register_of wide_of index_of scale_of indexed_of rip_of based_of paren_of displacement_of place_of address_behind segment_of address_of immediate_of operand_of next_of operands_of plain_of target_of starred_of jump_of notrack_of rep_of prefixed_of instruction_of cell_width typed_of sized_of alias_of signed_of constant_of is_section_byte flags_of section_of power_of max_of fill_of padding_of aligned_of cut_at_commas difference_of data_of filled_of placed_of bound_of named_of directive_of is_inline_mark statement_of kind_of_piece
two_in_memory = refl

label : kind_of_piece (codes " f:") ≡ EntryKind.Label (codes "f")
unfolding op_named lettered_hit hit_of is_blank is_digit is_letter is_symbol_byte is_symbol_start digit_of number_in_run token_of ends_tokens tokens_from expect word_of number_of text_of this_word name_of specifier_of symbol_of term_of sign_of terms_within terms_behind expression_of register_at register_named register_of wide_of index_of scale_of indexed_of rip_of based_of paren_of displacement_of place_of address_behind segment_of address_of immediate_of operand_of next_of operands_of plain_of target_of starred_of jump_of notrack_of rep_of prefixed_of instruction_of cell_width typed_of sized_of alias_of signed_of constant_of is_section_byte flags_of section_of power_of max_of fill_of padding_of aligned_of cut_at_commas difference_of data_of filled_of placed_of bound_of named_of directive_of is_inline_mark statement_of kind_of_piece
label = refl

digits : kind_of_piece (codes " 1:") ≡ EntryKind.Opaque []
unfolding op_named lettered_hit hit_of is_blank is_digit is_letter is_symbol_byte is_symbol_start digit_of number_in_run token_of ends_tokens tokens_from expect word_of number_of text_of this_word name_of specifier_of symbol_of term_of sign_of terms_within terms_behind expression_of register_at register_named register_of wide_of index_of scale_of indexed_of rip_of based_of paren_of displacement_of place_of address_behind segment_of address_of immediate_of operand_of next_of operands_of plain_of target_of starred_of jump_of notrack_of rep_of prefixed_of instruction_of cell_width typed_of sized_of alias_of signed_of constant_of is_section_byte flags_of section_of power_of max_of fill_of padding_of aligned_of cut_at_commas difference_of data_of filled_of placed_of bound_of named_of directive_of is_inline_mark statement_of kind_of_piece
digits = refl

inline_mark : kind_of_piece (codes " #APP") ≡ EntryKind.InlineMark
unfolding op_named lettered_hit hit_of is_blank is_digit is_letter is_symbol_byte is_symbol_start digit_of number_in_run token_of ends_tokens tokens_from expect word_of number_of text_of this_word name_of specifier_of symbol_of term_of sign_of terms_within terms_behind expression_of register_at register_named register_of wide_of index_of scale_of indexed_of rip_of based_of paren_of displacement_of place_of address_behind segment_of address_of immediate_of operand_of next_of operands_of plain_of target_of starred_of jump_of notrack_of rep_of prefixed_of instruction_of cell_width typed_of sized_of alias_of signed_of constant_of is_section_byte flags_of section_of power_of max_of fill_of padding_of aligned_of cut_at_commas difference_of data_of filled_of placed_of bound_of named_of directive_of is_inline_mark statement_of kind_of_piece
inline_mark = refl

comment : kind_of_piece (codes " #APPLE") ≡ EntryKind.Blank
unfolding op_named lettered_hit hit_of is_blank is_digit is_letter is_symbol_byte is_symbol_start digit_of number_in_run token_of ends_tokens tokens_from expect word_of number_of text_of this_word name_of specifier_of symbol_of term_of sign_of terms_within terms_behind expression_of register_at register_named register_of wide_of index_of scale_of indexed_of rip_of based_of paren_of displacement_of place_of address_behind segment_of address_of immediate_of operand_of next_of operands_of plain_of target_of starred_of jump_of notrack_of rep_of prefixed_of instruction_of cell_width typed_of sized_of alias_of signed_of constant_of is_section_byte flags_of section_of power_of max_of fill_of padding_of aligned_of cut_at_commas difference_of data_of filled_of placed_of bound_of named_of directive_of is_inline_mark statement_of kind_of_piece
comment = refl

assignment : kind_of_piece (codes " .x = 5") ≡ EntryKind.Directive DirectiveKind.Breaking
unfolding op_named lettered_hit hit_of is_blank is_digit is_letter is_symbol_byte is_symbol_start digit_of number_in_run token_of ends_tokens tokens_from expect word_of number_of text_of this_word name_of specifier_of symbol_of term_of sign_of terms_within terms_behind expression_of register_at register_named register_of wide_of index_of scale_of indexed_of rip_of based_of paren_of displacement_of place_of address_behind segment_of address_of immediate_of operand_of next_of operands_of plain_of target_of starred_of jump_of notrack_of rep_of prefixed_of instruction_of cell_width typed_of sized_of alias_of signed_of constant_of is_section_byte flags_of section_of power_of max_of fill_of padding_of aligned_of cut_at_commas difference_of data_of filled_of placed_of bound_of named_of directive_of is_inline_mark statement_of kind_of_piece
assignment = refl

end_of_function : kind_of_piece (codes " .size f, .-f") ≡ EntryKind.Directive (DirectiveKind.FuncEnd (codes "f"))
unfolding op_named lettered_hit hit_of is_blank is_digit is_letter is_symbol_byte is_symbol_start digit_of number_in_run token_of ends_tokens tokens_from expect word_of number_of text_of this_word name_of specifier_of symbol_of term_of sign_of terms_within terms_behind expression_of register_at register_named register_of wide_of index_of scale_of indexed_of rip_of based_of paren_of displacement_of place_of address_behind segment_of address_of immediate_of operand_of next_of operands_of plain_of target_of starred_of jump_of notrack_of rep_of prefixed_of instruction_of cell_width typed_of sized_of alias_of signed_of constant_of is_section_byte flags_of section_of power_of max_of fill_of padding_of aligned_of cut_at_commas difference_of data_of filled_of placed_of bound_of named_of directive_of is_inline_mark statement_of kind_of_piece
end_of_function = refl

end_of_another : kind_of_piece (codes " .size f, .Lend-f") ≡ EntryKind.Directive DirectiveKind.Inert
unfolding op_named lettered_hit hit_of is_blank is_digit is_letter is_symbol_byte is_symbol_start digit_of number_in_run token_of ends_tokens tokens_from expect word_of number_of text_of this_word name_of specifier_of symbol_of term_of sign_of terms_within terms_behind expression_of register_at register_named register_of wide_of index_of scale_of indexed_of rip_of based_of paren_of displacement_of place_of address_behind segment_of address_of immediate_of operand_of next_of operands_of plain_of target_of starred_of jump_of notrack_of rep_of prefixed_of instruction_of cell_width typed_of sized_of alias_of signed_of constant_of is_section_byte flags_of section_of power_of max_of fill_of padding_of aligned_of cut_at_commas difference_of data_of filled_of placed_of bound_of named_of directive_of is_inline_mark statement_of kind_of_piece
end_of_another = refl

flagged_section : kind_of_piece (codes " .section a.b-c , @ax") ≡ EntryKind.Directive DirectiveKind.Breaking
unfolding op_named lettered_hit hit_of is_blank is_digit is_letter is_symbol_byte is_symbol_start digit_of number_in_run token_of ends_tokens tokens_from expect word_of number_of text_of this_word name_of specifier_of symbol_of term_of sign_of terms_within terms_behind expression_of register_at register_named register_of wide_of index_of scale_of indexed_of rip_of based_of paren_of displacement_of place_of address_behind segment_of address_of immediate_of operand_of next_of operands_of plain_of target_of starred_of jump_of notrack_of rep_of prefixed_of instruction_of cell_width typed_of sized_of alias_of signed_of constant_of is_section_byte flags_of section_of power_of max_of fill_of padding_of aligned_of cut_at_commas difference_of data_of filled_of placed_of bound_of named_of directive_of is_inline_mark statement_of kind_of_piece
flagged_section = refl

named_section : kind_of_piece (codes " .section .text.unlikely") ≡ EntryKind.Directive (DirectiveKind.Section (codes ".text.unlikely") true)
unfolding op_named lettered_hit hit_of is_blank is_digit is_letter is_symbol_byte is_symbol_start digit_of number_in_run token_of ends_tokens tokens_from expect word_of number_of text_of this_word name_of specifier_of symbol_of term_of sign_of terms_within terms_behind expression_of register_at register_named register_of wide_of index_of scale_of indexed_of rip_of based_of paren_of displacement_of place_of address_behind segment_of address_of immediate_of operand_of next_of operands_of plain_of target_of starred_of jump_of notrack_of rep_of prefixed_of instruction_of cell_width typed_of sized_of alias_of signed_of constant_of is_section_byte flags_of section_of power_of max_of fill_of padding_of aligned_of cut_at_commas difference_of data_of filled_of placed_of bound_of named_of directive_of is_inline_mark statement_of kind_of_piece
named_section = refl

align : kind_of_piece (codes " .balign 16") ≡ EntryKind.Directive (DirectiveKind.Align 4 None None)
unfolding op_named lettered_hit hit_of is_blank is_digit is_letter is_symbol_byte is_symbol_start digit_of number_in_run token_of ends_tokens tokens_from expect word_of number_of text_of this_word name_of specifier_of symbol_of term_of sign_of terms_within terms_behind expression_of register_at register_named register_of wide_of index_of scale_of indexed_of rip_of based_of paren_of displacement_of place_of address_behind segment_of address_of immediate_of operand_of next_of operands_of plain_of target_of starred_of jump_of notrack_of rep_of prefixed_of instruction_of cell_width typed_of sized_of alias_of signed_of constant_of is_section_byte flags_of section_of power_of max_of fill_of padding_of aligned_of cut_at_commas difference_of data_of filled_of placed_of bound_of named_of directive_of is_inline_mark statement_of kind_of_piece
align = refl

align_less : kind_of_piece (codes " .p2align 4,,10") ≡ EntryKind.Directive (DirectiveKind.Align 4 None (Some 10))
unfolding op_named lettered_hit hit_of is_blank is_digit is_letter is_symbol_byte is_symbol_start digit_of number_in_run token_of ends_tokens tokens_from expect word_of number_of text_of this_word name_of specifier_of symbol_of term_of sign_of terms_within terms_behind expression_of register_at register_named register_of wide_of index_of scale_of indexed_of rip_of based_of paren_of displacement_of place_of address_behind segment_of address_of immediate_of operand_of next_of operands_of plain_of target_of starred_of jump_of notrack_of rep_of prefixed_of instruction_of cell_width typed_of sized_of alias_of signed_of constant_of is_section_byte flags_of section_of power_of max_of fill_of padding_of aligned_of cut_at_commas difference_of data_of filled_of placed_of bound_of named_of directive_of is_inline_mark statement_of kind_of_piece
align_less = refl

align_too_far : kind_of_piece (codes " .p2align 13") ≡ EntryKind.Directive DirectiveKind.Breaking
unfolding op_named lettered_hit hit_of is_blank is_digit is_letter is_symbol_byte is_symbol_start digit_of number_in_run token_of ends_tokens tokens_from expect word_of number_of text_of this_word name_of specifier_of symbol_of term_of sign_of terms_within terms_behind expression_of register_at register_named register_of wide_of index_of scale_of indexed_of rip_of based_of paren_of displacement_of place_of address_behind segment_of address_of immediate_of operand_of next_of operands_of plain_of target_of starred_of jump_of notrack_of rep_of prefixed_of instruction_of cell_width typed_of sized_of alias_of signed_of constant_of is_section_byte flags_of section_of power_of max_of fill_of padding_of aligned_of cut_at_commas difference_of data_of filled_of placed_of bound_of named_of directive_of is_inline_mark statement_of kind_of_piece
align_too_far = refl

cells : kind_of_piece (codes " .long .L3-.L4,g,5") ≡ EntryKind.Directive (DirectiveKind.Words L (Cell.Diff (codes ".L3") (codes ".L4") ∷ Cell.Sym (codes "g") ∷ Cell.Other ∷ []) (codes ".L3" ∷ codes ".L4" ∷ codes "g" ∷ []))
unfolding op_named lettered_hit hit_of is_blank is_digit is_letter is_symbol_byte is_symbol_start digit_of number_in_run token_of ends_tokens tokens_from expect word_of number_of text_of this_word name_of specifier_of symbol_of term_of sign_of terms_within terms_behind expression_of register_at register_named register_of wide_of index_of scale_of indexed_of rip_of based_of paren_of displacement_of place_of address_behind segment_of address_of immediate_of operand_of next_of operands_of plain_of target_of starred_of jump_of notrack_of rep_of prefixed_of instruction_of cell_width typed_of sized_of alias_of signed_of constant_of is_section_byte flags_of section_of power_of max_of fill_of padding_of aligned_of cut_at_commas difference_of data_of filled_of placed_of bound_of named_of directive_of is_inline_mark statement_of kind_of_piece
cells = refl
