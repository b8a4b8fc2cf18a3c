-- Steps of a processor (an Intel Xeon, family 6, model 85): one or two for each instruction on registers, with the numbers
-- that it gave.
use Rattle.std.specs.Prelude.{ℕ, zero, suc, Bool, true, false, ◌&&◌, ◌||◌, List, [], ◌∷◌, map, None, codes, pos, negsuc, nat_eq, bytes_eq, if◌then◌else◌}
use Rattle.insn_ir.specs.declared.op.Reg.{Reg}
use Rattle.insn_ir.specs.declared.op.Reg.TheVariants.{Rax, Rcx, Rdx, Rbx, Rbp, Rsi, Rdi, R8, R9, R10, R11, R12, R13, R14, R15}
use Rattle.insn_ir.specs.declared.op.Cond.{Cond}
use Rattle.insn_ir.specs.declared.op.Op.{Op}
use Rattle.insn_ir.specs.declared.op.Width.TheVariants.{B, W, L, Q}
use Rattle.insn_ir.specs.declared.insn.Arg.{Arg}
use Rattle.insn_ir.specs.declared.insn.Insn.{Insn}
use Rattle.insn_ir.specs.Machine.{State, all_flags, flag_number}
use Rattle.insn_ir.specs.Task.{Act, Faults, Does, perform}
use Rattle.insn_ir.specs.Step.{insn_task}
use Rattle.insn_ir.specs.cases.Cases.{bare, with_a, with_ab, number, RegValue, value, held, plain}

-- an instruction, with registers and flags before and after it. Flags stand in the order CF PF ZF SF OF, each as 0 or 1, or as
-- ? where the manual leaves it undefined
pub record ProcessorStep : Type 0 where
  pub insn : Insn
  pub regs : List RegValue
  pub flags : List ℕ
  pub regs_after : List RegValue
  pub flags_after : List ℕ

abbrev pub vector : Insn → List RegValue → List ℕ → List RegValue → List ℕ → ProcessorStep
vector i rs fs rs' fs' = record { insn = i; regs = rs; flags = fs; regs_after = rs'; flags_after = fs' }

abbrev pub reg : Reg → Arg
reg r = Arg.Reg r

-- the flag with this number, of flags that are written so; 48, 49 and 63 are the codes of 0, 1 and ?
abbrev pub is_one : List ℕ → ℕ → Bool
is_one [] n = false
is_one (c ∷ cs) zero = nat_eq c 49
is_one (c ∷ cs) (suc n) = is_one cs n

abbrev pub state_before : ProcessorStep → State
state_before p = record { regs = held p.regs; flags = λ f. is_one p.flags (flag_number f); memory = λ a. None }

-- flags are as written, where they aren't undefined
abbrev pub are_as_written : List ℕ → List Bool → Bool
are_as_written [] [] = true
are_as_written [] (b ∷ bs) = false
are_as_written (c ∷ cs) [] = false
are_as_written (c ∷ cs) (b ∷ bs) = (nat_eq c 63 || nat_eq c (if b then 49 else 48)) && are_as_written cs bs

abbrev pub agrees_with : ProcessorStep → Act → Bool
agrees_with p Faults = false
agrees_with p (Does s es n) =
    bytes_eq (map (λ h. s.regs h.reg) p.regs_after) (map (λ h. h.number) p.regs_after) && are_as_written p.flags_after (map s.flags all_flags)

-- whether the machine does what the processor did
abbrev pub agrees : ProcessorStep → Bool
agrees p = agrees_with p (perform (insn_task [] plain p.insn) (state_before p))

-- moves
abbrev pub moves : List ProcessorStep
moves =
    vector (with_ab Op.Mov B (reg R13) (reg R9)) (value R9 0xe98801f800000000 ∷ value R13 0x515d77a366b7cf16 ∷ []) (codes "11100") (value R9 0xe98801f800000016 ∷ value R13 0x515d77a366b7cf16 ∷ []) (codes "11100") ∷
    vector (with_ab Op.Mov W (reg R15) (reg Rbx)) (value Rbx 0xffffffffffdaaf9d ∷ value R15 0x5c7070f847eb5c6f ∷ []) (codes "01101") (value Rbx 0xffffffffffda5c6f ∷ value R15 0x5c7070f847eb5c6f ∷ []) (codes "01101") ∷
    vector (with_ab Op.Mov L (reg R12) (reg R11)) (value R11 0xffffffffffff0000 ∷ value R12 0xa5dc513f340928c9 ∷ []) (codes "11010") (value R11 0x340928c9 ∷ value R12 0xa5dc513f340928c9 ∷ []) (codes "11010") ∷
    vector (with_ab Op.Mov Q (reg Rdi) (reg Rcx)) (value Rcx 0xffffffffffffffff ∷ value Rdi 0xbf4dc85b4610823 ∷ []) (codes "10010") (value Rcx 0xbf4dc85b4610823 ∷ value Rdi 0xbf4dc85b4610823 ∷ []) (codes "10010") ∷
    vector (with_ab Op.Movabs Q (number (pos 128)) (reg Rsi)) (value Rsi 0xe146329962095339 ∷ []) (codes "00000") (value Rsi 0x80 ∷ []) (codes "00000") ∷
    vector (with_ab (Op.Movz B) W (reg R13) (reg R10)) (value R10 0xffffffffffffff7f ∷ value R13 0xfffffffff9ff12f8 ∷ []) (codes "10010") (value R10 0xffffffffffff00f8 ∷ value R13 0xfffffffff9ff12f8 ∷ []) (codes "10010") ∷
    vector (with_ab (Op.Movz B) L (reg R12) (reg R15)) (value R12 0xfffffffffffffff0 ∷ value R15 0xfffffffffffffeff ∷ []) (codes "11011") (value R12 0xfffffffffffffff0 ∷ value R15 0xf0 ∷ []) (codes "11011") ∷
    vector (with_ab (Op.Movz B) Q (reg R11) (reg Rbx)) (value Rbx 0x157dc382e056d075 ∷ value R11 0x5b4251e3d62f8f8a ∷ []) (codes "10010") (value Rbx 0x8a ∷ value R11 0x5b4251e3d62f8f8a ∷ []) (codes "10010") ∷
    vector (with_ab (Op.Movz W) L (reg R12) (reg Rdi)) (value Rdi 0xfffffffffffffffd ∷ value R12 0xffffffffffffffef ∷ []) (codes "10011") (value Rdi 0xffef ∷ value R12 0xffffffffffffffef ∷ []) (codes "10011") ∷
    vector (with_ab (Op.Movz W) Q (reg Rax) (reg Rdi)) (value Rax 0xec3f519dffffab01 ∷ value Rdi 0x516c0d22e64b8b0d ∷ []) (codes "00100") (value Rax 0xec3f519dffffab01 ∷ value Rdi 0xab01 ∷ []) (codes "00100") ∷
    vector (with_ab (Op.Movs B) W (reg R14) (reg Rdi)) (value Rdi 0x1df10508cead48b8 ∷ value R14 0xcd6147619ddc1161 ∷ []) (codes "01001") (value Rdi 0x1df10508cead0061 ∷ value R14 0xcd6147619ddc1161 ∷ []) (codes "01001") ∷
    vector (with_ab (Op.Movs B) L (reg R13) (reg Rdx)) (value Rdx 0xdabb4d3161e30081 ∷ value R13 0xc3053acb15efe55 ∷ []) (codes "10111") (value Rdx 0x55 ∷ value R13 0xc3053acb15efe55 ∷ []) (codes "10111") ∷
    vector (with_ab (Op.Movs B) Q (reg Rcx) (reg R15)) (value Rcx 0x20c52bb80e5bc7d9 ∷ value R15 0x8e37138900000010 ∷ []) (codes "00000") (value Rcx 0x20c52bb80e5bc7d9 ∷ value R15 0xffffffffffffffd9 ∷ []) (codes "00000") ∷
    vector (with_ab (Op.Movs W) L (reg Rax) (reg Rax)) (value Rax 0xc6f227b3918b42c1 ∷ []) (codes "01001") (value Rax 0x42c1 ∷ []) (codes "01001") ∷
    vector (with_ab (Op.Movs W) Q (reg Rax) (reg Rsi)) (value Rax 0x78e6204da2d45d3f ∷ value Rsi 0x475bf17044cc2bf7 ∷ []) (codes "01000") (value Rax 0x78e6204da2d45d3f ∷ value Rsi 0x5d3f ∷ []) (codes "01000") ∷
    vector (with_ab (Op.Movs L) Q (reg Rdi) (reg R9)) (value Rdi 0xa659b2c302bb6737 ∷ value R9 0xffffffffffff8001 ∷ []) (codes "10010") (value Rdi 0xa659b2c302bb6737 ∷ value R9 0x2bb6737 ∷ []) (codes "10010") ∷
    vector (with_ab Op.Xchg L (reg R13) (reg R12)) (value R12 0xb2044230000000ff ∷ value R13 0xffffffffffffff81 ∷ []) (codes "10101") (value R12 0xffffff81 ∷ value R13 0xff ∷ []) (codes "10101") ∷
    vector (with_a Op.Bswap L (reg R8)) (value R8 0xfffffffffa53ead4 ∷ []) (codes "11111") (value R8 0xd4ea53fa ∷ []) (codes "11111") ∷
    vector (with_ab Op.Xchg Q (reg R14) (reg R15)) (value R14 0xffffffffffffffef ∷ value R15 0x31a133d100000002 ∷ []) (codes "00101") (value R14 0x31a133d100000002 ∷ value R15 0xffffffffffffffef ∷ []) (codes "00101") ∷
    vector (with_a Op.Bswap Q (reg R11)) (value R11 0xfffffffffffffff0 ∷ []) (codes "01111") (value R11 0xf0ffffffffffffff ∷ []) (codes "01111") ∷
    vector (bare Op.Cwtl L) (value Rax 0x30ed7d61e0678135 ∷ value Rdx 0xffffffffffff0000 ∷ []) (codes "00001") (value Rax 0xffff8135 ∷ value Rdx 0xffffffffffff0000 ∷ []) (codes "00001") ∷
    vector (bare Op.Cltq Q) (value Rax 0xfd1e217960d47798 ∷ value Rdx 0xffffffff80000001 ∷ []) (codes "10001") (value Rax 0x60d47798 ∷ value Rdx 0xffffffff80000001 ∷ []) (codes "10001") ∷
    vector (bare Op.Cltd L) (value Rax 0xb785c86be9bdbedb ∷ value Rdx 0xfffffffffffffff0 ∷ []) (codes "11101") (value Rax 0xb785c86be9bdbedb ∷ value Rdx 0xffffffff ∷ []) (codes "11101") ∷
    vector (bare Op.Cqto Q) (value Rax 0xfffffffffffffff7 ∷ value Rdx 0xa45367817ac47353 ∷ []) (codes "01011") (value Rax 0xfffffffffffffff7 ∷ value Rdx 0xffffffffffffffff ∷ []) (codes "01011") ∷ []

-- sums and comparisons
abbrev pub sums : List ProcessorStep
sums =
    vector (with_ab Op.Add B (reg R12) (reg Rbx)) (value Rbx 0xfffffffffffffff1 ∷ value R12 0x3ae2984d4c5d4b78 ∷ []) (codes "10011") (value Rbx 0xffffffffffffff69 ∷ value R12 0x3ae2984d4c5d4b78 ∷ []) (codes "11000") ∷
    vector (with_ab Op.Adc B (reg Rcx) (reg R8)) (value Rcx 0x7aaccc8ec1b4ba46 ∷ value R8 0xe6bbbf2210ab1101 ∷ []) (codes "00111") (value Rcx 0x7aaccc8ec1b4ba46 ∷ value R8 0xe6bbbf2210ab1147 ∷ []) (codes "01000") ∷
    vector (with_ab Op.Sub B (reg R9) (reg R10)) (value R9 0x7ae28f16a72cc1ab ∷ value R10 0xa47c78f51866f00 ∷ []) (codes "10001") (value R9 0x7ae28f16a72cc1ab ∷ value R10 0xa47c78f51866f55 ∷ []) (codes "11000") ∷
    vector (with_ab Op.Sbb B (reg R11) (reg Rbx)) (value Rbx 0xfffffffffffffff0 ∷ value R11 0xfffffffffffffffe ∷ []) (codes "00101") (value Rbx 0xfffffffffffffff2 ∷ value R11 0xfffffffffffffffe ∷ []) (codes "10010") ∷
    vector (with_ab Op.Cmp B (reg R11) (reg R15)) (value R11 0x52215087ac9087fa ∷ value R15 0xffffffffffffffff ∷ []) (codes "01010") (value R11 0x52215087ac9087fa ∷ value R15 0xffffffffffffffff ∷ []) (codes "01000") ∷
    vector (with_a Op.Neg B (reg Rdx)) (value Rdx 0x4846d78f08287352 ∷ []) (codes "11111") (value Rdx 0x4846d78f082873ae ∷ []) (codes "10010") ∷
    vector (with_a Op.Inc B (reg R11)) (value R11 0xe28b23ad00000001 ∷ []) (codes "11110") (value R11 0xe28b23ad00000002 ∷ []) (codes "10000") ∷
    vector (with_a Op.Dec B (reg R12)) (value R12 0x7fffffffffffffff ∷ []) (codes "10010") (value R12 0x7ffffffffffffffe ∷ []) (codes "10010") ∷
    vector (with_ab Op.Add W (reg R11) (reg Rbp)) (value Rbp 0xe8d8d18c0ce37fff ∷ value R11 0x3a86ff09a0dae346 ∷ []) (codes "00000") (value Rbp 0xe8d8d18c0ce36345 ∷ value R11 0x3a86ff09a0dae346 ∷ []) (codes "10000") ∷
    vector (with_ab Op.Adc W (reg Rax) (reg Rcx)) (value Rax 0x92e11b88c76bff7f ∷ value Rcx 0xffffffffffff8001 ∷ []) (codes "10011") (value Rax 0x92e11b88c76bff7f ∷ value Rcx 0xffffffffffff7f81 ∷ []) (codes "11001") ∷
    vector (with_ab Op.Sub W (reg R8) (reg Rbx)) (value Rbx 0xfffffffffffffffc ∷ value R8 0xfced932c7efab0ac ∷ []) (codes "01111") (value Rbx 0xffffffffffff4f50 ∷ value R8 0xfced932c7efab0ac ∷ []) (codes "01000") ∷
    vector (with_ab Op.Sbb W (reg Rdx) (reg R8)) (value Rdx 0xa1f1d44cf51e69d4 ∷ value R8 0x6b7d54de9482fffd ∷ []) (codes "10101") (value Rdx 0xa1f1d44cf51e69d4 ∷ value R8 0x6b7d54de94829628 ∷ []) (codes "01010") ∷
    vector (with_ab Op.Cmp W (reg R11) (reg R11)) (value R11 0xffffffffffffff81 ∷ []) (codes "11100") (value R11 0xffffffffffffff81 ∷ []) (codes "01100") ∷
    vector (with_a Op.Neg W (reg R10)) (value R10 0x5660f778f348f532 ∷ []) (codes "10010") (value R10 0x5660f778f3480ace ∷ []) (codes "10000") ∷
    vector (with_a Op.Inc W (reg Rdi)) (value Rdi 0xffffffffffffff3b ∷ []) (codes "01100") (value Rdi 0xffffffffffffff3c ∷ []) (codes "01010") ∷
    vector (with_a Op.Dec W (reg Rax)) (value Rax 0x608100fbd17d0001 ∷ []) (codes "00110") (value Rax 0x608100fbd17d0000 ∷ []) (codes "01100") ∷
    vector (with_ab Op.Add L (reg R11) (reg Rdi)) (value Rdi 0xa1c16a180000fff0 ∷ value R11 0x8000000000000001 ∷ []) (codes "10101") (value Rdi 0xfff1 ∷ value R11 0x8000000000000001 ∷ []) (codes "00000") ∷
    vector (with_ab Op.Adc L (reg R13) (reg Rdi)) (value Rdi 0xfffffffffde78606 ∷ value R13 0x84fdfafc0e496182 ∷ []) (codes "11110") (value Rdi 0xc30e789 ∷ value R13 0x84fdfafc0e496182 ∷ []) (codes "10000") ∷
    vector (with_ab Op.Sub L (reg R13) (reg Rdi)) (value Rdi 0x1913bd ∷ value R13 0x2b883af941298b26 ∷ []) (codes "11001") (value Rdi 0xbeef8897 ∷ value R13 0x2b883af941298b26 ∷ []) (codes "10010") ∷
    vector (with_ab Op.Sbb L (reg Rcx) (reg R8)) (value Rcx 0xfff8cf3965685a9a ∷ value R8 0x283baa5700000000 ∷ []) (codes "00110") (value Rcx 0xfff8cf3965685a9a ∷ value R8 0x9a97a566 ∷ []) (codes "11010") ∷
    vector (with_ab Op.Cmp L (reg R10) (reg Rcx)) (value Rcx 0x933ba114d62d2b23 ∷ value R10 0x599003a33971ebac ∷ []) (codes "11000") (value Rcx 0x933ba114d62d2b23 ∷ value R10 0x599003a33971ebac ∷ []) (codes "01010") ∷
    vector (with_a Op.Neg L (reg R14)) (value R14 0xfffffffff0412224 ∷ []) (codes "01010") (value R14 0xfbedddc ∷ []) (codes "10000") ∷
    vector (with_a Op.Inc L (reg Rcx)) (value Rcx 0xffffffffffffff80 ∷ []) (codes "10011") (value Rcx 0xffffff81 ∷ []) (codes "11010") ∷
    vector (with_a Op.Dec L (reg R11)) (value R11 0xffffffffffc88428 ∷ []) (codes "11000") (value R11 0xffc88427 ∷ []) (codes "11010") ∷
    vector (with_ab Op.Add Q (reg R11) (reg R14)) (value R11 0x91526e445e355108 ∷ value R14 0xa467c72ae7ddb18c ∷ []) (codes "11001") (value R11 0x91526e445e355108 ∷ value R14 0x35ba356f46130294 ∷ []) (codes "10001") ∷
    vector (with_ab Op.Adc Q (reg Rcx) (reg Rax)) (value Rax 0xe6767f761203c050 ∷ value Rcx 0x44f0370f16d3000f ∷ []) (codes "10010") (value Rax 0x2b66b68528d6c060 ∷ value Rcx 0x44f0370f16d3000f ∷ []) (codes "11000") ∷
    vector (with_ab Op.Sub Q (reg R10) (reg R12)) (value R10 0x4ffc722bfd4b1258 ∷ value R12 0xffffffffffffffff ∷ []) (codes "10100") (value R10 0x4ffc722bfd4b1258 ∷ value R12 0xb0038dd402b4eda7 ∷ []) (codes "00010") ∷
    vector (with_ab Op.Sbb Q (reg Rdx) (reg Rbx)) (value Rdx 0x17951528eb60f ∷ value Rbx 0xf6fce730eaefa5ea ∷ []) (codes "00011") (value Rdx 0x17951528eb60f ∷ value Rbx 0xf6fb6ddf9860efdb ∷ []) (codes "01010") ∷
    vector (with_ab Op.Cmp Q (reg Rdx) (reg R10)) (value Rdx 0xfffffffffffffffe ∷ value R10 0xffffffff00000001 ∷ []) (codes "00110") (value Rdx 0xfffffffffffffffe ∷ value R10 0xffffffff00000001 ∷ []) (codes "11010") ∷
    vector (with_a Op.Neg Q (reg R10)) (value R10 0x941e1323db429001 ∷ []) (codes "00111") (value R10 0x6be1ecdc24bd6fff ∷ []) (codes "11000") ∷
    vector (with_a Op.Inc Q (reg R8)) (value R8 0x4516240185f15ce9 ∷ []) (codes "10100") (value R8 0x4516240185f15cea ∷ []) (codes "10000") ∷
    vector (with_a Op.Dec Q (reg R12)) (value R12 0xe98ac7d2ae076027 ∷ []) (codes "01010") (value R12 0xe98ac7d2ae076026 ∷ []) (codes "00010") ∷ []

-- logic and shifts
abbrev pub logic : List ProcessorStep
logic =
    vector (with_ab Op.And B (reg R12) (reg R14)) (value R12 0x2390def65907f211 ∷ value R14 0xfffffffbb15ae6f0 ∷ []) (codes "01110") (value R12 0x2390def65907f211 ∷ value R14 0xfffffffbb15ae610 ∷ []) (codes "00000") ∷
    vector (with_ab Op.Or B (reg R10) (reg R12)) (value R10 0xfaaaf87b982cd181 ∷ value R12 0x8ca5df6ee69cb017 ∷ []) (codes "11011") (value R10 0xfaaaf87b982cd181 ∷ value R12 0x8ca5df6ee69cb097 ∷ []) (codes "00010") ∷
    vector (with_ab Op.Xor B (reg R14) (reg Rbp)) (value Rbp 0xffffb39463c00959 ∷ value R14 0xffffffffffffff01 ∷ []) (codes "01111") (value Rbp 0xffffb39463c00958 ∷ value R14 0xffffffffffffff01 ∷ []) (codes "00000") ∷
    vector (with_ab Op.Test B (reg Rcx) (reg R12)) (value Rcx 0x710cd658718d9bfc ∷ value R12 0xffffffffffffccca ∷ []) (codes "10001") (value Rcx 0x710cd658718d9bfc ∷ value R12 0xffffffffffffccca ∷ []) (codes "00010") ∷
    vector (with_a Op.Not B (reg Rcx)) (value Rcx 0xffffffffffffffef ∷ []) (codes "01011") (value Rcx 0xffffffffffffff10 ∷ []) (codes "01011") ∷
    vector (with_ab Op.And W (reg Rcx) (reg Rax)) (value Rax 0xf0719bc300000001 ∷ value Rcx 0xfffffffffffcee66 ∷ []) (codes "00111") (value Rax 0xf0719bc300000000 ∷ value Rcx 0xfffffffffffcee66 ∷ []) (codes "01100") ∷
    vector (with_ab Op.Or W (reg R12) (reg R14)) (value R12 0x9163aba056337420 ∷ value R14 0x828653747a270001 ∷ []) (codes "10100") (value R12 0x9163aba056337420 ∷ value R14 0x828653747a277421 ∷ []) (codes "01000") ∷
    vector (with_ab Op.Xor W (reg R10) (reg Rdi)) (value Rdi 0xffffffffffff8001 ∷ value R10 0xfffffffffdf662b7 ∷ []) (codes "01110") (value Rdi 0xffffffffffffe2b6 ∷ value R10 0xfffffffffdf662b7 ∷ []) (codes "00010") ∷
    vector (with_ab Op.Test W (reg Rdi) (reg R8)) (value Rdi 0xdf914879e6bfe9dc ∷ value R8 0xffffffff80000000 ∷ []) (codes "10010") (value Rdi 0xdf914879e6bfe9dc ∷ value R8 0xffffffff80000000 ∷ []) (codes "01100") ∷
    vector (with_a Op.Not W (reg R12)) (value R12 0x184edc70ffffffff ∷ []) (codes "10001") (value R12 0x184edc70ffff0000 ∷ []) (codes "10001") ∷
    vector (with_ab Op.And L (reg R15) (reg Rsi)) (value Rsi 0xffffffffffff7fff ∷ value R15 0x7009cc32d9d1000f ∷ []) (codes "11101") (value Rsi 0xd9d1000f ∷ value R15 0x7009cc32d9d1000f ∷ []) (codes "01010") ∷
    vector (with_ab Op.Or L (reg R11) (reg Rdi)) (value Rdi 0xc9f7d1703b005626 ∷ value R11 0xfffffffffffffffd ∷ []) (codes "10101") (value Rdi 0xffffffff ∷ value R11 0xfffffffffffffffd ∷ []) (codes "01010") ∷
    vector (with_ab Op.Xor L (reg R15) (reg R14)) (value R14 0x38e4d9aab3900010 ∷ value R15 0xa75ad5680cc8266e ∷ []) (codes "11001") (value R14 0xbf58267e ∷ value R15 0xa75ad5680cc8266e ∷ []) (codes "01010") ∷
    vector (with_ab Op.Test L (reg R13) (reg R14)) (value R13 0xf2132dffffffff0 ∷ value R14 0xfffffffeffffffff ∷ []) (codes "01110") (value R13 0xf2132dffffffff0 ∷ value R14 0xfffffffeffffffff ∷ []) (codes "01010") ∷
    vector (with_a Op.Not L (reg Rcx)) (value Rcx 0x8000000000000001 ∷ []) (codes "01101") (value Rcx 0xfffffffe ∷ []) (codes "01101") ∷
    vector (with_ab Op.And Q (reg R10) (reg R8)) (value R8 0x2644784af03787df ∷ value R10 0xffffffffffffffef ∷ []) (codes "00111") (value R8 0x2644784af03787cf ∷ value R10 0xffffffffffffffef ∷ []) (codes "01000") ∷
    vector (with_ab Op.Or Q (reg R14) (reg Rsi)) (value Rsi 0xffffffffffffffe3 ∷ value R14 0x556eed29822961c5 ∷ []) (codes "10101") (value Rsi 0xffffffffffffffe7 ∷ value R14 0x556eed29822961c5 ∷ []) (codes "01010") ∷
    vector (with_ab Op.Xor Q (reg Rdi) (reg R14)) (value Rdi 0xfd7c8c04032c44eb ∷ value R14 0xfd7c8c04032c44eb ∷ []) (codes "00110") (value Rdi 0xfd7c8c04032c44eb ∷ value R14 0 ∷ []) (codes "01100") ∷
    vector (with_ab Op.Test Q (reg R15) (reg R11)) (value R11 0xffffffffffffff01 ∷ value R15 0xd4a26ba7f45848f4 ∷ []) (codes "00111") (value R11 0xffffffffffffff01 ∷ value R15 0xd4a26ba7f45848f4 ∷ []) (codes "01010") ∷
    vector (with_a Op.Not Q (reg R12)) (value R12 0x60ea8b6ec5923179 ∷ []) (codes "01000") (value R12 0x9f1574913a6dce86 ∷ []) (codes "01000") ∷
    vector (with_ab Op.Shl L (number (pos 127)) (reg R11)) (value R11 0xfffffffc44deed49 ∷ []) (codes "01100") (value R11 0x80000000 ∷ []) (codes "0101?") ∷
    vector (with_ab Op.Shr L (number (pos 255)) (reg Rsi)) (value Rsi 0xbf8174c63d57fe76 ∷ []) (codes "01110") (value Rsi 0 ∷ []) (codes "0110?") ∷
    vector (with_ab Op.Sar L (number (pos 2)) (reg R15)) (value R15 0xffffffffffff0000 ∷ []) (codes "11001") (value R15 0xffffc000 ∷ []) (codes "0101?") ∷
    vector (with_ab Op.Shl Q (number (pos 255)) (reg Rax)) (value Rax 0x6ce95f8ed2cd038a ∷ []) (codes "11110") (value Rax 0 ∷ []) (codes "1110?") ∷
    vector (with_ab Op.Shr Q (number (pos 129)) (reg R13)) (value R13 0x97ca4b12d6fd702a ∷ []) (codes "01001") (value R13 0x4be525896b7eb815 ∷ []) (codes "00001") ∷
    vector (with_ab Op.Sar Q (number (pos 2)) (reg Rdx)) (value Rdx 0xffc8324f10d1ccb1 ∷ []) (codes "11001") (value Rdx 0xfff20c93c434732c ∷ []) (codes "0001?") ∷ []

-- products and quotients
abbrev pub products : List ProcessorStep
products =
    vector (with_a Op.Imul1 L (reg Rcx)) (value Rax 0xfffffffc7275180f ∷ value Rcx 0x362a084bf585da04 ∷ value Rdx 0x593984ccfb6d7c7c ∷ []) (codes "11100") (value Rax 0x5b1c263c ∷ value Rcx 0x362a084bf585da04 ∷ value Rdx 0xfb50d046 ∷ []) (codes "1???1") ∷
    vector (with_a Op.Mul L (reg R13)) (value Rax 0xd7ab2d817d731b18 ∷ value Rdx 0xffffffffffff8001 ∷ value R13 0xfff083e6ca009b46 ∷ []) (codes "11101") (value Rax 0xeee0f090 ∷ value Rdx 0x62fd1f77 ∷ value R13 0xfff083e6ca009b46 ∷ []) (codes "1???1") ∷
    vector (with_a Op.Div L (reg Rsi)) (value Rax 0x9de8f2f9a51f44ae ∷ value Rdx 0xffffffff5ae0bb50 ∷ value Rsi 0x288441ed5ae0bb51 ∷ []) (codes "01111") (value Rax 0xfffffffe ∷ value Rdx 0x5ae0bb50 ∷ value Rsi 0x288441ed5ae0bb51 ∷ []) (codes "?????") ∷
    vector (with_a Op.Idiv L (reg R15)) (value Rax 0xffffffff00016c7a ∷ value Rdx 0x548ff92c00000000 ∷ value R15 0x825e120e0000fff1 ∷ []) (codes "11100") (value Rax 1 ∷ value Rdx 0x6c89 ∷ value R15 0x825e120e0000fff1 ∷ []) (codes "?????") ∷
    vector (with_ab Op.Imul2 L (reg R11) (reg Rcx)) (value Rcx 0xfffff2ec79e6f983 ∷ value R11 0xdd888eea849941d6 ∷ []) (codes "00110") (value Rcx 0x37b9d682 ∷ value R11 0xdd888eea849941d6 ∷ []) (codes "1???1") ∷
    vector (record { op = Op.Imul3; width = L; a = (number (negsuc 127)); b = (reg Rdx); c = (reg R11) }) (value Rdx 0xf412017289a334a7 ∷ value R11 0x6d0452640bd12134 ∷ []) (codes "10111") (value Rdx 0xf412017289a334a7 ∷ value R11 0x2e65ac80 ∷ []) (codes "1???1") ∷
    vector (with_a Op.Imul1 Q (reg R10)) (value Rax 0xe0f701d0752e3cfa ∷ value Rdx 0x63976f5714519cbf ∷ value R10 0xb6fd712f97d82989 ∷ []) (codes "00101") (value Rax 0x5bf50c340672abca ∷ value Rdx 0x8d9dfddcbe24783 ∷ value R10 0xb6fd712f97d82989 ∷ []) (codes "1???1") ∷
    vector (with_a Op.Mul Q (reg R14)) (value Rax 0xead0f22e8f5c2701 ∷ value Rdx 0x36dbb5f9d4df5676 ∷ value R14 0xffffffffffffff81 ∷ []) (codes "11100") (value Rax 0x8257dae6e148a681 ∷ value Rdx 0xead0f22e8f5c268c ∷ value R14 0xffffffffffffff81 ∷ []) (codes "1???1") ∷
    vector (with_a Op.Div Q (reg Rbp)) (value Rax 0xe251976a70d398a5 ∷ value Rdx 0x5a735a9ce2d46200 ∷ value Rbp 0x5a735a9ce2d46201 ∷ []) (codes "11000") (value Rax 0xffffffffffffffff ∷ value Rdx 0x3cc4f20753a7faa6 ∷ value Rbp 0x5a735a9ce2d46201 ∷ []) (codes "?????") ∷
    vector (with_a Op.Idiv Q (reg R11)) (value Rax 0xfea495ab01136967 ∷ value Rdx 0x1366a145cc688069 ∷ value R11 0x3788f2c2a1dc4db3 ∷ []) (codes "11101") (value Rax 0x596eb8877b8d4cf7 ∷ value Rdx 0x3788f2c2a1dc4db2 ∷ value R11 0x3788f2c2a1dc4db3 ∷ []) (codes "?????") ∷
    vector (with_ab Op.Imul2 Q (reg R14) (reg R10)) (value R10 0x4c6409d3d2488fc5 ∷ value R14 0x4e7d9c36fe702832 ∷ []) (codes "10100") (value R10 0xd07e622cc4d2dc7a ∷ value R14 0x4e7d9c36fe702832 ∷ []) (codes "1???1") ∷
    vector (record { op = Op.Imul3; width = Q; a = (number (pos 128)); b = (reg R13); c = (reg R11) }) (value R11 0xffffffffffff8000 ∷ value R13 0xda7cb9daffffffef ∷ []) (codes "00101") (value R11 0x3e5ced7ffffff780 ∷ value R13 0xda7cb9daffffffef ∷ []) (codes "1???1") ∷ []

-- conditions
abbrev pub conditions : List ProcessorStep
conditions =
    vector (with_ab (Op.Cmov Cond.O) L (reg R10) (reg R12)) (value R10 0xc003445aba47987d ∷ value R12 0xffffffffffff0000 ∷ []) (codes "11111") (value R10 0xc003445aba47987d ∷ value R12 0xba47987d ∷ []) (codes "11111") ∷
    vector (with_ab (Op.Cmov Cond.No) L (reg Rcx) (reg R8)) (value Rcx 0xf ∷ value R8 0xb48d5fdd8103a801 ∷ []) (codes "00010") (value Rcx 0xf ∷ value R8 0xf ∷ []) (codes "00010") ∷
    vector (with_ab (Op.Cmov Cond.B) L (reg R8) (reg Rbx)) (value Rbx 0xf9851200d72f00ff ∷ value R8 0x2ed93623e0db3 ∷ []) (codes "11011") (value Rbx 0x623e0db3 ∷ value R8 0x2ed93623e0db3 ∷ []) (codes "11011") ∷
    vector (with_ab (Op.Cmov Cond.Ae) L (reg R10) (reg Rsi)) (value Rsi 0x2f99 ∷ value R10 0xe9602c1500000081 ∷ []) (codes "00001") (value Rsi 0x81 ∷ value R10 0xe9602c1500000081 ∷ []) (codes "00001") ∷
    vector (with_ab (Op.Cmov Cond.E) L (reg Rdx) (reg R10)) (value Rdx 0x100 ∷ value R10 0x11743301c87500f1 ∷ []) (codes "01110") (value Rdx 0x100 ∷ value R10 0x100 ∷ []) (codes "01110") ∷
    vector (with_ab (Op.Cmov Cond.Ne) L (reg Rbp) (reg Rdx)) (value Rdx 0xa279145b84ebf37d ∷ value Rbp 0xfffffffffc2e1c8f ∷ []) (codes "01000") (value Rdx 0xfc2e1c8f ∷ value Rbp 0xfffffffffc2e1c8f ∷ []) (codes "01000") ∷
    vector (with_ab (Op.Cmov Cond.Be) L (reg R15) (reg Rbp)) (value Rbp 0x6b414fa054bff962 ∷ value R15 0xffffffffffffff01 ∷ []) (codes "00101") (value Rbp 0xffffff01 ∷ value R15 0xffffffffffffff01 ∷ []) (codes "00101") ∷
    vector (with_ab (Op.Cmov Cond.A) L (reg Rbx) (reg Rdi)) (value Rbx 0xffffffffffffffef ∷ value Rdi 0x8000 ∷ []) (codes "00000") (value Rbx 0xffffffffffffffef ∷ value Rdi 0xffffffef ∷ []) (codes "00000") ∷
    vector (with_ab (Op.Cmov Cond.S) L (reg R11) (reg Rdi)) (value Rdi 0x80 ∷ value R11 0xbb6781d0386d8c8b ∷ []) (codes "01111") (value Rdi 0x386d8c8b ∷ value R11 0xbb6781d0386d8c8b ∷ []) (codes "01111") ∷
    vector (with_ab (Op.Cmov Cond.Ns) L (reg Rdi) (reg R15)) (value Rdi 0x7d6e2da7fffffeff ∷ value R15 0xffffc67cef2003cb ∷ []) (codes "00100") (value Rdi 0x7d6e2da7fffffeff ∷ value R15 0xfffffeff ∷ []) (codes "00100") ∷
    vector (with_ab (Op.Cmov Cond.P) L (reg R11) (reg R12)) (value R11 0x7eae015f2b9454c0 ∷ value R12 0xfffdff7294274448 ∷ []) (codes "01111") (value R11 0x7eae015f2b9454c0 ∷ value R12 0x2b9454c0 ∷ []) (codes "01111") ∷
    vector (with_ab (Op.Cmov Cond.Np) L (reg Rcx) (reg Rdx)) (value Rcx 0x326529d3b2ff0500 ∷ value Rdx 0x18ee637e4b82ec77 ∷ []) (codes "00110") (value Rcx 0x326529d3b2ff0500 ∷ value Rdx 0xb2ff0500 ∷ []) (codes "00110") ∷
    vector (with_ab (Op.Cmov Cond.L) L (reg R15) (reg Rbp)) (value Rbp 0x7e ∷ value R15 0xffff ∷ []) (codes "11001") (value Rbp 0xffff ∷ value R15 0xffff ∷ []) (codes "11001") ∷
    vector (with_ab (Op.Cmov Cond.Ge) L (reg R8) (reg R10)) (value R8 0xffffffffffff0000 ∷ value R10 0x11b08530d37427cb ∷ []) (codes "00111") (value R8 0xffffffffffff0000 ∷ value R10 0xffff0000 ∷ []) (codes "00111") ∷
    vector (with_ab (Op.Cmov Cond.Le) L (reg R9) (reg R15)) (value R9 0x62799b65b877c201 ∷ value R15 0x95500562350001 ∷ []) (codes "00111") (value R9 0x62799b65b877c201 ∷ value R15 0xb877c201 ∷ []) (codes "00111") ∷
    vector (with_ab (Op.Cmov Cond.G) L (reg Rax) (reg R12)) (value Rax 0x64051259f073cada ∷ value R12 0x10000 ∷ []) (codes "11000") (value Rax 0x64051259f073cada ∷ value R12 0xf073cada ∷ []) (codes "11000") ∷
    vector (with_ab (Op.Cmov Cond.O) Q (reg Rcx) (reg R15)) (value Rcx 0xffffffff7fffffff ∷ value R15 0xffffffff80000001 ∷ []) (codes "11000") (value Rcx 0xffffffff7fffffff ∷ value R15 0xffffffff80000001 ∷ []) (codes "11000") ∷
    vector (with_ab (Op.Cmov Cond.No) Q (reg Rax) (reg R11)) (value Rax 0x67f0f6616ea599f2 ∷ value R11 0x4572c233cd0134b9 ∷ []) (codes "10101") (value Rax 0x67f0f6616ea599f2 ∷ value R11 0x4572c233cd0134b9 ∷ []) (codes "10101") ∷
    vector (with_ab (Op.Cmov Cond.B) Q (reg R12) (reg R11)) (value R11 0x6411decb ∷ value R12 0xffffffffffff8001 ∷ []) (codes "01100") (value R11 0x6411decb ∷ value R12 0xffffffffffff8001 ∷ []) (codes "01100") ∷
    vector (with_ab (Op.Cmov Cond.Ae) Q (reg Rbp) (reg Rcx)) (value Rcx 0xfffffff014272297 ∷ value Rbp 0x8618e7e400000001 ∷ []) (codes "10001") (value Rcx 0xfffffff014272297 ∷ value Rbp 0x8618e7e400000001 ∷ []) (codes "10001") ∷
    vector (with_ab (Op.Cmov Cond.E) Q (reg Rbx) (reg R13)) (value Rbx 0x1b0e ∷ value R13 0xfffffffffff9af62 ∷ []) (codes "11001") (value Rbx 0x1b0e ∷ value R13 0xfffffffffff9af62 ∷ []) (codes "11001") ∷
    vector (with_ab (Op.Cmov Cond.Ne) Q (reg R13) (reg R9)) (value R9 0xfffffffff89098c8 ∷ value R13 0x7f ∷ []) (codes "11100") (value R9 0xfffffffff89098c8 ∷ value R13 0x7f ∷ []) (codes "11100") ∷
    vector (with_ab (Op.Cmov Cond.Be) Q (reg R10) (reg Rbp)) (value Rbp 0x7f55016554ee3853 ∷ value R10 0x45be675d867caf0f ∷ []) (codes "01010") (value Rbp 0x7f55016554ee3853 ∷ value R10 0x45be675d867caf0f ∷ []) (codes "01010") ∷
    vector (with_ab (Op.Cmov Cond.A) Q (reg Rbp) (reg R8)) (value Rbp 0xfffffffffffffeff ∷ value R8 0x80 ∷ []) (codes "00101") (value Rbp 0xfffffffffffffeff ∷ value R8 0x80 ∷ []) (codes "00101") ∷
    vector (with_ab (Op.Cmov Cond.S) Q (reg Rdx) (reg Rbx)) (value Rdx 0x100 ∷ value Rbx 0x8000000000000000 ∷ []) (codes "10000") (value Rdx 0x100 ∷ value Rbx 0x8000000000000000 ∷ []) (codes "10000") ∷
    vector (with_ab (Op.Cmov Cond.Ns) Q (reg R15) (reg R8)) (value R8 0xb1fd9daf44581243 ∷ value R15 0xffffffff00000000 ∷ []) (codes "11110") (value R8 0xb1fd9daf44581243 ∷ value R15 0xffffffff00000000 ∷ []) (codes "11110") ∷
    vector (with_ab (Op.Cmov Cond.P) Q (reg R12) (reg Rdi)) (value Rdi 0x24fc04b25dd8a7e1 ∷ value R12 0x8a6957d8745bada0 ∷ []) (codes "10001") (value Rdi 0x24fc04b25dd8a7e1 ∷ value R12 0x8a6957d8745bada0 ∷ []) (codes "10001") ∷
    vector (with_ab (Op.Cmov Cond.Np) Q (reg R11) (reg Rdi)) (value Rdi 0xffffffff7fffffff ∷ value R11 0x6f54baed2ba93134 ∷ []) (codes "01001") (value Rdi 0xffffffff7fffffff ∷ value R11 0x6f54baed2ba93134 ∷ []) (codes "01001") ∷
    vector (with_ab (Op.Cmov Cond.L) Q (reg Rsi) (reg R15)) (value Rsi 0xfffffffffffeffff ∷ value R15 0xffffffff ∷ []) (codes "00111") (value Rsi 0xfffffffffffeffff ∷ value R15 0xffffffff ∷ []) (codes "00111") ∷
    vector (with_ab (Op.Cmov Cond.Ge) Q (reg R13) (reg R15)) (value R13 1 ∷ value R15 0xdd5fc0ca935ae08b ∷ []) (codes "10010") (value R13 1 ∷ value R15 0xdd5fc0ca935ae08b ∷ []) (codes "10010") ∷
    vector (with_ab (Op.Cmov Cond.Le) Q (reg Rdx) (reg Rdi)) (value Rdx 0x16ee3e3bf531e44 ∷ value Rdi 0xfffffffffffffff1 ∷ []) (codes "10000") (value Rdx 0x16ee3e3bf531e44 ∷ value Rdi 0xfffffffffffffff1 ∷ []) (codes "10000") ∷
    vector (with_ab (Op.Cmov Cond.G) Q (reg R15) (reg R10)) (value R10 0x97628ae742688000 ∷ value R15 0xff ∷ []) (codes "11111") (value R10 0x97628ae742688000 ∷ value R15 0xff ∷ []) (codes "11111") ∷
    vector (with_a (Op.Setcc Cond.O) B (reg R10)) (value R10 0xf657e9e0b2bcffff ∷ []) (codes "00101") (value R10 0xf657e9e0b2bcff01 ∷ []) (codes "00101") ∷
    vector (with_a (Op.Setcc Cond.O) B (reg R10)) (value R10 0x3ba02eb63eaefd39 ∷ []) (codes "11110") (value R10 0x3ba02eb63eaefd00 ∷ []) (codes "11110") ∷
    vector (with_a (Op.Setcc Cond.No) B (reg Rax)) (value Rax 0xcc59e50877589ab3 ∷ []) (codes "10110") (value Rax 0xcc59e50877589a01 ∷ []) (codes "10110") ∷
    vector (with_a (Op.Setcc Cond.No) B (reg Rax)) (value Rax 0x665c891431660000 ∷ []) (codes "11101") (value Rax 0x665c891431660000 ∷ []) (codes "11101") ∷
    vector (with_a (Op.Setcc Cond.B) B (reg Rax)) (value Rax 0xbfb79d2c1f6ef941 ∷ []) (codes "11111") (value Rax 0xbfb79d2c1f6ef901 ∷ []) (codes "11111") ∷
    vector (with_a (Op.Setcc Cond.B) B (reg Rax)) (value Rax 0xffffffff80000001 ∷ []) (codes "01001") (value Rax 0xffffffff80000000 ∷ []) (codes "01001") ∷
    vector (with_a (Op.Setcc Cond.Ae) B (reg Rbx)) (value Rbx 0x31c6f18c80000001 ∷ []) (codes "00011") (value Rbx 0x31c6f18c80000001 ∷ []) (codes "00011") ∷
    vector (with_a (Op.Setcc Cond.Ae) B (reg Rbx)) (value Rbx 0xfffffffffffffa1e ∷ []) (codes "10001") (value Rbx 0xfffffffffffffa00 ∷ []) (codes "10001") ∷
    vector (with_a (Op.Setcc Cond.E) B (reg R10)) (value R10 0x1f3f007716e89 ∷ []) (codes "00110") (value R10 0x1f3f007716e01 ∷ []) (codes "00110") ∷
    vector (with_a (Op.Setcc Cond.E) B (reg R10)) (value R10 0xffffffffffffffff ∷ []) (codes "00010") (value R10 0xffffffffffffff00 ∷ []) (codes "00010") ∷
    vector (with_a (Op.Setcc Cond.Ne) B (reg Rax)) (value Rax 0x1671831a3b ∷ []) (codes "10000") (value Rax 0x1671831a01 ∷ []) (codes "10000") ∷
    vector (with_a (Op.Setcc Cond.Ne) B (reg Rax)) (value Rax 0x47bcd2470000fffd ∷ []) (codes "00100") (value Rax 0x47bcd2470000ff00 ∷ []) (codes "00100") ∷
    vector (with_a (Op.Setcc Cond.Be) B (reg Rcx)) (value Rcx 0xfffffffffffffffe ∷ []) (codes "00101") (value Rcx 0xffffffffffffff01 ∷ []) (codes "00101") ∷
    vector (with_a (Op.Setcc Cond.Be) B (reg R14)) (value R14 0xff0a4af638466e34 ∷ []) (codes "00010") (value R14 0xff0a4af638466e00 ∷ []) (codes "00010") ∷
    vector (with_a (Op.Setcc Cond.A) B (reg Rax)) (value Rax 3 ∷ []) (codes "00011") (value Rax 1 ∷ []) (codes "00011") ∷
    vector (with_a (Op.Setcc Cond.A) B (reg Rax)) (value Rax 0xef5e0370ee354079 ∷ []) (codes "10001") (value Rax 0xef5e0370ee354000 ∷ []) (codes "10001") ∷
    vector (with_a (Op.Setcc Cond.S) B (reg R10)) (value R10 0xfffffffffffeffff ∷ []) (codes "10011") (value R10 0xfffffffffffeff01 ∷ []) (codes "10011") ∷
    vector (with_a (Op.Setcc Cond.S) B (reg R10)) (value R10 0x56e0dcb408f05ac2 ∷ []) (codes "11000") (value R10 0x56e0dcb408f05a00 ∷ []) (codes "11000") ∷
    vector (with_a (Op.Setcc Cond.Ns) B (reg Rcx)) (value Rcx 0x77316a8e00008001 ∷ []) (codes "11001") (value Rcx 0x77316a8e00008001 ∷ []) (codes "11001") ∷
    vector (with_a (Op.Setcc Cond.Ns) B (reg Rcx)) (value Rcx 0xffffffffffd37ea3 ∷ []) (codes "01010") (value Rcx 0xffffffffffd37e00 ∷ []) (codes "01010") ∷
    vector (with_a (Op.Setcc Cond.P) B (reg Rbx)) (value Rbx 0xfd951a035c4af989 ∷ []) (codes "11010") (value Rbx 0xfd951a035c4af901 ∷ []) (codes "11010") ∷
    vector (with_a (Op.Setcc Cond.P) B (reg Rbx)) (value Rbx 0xb1ec80ea0000ff81 ∷ []) (codes "00010") (value Rbx 0xb1ec80ea0000ff00 ∷ []) (codes "00010") ∷
    vector (with_a (Op.Setcc Cond.Np) B (reg R10)) (value R10 0xf0425bfb308d2dc4 ∷ []) (codes "00000") (value R10 0xf0425bfb308d2d01 ∷ []) (codes "00000") ∷
    vector (with_a (Op.Setcc Cond.Np) B (reg R10)) (value R10 0xb8574a635850bc00 ∷ []) (codes "11010") (value R10 0xb8574a635850bc00 ∷ []) (codes "11010") ∷
    vector (with_a (Op.Setcc Cond.L) B (reg R13)) (value R13 0x9a26092900000100 ∷ []) (codes "00010") (value R13 0x9a26092900000101 ∷ []) (codes "00010") ∷
    vector (with_a (Op.Setcc Cond.L) B (reg R13)) (value R13 0x80 ∷ []) (codes "11111") (value R13 0 ∷ []) (codes "11111") ∷
    vector (with_a (Op.Setcc Cond.Ge) B (reg R10)) (value R10 0x7fffffffffffffff ∷ []) (codes "00100") (value R10 0x7fffffffffffff01 ∷ []) (codes "00100") ∷
    vector (with_a (Op.Setcc Cond.Ge) B (reg R10)) (value R10 0xbfe5e3be6510ad29 ∷ []) (codes "10010") (value R10 0xbfe5e3be6510ad00 ∷ []) (codes "10010") ∷
    vector (with_a (Op.Setcc Cond.Le) B (reg R11)) (value R11 0xffffffff ∷ []) (codes "10100") (value R11 0xffffff01 ∷ []) (codes "10100") ∷
    vector (with_a (Op.Setcc Cond.G) B (reg Rcx)) (value Rcx 0x11d4430a801ae11c ∷ []) (codes "01000") (value Rcx 0x11d4430a801ae101 ∷ []) (codes "01000") ∷
    vector (with_a (Op.Setcc Cond.G) B (reg Rcx)) (value Rcx 0x8516abc94efb5c00 ∷ []) (codes "01110") (value Rcx 0x8516abc94efb5c00 ∷ []) (codes "01110") ∷ []
