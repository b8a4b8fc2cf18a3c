-- The names of the registers (SDM volume 1, "Basic Program Execution Registers", general-purpose registers in 64-bit mode).
use Rattle.std.specs.Prelude.{ℕ, List, [], ◌∷◌, Option, Some, None, codes, bytes_eq, option_map, if◌then◌else◌}
use Rattle.att_grammar.specs.Notions.{or_else}
use Rattle.insn_ir.specs.declared.op.Reg.{Reg}
use Rattle.insn_ir.specs.declared.op.Reg.TheVariants.{Rax, Rcx, Rdx, Rbx, Rsp, Rbp, Rsi, Rdi, R8, R9, R10, R11, R12, R13, R14, R15}
use Rattle.insn_ir.specs.declared.op.Width.{Width}
use Rattle.insn_ir.specs.declared.op.Width.TheVariants.{B, W, L, Q}

-- the name of a register at a width
abbrev pub register_name : Width → Reg → List ℕ
register_name Q Rax = codes "rax"
register_name Q Rcx = codes "rcx"
register_name Q Rdx = codes "rdx"
register_name Q Rbx = codes "rbx"
register_name Q Rsp = codes "rsp"
register_name Q Rbp = codes "rbp"
register_name Q Rsi = codes "rsi"
register_name Q Rdi = codes "rdi"
register_name Q R8 = codes "r8"
register_name Q R9 = codes "r9"
register_name Q R10 = codes "r10"
register_name Q R11 = codes "r11"
register_name Q R12 = codes "r12"
register_name Q R13 = codes "r13"
register_name Q R14 = codes "r14"
register_name Q R15 = codes "r15"
register_name L Rax = codes "eax"
register_name L Rcx = codes "ecx"
register_name L Rdx = codes "edx"
register_name L Rbx = codes "ebx"
register_name L Rsp = codes "esp"
register_name L Rbp = codes "ebp"
register_name L Rsi = codes "esi"
register_name L Rdi = codes "edi"
register_name L R8 = codes "r8d"
register_name L R9 = codes "r9d"
register_name L R10 = codes "r10d"
register_name L R11 = codes "r11d"
register_name L R12 = codes "r12d"
register_name L R13 = codes "r13d"
register_name L R14 = codes "r14d"
register_name L R15 = codes "r15d"
register_name W Rax = codes "ax"
register_name W Rcx = codes "cx"
register_name W Rdx = codes "dx"
register_name W Rbx = codes "bx"
register_name W Rsp = codes "sp"
register_name W Rbp = codes "bp"
register_name W Rsi = codes "si"
register_name W Rdi = codes "di"
register_name W R8 = codes "r8w"
register_name W R9 = codes "r9w"
register_name W R10 = codes "r10w"
register_name W R11 = codes "r11w"
register_name W R12 = codes "r12w"
register_name W R13 = codes "r13w"
register_name W R14 = codes "r14w"
register_name W R15 = codes "r15w"
register_name B Rax = codes "al"
register_name B Rcx = codes "cl"
register_name B Rdx = codes "dl"
register_name B Rbx = codes "bl"
register_name B Rsp = codes "spl"
register_name B Rbp = codes "bpl"
register_name B Rsi = codes "sil"
register_name B Rdi = codes "dil"
register_name B R8 = codes "r8b"
register_name B R9 = codes "r9b"
register_name B R10 = codes "r10b"
register_name B R11 = codes "r11b"
register_name B R12 = codes "r12b"
register_name B R13 = codes "r13b"
register_name B R14 = codes "r14b"
register_name B R15 = codes "r15b"

abbrev pub registers : List Reg
registers = Rax ∷ Rcx ∷ Rdx ∷ Rbx ∷ Rsp ∷ Rbp ∷ Rsi ∷ Rdi ∷ R8 ∷ R9 ∷ R10 ∷ R11 ∷ R12 ∷ R13 ∷ R14 ∷ R15 ∷ []

abbrev pub register_among : List Reg → Width → List ℕ → Option Reg
register_among [] width name = None
register_among (r ∷ rs) width name = if bytes_eq (register_name width r) name then Some r else register_among rs width name

-- the register that has a name at a width
unfoldable pub register_at : Width → List ℕ → Option Reg
register_at width name = register_among registers width name

abbrev pub with_width : Width → Reg → Reg × Width
with_width width r = (r, width)

-- the register and the width of a name
unfoldable pub register_named : List ℕ → Option (Reg × Width)
register_named name =
    or_else (option_map (with_width Q) (register_at Q name))
    (or_else (option_map (with_width L) (register_at L name))
    (or_else (option_map (with_width W) (register_at W name))
    (option_map (with_width B) (register_at B name))))
