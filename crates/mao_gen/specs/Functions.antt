-- The text of one function: a head, one of four bodies and a tail, in which `K` stands for the function's number.
use Rattle.std.specs.Prelude.{ℕ, List, [], ◌∷◌, codes, ◌++◌, ◌==◌, if◌then◌else◌, decimal}
use Rattle.std.specs.List.{flat_map}
use Rattle.mao_gen.specs.declared.shape.Shape.{Shape}
use Rattle.mao_gen.specs.declared.shape.Shape.TheVariants.{Branch, Loads, Sums, Loop}

abbrev pub head : List ℕ
head = codes "\t.p2align\t4\n\t.globl\tgK\n\t.type\tgK, @function\ngK:\n"

abbrev pub body : Shape → List ℕ
body Branch = codes "\tsubl\t%esi, %edi\n\ttestl\t%edi, %edi\n\tje\t.LgK\n\tmovl\t$1, %eax\n\tret\n.LgK:\n\txorl\t%eax, %eax\n\tret\n"
body Loads = codes "\tmovq\t24(%rsp), %rdx\n\tmovq\t24(%rsp), %rcx\n\tleaq\t(%rdx,%rcx), %rax\n\tret\n"
body Sums = codes "\taddq\t$8, %rdi\n\taddq\t$16, %rdi\n\tmovq\t%rdi, %rax\n\tnop\n\tret\n"
body Loop = codes "\txorl\t%eax, %eax\n.LgK:\n\taddl\t%edi, %eax\n\tsubl\t$1, %edi\n\tjne\t.LgK\n\tret\n"

abbrev pub tail : List ℕ
tail = codes "\t.size\tgK, .-gK\n"

-- a byte, or the number in decimal for `K`
abbrev pub byte_or_number : ℕ → ℕ → List ℕ
byte_or_number k byte = if byte == 75 then decimal k else (byte ∷ [])

-- lines with the number in place of each `K`
unfoldable pub numbered : List ℕ → ℕ → List ℕ
numbered lines k = flat_map (byte_or_number k) lines

-- function k, whose body has this shape
abbrev pub function_text : ℕ → Shape → List ℕ
function_text k shape = numbered head k ++ numbered (body shape) k ++ numbered tail k
