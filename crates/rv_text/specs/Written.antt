-- The text of an instruction, of a word, and of a list of words (RISC-V Unprivileged ISA, "RV32/64G Instruction Set Listings").
use Rattle.std.specs.Prelude.{ℕ, ◌+◌, ◌-◌, ◌/◌, ◌%◌, ◌^◌, List, [], ◌∷◌, ◌++◌, Option, Some, None, codes, decimal, flat_map, nat_lt, if◌then◌else◌}
use Rattle.rv_isa.specs.declared.instructions.Instr.{Instr}
use Rattle.rv_isa.specs.declared.instructions.Instr.TheVariants.{Lui, Auipc, Jal, Jalr, Beq, Bne, Blt, Bge, Bltu, Bgeu, Lb, Lh, Lw, Lbu, Lhu, Sb, Sh, Sw, Addi, Slti, Sltiu, Xori, Ori, Andi, Slli, Srli, Srai, Add, Sll, Slt, Sltu, Xor, Srl, Or, And, Sub, Sra, Mul, Mulh, Mulhsu, Mulhu, Div, Divu, Rem, Remu, Fence, Ecall, Ebreak}
use Rattle.rv_isa.specs.Encoding.{decoded}
use Rattle.rv_isa.specs.Word.{extended}
use Rattle.rv_text.specs.declared.operands.Operand.{Operand}
use Rattle.rv_text.specs.declared.operands.Operand.TheVariants.{Register, Number, Address, Word}

-- the formats: registers alone; registers and a number; a register and an address
abbrev pub three : ℕ → ℕ → ℕ → List Operand
three a b c = Register a ∷ Register b ∷ Register c ∷ []

abbrev pub two_and_number : ℕ → ℕ → ℕ → List Operand
two_and_number a b x = Register a ∷ Register b ∷ Number x ∷ []

abbrev pub one_and_number : ℕ → ℕ → List Operand
one_and_number a x = Register a ∷ Number x ∷ []

abbrev pub one_and_address : ℕ → ℕ → ℕ → List Operand
one_and_address a x b = Register a ∷ Address x b ∷ []

-- the mnemonic and the operands of an instruction
abbrev pub Written : Type 0
Written = List ℕ × List Operand

abbrev pub written : Instr → Written
written (Lui rd upper) = (codes "lui", one_and_number rd upper)
written (Auipc rd upper) = (codes "auipc", one_and_number rd upper)
written (Jal rd offset) = (codes "jal", one_and_number rd offset)
written (Jalr rd rs1 imm) = (codes "jalr", one_and_address rd imm rs1)
written (Beq rs1 rs2 offset) = (codes "beq", two_and_number rs1 rs2 offset)
written (Bne rs1 rs2 offset) = (codes "bne", two_and_number rs1 rs2 offset)
written (Blt rs1 rs2 offset) = (codes "blt", two_and_number rs1 rs2 offset)
written (Bge rs1 rs2 offset) = (codes "bge", two_and_number rs1 rs2 offset)
written (Bltu rs1 rs2 offset) = (codes "bltu", two_and_number rs1 rs2 offset)
written (Bgeu rs1 rs2 offset) = (codes "bgeu", two_and_number rs1 rs2 offset)
written (Lb rd rs1 imm) = (codes "lb", one_and_address rd imm rs1)
written (Lh rd rs1 imm) = (codes "lh", one_and_address rd imm rs1)
written (Lw rd rs1 imm) = (codes "lw", one_and_address rd imm rs1)
written (Lbu rd rs1 imm) = (codes "lbu", one_and_address rd imm rs1)
written (Lhu rd rs1 imm) = (codes "lhu", one_and_address rd imm rs1)
written (Sb rs1 rs2 imm) = (codes "sb", one_and_address rs2 imm rs1)
written (Sh rs1 rs2 imm) = (codes "sh", one_and_address rs2 imm rs1)
written (Sw rs1 rs2 imm) = (codes "sw", one_and_address rs2 imm rs1)
written (Addi rd rs1 imm) = (codes "addi", two_and_number rd rs1 imm)
written (Slti rd rs1 imm) = (codes "slti", two_and_number rd rs1 imm)
written (Sltiu rd rs1 imm) = (codes "sltiu", two_and_number rd rs1 imm)
written (Xori rd rs1 imm) = (codes "xori", two_and_number rd rs1 imm)
written (Ori rd rs1 imm) = (codes "ori", two_and_number rd rs1 imm)
written (Andi rd rs1 imm) = (codes "andi", two_and_number rd rs1 imm)
written (Slli rd rs1 shamt) = (codes "slli", two_and_number rd rs1 shamt)
written (Srli rd rs1 shamt) = (codes "srli", two_and_number rd rs1 shamt)
written (Srai rd rs1 shamt) = (codes "srai", two_and_number rd rs1 shamt)
written (Add rd rs1 rs2) = (codes "add", three rd rs1 rs2)
written (Sll rd rs1 rs2) = (codes "sll", three rd rs1 rs2)
written (Slt rd rs1 rs2) = (codes "slt", three rd rs1 rs2)
written (Sltu rd rs1 rs2) = (codes "sltu", three rd rs1 rs2)
written (Xor rd rs1 rs2) = (codes "xor", three rd rs1 rs2)
written (Srl rd rs1 rs2) = (codes "srl", three rd rs1 rs2)
written (Or rd rs1 rs2) = (codes "or", three rd rs1 rs2)
written (And rd rs1 rs2) = (codes "and", three rd rs1 rs2)
written (Sub rd rs1 rs2) = (codes "sub", three rd rs1 rs2)
written (Sra rd rs1 rs2) = (codes "sra", three rd rs1 rs2)
written (Mul rd rs1 rs2) = (codes "mul", three rd rs1 rs2)
written (Mulh rd rs1 rs2) = (codes "mulh", three rd rs1 rs2)
written (Mulhsu rd rs1 rs2) = (codes "mulhsu", three rd rs1 rs2)
written (Mulhu rd rs1 rs2) = (codes "mulhu", three rd rs1 rs2)
written (Div rd rs1 rs2) = (codes "div", three rd rs1 rs2)
written (Divu rd rs1 rs2) = (codes "divu", three rd rs1 rs2)
written (Rem rd rs1 rs2) = (codes "rem", three rd rs1 rs2)
written (Remu rd rs1 rs2) = (codes "remu", three rd rs1 rs2)
written (Fence rd rs1 fields) = (codes "fence", two_and_number rd rs1 (extended 12 fields))
written Ecall = (codes "ecall", [])
written Ebreak = (codes "ebreak", [])

-- a word that is no instruction is written as a number
abbrev pub raw : ℕ → Written
raw w = (codes ".word", Word w ∷ [])

abbrev pub written_or_raw : Option Instr → ℕ → Written
written_or_raw None w = raw w
written_or_raw (Some i) w = written i

-- decimal digits of the number that a word is in two's complement
abbrev pub number_text : ℕ → List ℕ
number_text x = if nat_lt x (2 ^ 31) then decimal x else 0x2D ∷ decimal (2 ^ 32 - x)

abbrev pub register_text : ℕ → List ℕ
register_text n = 0x78 ∷ decimal n

abbrev pub hex_digit : ℕ → ℕ
hex_digit d = if nat_lt d 10 then 48 + d else 87 + d

-- eight hexadecimal digits
abbrev pub hexadecimal : ℕ → List ℕ
hexadecimal w =
    hex_digit (w / 2 ^ 28) ∷ hex_digit (w / 2 ^ 24 % 16) ∷ hex_digit (w / 2 ^ 20 % 16) ∷ hex_digit (w / 2 ^ 16 % 16)
    ∷ hex_digit (w / 2 ^ 12 % 16) ∷ hex_digit (w / 2 ^ 8 % 16) ∷ hex_digit (w / 2 ^ 4 % 16) ∷ hex_digit (w % 16) ∷ []

abbrev pub operand_text : Operand → List ℕ
operand_text (Register n) = register_text n
operand_text (Number x) = number_text x
operand_text (Address x n) = number_text x ++ codes "(" ++ register_text n ++ codes ")"
operand_text (Word w) = codes "0x" ++ hexadecimal w

-- a comma and a space stand between operands
abbrev pub further_text : List Operand → List ℕ
further_text [] = []
further_text (o ∷ os) = codes ", " ++ operand_text o ++ further_text os

-- a space stands before the operands
abbrev pub operands_text : List Operand → List ℕ
operands_text [] = []
operands_text (o ∷ os) = codes " " ++ operand_text o ++ further_text os

abbrev pub text : Written → List ℕ
text p = p.0 ++ operands_text p.1

-- the line of a word
abbrev pub line_of : ℕ → List ℕ
line_of w = text (written_or_raw (decoded w) w)

-- the lines of words, each with its line feed
abbrev pub listed : List ℕ → List ℕ
listed ws = flat_map (λ w. line_of w ++ 10 ∷ []) ws
