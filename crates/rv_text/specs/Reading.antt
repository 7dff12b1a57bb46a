-- What a line of assembly text spells: a mnemonic, then operands with commas between them, then a comment behind `#`.
use Rattle.std.specs.Prelude.{ℕ, ◌+◌, ◌-◌, ◌%◌, ◌^◌, ◌<◌, List, [], ◌∷◌, map, length, drop, Bool, true, false, not, ◌&&◌, ◌||◌, ◌==◌, nat_le, nat_lt, if◌then◌else◌, Option, Some, None, option_map, option_and_then, bytes_eq, codes, take_while, slice_index}
use Rattle.std.specs.List.{list_all, prefix_len, position_or_len, before_first, slice_split}
use Rattle.std.specs.Char.{is_digit}
use Rattle.std.specs.Str.Parse.{digits_value}
use Rattle.rv_isa.specs.declared.instructions.Instr.{Instr}
use Rattle.rv_isa.specs.declared.instructions.Instr.TheVariants.{Lui, Auipc, Jal, Jalr, Beq, Bne, Blt, Bge, Bltu, Bgeu, Lb, Lh, Lw, Lbu, Lhu, Sb, Sh, Sw, Addi, Slti, Sltiu, Xori, Ori, Andi, Slli, Srli, Srai, Add, Sll, Slt, Sltu, Xor, Srl, Or, And, Sub, Sra, Mul, Mulh, Mulhsu, Mulhu, Div, Divu, Rem, Remu, Fence, Ecall, Ebreak}
use Rattle.rv_isa.specs.Encoding.{word}
use Rattle.rv_text.specs.declared.operands.Operand.{Operand}
use Rattle.rv_text.specs.declared.operands.Operand.TheVariants.{Register, Number, Address, Word}
use Rattle.rv_text.specs.declared.lines.Line.{Line}
use Rattle.rv_text.specs.declared.lines.Line.TheVariants.{Blank, Spells, Wrong}

-- blanks are space and tab
abbrev pub is_blank : ℕ → Bool
is_blank b = b == 0x20 || b == 0x09

-- a text without the blanks that it begins with
abbrev pub unindented : List ℕ → List ℕ
unindented s = drop (prefix_len is_blank s) s

-- the digits that a text begins with, and what stands behind them
abbrev pub leading : ℕ → List ℕ → List ℕ
leading radix s = take_while (λ b. is_digit b radix) s

abbrev pub behind : ℕ → List ℕ → List ℕ
behind radix s = drop (prefix_len (λ b. is_digit b radix) s) s

-- what a reader makes of a text: a value, and the text behind it
abbrev pub Read : Type 0
Read = Option (ℕ × List ℕ)

-- a register is x and a number below 32 without leading zeros
abbrev pub is_register : List ℕ → Bool
is_register ds = nat_lt 0 (length ds) && (length ds == 1 || not (slice_index ds 0 == 0x30)) && nat_lt (digits_value 10 ds) 32

abbrev pub register : List ℕ → Read
register [] = None
register (b ∷ s) = if b == 0x78 && is_register (leading 10 s) then Some (digits_value 10 (leading 10 s), behind 10 s) else None

-- a number is decimal digits, with one `-` before them or none; it stands as a word in two's complement. No field has room for one of 2^21
abbrev pub unsigned : List ℕ → Read
unsigned s = if nat_lt 0 (length (leading 10 s)) && nat_lt (digits_value 10 (leading 10 s)) (2 ^ 21) then Some (digits_value 10 (leading 10 s), behind 10 s) else None

abbrev pub opposite : ℕ → ℕ
opposite x = (2 ^ 32 - x) % 2 ^ 32

abbrev pub number : List ℕ → Read
number [] = None
number (b ∷ s) = if b == 0x2D then option_map (λ r. (opposite r.0, r.1)) (unsigned s) else unsigned (b ∷ s)

-- behind 0x a word has one to eight hexadecimal digits
abbrev pub hexadecimal_word : List ℕ → Read
hexadecimal_word s = if nat_lt 0 (length (leading 16 s)) && nat_le (length (leading 16 s)) 8 then Some (digits_value 16 (leading 16 s), behind 16 s) else None

-- what was read, where nothing but blanks stands behind it
abbrev pub ended : Read → Option ℕ
ended None = None
ended (Some r) = if list_all is_blank r.1 then Some r.0 else None

-- a register before a closing bracket
abbrev pub closed_at : ℕ → List ℕ → Read
closed_at n [] = None
closed_at n (b ∷ s) = if b == 0x29 then Some (n, s) else None

abbrev pub closed : Read → Read
closed None = None
closed (Some r) = closed_at r.0 (unindented r.1)

-- a number, or an address, which is a number and a register in brackets
abbrev pub by_bracket : ℕ → List ℕ → Option Operand
by_bracket x [] = Some (Number x)
by_bracket x (b ∷ s) = if b == 0x28 then option_map (Address x) (ended (closed (register (unindented s)))) else None

abbrev pub number_or_address : Read → Option Operand
number_or_address None = None
number_or_address (Some r) = by_bracket r.0 (unindented r.1)

-- an operand is told by how it begins: a register by x, a word by 0x
abbrev pub by_prefix : ℕ → List ℕ → Option Operand
by_prefix b [] = number_or_address (number (b ∷ []))
by_prefix b (c ∷ s) = if b == 0x30 && c == 0x78 then option_map Word (ended (hexadecimal_word s)) else number_or_address (number (b ∷ c ∷ s))

abbrev pub operand_at : List ℕ → Option Operand
operand_at [] = None
operand_at (b ∷ s) = if b == 0x78 then option_map Register (ended (register (b ∷ s))) else by_prefix b s

abbrev pub operand : List ℕ → Option Operand
operand s = operand_at (unindented s)

abbrev pub all_of : List (Option Operand) → Option (List Operand)
all_of [] = Some []
all_of (None ∷ os) = None
all_of (Some o ∷ os) = option_map (λ more. o ∷ more) (all_of os)

-- registers are numbered from 0 to 31
abbrev pub IsNumbered : Operand → Type 0
IsNumbered (Register n) = n < 32
IsNumbered (Number x) = Unit {0}
IsNumbered (Address x n) = n < 32
IsNumbered (Word w) = Unit {0}

-- commas part the operands
abbrev pub parted : List ℕ → Option (List Operand)
parted s = all_of (map operand (slice_split (λ b. b == 0x2C) s))

abbrev pub operands : List ℕ → Option (List Operand)
operands [] = Some []
operands (b ∷ s) = parted (b ∷ s)

-- the instructions of a format with these operands, and their mnemonics
abbrev pub Rows : Type 0
Rows = List (List ℕ × Instr)

abbrev pub alone : Rows
alone = (codes "ecall", Ecall) ∷ (codes "ebreak", Ebreak) ∷ []

abbrev pub registers : ℕ → ℕ → ℕ → Rows
registers d a b =
    (codes "add", Add d a b) ∷ (codes "sub", Sub d a b) ∷ (codes "sll", Sll d a b) ∷ (codes "slt", Slt d a b) ∷ (codes "sltu", Sltu d a b)
    ∷ (codes "xor", Xor d a b) ∷ (codes "srl", Srl d a b) ∷ (codes "sra", Sra d a b) ∷ (codes "or", Or d a b) ∷ (codes "and", And d a b)
    ∷ (codes "mul", Mul d a b) ∷ (codes "mulh", Mulh d a b) ∷ (codes "mulhsu", Mulhsu d a b) ∷ (codes "mulhu", Mulhu d a b)
    ∷ (codes "div", Div d a b) ∷ (codes "divu", Divu d a b) ∷ (codes "rem", Rem d a b) ∷ (codes "remu", Remu d a b) ∷ []

abbrev pub immediates : ℕ → ℕ → ℕ → Rows
immediates d a x =
    (codes "addi", Addi d a x) ∷ (codes "slti", Slti d a x) ∷ (codes "sltiu", Sltiu d a x) ∷ (codes "xori", Xori d a x)
    ∷ (codes "ori", Ori d a x) ∷ (codes "andi", Andi d a x) ∷ (codes "fence", Fence d a (x % 2 ^ 12)) ∷ []

abbrev pub shifts : ℕ → ℕ → ℕ → Rows
shifts d a x = (codes "slli", Slli d a x) ∷ (codes "srli", Srli d a x) ∷ (codes "srai", Srai d a x) ∷ []

abbrev pub branches : ℕ → ℕ → ℕ → Rows
branches a b x =
    (codes "beq", Beq a b x) ∷ (codes "bne", Bne a b x) ∷ (codes "blt", Blt a b x) ∷ (codes "bge", Bge a b x)
    ∷ (codes "bltu", Bltu a b x) ∷ (codes "bgeu", Bgeu a b x) ∷ []

-- loads, stores and jalr, with a first register r and the address x(a)
abbrev pub addressed : ℕ → ℕ → ℕ → Rows
addressed r x a =
    (codes "lb", Lb r a x) ∷ (codes "lh", Lh r a x) ∷ (codes "lw", Lw r a x) ∷ (codes "lbu", Lbu r a x) ∷ (codes "lhu", Lhu r a x)
    ∷ (codes "sb", Sb a r x) ∷ (codes "sh", Sh a r x) ∷ (codes "sw", Sw a r x) ∷ (codes "jalr", Jalr r a x) ∷ []

abbrev pub jumps : ℕ → ℕ → Rows
jumps d x = (codes "jal", Jal d x) ∷ []

abbrev pub uppers : ℕ → ℕ → Rows
uppers d x = (codes "lui", Lui d x) ∷ (codes "auipc", Auipc d x) ∷ []

-- the instruction of a mnemonic, where the rows have it
abbrev pub named : Rows → List ℕ → Option Instr
named [] name = None
named (row ∷ rows) name = if bytes_eq row.0 name then Some row.1 else named rows name

-- a number in two's complement of b bits
abbrev pub fits : ℕ → ℕ → Bool
fits b x = nat_lt ((x + 2 ^ (b - 1)) % 2 ^ 32) (2 ^ b)

abbrev pub is_offset : ℕ → ℕ → Bool
is_offset b x = fits b x && (x % 2 == 0)

-- the rows, where the number is in the field's range
abbrev pub where_in : Bool → Rows → Rows
where_in true rows = rows
where_in false rows = []

abbrev pub or_else : Option Instr → Option Instr → Option Instr
or_else (Some i) o = Some i
or_else None o = o

-- a register and a number; two registers and a number; a register and an address; three registers
abbrev pub with_number : List ℕ → ℕ → ℕ → Option Instr
with_number name a x =
    or_else (named (where_in (is_offset 21 x) (jumps a x)) name) (named (where_in (nat_lt x (2 ^ 20)) (uppers a x)) name)

abbrev pub with_two_and_number : List ℕ → ℕ → ℕ → ℕ → Option Instr
with_two_and_number name a b x =
    or_else (named (where_in (fits 12 x) (immediates a b x)) name)
    (or_else (named (where_in (nat_lt x 32) (shifts a b x)) name) (named (where_in (is_offset 13 x) (branches a b x)) name))

abbrev pub with_address : List ℕ → ℕ → ℕ → ℕ → Option Instr
with_address name a x b = named (where_in (fits 12 x) (addressed a x b)) name

-- the instruction with this mnemonic and these operands
abbrev pub instruction : List ℕ → List Operand → Option Instr
instruction name [] = named alone name
instruction name (Register a ∷ Number x ∷ []) = with_number name a x
instruction name (Register a ∷ Address x b ∷ []) = with_address name a x b
instruction name (Register a ∷ Register b ∷ Register c ∷ []) = named (registers a b c) name
instruction name (Register a ∷ Register b ∷ Number x ∷ []) = with_two_and_number name a b x
instruction name os = None

-- the word with this mnemonic and these operands
abbrev pub word_in : List ℕ → List Operand → Option ℕ
word_in name (Word w ∷ []) = if bytes_eq name (codes ".word") then Some w else None
word_in name os = option_map word (instruction name os)

abbrev pub spelled : Option ℕ → Line
spelled None = Wrong
spelled (Some w) = Spells w

-- the mnemonic ends at the first blank
abbrev pub line_at : List ℕ → Line
line_at [] = Blank
line_at (b ∷ s) =
    let t = b ∷ s in spelled (option_and_then (word_in (before_first is_blank t)) (operands (unindented (drop (position_or_len is_blank t) t))))

-- what a line says
abbrev pub line_read : List ℕ → Line
line_read line = line_at (unindented (before_first (λ b. b == 0x23) line))
