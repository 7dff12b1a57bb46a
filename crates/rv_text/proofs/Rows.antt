-- What is written of an instruction or a word is read as that word.
use Rattle.std.proofs.Common.{◌≡◌, ℕ, ◌+◌, ◌-◌, ◌%◌, ◌^◌, ◌<◌, ◌≤◌, List, [], ◌∷◌, length, Bool, true, false, ◌&&◌, not, refl, ap, ◌∙◌, subst, arith, Option, Some, None}
use Rattle.std.proofs.lemmas.Bool.Decides.{nat_tests}
use Rattle.std.specs.Prelude.{codes, nat_lt, nat_le, option_map, ◌==◌}
use Rattle.std.specs.List.{list_all}
use Rattle.rv_isa.specs.declared.instructions.Instr.{Instr}
use Rattle.rv_isa.specs.declared.instructions.Instr.TheVariants.{Lui, Auipc, Jal, Jalr, Beq, Bne, Blt, Bge, Bltu, Bgeu, Lb, Lh, Lw, Lbu, Lhu, Sb, Sh, Sw, Addi, Slti, Sltiu, Xori, Ori, Andi, Slli, Srli, Srai, Add, Sll, Slt, Sltu, Xor, Srl, Or, And, Sub, Sra, Mul, Mulh, Mulhsu, Mulhu, Div, Divu, Rem, Remu, Fence, Ecall, Ebreak}
use Rattle.rv_isa.specs.Word.{extended}
use Rattle.rv_isa.specs.Encoding.{word, decoded, InRange, IsSigned, IsImmediate, IsBranch, AreThree}
use Rattle.rv_isa.specs.Laws.Again.{word-decoded, word-range}
use Rattle.rv_text.specs.declared.operands.Operand.{Operand}
use Rattle.rv_text.specs.declared.operands.Operand.TheVariants.{Register, Number, Address, Word}
use Rattle.rv_text.specs.Written.{Written, written, written_or_raw, raw, three, two_and_number, one_and_number, one_and_address}
use Rattle.rv_text.specs.Reading.{Rows, named, where_in, or_else, fits, is_offset, registers, immediates, shifts, branches, addressed, jumps, uppers, word_in}
use Rattle.rv_text.proofs.Runs.{below}

-- bytes of names and operands: no blank, no comma, no `#`, no end of line
abbrev pub is_plain : ℕ → Bool
is_plain b = nat_le 40 b && not (b == 44)

-- an operand that a listing may have
abbrev pub IsGood : Operand → Type 0
IsGood (Register n) = n < 32
IsGood (Number x) = IsSigned 21 x
IsGood (Address x n) = IsSigned 21 x × (n < 32)
IsGood (Word w) = w < 2 ^ 32

abbrev pub AreGood : List Operand → Type 0
AreGood [] = Unit {0}
AreGood (o ∷ os) = IsGood o × AreGood os

-- how many bytes operands take at most
abbrev pub room : List Operand → ℕ
room [] = 0
room (Register n ∷ os) = 5 + room os
room (Number x ∷ os) = 10 + room os
room (Address x n ∷ os) = 15 + room os
room (Word w ∷ os) = 12 + room os

abbrev pub is_name : List ℕ → Bool
is_name name = list_all is_plain name && (nat_lt 0 (length name) && nat_le (length name) 6)

pub record Spelt (p : Written) (w : ℕ) : Type 0 where
  pub name_is : is_name p.0 ≡ true
  pub good : AreGood p.1
  pub short : room p.1 ≤ 20
  pub word_is : word_in p.0 p.1 ≡ Some w

fits_in : (b x : ℕ) → IsSigned b x → fits b x ≡ true
fits_in b x h = below ((x + 2 ^ (b - 1)) % 2 ^ 32) (2 ^ b) h.1

offset_in : (b x : ℕ) → IsSigned b x → x % 2 ≡ 0 → is_offset b x ≡ true
offset_in b x h e = rw (fits_in b x h, e) refl

wider : (x : ℕ) → IsSigned 12 x → IsSigned 21 x
wider x h = (h.0, omega arith)

wider13 : (x : ℕ) → IsSigned 13 x → IsSigned 21 x
wider13 x h = (h.0, omega arith)

low : (x : ℕ) → x < 2 ^ 20 → IsSigned 21 x
low x h = (omega arith, omega arith)

skipped : (t : Bool) (rows : Rows) (name : List ℕ) → named rows name ≡ None → named (where_in t rows) name ≡ None
skipped true rows name h = h
skipped false rows name h = refl

taken : (t : Bool) (rows : Rows) (name : List ℕ) (i : Instr) → t ≡ true → named rows name ≡ Some i → named (where_in t rows) name ≡ Some i
taken t rows name i e h = ap (λ b. named (where_in b rows) name) e ∙ h

three_ok : (name : List ℕ) (i : Instr) (a b c : ℕ) → is_name name ≡ true → AreThree a b c → named (registers a b c) name ≡ Some i → Spelt (name, three a b c) (word i)
three_ok name i a b c n h e = record { name_is = n; good = (h.0, (h.1, (h.2, tt))); short = omega arith; word_is = ap (option_map word) e }

immediate_ok : (name : List ℕ) (i : Instr) (a b x : ℕ) → is_name name ≡ true → IsImmediate a b x → named (immediates a b x) name ≡ Some i → Spelt (name, two_and_number a b x) (word i)
immediate_ok name i a b x n h e = record {
  name_is = n;
  good = (h.0, (h.1, (wider x h.2, tt)));
  short = omega arith;
  word_is = ap (λ o. option_map word (or_else o (or_else (named (where_in (nat_lt x 32) (shifts a b x)) name) (named (where_in (is_offset 13 x) (branches a b x)) name)))) (taken (fits 12 x) (immediates a b x) name i (fits_in 12 x h.2) e);
}

shift_ok : (name : List ℕ) (i : Instr) (a b x : ℕ) → is_name name ≡ true → AreThree a b x → named (immediates a b x) name ≡ None → named (shifts a b x) name ≡ Some i → Spelt (name, two_and_number a b x) (word i)
shift_ok name i a b x n h none e = record {
  name_is = n;
  good = (h.0, (h.1, (low x (omega (arith, h.2)), tt)));
  short = omega arith;
  word_is = λ k. option_map word (or_else (skipped (fits 12 x) (immediates a b x) name none k) (or_else (taken (nat_lt x 32) (shifts a b x) name i (below x 32 h.2) e k) (named (where_in (is_offset 13 x) (branches a b x)) name)));
}

branch_ok : (name : List ℕ) (i : Instr) (a b x : ℕ) → is_name name ≡ true → IsBranch a b x → named (immediates a b x) name ≡ None → named (shifts a b x) name ≡ None → named (branches a b x) name ≡ Some i → Spelt (name, two_and_number a b x) (word i)
branch_ok name i a b x n h none none2 e = record {
  name_is = n;
  good = (h.0, (h.1, (wider13 x h.2, tt)));
  short = omega arith;
  word_is = λ k. option_map word (or_else (skipped (fits 12 x) (immediates a b x) name none k) (or_else (skipped (nat_lt x 32) (shifts a b x) name none2 k) (taken (is_offset 13 x) (branches a b x) name i (offset_in 13 x h.2 h.3) e k)));
}

address_ok : (name : List ℕ) (i : Instr) (r x a : ℕ) → is_name name ≡ true → r < 32 → a < 32 → IsSigned 12 x → named (addressed r x a) name ≡ Some i → Spelt (name, one_and_address r x a) (word i)
address_ok name i r x a n p q h e = record {
  name_is = n;
  good = (p, ((wider x h, q), tt));
  short = omega arith;
  word_is = ap (option_map word) (taken (fits 12 x) (addressed r x a) name i (fits_in 12 x h) e);
}

jump_ok : (d x : ℕ) → d < 32 → IsSigned 21 x → x % 2 ≡ 0 → Spelt (codes "jal", one_and_number d x) (word (Jal d x))
jump_ok d x p h e = record {
  name_is = refl;
  good = (p, (h, tt));
  short = omega arith;
  word_is = ap (λ o. option_map word (or_else o (named (where_in (nat_lt x (2 ^ 20)) (uppers d x)) (codes "jal")))) (taken (is_offset 21 x) (jumps d x) (codes "jal") (Jal d x) (offset_in 21 x h e) refl);
}

upper_ok : (name : List ℕ) (i : Instr) (d x : ℕ) → is_name name ≡ true → d < 32 → x < 2 ^ 20 → named (jumps d x) name ≡ None → named (uppers d x) name ≡ Some i → Spelt (name, one_and_number d x) (word i)
upper_ok name i d x n p h none e = record {
  name_is = n;
  good = (p, (low x h, tt));
  short = omega arith;
  word_is = λ k. option_map word (or_else (skipped (is_offset 21 x) (jumps d x) name none k) (taken (nat_lt x (2 ^ 20)) (uppers d x) name i (below x (2 ^ 20) h) e k));
}

signed12 : (x : ℕ) → x < 4096 → IsSigned 12 (extended 12 x)
signed12 x h = (grind (arith, nat_tests), grind (arith, nat_tests))

low12 : (x : ℕ) → x < 4096 → extended 12 x % 4096 ≡ x
low12 x h = grind (arith, nat_tests)

fence_ok : (d a x : ℕ) → d < 32 → a < 32 → x < 2 ^ 12 → Spelt (codes "fence", two_and_number d a (extended 12 x)) (word (Fence d a x))
fence_ok d a x p q h = subst (λ f. Spelt (codes "fence", two_and_number d a (extended 12 x)) (word (Fence d a f))) (low12 x h)
    (immediate_ok (codes "fence") (Fence d a (extended 12 x % 2 ^ 12)) d a (extended 12 x) refl (p, q, signed12 x h) refl)

spelt : (i : Instr) → InRange i → Spelt (written i) (word i)
spelt (Lui d x) h = upper_ok (codes "lui") (Lui d x) d x refl h.0 h.1 refl refl
spelt (Auipc d x) h = upper_ok (codes "auipc") (Auipc d x) d x refl h.0 h.1 refl refl
spelt (Jal d x) h = jump_ok d x h.0 h.1 h.2
spelt (Jalr d a x) h = address_ok (codes "jalr") (Jalr d a x) d x a refl h.0 h.1 h.2 refl
spelt (Beq a b x) h = branch_ok (codes "beq") (Beq a b x) a b x refl h refl refl refl
spelt (Bne a b x) h = branch_ok (codes "bne") (Bne a b x) a b x refl h refl refl refl
spelt (Blt a b x) h = branch_ok (codes "blt") (Blt a b x) a b x refl h refl refl refl
spelt (Bge a b x) h = branch_ok (codes "bge") (Bge a b x) a b x refl h refl refl refl
spelt (Bltu a b x) h = branch_ok (codes "bltu") (Bltu a b x) a b x refl h refl refl refl
spelt (Bgeu a b x) h = branch_ok (codes "bgeu") (Bgeu a b x) a b x refl h refl refl refl
spelt (Lb d a x) h = address_ok (codes "lb") (Lb d a x) d x a refl h.0 h.1 h.2 refl
spelt (Lh d a x) h = address_ok (codes "lh") (Lh d a x) d x a refl h.0 h.1 h.2 refl
spelt (Lw d a x) h = address_ok (codes "lw") (Lw d a x) d x a refl h.0 h.1 h.2 refl
spelt (Lbu d a x) h = address_ok (codes "lbu") (Lbu d a x) d x a refl h.0 h.1 h.2 refl
spelt (Lhu d a x) h = address_ok (codes "lhu") (Lhu d a x) d x a refl h.0 h.1 h.2 refl
spelt (Sb a b x) h = address_ok (codes "sb") (Sb a b x) b x a refl h.1 h.0 h.2 refl
spelt (Sh a b x) h = address_ok (codes "sh") (Sh a b x) b x a refl h.1 h.0 h.2 refl
spelt (Sw a b x) h = address_ok (codes "sw") (Sw a b x) b x a refl h.1 h.0 h.2 refl
spelt (Addi d a x) h = immediate_ok (codes "addi") (Addi d a x) d a x refl h refl
spelt (Slti d a x) h = immediate_ok (codes "slti") (Slti d a x) d a x refl h refl
spelt (Sltiu d a x) h = immediate_ok (codes "sltiu") (Sltiu d a x) d a x refl h refl
spelt (Xori d a x) h = immediate_ok (codes "xori") (Xori d a x) d a x refl h refl
spelt (Ori d a x) h = immediate_ok (codes "ori") (Ori d a x) d a x refl h refl
spelt (Andi d a x) h = immediate_ok (codes "andi") (Andi d a x) d a x refl h refl
spelt (Slli d a x) h = shift_ok (codes "slli") (Slli d a x) d a x refl h refl refl
spelt (Srli d a x) h = shift_ok (codes "srli") (Srli d a x) d a x refl h refl refl
spelt (Srai d a x) h = shift_ok (codes "srai") (Srai d a x) d a x refl h refl refl
spelt (Add d a b) h = three_ok (codes "add") (Add d a b) d a b refl h refl
spelt (Sll d a b) h = three_ok (codes "sll") (Sll d a b) d a b refl h refl
spelt (Slt d a b) h = three_ok (codes "slt") (Slt d a b) d a b refl h refl
spelt (Sltu d a b) h = three_ok (codes "sltu") (Sltu d a b) d a b refl h refl
spelt (Xor d a b) h = three_ok (codes "xor") (Xor d a b) d a b refl h refl
spelt (Srl d a b) h = three_ok (codes "srl") (Srl d a b) d a b refl h refl
spelt (Or d a b) h = three_ok (codes "or") (Or d a b) d a b refl h refl
spelt (And d a b) h = three_ok (codes "and") (And d a b) d a b refl h refl
spelt (Sub d a b) h = three_ok (codes "sub") (Sub d a b) d a b refl h refl
spelt (Sra d a b) h = three_ok (codes "sra") (Sra d a b) d a b refl h refl
spelt (Mul d a b) h = three_ok (codes "mul") (Mul d a b) d a b refl h refl
spelt (Mulh d a b) h = three_ok (codes "mulh") (Mulh d a b) d a b refl h refl
spelt (Mulhsu d a b) h = three_ok (codes "mulhsu") (Mulhsu d a b) d a b refl h refl
spelt (Mulhu d a b) h = three_ok (codes "mulhu") (Mulhu d a b) d a b refl h refl
spelt (Div d a b) h = three_ok (codes "div") (Div d a b) d a b refl h refl
spelt (Divu d a b) h = three_ok (codes "divu") (Divu d a b) d a b refl h refl
spelt (Rem d a b) h = three_ok (codes "rem") (Rem d a b) d a b refl h refl
spelt (Remu d a b) h = three_ok (codes "remu") (Remu d a b) d a b refl h refl
spelt (Fence d a x) h = fence_ok d a x h.0 h.1 h.2
spelt Ecall h = record { name_is = refl; good = tt; short = omega arith; word_is = refl }
spelt Ebreak h = record { name_is = refl; good = tt; short = omega arith; word_is = refl }

raw_spelt : (w : ℕ) → w < 2 ^ 32 → Spelt (raw w) w
raw_spelt w h = record { name_is = refl; good = (h, tt); short = omega arith; word_is = refl }

either : (w : ℕ) (o : Option Instr) → w < 2 ^ 32 → decoded w ≡ o → Spelt (written_or_raw o w) w
either w None h e = raw_spelt w h
either w (Some i) h e = subst (Spelt (written i)) (word-decoded w i h e) (spelt i (word-range w i h e))

pub word_spelt : (w : ℕ) → w < 2 ^ 32 → Spelt (written_or_raw (decoded w) w) w
word_spelt w h = either w (decoded w) h refl
