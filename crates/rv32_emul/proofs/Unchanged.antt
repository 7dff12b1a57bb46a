-- No step changes a word that may be run and not written.
use Rattle.std.proofs.Common.{◌≡◌, ℕ, ◌-◌, ◌%◌, List, [], ◌∷◌, length, take, drop, Bool, true, false, cond, eqb, Option, Some, None, refl, ap, subst, Result, Ok, Err}
use Rattle.std.specs.Prelude.{◌&&◌, option_map}
use Rattle.rv_isa.specs.declared.hart.Step.{Step}
use Rattle.rv_isa.specs.declared.hart.Step.TheVariants.{Went, Print, Exit, Fault}
use Rattle.rv_isa.specs.declared.instructions.Instr.{Instr}
use Rattle.rv_isa.specs.declared.instructions.Instr.TheVariants.{Lui, Auipc, Jal, Jalr, Beq, Bne, Blt, Bge, Bltu, Bgeu, Lb, Lh, Lw, Lbu, Lhu, Sb, Sh, Sw, Addi, Slti, Sltiu, Xori, Ori, Andi, Slli, Srli, Srai, Add, Sll, Slt, Sltu, Xor, Srl, Or, And, Sub, Sra, Mul, Mulh, Mulhsu, Mulhu, Div, Divu, Rem, Remu, Fence, Ecall, Ebreak}
use Rattle.rv_isa.specs.Memory.{Region, has, number_of, fetched, loaded, stored, overwritten, bytes_of}
use Rattle.rv_isa.specs.Encoding.{decoded}
use Rattle.rv_isa.specs.Word.{add}
use Rattle.rv_isa.specs.Effect.{State, Ending, Answers, Steps, effect, step, decoded_step, fetched_step, register, writes, jumps, branches, loads, loads_from, stores, stores_to, calls}
use Rattle.rv32_emul.specs.Fixed.{fixed}
use Rattle.rv32_emul.proofs.Apart.{written-long, and_left}

and_right : (a b : Bool) → (a && b) ≡ true → b ≡ true
and_right true b h = h
and_right false b h = absurd (cc)

written-fixed : (x : Region) (xs : List Region) (a n v b : ℕ) → (has x a n && x.writable) ≡ true
    → fixed (record x { bytes = overwritten x.bytes (a - x.start) (bytes_of n v) } ∷ xs) b ≡ fixed (x ∷ xs) b
written-fixed x xs a n v b may =
    let writable : x.writable ≡ true = and_right (has x a n) x.writable may in
    let long : length (overwritten x.bytes (a - x.start) (bytes_of n v)) ≡ length x.bytes = written-long x a n v (and_left (has x a n) x.writable may) in
    rw (long, writable) refl

stored-case : (t : Bool) (x : Region) (xs : List Region) (a n v : ℕ) (o : Option (List Region)) (ys : List Region) (b : ℕ) → (has x a n && x.writable) ≡ t
    → cond t (Some (record x { bytes = overwritten x.bytes (a - x.start) (bytes_of n v) } ∷ xs)) (option_map (λ qs. x ∷ qs) o) ≡ Some ys → ((zs : List Region) → o ≡ Some zs → fixed zs b ≡ fixed xs b)
    → fixed ys b ≡ fixed (x ∷ xs) b
stored-case true x xs a n v o ys b may h rest =
    let same : (record x { bytes = overwritten x.bytes (a - x.start) (bytes_of n v) } ∷ xs) ≡ ys = cc in
    subst (λ (zs : List Region). fixed zs b ≡ fixed (x ∷ xs) b) same (written-fixed x xs a n v b may)
stored-case false x xs a n v None ys b may h rest = absurd (cc)
stored-case false x xs a n v (Some zs) ys b may h rest =
    let same : (x ∷ zs) ≡ ys = cc in
    subst (λ (qs : List Region). fixed qs b ≡ fixed (x ∷ xs) b) same
    (ap (λ (word : Option ℕ). cond (has x b 4 && x.executable) (cond x.writable None (Some (number_of (take 4 (drop (b - x.start) x.bytes))))) word) (rest zs refl))

stored-at : (xs : List Region) (a n v : ℕ) (ys : List Region) → stored xs a n v ≡ Some ys → (b : ℕ) → fixed ys b ≡ fixed xs b
stored-at [] a n v ys h b = absurd (cc)
stored-at (x ∷ xs) a n v ys h b = stored-case (has x a n && x.writable) x xs a n v (stored xs a n v) ys b refl h (λ zs e. stored-at xs a n v zs e b)

stored-fixed : (xs : List Region) (a n v : ℕ) (ys : List Region) → stored xs a n v ≡ Some ys → fixed ys ≡ fixed xs
stored-fixed xs a n v ys h = λ j b. stored-at xs a n v ys h b j

-- where a step goes on, the fixed words are those of m
abbrev Keeps : List Region → Result State Ending → Type 0
Keeps m (Ok t) = fixed t.memory ≡ fixed m
Keeps m (Err ending) = Unit {0}

by_bool : (m : List Region) (b : Bool) (x y : Result State Ending) → Keeps m x → Keeps m y → Keeps m (cond b x y)
by_bool m true x y p q = p
by_bool m false x y p q = q

writing : (s : State) (rd v : ℕ) → Keeps s.memory (writes s rd v)
writing s rd v = refl

jumping : (s : State) (rd target : ℕ) → Keeps s.memory (jumps s rd target)
jumping s rd target = by_bool s.memory (eqb (target % 4) 0) _ _ refl tt

branching : (s : State) (taken : Bool) (offset : ℕ) → Keeps s.memory (branches s taken offset)
branching s true offset = jumping s 0 (add s.hart.pc offset)
branching s false offset = refl

loaded_has : (s : State) (rd : ℕ) (f : ℕ → ℕ) (a : ℕ) (o : Option ℕ) → Keeps s.memory (loads_from s rd f a o)
loaded_has s rd f a None = tt
loaded_has s rd f a (Some v) = writing s rd (f v)

loading : (s : State) (rd size : ℕ) (f : ℕ → ℕ) (a : ℕ) → Keeps s.memory (loads s rd size f a)
loading s rd size f a = by_bool s.memory (eqb (a % size) 0) _ _ (loaded_has s rd f a (loaded s.memory a size)) tt

stored_has : (s : State) (a size v : ℕ) (o : Option (List Region)) → stored s.memory a size v ≡ o → Keeps s.memory (stores_to s a o)
stored_has s a size v None h = tt
stored_has s a size v (Some m) h = stored-fixed s.memory a size v m h

storing : (s : State) (size a v : ℕ) → Keeps s.memory (stores s size a v)
storing s size a v = by_bool s.memory (eqb (a % size) 0) _ _ (stored_has s a size v (stored s.memory a size v) refl) tt

calling : (s : State) → Keeps s.memory (calls s)
calling s = by_bool s.memory (eqb (register s.hart 17) 93) _ _ tt (by_bool s.memory (eqb (register s.hart 17) 2047) _ _ refl tt)

doing : (i : Instr) (s : State) → Keeps s.memory (effect i s)
doing (Jal rd offset) s = jumping s rd _
doing (Jalr rd rs1 imm) s = jumping s rd _
doing (Beq rs1 rs2 offset) s = branching s _ offset
doing (Bne rs1 rs2 offset) s = branching s _ offset
doing (Blt rs1 rs2 offset) s = branching s _ offset
doing (Bge rs1 rs2 offset) s = branching s _ offset
doing (Bltu rs1 rs2 offset) s = branching s _ offset
doing (Bgeu rs1 rs2 offset) s = branching s _ offset
doing (Lb rd rs1 imm) s = loading s rd 1 _ _
doing (Lh rd rs1 imm) s = loading s rd 2 _ _
doing (Lw rd rs1 imm) s = loading s rd 4 _ _
doing (Lbu rd rs1 imm) s = loading s rd 1 _ _
doing (Lhu rd rs1 imm) s = loading s rd 2 _ _
doing (Sb rs1 rs2 imm) s = storing s 1 _ _
doing (Sh rs1 rs2 imm) s = storing s 2 _ _
doing (Sw rs1 rs2 imm) s = storing s 4 _ _
doing (Lui rd upper) s = refl
doing (Auipc rd upper) s = refl
doing (Addi rd rs1 imm) s = refl
doing (Slti rd rs1 imm) s = refl
doing (Sltiu rd rs1 imm) s = refl
doing (Xori rd rs1 imm) s = refl
doing (Ori rd rs1 imm) s = refl
doing (Andi rd rs1 imm) s = refl
doing (Slli rd rs1 shamt) s = refl
doing (Srli rd rs1 shamt) s = refl
doing (Srai rd rs1 shamt) s = refl
doing (Add rd rs1 rs2) s = refl
doing (Sll rd rs1 rs2) s = refl
doing (Slt rd rs1 rs2) s = refl
doing (Sltu rd rs1 rs2) s = refl
doing (Xor rd rs1 rs2) s = refl
doing (Srl rd rs1 rs2) s = refl
doing (Or rd rs1 rs2) s = refl
doing (And rd rs1 rs2) s = refl
doing (Sub rd rs1 rs2) s = refl
doing (Sra rd rs1 rs2) s = refl
doing (Mul rd rs1 rs2) s = refl
doing (Mulh rd rs1 rs2) s = refl
doing (Mulhsu rd rs1 rs2) s = refl
doing (Mulhu rd rs1 rs2) s = refl
doing (Div rd rs1 rs2) s = refl
doing (Divu rd rs1 rs2) s = refl
doing (Rem rd rs1 rs2) s = refl
doing (Remu rd rs1 rs2) s = refl
doing (Fence rd rs1 fields) s = refl
doing Ecall s = calling s
doing Ebreak s = tt

decoded_has : (o : Option Instr) (s : State) → Keeps s.memory (decoded_step o s)
decoded_has None s = tt
decoded_has (Some i) s = doing i s

fetched_has : (o : Option ℕ) (s : State) → Keeps s.memory (fetched_step o s)
fetched_has None s = tt
fetched_has (Some w) s = decoded_has (decoded w) s

answers-keep : (r : Result State Ending) (s t : State) (answer : Step) → Keeps s.memory r → Answers r s answer t → fixed t.memory ≡ fixed s.memory
answers-keep r s t Went keeps h = rw h at keeps
answers-keep r s t (Print v) keeps h = rw h at keeps
answers-keep r s t (Exit v) keeps h = ap (λ (q : State). fixed q.memory) h.1
answers-keep r s t (Fault kind at address) keeps h = ap (λ (q : State). fixed q.memory) h.1

pub effect-fixed : (i : Instr) (s t : State) (answer : Step) → Answers (effect i s) s answer t → fixed t.memory ≡ fixed s.memory
effect-fixed i s t answer = answers-keep (effect i s) s t answer (doing i s)

pub step-fixed : (s t : State) (answer : Step) → Steps s answer t → fixed t.memory ≡ fixed s.memory
step-fixed s t answer = answers-keep (step s) s t answer (fetched_has (fetched s.memory s.hart.pc) s)
