-- Operands that were written are read again.
use Rattle.std.proofs.Common.{◌≡◌, ℕ, ◌+◌, ◌-◌, ◌/◌, ◌%◌, ◌^◌, ◌<◌, ◌≤◌, List, [], ◌∷◌, ◌++◌, length, get_or, drop, map, Bool, true, false, cond, eqb, not, ◌&&◌, ◌||◌, Some, refl, sym, ap, ◌∙◌, arith, append-nil, append_assoc, suc}
use Rattle.std.proofs.lemmas.Bool.Decides.{nat_tests}
use Rattle.std.specs.Prelude.{decimal, nat_lt, option_map, ◌==◌}
use Rattle.std.specs.List.{list_all, prefix_len, slice_split, All}
use Rattle.std.specs.Char.{is_digit}
use Rattle.std.proofs.lemmas.Fmt.{decimal_digit, first_decimal}
use Rattle.std.proofs.lemmas.List.Splits.{slice_split_at, slice_split_none}
use Rattle.std.proofs.lemmas.List.Sums.{AllPass-from_list_all}
use Rattle.rv_isa.specs.Encoding.{IsSigned}
use Rattle.rv_text.specs.declared.operands.Operand.{Operand}
use Rattle.rv_text.specs.declared.operands.Operand.TheVariants.{Register, Number, Address, Word}
use Rattle.rv_text.specs.Written.{number_text, register_text, hexadecimal, hex_digit, operand_text, further_text}
use Rattle.rv_text.specs.Reading.{is_blank, unindented, is_register, register, unsigned, opposite, number, hexadecimal_word, ended, closed, number_or_address, by_bracket, by_prefix, operand_at, operand, all_of, parted}
use Rattle.rv_text.proofs.Runs.{below, all_head, all_tail, all_append, all_weaker, run_is, behind_run}
use Rattle.rv_text.proofs.Numerals.{Stops, decimal_digits, decimal_value, decimal_some, digit_range, leading_decimal, behind_decimal, hexadecimal_digits, hexadecimal_value}
use Rattle.rv_text.proofs.Rows.{is_plain, IsGood, AreGood}

-- a text of digits as its first one and the others
record Digits (ds : List ℕ) : Type 0 where
  first : ℕ
  others : List ℕ
  are : ds ≡ first ∷ others
  first_is : is_digit first 10 ≡ true
  others_are : list_all (λ b. is_digit b 10) others ≡ true

digits_from : (ds : List ℕ) → 0 < length ds → list_all (λ b. is_digit b 10) ds ≡ true → Digits ds
digits_from [] some h = absurd (omega arith)
digits_from (d ∷ ds) some h = record { first = d; others = ds; are = refl; first_is = all_head (λ b. is_digit b 10) d ds h; others_are = all_tail (λ b. is_digit b 10) d ds h }

decimal_parts : (n : ℕ) → n < 2 ^ 32 → Digits (decimal n)
decimal_parts n h = digits_from (decimal n) (decimal_some n h) (decimal_digits n h)

-- registers

or_not : (a b : Bool) → b ≡ false → (a || not b) ≡ true
or_not true b h = refl
or_not false b h = rw h refl

canonical : (n : ℕ) → n < 32 → (length (decimal n) == 1 || not (get_or (decimal n) 0 0 == 0x30)) ≡ true
canonical n h = go (nat_lt n 10) refl
  where
    go : (b : Bool) → nat_lt n 10 ≡ b → (length (decimal n) == 1 || not (get_or (decimal n) 0 0 == 0x30)) ≡ true
    go true e = rw (decimal_digit n (grind (arith, nat_tests))) refl
    go false e =
        let large : 10 ≤ n = grind (arith, nat_tests) in
        let first : 48 < get_or (decimal n) 0 0 = first_decimal n (omega arith) (omega arith) in
        let other : eqb (get_or (decimal n) 0 0) 48 ≡ false = grind (arith, nat_tests) in
        or_not (length (decimal n) == 1) (get_or (decimal n) 0 0 == 0x30) other

names_register : (n : ℕ) → n < 32 → is_register (decimal n) ≡ true
names_register n h = rw (below 0 (length (decimal n)) (decimal_some n (omega arith)), canonical n h, decimal_value n (omega arith)) (below n 32 h)

register_again : (n : ℕ) (s : List ℕ) → n < 32 → Stops 10 s → register (register_text n ++ s) ≡ Some (n, s)
register_again n s h stops =
    rw (leading_decimal n s (omega arith) stops, behind_decimal n s (omega arith) stops, names_register n h, decimal_value n (omega arith)) refl

-- numbers

unsigned_again : (m : ℕ) (s : List ℕ) → m < 2 ^ 21 → Stops 10 s → unsigned (decimal m ++ s) ≡ Some (m, s)
unsigned_again m s h stops =
    rw (leading_decimal m s (omega arith) stops, behind_decimal m s (omega arith) stops, decimal_value m (omega arith), below 0 (length (decimal m)) (decimal_some m (omega arith)), below m (2 ^ 21) h) refl

-- a number without a sign is told by its first digit
number_by_digit : (d : ℕ) (s : List ℕ) → is_digit d 10 ≡ true → number (d ∷ s) ≡ unsigned (d ∷ s)
number_by_digit d s h = let no : eqb d 0x2D ≡ false = let r = digit_range d h in grind (arith, nat_tests) in rw no refl

plus_again : (x : ℕ) (s : List ℕ) → x < 2 ^ 21 → Stops 10 s → number (decimal x ++ s) ≡ Some (x, s)
plus_again x s h stops = let p : Digits (decimal x) = decimal_parts x (omega arith) in
    ap (λ t. number (t ++ s)) p.are ∙ (number_by_digit p.first (p.others ++ s) p.first_is ∙ (ap (λ t. unsigned (t ++ s)) (sym p.are) ∙ unsigned_again x s h stops))

back : (x : ℕ) → 2 ^ 31 ≤ x → x < 2 ^ 32 → opposite (2 ^ 32 - x) ≡ x
back x p q = omega arith

minus_again : (x : ℕ) (s : List ℕ) → 2 ^ 31 ≤ x → IsSigned 21 x → Stops 10 s → number (0x2D ∷ decimal (2 ^ 32 - x) ++ s) ≡ Some (x, s)
minus_again x s p h stops = ap (option_map (λ r. (opposite r.0, r.1))) (unsigned_again (2 ^ 32 - x) s (omega (arith, h.0, h.1)) stops) ∙ ap (λ y. Some (y, s)) (back x p h.0)

number_again : (x : ℕ) (s : List ℕ) → IsSigned 21 x → Stops 10 s → number (number_text x ++ s) ≡ Some (x, s)
number_again x s h stops = go (nat_lt x (2 ^ 31)) refl
  where
    go : (b : Bool) → nat_lt x (2 ^ 31) ≡ b → number (cond b (decimal x) (0x2D ∷ decimal (2 ^ 32 - x)) ++ s) ≡ Some (x, s)
    go true e = let small : x < 2147483648 = grind (arith, nat_tests) in plus_again x s (omega (arith, h.1)) stops
    go false e = let large : 2147483648 ≤ x = grind (arith, nat_tests) in minus_again x s large h stops

-- what doesn't begin with x or 0x is a number or an address

abbrev NotX : List ℕ → Type 0
NotX [] = Unit {0}
NotX (c ∷ s) = eqb c 0x78 ≡ false

and_false : (a b : Bool) → b ≡ false → (a && b) ≡ false
and_false true b h = h
and_false false b h = refl

no_prefix : (b : ℕ) (s : List ℕ) → NotX s → by_prefix b s ≡ number_or_address (number (b ∷ s))
no_prefix b [] h = refl
no_prefix b (c ∷ s) h = rw (and_false (b == 0x30) (c == 0x78) h) refl

digit_not_x : (d : ℕ) → is_digit d 10 ≡ true → eqb d 0x78 ≡ false
digit_not_x d h = let r = digit_range d h in grind (arith, nat_tests)

digits_not_x : (ds s : List ℕ) → list_all (λ b. is_digit b 10) ds ≡ true → NotX s → NotX (ds ++ s)
digits_not_x [] s h k = k
digits_not_x (d ∷ ds) s h k = digit_not_x d (all_head (λ b. is_digit b 10) d ds h)

by_first : (b : ℕ) (s : List ℕ) → eqb b 0x78 ≡ false → NotX s → operand_at (b ∷ s) ≡ number_or_address (number (b ∷ s))
by_first b s h k = rw h (no_prefix b s k)

plus_first : (x : ℕ) (s : List ℕ) → x < 2 ^ 32 → NotX s → operand_at (decimal x ++ s) ≡ number_or_address (number (decimal x ++ s))
plus_first x s h k = let p : Digits (decimal x) = decimal_parts x h in
    ap (λ t. operand_at (t ++ s)) p.are ∙ (by_first p.first (p.others ++ s) (digit_not_x p.first p.first_is) (digits_not_x p.others s p.others_are k) ∙ ap (λ t. number_or_address (number (t ++ s))) (sym p.are))

minus_first : (m : ℕ) (s : List ℕ) → m < 2 ^ 32 → NotX s → operand_at (0x2D ∷ decimal m ++ s) ≡ number_or_address (number (0x2D ∷ decimal m ++ s))
minus_first m s h k = by_first 0x2D (decimal m ++ s) refl (digits_not_x (decimal m) s (decimal_digits m h) k)

number_first : (x : ℕ) (s : List ℕ) → IsSigned 21 x → NotX s → operand_at (number_text x ++ s) ≡ number_or_address (number (number_text x ++ s))
number_first x s h k = go (nat_lt x (2 ^ 31)) refl
  where
    go : (b : Bool) → nat_lt x (2 ^ 31) ≡ b → (let t = cond b (decimal x) (0x2D ∷ decimal (2 ^ 32 - x)) ++ s in operand_at t ≡ number_or_address (number t))
    go true e = plus_first x s h.0 k
    go false e = let large : 2147483648 ≤ x = grind (arith, nat_tests) in minus_first (2 ^ 32 - x) s (omega arith) k

-- operands

nil : (xs : List ℕ) → xs ++ [] ≡ xs
nil xs = append-nil xs

register_operand : (n : ℕ) → n < 32 → operand_at (register_text n) ≡ Some (Register n)
register_operand n h = ap (λ r. option_map Register (ended r)) (ap register (sym (nil (register_text n))) ∙ register_again n [] h refl)

number_operand : (x : ℕ) → IsSigned 21 x → operand_at (number_text x) ≡ Some (Number x)
number_operand x h = ap operand_at (sym (nil (number_text x))) ∙ (number_first x [] h tt ∙ ap number_or_address (number_again x [] h refl))

-- behind an address's number
bracketed : (x n : ℕ) → n < 32 → by_bracket x (0x28 ∷ register_text n ++ 0x29 ∷ []) ≡ Some (Address x n)
bracketed x n h = ap (λ r. option_map (Address x) (ended (closed r))) (register_again n (0x29 ∷ []) h refl)

pub address_text : (x n : ℕ) → operand_text (Address x n) ≡ number_text x ++ (0x28 ∷ (register_text n ++ 0x29 ∷ []))
address_text x n = append_assoc (number_text x ++ 0x28 ∷ []) (register_text n) (0x29 ∷ []) ∙ append_assoc (number_text x) (0x28 ∷ []) (register_text n ++ 0x29 ∷ [])

address_operand : (x n : ℕ) → IsSigned 21 x → n < 32 → operand_at (operand_text (Address x n)) ≡ Some (Address x n)
address_operand x n h p =
    let rest : List ℕ = 0x28 ∷ (register_text n ++ 0x29 ∷ []) in
    ap operand_at (address_text x n) ∙ (number_first x rest h refl ∙ (ap number_or_address (number_again x rest h refl) ∙ bracketed x n p))

word_operand : (w : ℕ) → w < 2 ^ 32 → operand_at (operand_text (Word w)) ≡ Some (Word w)
word_operand w h = ap (λ r. option_map Word (ended r)) (word_again w h)
  where
    word_again : (w : ℕ) → w < 2 ^ 32 → hexadecimal_word (hexadecimal w) ≡ Some (w, [])
    word_again w h = ap hexadecimal_word (sym (nil (hexadecimal w))) ∙
        rw (run_is (λ b. is_digit b 16) (hexadecimal w) [] (hexadecimal_digits w h) refl, behind_run (λ b. is_digit b 16) (hexadecimal w) [] (hexadecimal_digits w h) refl, hexadecimal_value w h) refl

pub operand_again : (o : Operand) → IsGood o → operand_at (operand_text o) ≡ Some o
operand_again (Register n) h = register_operand n h
operand_again (Number x) h = number_operand x h
operand_again (Address x n) h = address_operand x n h.0 h.1
operand_again (Word w) h = word_operand w h

-- their bytes are plain

digit_plain : (b : ℕ) → is_digit b 10 ≡ true → is_plain b ≡ true
digit_plain b h = let r = digit_range b h in grind (arith, nat_tests)

decimal_plain : (n : ℕ) → n < 2 ^ 32 → list_all is_plain (decimal n) ≡ true
decimal_plain n h = all_weaker (λ b. is_digit b 10) is_plain digit_plain (decimal n) (decimal_digits n h)

number_plain : (x : ℕ) → x < 2 ^ 32 → list_all is_plain (number_text x) ≡ true
number_plain x h = go (nat_lt x (2 ^ 31)) refl
  where
    go : (b : Bool) → nat_lt x (2 ^ 31) ≡ b → list_all is_plain (cond b (decimal x) (0x2D ∷ decimal (2 ^ 32 - x))) ≡ true
    go true e = decimal_plain x h
    go false e = let large : 2147483648 ≤ x = grind (arith, nat_tests) in decimal_plain (2 ^ 32 - x) (omega arith)

hex_plain : (d : ℕ) → d < 16 → is_plain (hex_digit d) ≡ true
hex_plain d h = grind (arith, nat_tests)

hexadecimal_plain : (w : ℕ) → w < 2 ^ 32 → list_all is_plain (hexadecimal w) ≡ true
hexadecimal_plain w h = rw (
  hex_plain (w / 2 ^ 28) (omega arith),
  hex_plain (w / 2 ^ 24 % 16) (omega arith),
  hex_plain (w / 2 ^ 20 % 16) (omega arith),
  hex_plain (w / 2 ^ 16 % 16) (omega arith),
  hex_plain (w / 2 ^ 12 % 16) (omega arith),
  hex_plain (w / 2 ^ 8 % 16) (omega arith),
  hex_plain (w / 2 ^ 4 % 16) (omega arith),
  hex_plain (w % 16) (omega arith),
) refl

pub operand_plain : (o : Operand) → IsGood o → list_all is_plain (operand_text o) ≡ true
operand_plain (Register n) h = decimal_plain n (omega arith)
operand_plain (Number x) h = number_plain x h.0
operand_plain (Address x n) h = ap (list_all is_plain) (address_text x n) ∙ all_append is_plain (number_text x) (0x28 ∷ (register_text n ++ 0x29 ∷ [])) (number_plain x h.0.0)
    (all_append is_plain (register_text n) (0x29 ∷ []) (decimal_plain n (omega (arith, h.1))) refl)
operand_plain (Word w) h = hexadecimal_plain w h

-- a plain text has no comma and doesn't begin with a blank

plain_no_comma : (b : ℕ) → is_plain b ≡ true → not (b == 0x2C) ≡ true
plain_no_comma b h = grind (arith, nat_tests)

pub plain_no_blank : (b : ℕ) → is_plain b ≡ true → is_blank b ≡ false
plain_no_blank b h = grind (arith, nat_tests)

pub plain_unindented : (s t : List ℕ) → list_all is_plain s ≡ true → 0 < length s → unindented (s ++ t) ≡ s ++ t
plain_unindented [] t h some = absurd (omega arith)
plain_unindented (b ∷ s) t h some = ap (λ c. drop (cond c (1 + prefix_len is_blank (s ++ t)) 0) (b ∷ s ++ t)) (plain_no_blank b (all_head is_plain b s h))

some_length : (s : List ℕ) (o : Operand) → operand_at s ≡ Some o → 0 < length s
some_length [] o h = absurd (cc)
some_length (b ∷ s) o h = omega arith

pub operand_some : (o : Operand) → IsGood o → 0 < length (operand_text o)
operand_some o h = some_length (operand_text o) o (operand_again o h)

-- commas

comma_free : (s : List ℕ) → list_all (λ b. not (b == 0x2C)) s ≡ true → All (λ b. (b == 0x2C) ≡ false) s
comma_free s h k d inside = turned (get_or s k d == 0x2C) (AllPass-from_list_all (λ b. not (b == 0x2C)) s h k d inside)
  where
    turned : (b : Bool) → not b ≡ true → b ≡ false
    turned true h = absurd (cc)
    turned false h = refl

last_part : (s : List ℕ) (o : Operand) → list_all (λ b. not (b == 0x2C)) s ≡ true → operand s ≡ Some o → parted s ≡ Some (o ∷ [])
last_part s o plain h = ap (λ parts. all_of (map operand parts)) (slice_split_none (λ b. b == 0x2C) s (comma_free s plain)) ∙ ap (λ p. all_of (p ∷ [])) h

first_part : (s : List ℕ) (o : Operand) (t : List ℕ) (os : List Operand) → list_all (λ b. not (b == 0x2C)) s ≡ true → operand s ≡ Some o → parted t ≡ Some os → parted (s ++ 0x2C ∷ t) ≡ Some (o ∷ os)
first_part s o t os plain h more = ap (λ parts. all_of (map operand parts)) (slice_split_at (λ b. b == 0x2C) s 0x2C t (comma_free s plain) refl)
    ∙ (ap (λ p. all_of (p ∷ map operand (slice_split (λ b. b == 0x2C) t))) h ∙ ap (option_map (λ more. o ∷ more)) more)

commaless : (o : Operand) → IsGood o → list_all (λ b. not (b == 0x2C)) (operand_text o) ≡ true
commaless o h = all_weaker is_plain (λ b. not (b == 0x2C)) plain_no_comma (operand_text o) (operand_plain o h)

-- an operand, and one behind a space
unspaced : (o : Operand) → IsGood o → operand (operand_text o) ≡ Some o
unspaced o h = ap operand_at (ap unindented (sym (nil (operand_text o))) ∙ (plain_unindented (operand_text o) [] (operand_plain o h) (operand_some o h) ∙ nil (operand_text o))) ∙ operand_again o h

one_more : (n : ℕ) → 1 + n ≡ suc n
one_more n = omega arith

pub blank_first : (s : List ℕ) → unindented (0x20 ∷ s) ≡ unindented s
blank_first s = ap (λ k. drop k (0x20 ∷ s)) (one_more (prefix_len is_blank s))

spaced : (o : Operand) → IsGood o → operand (0x20 ∷ operand_text o) ≡ Some o
spaced o h = ap operand_at (blank_first (operand_text o)) ∙ unspaced o h

parts_again : (s : List ℕ) (o : Operand) (os : List Operand) → list_all (λ b. not (b == 0x2C)) s ≡ true → operand s ≡ Some o → AreGood os → parted (s ++ further_text os) ≡ Some (o ∷ os)
parts_again s o [] plain h good = ap parted (nil s) ∙ last_part s o plain h
parts_again s o (next ∷ os) plain h good = first_part s o (0x20 ∷ operand_text next ++ further_text os) (next ∷ os) plain h
    (parts_again (0x20 ∷ operand_text next) next os (commaless next good.0) (spaced next good.0) good.1)

pub operands_again : (o : Operand) (os : List Operand) → IsGood o → AreGood os → parted (operand_text o ++ further_text os) ≡ Some (o ∷ os)
operands_again o os h good = parts_again (operand_text o) o os (commaless o h) (unspaced o h) good
