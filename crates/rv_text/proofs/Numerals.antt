-- Digits that were written are read again.
use Rattle.std.proofs.Common.{◌≡◌, ℕ, ◌/◌, ◌%◌, ◌^◌, ◌<◌, ◌≤◌, List, [], ◌∷◌, ◌++◌, length, true, refl, arith}
use Rattle.std.proofs.lemmas.Bool.Decides.{nat_tests}
use Rattle.std.specs.Prelude.{decimal}
use Rattle.std.specs.List.{list_all, prefix_len}
use Rattle.std.specs.Char.{digit_value, is_digit}
use Rattle.std.specs.Str.Parse.{digits_value, AllDigits}
use Rattle.std.proofs.lemmas.Fmt.{decimal_is_IsNumeral, decimal_nonempty}
use Rattle.rv_text.specs.Written.{hex_digit, hexadecimal}
use Rattle.rv_text.specs.Reading.{leading, behind}
use Rattle.rv_text.proofs.Runs.{below, all_cons, run_is, behind_run}

all_digits : (ds : List ℕ) → AllDigits 10 ds → list_all (λ b. is_digit b 10) ds ≡ true
all_digits [] h = refl
all_digits (d ∷ ds) h = all_cons (λ b. is_digit b 10) d ds (below (digit_value d) 10 h.0) (all_digits ds h.1)

pub decimal_digits : (n : ℕ) → n < 2 ^ 32 → list_all (λ b. is_digit b 10) (decimal n) ≡ true
decimal_digits n h = all_digits (decimal n) (decimal_is_IsNumeral n (omega arith)).0.1

pub decimal_value : (n : ℕ) → n < 2 ^ 32 → digits_value 10 (decimal n) ≡ n
decimal_value n h = (decimal_is_IsNumeral n (omega arith)).1

pub decimal_some : (n : ℕ) → n < 2 ^ 32 → 0 < length (decimal n)
decimal_some n h = decimal_nonempty n (omega arith)

-- a decimal digit is a byte from 48 to 57
pub digit_range : (b : ℕ) → is_digit b 10 ≡ true → (48 ≤ b) × (b ≤ 57)
digit_range b h = (grind (arith, nat_tests), grind (arith, nat_tests))

-- no text of digits goes on behind this one
abbrev pub Stops : ℕ → List ℕ → Type 0
Stops radix s = prefix_len (λ b. is_digit b radix) s ≡ 0

pub leading_decimal : (n : ℕ) (s : List ℕ) → n < 2 ^ 32 → Stops 10 s → leading 10 (decimal n ++ s) ≡ decimal n
leading_decimal n s h stops = run_is (λ b. is_digit b 10) (decimal n) s (decimal_digits n h) stops

pub behind_decimal : (n : ℕ) (s : List ℕ) → n < 2 ^ 32 → Stops 10 s → behind 10 (decimal n ++ s) ≡ s
behind_decimal n s h stops = behind_run (λ b. is_digit b 10) (decimal n) s (decimal_digits n h) stops

pub hex_value : (d : ℕ) → d < 16 → digit_value (hex_digit d) ≡ d
hex_value d h = grind (arith, nat_tests)

hex_passes : (d : ℕ) → d < 16 → is_digit (hex_digit d) 16 ≡ true
hex_passes d h = rw (hex_value d h) (below d 16 h)

pub hexadecimal_digits : (w : ℕ) → w < 2 ^ 32 → list_all (λ b. is_digit b 16) (hexadecimal w) ≡ true
hexadecimal_digits w h = rw (
  hex_passes (w / 2 ^ 28) (omega arith),
  hex_passes (w / 2 ^ 24 % 16) (omega arith),
  hex_passes (w / 2 ^ 20 % 16) (omega arith),
  hex_passes (w / 2 ^ 16 % 16) (omega arith),
  hex_passes (w / 2 ^ 12 % 16) (omega arith),
  hex_passes (w / 2 ^ 8 % 16) (omega arith),
  hex_passes (w / 2 ^ 4 % 16) (omega arith),
  hex_passes (w % 16) (omega arith),
) refl

pub hexadecimal_value : (w : ℕ) → w < 2 ^ 32 → digits_value 16 (hexadecimal w) ≡ w
hexadecimal_value w h = rw (
  hex_value (w / 2 ^ 28) (omega arith),
  hex_value (w / 2 ^ 24 % 16) (omega arith),
  hex_value (w / 2 ^ 20 % 16) (omega arith),
  hex_value (w / 2 ^ 16 % 16) (omega arith),
  hex_value (w / 2 ^ 12 % 16) (omega arith),
  hex_value (w / 2 ^ 8 % 16) (omega arith),
  hex_value (w / 2 ^ 4 % 16) (omega arith),
  hex_value (w % 16) (omega arith),
) (omega arith)
