-- What each step of a reader leaves.
use Rattle.std.proofs.Common.{◌≡◌, ℕ, zero, suc, ◌+◌, ◌-◌, ◌*◌, ◌^◌, ◌<◌, ◌≤◌, min, List, [], ◌∷◌, length, take, drop, map, get_or, Bool, true, false, cond, not, ◌&&◌, Option, Some, None, refl, sym, ap, ◌∙◌, subst, arith}
use Rattle.std.proofs.lemmas.Bool.Decides.{nat_tests}
use Rattle.std.specs.Prelude.{option_map, option_and_then, unwrap_or, nat_lt, nat_le, ◌==◌}
use Rattle.std.specs.List.{prefix_len, position, position_or_len, before_first, after_first, slice_split}
use Rattle.std.specs.Char.{digit_value, is_digit}
use Rattle.std.specs.Str.Parse.{digits_value, AllDigits}
use Rattle.std.proofs.lemmas.List.Splits.{slice_split_first, slice_split_none}
use Rattle.std.proofs.lemmas.List.Sums.{fails_before_first, prefix_len-le-length}
use Rattle.std.proofs.lemmas.Int.Digits.{digits_value-lt, digits_value_more}
use Rattle.rv_text.specs.declared.operands.Operand.{Operand}
use Rattle.rv_text.specs.declared.operands.Operand.TheVariants.{Register, Number, Address, Word}
use Rattle.rv_text.specs.Reading.{leading, behind, hexadecimal_word, operand, all_of, parted, word_in}
use Rattle.rv_text.proofs.Cuts.{some_part, position_some, position_none, rest_is}

-- no mnemonic has four operands
four : (name : List ℕ) (a b c d : Operand) (os : List Operand) → word_in name (a ∷ b ∷ c ∷ d ∷ os) ≡ None
four name (Number x) b c d os = refl
four name (Address x n) b c d os = refl
four name (Word w) b c d os = refl
four name (Register m) (Number x) c d os = refl
four name (Register m) (Address x n) c d os = refl
four name (Register m) (Word w) c d os = refl
four name (Register m) (Register n) (Number x) d os = refl
four name (Register m) (Register n) (Address x k) d os = refl
four name (Register m) (Register n) (Word w) d os = refl
four name (Register m) (Register n) (Register k) d os = refl

module _ (name : List ℕ) (a b c : Operand) where
  several : (r : Option (List Operand)) (o : Operand) → option_and_then (λ more. word_in name (a ∷ b ∷ more)) (option_map (λ more. c ∷ more) (option_map (λ more. o ∷ more) r)) ≡ None
  several None o = refl
  several (Some os) o = four name a b c o os

  some_more : (o : Option Operand) (os : List (Option Operand)) → option_and_then (λ more. word_in name (a ∷ b ∷ more)) (option_map (λ more. c ∷ more) (all_of (o ∷ os))) ≡ None
  some_more None os = refl
  some_more (Some o) os = several (all_of os) o

  too_many : (parts : List (List ℕ)) → 0 < length parts → option_and_then (λ more. word_in name (a ∷ b ∷ more)) (option_map (λ more. c ∷ more) (all_of (map operand parts))) ≡ None
  too_many [] h = absurd (omega arith)
  too_many (p ∷ parts) h = some_more (operand p) (map operand parts)

pub three_and_more : (name : List ℕ) (a b c : Operand) (s : List ℕ) → option_and_then (λ more. word_in name (a ∷ b ∷ more)) (option_map (λ more. c ∷ more) (parted s)) ≡ None
three_and_more name a b c s = too_many name a b c (slice_split (λ b. b == 44) s) (some_part (λ b. b == 44) s)

-- the first part of a text that commas part

cut_some : (s : List ℕ) → position_or_len (λ b. b == 44) s < length s → slice_split (λ b. b == 44) s ≡ before_first (λ b. b == 44) s ∷ slice_split (λ b. b == 44) (after_first (λ b. b == 44) s)
cut_some s h = slice_split_first (λ b. b == 44) s 0 h

part_some : (s : List ℕ) (o : Operand) → position_or_len (λ b. b == 44) s < length s → operand (before_first (λ b. b == 44) s) ≡ Some o
    → parted s ≡ option_map (λ more. o ∷ more) (parted (after_first (λ b. b == 44) s))
part_some s o h e = ap (λ parts. all_of (map operand parts)) (cut_some s h) ∙ ap (λ p. all_of (p ∷ map operand (slice_split (λ b. b == 44) (after_first (λ b. b == 44) s)))) e

pub read_some : (s : List ℕ) (end : ℕ) (r : Option Operand) (o : Operand) → position (λ b. b == 44) s ≡ Some end → r ≡ operand (take end s) → r ≡ Some o
    → parted s ≡ option_map (λ more. o ∷ more) (parted (take (length s - (end + 1)) (drop (end + 1) s)))
read_some s end r o at is e =
    let here = position_some (λ b. b == 44) s end at in
    part_some s o (subst (λ n. n < length s) (sym here.0) here.1) (ap (λ n. operand (take n s)) here.0 ∙ (sym is ∙ e))
    ∙ (ap (λ n. option_map (λ more. o ∷ more) (parted (drop (n + 1) s))) here.0 ∙ ap (λ t. option_map (λ more. o ∷ more) (parted t)) (sym (rest_is (end + 1) s)))

pub read_none : (s : List ℕ) (end : ℕ) (r : Option Operand) → position (λ b. b == 44) s ≡ Some end → r ≡ operand (take end s) → r ≡ None → parted s ≡ None
read_none s end r at is e =
    let here = position_some (λ b. b == 44) s end at in
    ap (λ parts. all_of (map operand parts)) (cut_some s (subst (λ n. n < length s) (sym here.0) here.1))
    ∙ ap (λ p. all_of (p ∷ map operand (slice_split (λ b. b == 44) (after_first (λ b. b == 44) s)))) (ap (λ n. operand (take n s)) here.0 ∙ (sym is ∙ e))

whole : (s : List ℕ) → position (λ b. b == 44) s ≡ None → slice_split (λ b. b == 44) s ≡ s ∷ []
whole s h = let all : length s ≤ position_or_len (λ b. b == 44) s = position_none (λ b. b == 44) s h in
    slice_split_none (λ b. b == 44) s (λ k d k<len. fails_before_first (λ b. b == 44) s k d (omega arith))

pub last_some : (s : List ℕ) (r : Option Operand) (o : Operand) → position (λ b. b == 44) s ≡ None → r ≡ operand s → r ≡ Some o → parted s ≡ Some (o ∷ [])
last_some s r o at is e = ap (λ parts. all_of (map operand parts)) (whole s at) ∙ ap (λ p. all_of (p ∷ [])) (sym is ∙ e)

pub last_none : (s : List ℕ) (r : Option Operand) → position (λ b. b == 44) s ≡ None → r ≡ operand s → r ≡ None → parted s ≡ None
last_none s r at is e = ap (λ parts. all_of (map operand parts)) (whole s at) ∙ ap (λ p. all_of (p ∷ [])) (sym is ∙ e)

-- where a first place is looked for, and the length where there is none

pub place : (p : ℕ → Bool) (s : List ℕ) → unwrap_or (position p s) (length s) ≡ position_or_len p s
place p s = go (nat_lt (position_or_len p s) (length s)) refl
  where
    go : (b : Bool) → nat_lt (position_or_len p s) (length s) ≡ b → unwrap_or (cond b (Some (position_or_len p s)) None) (length s) ≡ position_or_len p s
    go true e = refl
    go false e = let most : position_or_len p s ≤ length s = prefix_len-le-length (λ x. not (p x)) s in grind (arith, nat_tests)

twice : (b : Bool) → not (not b) ≡ b
twice true = refl
twice false = refl

pub run_place : (p : ℕ → Bool) (s : List ℕ) → unwrap_or (position (λ b. not (p b)) s) (length s) ≡ prefix_len p s
run_place p s = place (λ b. not (p b)) s ∙ (λ i. prefix_len (λ b. twice (p b) i) s)

-- eight hexadecimal digits are a word

one_more : (n : ℕ) → 1 + n ≡ suc n
one_more n = omega arith

from_below : (m n : ℕ) → nat_lt m n ≡ true → m < n
from_below m n h = grind (arith, nat_tests)

leading_digits : (s : List ℕ) → AllDigits 16 (leading 16 s)
leading_digits [] = tt
leading_digits (c ∷ s) = go (leading_digits s) (is_digit c 16) refl
  where
    go : AllDigits 16 (leading 16 s) → (b : Bool) → is_digit c 16 ≡ b → AllDigits 16 (take (cond b (1 + prefix_len (λ b. is_digit b 16) s) 0) (c ∷ s))
    go more true e = subst (λ n. AllDigits 16 (take n (c ∷ s))) (sym (one_more (prefix_len (λ b. is_digit b 16) s))) (from_below (digit_value c) 16 e, more)
    go more false e = tt

power : (n : ℕ) → n ≤ 8 → 16 ^ n ≤ 4294967296
power zero h = omega arith
power (suc zero) h = omega arith
power (suc (suc zero)) h = omega arith
power (suc (suc (suc zero))) h = omega arith
power (suc (suc (suc (suc zero)))) h = omega arith
power (suc (suc (suc (suc (suc zero))))) h = omega arith
power (suc (suc (suc (suc (suc (suc zero)))))) h = omega arith
power (suc (suc (suc (suc (suc (suc (suc zero))))))) h = omega arith
power (suc (suc (suc (suc (suc (suc (suc (suc zero)))))))) h = omega arith
power (suc (suc (suc (suc (suc (suc (suc (suc (suc n))))))))) h = absurd (omega arith)

word_fits : (s : List ℕ) → length (leading 16 s) ≤ 8 → min (digits_value 16 (leading 16 s)) 4294967295 ≡ digits_value 16 (leading 16 s)
word_fits s h =
    let below : digits_value 16 (leading 16 s) < 16 ^ length (leading 16 s) = digits_value-lt 16 (leading 16 s) (leading_digits s) in
    let most : 16 ^ length (leading 16 s) ≤ 4294967296 = power (length (leading 16 s)) h in
    omega arith

word_at : (s : List ℕ) → (length (leading 16 s) == 0) ≡ false → length (leading 16 s) ≤ 8 → hexadecimal_word s ≡ Some (digits_value 16 (leading 16 s), behind 16 s)
word_at s some few = let a : nat_lt 0 (length (leading 16 s)) ≡ true = grind (arith, nat_tests) in let b : nat_le (length (leading 16 s)) 8 ≡ true = grind (arith, nat_tests) in
    λ i. cond (a i && b i) (Some (digits_value 16 (leading 16 s), behind 16 s)) None

pub word_read : (s ds rest : List ℕ) (v : ℕ) → ds ≡ leading 16 s → rest ≡ behind 16 s → (length ds == 0) ≡ false → length ds ≤ 8 → v ≡ min (digits_value 16 ds) 4294967295 → hexadecimal_word s ≡ Some (v, rest)
word_read s ds rest v p q some few e =
    let some2 : (length (leading 16 s) == 0) ≡ false = subst (λ t. (length t == 0) ≡ false) p some in
    let few2 : length (leading 16 s) ≤ 8 = subst (λ t. length t ≤ 8) p few in
    let value : v ≡ digits_value 16 (leading 16 s) = e ∙ (ap (λ t. min (digits_value 16 t) 4294967295) p ∙ word_fits s few2) in
    word_at s some2 few2 ∙ (λ i. Some (sym value i, sym q i))

pub held10 : (ds : List ℕ) (i value times d next : ℕ) → i < length ds → value ≡ min (digits_value 10 (take i ds)) 4294967295 → times ≡ min (value * 10) 4294967295
    → d ≡ digit_value (get_or ds i 0) → next ≡ min (times + d) 4294967295 → next ≡ min (digits_value 10 (take (i + 1) ds)) 4294967295
held10 ds i value times d next h p q r s = let e : digits_value 10 (take (i + 1) ds) ≡ digits_value 10 (take i ds) * 10 + digit_value (get_or ds i 0) = digits_value_more 10 ds i h in omega arith

pub held16 : (ds : List ℕ) (i value times d next : ℕ) → i < length ds → value ≡ min (digits_value 16 (take i ds)) 4294967295 → times ≡ min (value * 16) 4294967295
    → d ≡ digit_value (get_or ds i 0) → next ≡ min (times + d) 4294967295 → next ≡ min (digits_value 16 (take (i + 1) ds)) 4294967295
held16 ds i value times d next h p q r s = let e : digits_value 16 (take (i + 1) ds) ≡ digits_value 16 (take i ds) * 16 + digit_value (get_or ds i 0) = digits_value_more 16 ds i h in omega arith
