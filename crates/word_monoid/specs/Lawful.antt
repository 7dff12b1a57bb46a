-- The three instances are monoids.
use Rattle.std.proofs.Common.{◌≡◌, ℕ, suc, ◌+◌, ◌-◌, ◌%◌, ◌^◌, ◌<◌, ◌≤◌, max, true, ℤ, pos, negsuc, ◌+ℤ◌, refl, sym, ap, ◌∙◌, arith}
use Rattle.std.proofs.lemmas.Bool.{lt-ltb, ltb-true, le-ltb}
use Rattle.std.specs.Prelude.{nat_lt}
use Rattle.std.proofs.Math.IntN.{sub_ℕ}
use mathlib.Core.Logic.{dite}
use native.Mathlib.Decide.{dec_le}
use Rattle.std.proofs.Common.{lt_of_not-le}
use Rattle.word_monoid.specs.Monoid.{IsMonoid}
use Rattle.word_monoid.specs.Instances.{count, residue, of_residue, is_signed, signed, greatest}

small : (x : ℕ) → x < 2 ^ 62 → nat_lt x (2 ^ 62) ≡ true
small x p = lt-ltb x (2 ^ 62) p

below : (x : ℕ) → nat_lt x (2 ^ 62) ≡ true → x < 2 ^ 62
below x p = ltb-true x (2 ^ 62) p

sum_below : (a b : ℕ) → (a + b) % 2 ^ 62 < 2 ^ 62
sum_below a b = omega arith

sums_associate : (a b c : ℕ) → ((a + b) % 2 ^ 62 + c) % 2 ^ 62 ≡ (a + (b + c) % 2 ^ 62) % 2 ^ 62
sums_associate a b c = omega arith

zero_left : (a : ℕ) → a < 2 ^ 62 → (0 + a) % 2 ^ 62 ≡ a
zero_left a p = omega arith

zero_right : (a : ℕ) → a < 2 ^ 62 → (a + 0) % 2 ^ 62 ≡ a
zero_right a p = omega arith

pub count_is_monoid : IsMonoid count
count_is_monoid = record {
  unit_is_item = refl;
  join_is_item = λ a b _ _. small ((a + b) % 2 ^ 62) (sum_below a b);
  associative = λ a b c _ _ _. sums_associate a b c;
  unit_left = λ a p. zero_left a (below a p);
  unit_right = λ a p. zero_right a (below a p);
  decodes = λ a p. refl;
  fits = λ a p. below a p;
}

max_below : (a b : ℕ) → a < 2 ^ 62 → b < 2 ^ 62 → max a b < 2 ^ 62
max_below a b p q = omega arith

max_associates : (a b c : ℕ) → max (max a b) c ≡ max a (max b c)
max_associates a b c = omega arith

max_left : (a : ℕ) → max 0 a ≡ a
max_left a = omega arith

max_right : (a : ℕ) → max a 0 ≡ a
max_right a = omega arith

pub greatest_is_monoid : IsMonoid greatest
greatest_is_monoid = record {
  unit_is_item = refl;
  join_is_item = λ a b p q. small (max a b) (max_below a b (below a p) (below b q));
  associative = λ a b c _ _ _. max_associates a b c;
  unit_left = λ a p. max_left a;
  unit_right = λ a p. max_right a;
  decodes = λ a p. refl;
  fits = λ a p. below a p;
}

-- a signed number and its residue

pub residue_below : (a : ℤ) → residue a < 2 ^ 62
residue_below (pos n) = omega arith
residue_below (negsuc n) = omega arith

pub of_residue_low : (r : ℕ) → r < 2 ^ 61 → of_residue r ≡ pos r
of_residue_low r p = rw (lt-ltb r (2 ^ 61) p)

pub of_residue_high : (r : ℕ) → 2 ^ 61 ≤ r → of_residue r ≡ negsuc (2 ^ 62 - 1 - r)
of_residue_high r p = rw (le-ltb r (2 ^ 61) p)

pub signed_again : (a : ℤ) → is_signed a ≡ true → of_residue (residue a) ≡ a
signed_again (pos n) p =
    let small : n < 2 ^ 61 = ltb-true n (2 ^ 61) p in
    let same : n % 2 ^ 62 ≡ n = omega arith in
    of_residue_low (n % 2 ^ 62) (omega arith) ∙ ap pos same
signed_again (negsuc n) p =
    let small : n < 2 ^ 61 = ltb-true n (2 ^ 61) p in
    let same : 2 ^ 62 - 1 - (2 ^ 62 - 1 - n % 2 ^ 62) ≡ n = omega arith in
    of_residue_high (2 ^ 62 - 1 - n % 2 ^ 62) (omega arith) ∙ ap negsuc same

pub of_residue_signed : (r : ℕ) → r < 2 ^ 62 → is_signed (of_residue r) ≡ true
of_residue_signed r p = dite (dec_le (2 ^ 61) r)
    (λ high. ap is_signed (of_residue_high r high) ∙ lt-ltb (2 ^ 62 - 1 - r) (2 ^ 61) (omega arith))
    (λ low. let less : r < 2 ^ 61 = lt_of_not-le low in ap is_signed (of_residue_low r less) ∙ lt-ltb r (2 ^ 61) less)

pub residue_again : (r : ℕ) → r < 2 ^ 62 → residue (of_residue r) ≡ r
residue_again r p = dite (dec_le (2 ^ 61) r)
    (λ high. ap residue (of_residue_high r high) ∙ (omega arith))
    (λ low. let less : r < 2 ^ 61 = lt_of_not-le low in ap residue (of_residue_low r less) ∙ (omega arith))

residue_sub : (m n : ℕ) → residue (sub_ℕ m (suc n)) ≡ (m % 2 ^ 62 + (2 ^ 62 - 1 - n % 2 ^ 62)) % 2 ^ 62
residue_sub m n = dite (dec_le (suc n) m)
    (λ under. let is : sub_ℕ m (suc n) ≡ pos (m - suc n) = rw (le-ltb m (suc n) under) in ap residue is ∙ (omega arith))
    (λ over. let less : m < suc n = lt_of_not-le over in let is : sub_ℕ m (suc n) ≡ negsuc (suc n - suc m) = rw (lt-ltb m (suc n) less) in ap residue is ∙ (omega arith))

pub residue_add : (a b : ℤ) → residue (a +ℤ b) ≡ (residue a + residue b) % 2 ^ 62
residue_add (pos m) (pos n) = omega arith
residue_add (pos m) (negsuc n) = residue_sub m n
residue_add (negsuc m) (pos n) = let c = residue_sub n m in omega arith
residue_add (negsuc m) (negsuc n) = omega arith

join_residue : (a b : ℤ) → residue (signed.join a b) ≡ (residue a + residue b) % 2 ^ 62
join_residue a b = residue_again (residue (a +ℤ b)) (residue_below (a +ℤ b)) ∙ residue_add a b

pub join_signed : (a b : ℤ) → is_signed (signed.join a b) ≡ true
join_signed a b = of_residue_signed (residue (a +ℤ b)) (residue_below (a +ℤ b))

join_by_residues : (a b : ℤ) → signed.join a b ≡ of_residue ((residue a + residue b) % 2 ^ 62)
join_by_residues a b = ap of_residue (residue_add a b)

joins_associate : (a b c : ℤ) → signed.join (signed.join a b) c ≡ signed.join a (signed.join b c)
joins_associate a b c =
    join_by_residues (signed.join a b) c
    ∙ (ap (λ (r : ℕ). of_residue ((r + residue c) % 2 ^ 62)) (join_residue a b)
    ∙ (ap of_residue (sums_associate (residue a) (residue b) (residue c))
    ∙ (ap (λ (r : ℕ). of_residue ((residue a + r) % 2 ^ 62)) (sym (join_residue b c))
    ∙ sym (join_by_residues a (signed.join b c)))))

pub signed_is_monoid : IsMonoid signed
signed_is_monoid = record {
  unit_is_item = refl;
  join_is_item = λ a b _ _. join_signed a b;
  associative = λ a b c _ _ _. joins_associate a b c;
  unit_left = λ a p. join_by_residues (pos 0) a ∙ (ap of_residue (zero_left (residue a) (residue_below a)) ∙ signed_again a p);
  unit_right = λ a p. join_by_residues a (pos 0) ∙ (ap of_residue (zero_right (residue a) (residue_below a)) ∙ signed_again a p);
  decodes = λ a p. signed_again a p;
  fits = λ a p. residue_below a;
}
