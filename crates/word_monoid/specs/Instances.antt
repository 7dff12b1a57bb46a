-- Three monoids: numbers that are added, signed numbers that are added, and numbers of which the greater counts.
use Rattle.std.specs.Prelude.{ℕ, ◌+◌, ◌-◌, ◌%◌, ◌^◌, max, Bool, nat_lt, cond, ℤ, pos, negsuc, ◌+ℤ◌, List, fold}
use Rattle.word_monoid.specs.Monoid.{Ops}

-- numbers below 2 ^ 62, added modulo 2 ^ 62
abbrev pub count : Ops ℕ
count = record {
  accepts = λ x. nat_lt x (2 ^ 62);
  unit = 0;
  join = λ a b. (a + b) % 2 ^ 62;
  code = λ x. x;
  decode = λ word. word;
}

-- the residue of a number modulo 2 ^ 62
abbrev pub residue : ℤ → ℕ
residue (pos n) = n % 2 ^ 62
residue (negsuc n) = 2 ^ 62 - 1 - n % 2 ^ 62

-- the number from -2 ^ 61 on that has this residue
abbrev pub of_residue : ℕ → ℤ
of_residue r = cond (nat_lt r (2 ^ 61)) (pos r) (negsuc (2 ^ 62 - 1 - r))

abbrev pub is_signed : ℤ → Bool
is_signed (pos n) = nat_lt n (2 ^ 61)
is_signed (negsuc n) = nat_lt n (2 ^ 61)

-- numbers from -2 ^ 61 to 2 ^ 61 - 1, added modulo 2 ^ 62
abbrev pub signed : Ops ℤ
signed = record {
  accepts = is_signed;
  unit = pos 0;
  join = λ a b. of_residue (residue (a +ℤ b));
  code = residue;
  decode = of_residue;
}

-- numbers below 2 ^ 62, of which the greater is taken
abbrev pub greatest : Ops ℕ
greatest = record {
  accepts = λ x. nat_lt x (2 ^ 62);
  unit = 0;
  join = max;
  code = λ x. x;
  decode = λ word. word;
}

-- the plain sum of signed numbers
abbrev pub int_sum : List ℤ → ℤ
int_sum numbers = fold ◌+ℤ◌ (pos 0) numbers
