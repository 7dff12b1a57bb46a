-- Numbers of 32 bits, added: a monoid.
use Rattle.std.specs.Prelude.{◌≡◌, ℕ, ◌+◌, ◌<◌, ◌≤◌, ◌^◌, min, nat_le, true}
use Rattle.std.proofs.Common.{refl, arith}
use Rattle.std.proofs.lemmas.Bool.{le-leb, leb-true}
use Rattle.word_monoid.specs.Monoid.{IsMonoid, Ops}

-- what is above 32 bits becomes the greatest
abbrev pub sum32 : Ops ℕ
sum32 = record {
  accepts = λ x. nat_le x 4294967295;
  unit = 0;
  join = λ a b. min (a + b) 4294967295;
  code = λ x. x;
  decode = λ word. word;
}

below : (x : ℕ) → nat_le x 4294967295 ≡ true → x ≤ 4294967295
below x p = leb-true x 4294967295 p

joined_below : (a b : ℕ) → min (a + b) 4294967295 ≤ 4294967295
joined_below a b = omega arith

associates : (a b c : ℕ) → min (min (a + b) 4294967295 + c) 4294967295 ≡ min (a + min (b + c) 4294967295) 4294967295
associates a b c = omega arith

same : (a : ℕ) → a ≤ 4294967295 → min (0 + a) 4294967295 ≡ a
same a h = omega arith

same_right : (a : ℕ) → a ≤ 4294967295 → min (a + 0) 4294967295 ≡ a
same_right a h = omega arith

fitted : (a : ℕ) → a ≤ 4294967295 → a < 2 ^ 62
fitted a h = omega arith

pub sum32_is_monoid : IsMonoid sum32
sum32_is_monoid = record {
  unit_is_item = refl;
  join_is_item = λ a b _ _. le-leb (min (a + b) 4294967295) 4294967295 (joined_below a b);
  associative = λ a b c _ _ _. associates a b c;
  unit_left = λ a p. same a (below a p);
  unit_right = λ a p. same_right a (below a p);
  decodes = λ a p. refl;
  fits = λ a p. fitted a (below a p);
}
