-- Where plain sums are in range, the joins of numbers are those sums.
use Rattle.std.proofs.Common.{◌≡◌, ◌⊎◌, ℕ, zero, suc, ◌+◌, ◌%◌, ◌^◌, ◌<◌, ◌≤◌, max, true, ℤ, pos, ◌+ℤ◌, List, [], ◌∷◌, All, fold, refl, sym, ap, ◌∙◌, arith, inl, inr, ⊎_elim}
use Rattle.std.specs.Prelude.{Contains, sum}
use mathlib.Core.Logic.{dite}
use native.Mathlib.Decide.{dec_le}
use Rattle.std.proofs.Common.{lt_of_not-le}
use Rattle.std.proofs.lemmas.List.Folds.{fold_along}
use Rattle.word_monoid.specs.Folds.{fold_of}
use Rattle.word_monoid.specs.Instances.{count, residue, of_residue, is_signed, signed, int_sum}
use Rattle.word_monoid.specs.Lawful.{residue_again, residue_add, residue_below, join_signed, signed_again}

abbrev Counts : ℕ → ℕ → Type 0
Counts r s = r ≡ s % 2 ^ 62

counts_step : (r s x : ℕ) → Counts r s → Counts ((r + x) % 2 ^ 62) (s + x)
counts_step r s x h = omega arith

pub counts_are_sums : (xs : List ℕ) → sum xs < 2 ^ 62 → fold_of count xs ≡ sum xs
counts_are_sums xs small =
    let h : fold_of count xs ≡ sum xs % 2 ^ 62 = fold_along (λ (r x : ℕ). (r + x) % 2 ^ 62) (λ (s x : ℕ). s + x) Counts counts_step 0 0 xs refl in
    omega (arith, h)

abbrev SameResidue : ℤ → ℤ → Type 0
SameResidue a b = (residue a ≡ residue b) × (is_signed a ≡ true)

signed_step : (a b x : ℤ) → SameResidue a b → SameResidue (of_residue (residue (a +ℤ x))) (b +ℤ x)
signed_step a b x h = (
  residue_again (residue (a +ℤ x)) (residue_below (a +ℤ x)) ∙ (residue_add a x ∙ (ap (λ (r : ℕ). (r + residue x) % 2 ^ 62) h.0 ∙ sym (residue_add b x))),
  join_signed a x,
)

pub signed_are_sums : (xs : List ℤ) → is_signed (int_sum xs) ≡ true → fold_of signed xs ≡ int_sum xs
signed_are_sums xs small =
    let h : SameResidue (fold_of signed xs) (int_sum xs) = fold_along signed.join ◌+ℤ◌ SameResidue signed_step (pos 0) (pos 0) xs (refl, refl) in
    sym (signed_again (fold_of signed xs) h.1) ∙ (ap of_residue h.0 ∙ signed_again (int_sum xs) small)

at_least : (xs : List ℕ) (a : ℕ) → a ≤ fold max a xs
at_least [] a = omega arith
at_least (x ∷ xs) a = let r = at_least xs (max a x) in omega arith

pub greatest_bounds : (xs : List ℕ) (a : ℕ) → All (λ x. x ≤ fold max a xs) xs
greatest_bounds [] a k d h = absurd (omega arith)
greatest_bounds (x ∷ xs) a zero d h = let r = at_least xs (max a x) in omega arith
greatest_bounds (x ∷ xs) a (suc k) d h = greatest_bounds xs (max a x) k d (omega arith)

pub greatest_met : (xs : List ℕ) (a : ℕ) → (fold max a xs ≡ a) ⊎ Contains xs (fold max a xs)
greatest_met [] a = inl refl
greatest_met (x ∷ xs) a = ⊎_elim
    (λ (e : fold max (max a x) xs ≡ max a x). dite (dec_le x a)
    (λ le. inl (omega (arith, e)))
    (λ gt. let less = lt_of_not-le gt in inr (0, omega arith, (omega (arith, e)))))
    (λ (c : Contains xs (fold max (max a x) xs)). inr (suc c.0, omega (arith, c.1), c.2))
    (greatest_met xs (max a x))
