-- The nearest value, as a function.
use Rattle.std.proofs.Common.{◌≡◌, ℕ, zero, suc, ◌+◌, ◌-◌, ◌<◌, ◌≤◌, ◌⊎◌, inl, inr, Bool, true, false, List, [], ◌∷◌, length, drop, get_or, ℤ, pos, ◌<ℤ◌, ◌≤ℤ◌, Option, Some, None, refl, sym, ap, ◌∙◌, subst, arith, length-drop, get_or-drop}
use Rattle.std.specs.Prelude.{int_le, MatchOption, if◌then◌else◌}
use Rattle.std.specs.List.{position_from}
use Rattle.std.proofs.lemmas.Int.{ints}
use Rattle.std.proofs.lemmas.Bool.{cases_lt}
use Rattle.near_smaller.specs.Nearest.{value_at, AreAbove, IsPrevious, IsNext, prev_le, next_le}

at_most : (v x : ℤ) → int_le v x ≡ true → v ≤ℤ x
at_most v x e = grind (arith, ints)

above : (v x : ℤ) → int_le v x ≡ false → x <ℤ v
above v x e = grind (arith, ints)

abbrev Previous : List ℤ → ℕ → ℤ → Option ℕ → Type 0
Previous values i x r = MatchOption r (AreAbove values x 0 i) (IsPrevious values i x)

abbrev Next : List ℤ → ℕ → ℤ → Option ℕ → Type 0
Next values i x r = MatchOption r (AreAbove values x (i + 1) (length values)) (IsNext values i x)

-- one more place that is above
previous_more : (values : List ℤ) (i : ℕ) (x : ℤ) (r : Option ℕ) → x <ℤ value_at values i → Previous values i x r → Previous values (suc i) x r
previous_more values i x None over all = λ k low high. by k (cases_lt k i) high
  where
    by : (k : ℕ) → (k < i) ⊎ (i ≤ k) → k < suc i → x <ℤ value_at values k
    by k (inl lt) high = all k (omega arith) lt
    by k (inr le) high = let e : i ≡ k = omega arith in subst (λ (j : ℕ). x <ℤ value_at values j) e over
previous_more values i x (Some j) over near = record {
  before = (let b = near.before in omega arith);
  at_most = near.at_most;
  between = λ k low high. by k low (cases_lt k i) high;
}
  where
    by : (k : ℕ) → j + 1 ≤ k → (k < i) ⊎ (i ≤ k) → k < suc i → x <ℤ value_at values k
    by k low (inl lt) high = near.between k low lt
    by k low (inr le) high = let e : i ≡ k = omega arith in subst (λ (j : ℕ). x <ℤ value_at values j) e over

pub prev_le_given : (values : List ℤ) (i : ℕ) (x : ℤ) → Previous values i x (prev_le values i x)
prev_le_given values zero x = λ k low high. absurd (omega arith)
prev_le_given values (suc i) x = by (int_le (value_at values i) x) (at_most (value_at values i) x) (above (value_at values i) x) (prev_le_given values i x)
  where
    by : (b : Bool) → (b ≡ true → value_at values i ≤ℤ x) → (b ≡ false → x <ℤ value_at values i) → Previous values i x (prev_le values i x) → Previous values (suc i) x (if b then Some i else prev_le values i x)
    by true le lt rest = record { before = omega arith; at_most = le refl; between = λ k low high. absurd (omega arith) }
    by false le lt rest = previous_more values i x (prev_le values i x) (lt refl) rest

-- the first place from a on, where the rest of the list stands
abbrev First : List ℤ → ℕ → ℤ → Option ℕ → Type 0
First rest a x None = (k : ℕ) → k < length rest → x <ℤ value_at rest k
First rest a x (Some j) = (m : ℕ) × (j ≡ a + m) × (m < length rest) × (value_at rest m ≤ℤ x) × ((k : ℕ) → k < m → x <ℤ value_at rest k)

first_more : (v : ℤ) (rest : List ℤ) (a : ℕ) (x : ℤ) (r : Option ℕ) → x <ℤ v → First rest (a + 1) x r → First (v ∷ rest) a x r
first_more v rest a x None over all = by
  where
    by : (k : ℕ) → k < suc (length rest) → x <ℤ value_at (v ∷ rest) k
    by zero lt = over
    by (suc k) lt = all k (omega arith)
first_more v rest a x (Some j) over found = (suc found.0, (let e = found.1 in omega arith), (let l = found.2 in omega arith), found.3, by)
  where
    by : (k : ℕ) → k < suc found.0 → x <ℤ value_at (v ∷ rest) k
    by zero lt = over
    by (suc k) lt = found.4 k (omega arith)

first_from : (rest : List ℤ) (a : ℕ) (x : ℤ) → First rest a x (position_from (λ v. int_le v x) a rest)
first_from [] a x = λ k lt. absurd (omega arith)
first_from (v ∷ rest) a x = by (int_le v x) (at_most v x) (above v x) (first_from rest (a + 1) x)
  where
    by : (b : Bool) → (b ≡ true → v ≤ℤ x) → (b ≡ false → x <ℤ v) → First rest (a + 1) x (position_from (λ v. int_le v x) (a + 1) rest) → First (v ∷ rest) a x (if b then Some a else position_from (λ v. int_le v x) (a + 1) rest)
    by true le lt found = (zero, omega arith, omega arith, le refl, λ k none. absurd (omega arith))
    by false le lt found = first_more v rest a x (position_from (λ v. int_le v x) (a + 1) rest) (lt refl) found

-- the rest from a place on
rest_at : (values : List ℤ) (a k : ℕ) → a ≤ k → value_at (drop a values) (k - a) ≡ value_at values k
rest_at values a k le = get_or-drop a values (k - a) (pos 0) ∙ ap (λ (j : ℕ). get_or values j (pos 0)) (omega arith)

next_from : (values : List ℤ) (i : ℕ) (x : ℤ) (r : Option ℕ) → First (drop (i + 1) values) (i + 1) x r → Next values i x r
next_from values i x None all = λ k low high.
    let n = length-drop (i + 1) values in
    subst (λ (v : ℤ). x <ℤ v) (rest_at values (i + 1) k low) (all (k - (i + 1)) (omega arith))
next_from values i x (Some j) found =
    let n = length-drop (i + 1) values in
    let is = found.1 in
    let within = found.2 in
    let place : j - (i + 1) ≡ found.0 = omega arith in
    record {
      behind = omega arith;
      within = omega arith;
      at_most = subst (λ (v : ℤ). v ≤ℤ x) (ap (value_at (drop (i + 1) values)) (sym place) ∙ rest_at values (i + 1) j (omega arith)) found.3;
      between = λ k low high. subst (λ (v : ℤ). x <ℤ v) (rest_at values (i + 1) k low) (found.4 (k - (i + 1)) (omega arith));
    }

pub next_le_given : (values : List ℤ) (i : ℕ) (x : ℤ) → Next values i x (next_le values i x)
next_le_given values i x = next_from values i x (next_le values i x) (first_from (drop (i + 1) values) (i + 1) x)

-- ---- two answers are the same

pub same_previous : (values : List ℤ) (i : ℕ) (x : ℤ) (r s : Option ℕ) → Previous values i x r → Previous values i x s → r ≡ s
same_previous values i x None None p q = refl
same_previous values i x None (Some k) p q = let b = q.at_most in let a = p k (omega arith) q.before in absurd (omega (arith, ints))
same_previous values i x (Some j) None p q = let b = p.at_most in let a = q j (omega arith) p.before in absurd (omega (arith, ints))
same_previous values i x (Some j) (Some k) p q = ap (λ (n : ℕ). Some n) (by (cases_lt j k) (cases_lt k j))
  where
    by : (j < k) ⊎ (k ≤ j) → (k < j) ⊎ (j ≤ k) → j ≡ k
    by (inl lt) any = let a = p.between k (omega arith) q.before in let b = q.at_most in absurd (omega (arith, ints))
    by (inr le) (inl lt) = let a = q.between j (omega arith) p.before in let b = p.at_most in absurd (omega (arith, ints))
    by (inr le) (inr more) = omega arith

pub same_next : (values : List ℤ) (i : ℕ) (x : ℤ) (r s : Option ℕ) → Next values i x r → Next values i x s → r ≡ s
same_next values i x None None p q = refl
same_next values i x None (Some k) p q = let b = q.at_most in let a = p k (let l = q.behind in omega arith) q.within in absurd (omega (arith, ints))
same_next values i x (Some j) None p q = let b = p.at_most in let a = q j (let l = p.behind in omega arith) p.within in absurd (omega (arith, ints))
same_next values i x (Some j) (Some k) p q = ap (λ (n : ℕ). Some n) (by (cases_lt j k) (cases_lt k j))
  where
    by : (j < k) ⊎ (k ≤ j) → (k < j) ⊎ (j ≤ k) → j ≡ k
    by (inl lt) any = let a = q.between j (let l = p.behind in omega arith) lt in let b = p.at_most in absurd (omega (arith, ints))
    by (inr le) (inl lt) = let a = p.between k (let l = q.behind in omega arith) lt in let b = q.at_most in absurd (omega (arith, ints))
    by (inr le) (inr more) = omega arith
