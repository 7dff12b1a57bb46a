-- The nearest values at most x of a list of integers, before a place and behind it.
use Rattle.std.specs.Prelude.{ℕ, zero, suc, ◌+◌, ◌<◌, ◌≤◌, ℤ, pos, ◌<ℤ◌, ◌≤ℤ◌, int_le, List, length, drop, slice_index_or, Option, Some, None, if◌then◌else◌}
use Rattle.std.specs.List.{position_from}

-- the value at a place
abbrev pub value_at : List ℤ → ℕ → ℤ
value_at values j = slice_index_or values j (pos 0)

-- the values at the places from low on, up to high without it, are above x
abbrev pub AreAbove : List ℤ → ℤ → ℕ → ℕ → Type 0
AreAbove values x low high = (k : ℕ) → low ≤ k → k < high → x <ℤ value_at values k

-- j is the greatest place before i whose value is at most x
pub record IsPrevious (values : List ℤ) (i : ℕ) (x : ℤ) (j : ℕ) : Type 0 where
  pub before : j < i
  pub at_most : value_at values j ≤ℤ x
  pub between : AreAbove values x (j + 1) i

-- j is the least place behind i whose value is at most x
pub record IsNext (values : List ℤ) (i : ℕ) (x : ℤ) (j : ℕ) : Type 0 where
  pub behind : i < j
  pub within : j < length values
  pub at_most : value_at values j ≤ℤ x
  pub between : AreAbove values x (i + 1) j

-- the greatest place before i whose value is at most x, if there is one
abbrev pub prev_le : List ℤ → ℕ → ℤ → Option ℕ
prev_le values zero x = None
prev_le values (suc i) x = if int_le (value_at values i) x then Some i else prev_le values i x

-- the least place behind i whose value is at most x, if there is one
abbrev pub next_le : List ℤ → ℕ → ℤ → Option ℕ
next_le values i x = position_from (λ v. int_le v x) (i + 1) (drop (i + 1) values)
