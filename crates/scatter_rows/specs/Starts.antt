-- Where the parts of a list begin.
use Rattle.std.specs.Prelude.{◌≡◌, ℕ, ◌+◌, ◌<◌, ◌≤◌, List, length, slice_index, flat_map}
use Rattle.std.specs.List.{range_with_len}

-- where each part begins that stands behind those before it, and where the last one ends
abbrev pub AreStarts : (ℕ → List ℕ) → List ℕ → Type 0
AreStarts part starts = (0 < length starts) × ((c : ℕ) → c < length starts → slice_index starts c ≡ length (flat_map part (range_with_len 0 c)))

-- the list stands in the values, from one place up to another
pub record StandsAt (values : List ℕ) (from to : ℕ) (xs : List ℕ) : Type 0 where
  pub ends : to ≡ from + length xs
  pub inside : to ≤ length values
  pub same : (k : ℕ) → k < length xs → slice_index values (from + k) ≡ slice_index xs k

-- the place is one of part c
pub record IsIn (starts : List ℕ) (c i : ℕ) : Type 0 where
  pub from : slice_index starts c ≤ i
  pub to : i < slice_index starts (c + 1)
