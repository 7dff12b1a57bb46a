-- What workers need, and what they leave.
use Rattle.std.specs.Prelude.{◌≡◌, ℕ, ◌+◌, ◌-◌, ◌*◌, ◌^◌, ◌<◌, ◌≤◌, List, length, slice_index}
use Rattle.chunk_seats.specs.Tallies.{times}
use Rattle.scatter_rows.specs.Scattered.{IsFree}

-- each place is below `words`, and has a value that can be counted up
pub record AreFit (words : ℕ) (places values : List ℕ) : Type 0 where
  pub as_many : length values ≡ length places
  pub inside : (i : ℕ) → i < length places → slice_index places i < words
  pub small : (i : ℕ) → i < length places → slice_index values i < 2 ^ 64 - 1

-- of this many items, which are cut into chunks of that size, the chunk c has the item i
pub record IsOf (size count c i : ℕ) : Type 0 where
  pub from : c * size ≤ i
  pub to : i < c * size + size
  pub inside : i < count

-- the pairs that the claimed chunks have were put
abbrev pub Covers : (ℕ → ℕ → Type 0) → List ℕ → List ℕ → Type 0
Covers has claimed put = (c i : ℕ) → 0 < times c claimed → has c i → 0 < times i put

-- the values of the first n pairs are in their cells, and 0 is at each cell that is no place
pub record HaveBeenPut (places values : List ℕ) (n words : ℕ) (cells : List ℕ) : Type 0 where
  pub wide : length cells ≡ words
  pub placed : (i : ℕ) → i < n → slice_index cells (slice_index places i) ≡ slice_index values i
  pub free : (c : ℕ) → IsFree places c → slice_index cells c ≡ 0

-- what is read out: the value at the place of each pair that was put, and 0 at each cell that is no place
pub record IsReadOut (places values put cells : List ℕ) : Type 0 where
  pub placed : (i : ℕ) → 0 < times i put → slice_index cells (slice_index places i) ≡ slice_index values i
  pub free : (c : ℕ) → IsFree places c → slice_index cells c ≡ 0
