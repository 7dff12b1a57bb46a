-- Values at places of a list.
use Rattle.std.specs.Prelude.{◌≡◌, ◌≢◌, ℕ, ◌<◌, List, length, slice_index}

-- no place stands at two indexes
abbrev pub AreDistinct : List ℕ → Type 0
AreDistinct places = (i j : ℕ) → i < length places → j < length places → slice_index places i ≡ slice_index places j → i ≡ j

-- the cell is none of the places
abbrev pub IsFree : List ℕ → ℕ → Type 0
IsFree places cell = (i : ℕ) → i < length places → slice_index places i ≢ cell

-- each place holds its value, and every other cell 0
pub record IsScattered (places values : List ℕ) (len : ℕ) (cells : List ℕ) : Type 0 where
  pub wide : length cells ≡ len
  pub placed : (i : ℕ) → i < length places → slice_index cells (slice_index places i) ≡ slice_index values i
  pub free : (c : ℕ) → IsFree places c → slice_index cells c ≡ 0
