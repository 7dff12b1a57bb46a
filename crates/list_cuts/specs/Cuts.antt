-- Stretches of a list, by where they end.
use Rattle.std.specs.Prelude.{◌≡◌, ℕ, zero, suc, ◌<◌, ◌≤◌, List, length, slice_index_or}

-- the number at a place
abbrev pub number_at : List ℕ → ℕ → ℕ
number_at xs k = slice_index_or xs k 0

-- where stretch c begins, of those that end at these places
abbrev pub start_of : List ℕ → ℕ → ℕ
start_of ends zero = 0
start_of ends (suc c) = number_at ends c

-- stretches that end at these places have all of n places
pub record AreCuts (ends : List ℕ) (n : ℕ) : Type 0 where
  pub order : (c : ℕ) → c < length ends → start_of ends c ≤ number_at ends c
  pub within : (c : ℕ) → c < length ends → number_at ends c ≤ n
  pub all : start_of ends (length ends) ≡ n
