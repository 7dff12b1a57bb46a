-- A list and the minima of its blocks, whose sizes are powers of two.
use Rattle.std.specs.Prelude.{◌≡◌, ℕ, ◌+◌, ◌-◌, ◌*◌, ◌/◌, ◌<◌, ◌≤◌, ◌⊎◌, ℤ, ◌≤ℤ◌, List, [], length, map, slice_index_or}
use Rattle.std.specs.Global.{Vec}
use Rattle.near_smaller.specs.Nearest.{value_at}

-- the upper list has the lesser of each two neighbours of the lower one, and a last value that has no neighbour as it is
pub record HalvedTo (lower upper : List ℤ) : Type 0 where
  pub size : length upper ≡ (length lower + 1) / 2
  pub below : (k : ℕ) → k < length lower → value_at upper (k / 2) ≤ℤ value_at lower k
  pub is_one : (b : ℕ) → b < length upper → (value_at upper b ≡ value_at lower (2 * b)) ⊎ ((2 * b + 1 < length lower) × (value_at upper b ≡ value_at lower (2 * b + 1)))

abbrev pub lists_of : List (Vec ℤ) → List (List ℤ)
lists_of levels = map (λ v. v.items) levels

-- the level at a height: a value for each block of 2 ^ h places
abbrev pub level_at : List (List ℤ) → ℕ → List ℤ
level_at levels h = slice_index_or levels h []

-- each level has the minima of the one below it
pub record AreRising (levels : List (List ℤ)) : Type 0 where
  pub few : length levels ≤ 61
  pub halved : (h : ℕ) → h + 1 < length levels → HalvedTo (level_at levels h) (level_at levels (h + 1))

-- and the uppermost has one value at most
pub record AreLevels (levels : List (List ℤ)) : Type 0 where
  pub some : 0 < length levels
  pub rising : AreRising levels
  pub top : length (level_at levels (length levels - 1)) ≤ 1
