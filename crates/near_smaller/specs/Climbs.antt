-- The way up through the levels, from a place to the block that has the nearest value.
use Rattle.std.specs.Prelude.{◌≡◌, ℕ, ◌+◌, ◌-◌, ◌/◌, ◌%◌, ◌^◌, ◌<◌, ℤ, ◌<ℤ◌, List, length}
use Rattle.near_smaller.specs.Nearest.{value_at, IsPrevious, IsNext}
use Rattle.near_smaller.specs.Levels.{level_at}

-- the other block of a pair, if it stands before the block, has no value at most x
abbrev pub PassesBefore : List ℤ → ℕ → ℤ → Type 0
PassesBefore level block x = block % 2 ≡ 1 → x <ℤ value_at level (block - 1)

-- the same if it stands behind the block
abbrev pub PassesBehind : List ℤ → ℕ → ℤ → Type 0
PassesBehind level block x = block % 2 ≡ 0 → block + 1 < length level → x <ℤ value_at level (block + 1)

-- the least height at which the block right before that of place i, in the same pair, has a value at most x
pub record EndsBefore (levels : List (List ℤ)) (i : ℕ) (x : ℤ) (height : ℕ) : Type 0 where
  pub within : height < length levels
  pub nearest : IsPrevious (level_at levels height) (i / 2 ^ height) x (i / 2 ^ height - 1)
  pub passed : (k : ℕ) → k < height → PassesBefore (level_at levels k) (i / 2 ^ k) x

-- the same with the block right behind that of place i
pub record EndsBehind (levels : List (List ℤ)) (i : ℕ) (x : ℤ) (height : ℕ) : Type 0 where
  pub within : height < length levels
  pub nearest : IsNext (level_at levels height) (i / 2 ^ height) x (i / 2 ^ height + 1)
  pub passed : (k : ℕ) → k < height → PassesBehind (level_at levels k) (i / 2 ^ k) x
