-- The tokens of a tree's rows have numbers of 32 bits.
use Rattle.std.proofs.Common.{ℕ, ◌^◌, ◌<◌, List, length, Option, Some, None, arith}
use Rattle.row_laws.specs.Marks.{Mark}
use Rattle.row_laws.specs.Faults.{number_or}
use Rattle.row_laws.specs.Climbed.{settled_at}
use Rattle.row_columns.specs.Stretches.{AreSmall, IsSmall}

below : (o : Option ℕ) → IsSmall o → number_or o < 2 ^ 32
below None h = omega arith
below (Some t) h = let l : t < 4294967295 = h in omega arith

pub numbers_fit : (ms : List Mark) → AreSmall ms → (k : ℕ) → k < length ms → number_or (settled_at ms k) < 2 ^ 32
numbers_fit ms small k h = below (settled_at ms k) (small k h)
