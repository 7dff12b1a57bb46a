-- Worked runs.
use Rattle.std.specs.Prelude.{ℕ, [], ◌∷◌}
use mathlib.Core.Option.{some, none}
use Rattle.chunk_seats.specs.Claims.{claims}
use Rattle.board_steps.specs.Parts.{ClaimTable, DealTable}

-- the counter is 1, nothing is done, seat 0 has a share of 1, and seat 1 has claimed chunk 0
abbrev pub split_and_claimed : ClaimTable
split_and_claimed = record { words = 1 ∷ 0 ∷ []; homes = []; views = claims [] [] 1 1 ∷ claims (0 ∷ []) [] 1 1 ∷ [] }

-- of two items the first is back, as 7, and the second is in the hand of seat 0
abbrev pub dealt_twice : DealTable ℕ
dealt_twice = record { words = 2 ∷ []; homes = some 7 ∷ none ∷ []; views = claims (0 ∷ 1 ∷ []) (0 ∷ []) 1 1 ∷ [] }
