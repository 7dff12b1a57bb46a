use Rattle.std.proofs.Common.{ℕ, [], ◌∷◌, Some, None, refl, arith}
use mathlib.Core.Option.{some, none}
use Rattle.chunk_seats.specs.Claims.{claims}
use Rattle.board_steps.specs.Parts.{DealTable}
use Rattle.board_steps.specs.Runs.{deal_opened, deal_drawn}
use Rattle.board_steps.specs.Worked.{dealt_twice}
use Rattle.board_steps.proofs.laws.worked_deals.Goals as goal

begun : DealTable ℕ
begun = record { words = 0 ∷ []; homes = some 5 ∷ some 6 ∷ []; views = claims [] [] 1 1 ∷ [] }

once : DealTable ℕ
once = record { words = 1 ∷ []; homes = none ∷ some 6 ∷ []; views = claims (0 ∷ []) [] 1 1 ∷ [] }

pub returns : goal.returns
unfolding begun once
returns c =
    deal_drawn once dealt_twice 0 (Some 0) (Some 1)
    (deal_drawn begun once 0 None (Some 0) deal_opened
    (record { old = claims [] [] 1 1; new = claims (0 ∷ []) [] 1 1; seat = refl; weighs = omega arith; unspent = omega arith; holds = refl; drawn = refl; told = refl; words = refl; views = refl }))
    (record { old = claims (0 ∷ []) [] 1 1; new = claims (0 ∷ 1 ∷ []) (0 ∷ []) 1 1; seat = refl; weighs = omega arith; unspent = omega arith; holds = (refl, refl); drawn = refl; told = refl; words = refl; views = refl })
