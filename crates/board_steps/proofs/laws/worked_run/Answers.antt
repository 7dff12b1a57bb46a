use Rattle.std.proofs.Common.{[], ◌∷◌, Some, refl, arith}
use Rattle.chunk_seats.specs.Claims.{claims}
use Rattle.board_steps.specs.Parts.{ClaimTable}
use Rattle.board_steps.specs.Runs.{claim_opened, claim_drawn, claim_split}
use Rattle.board_steps.specs.Worked.{split_and_claimed}
use Rattle.board_steps.proofs.laws.worked_run.Goals as goal

begun : ClaimTable
begun = record { words = 0 ∷ 0 ∷ []; homes = []; views = claims [] [] 2 2 ∷ [] }

pub returns : goal.returns
unfolding begun
returns c =
    let two : ClaimTable = record { words = 0 ∷ 0 ∷ []; homes = []; views = claims [] [] 1 1 ∷ claims [] [] 1 1 ∷ [] } in
    claim_drawn two split_and_claimed 1 (Some 0)
    (claim_split begun two 0 1 1 claim_opened (record { old = claims [] [] 2 2; seat = refl; weighs = omega arith; some_part = omega arith; less = omega arith; next = refl; after = refl }))
    (record { old = claims [] [] 1 1; new = claims (0 ∷ []) [] 1 1; seat = refl; weighs = omega arith; unspent = omega arith; drawn = refl; told = refl; after = refl })
