-- What a team leaves that draws from a lent claim board.
use Rattle.std.specs.Prelude.{◌≡◌, ℕ, All, List, [], ◌∷◌, map, Option, Some, None, Result, IfOk, IfSome, ◌<◌}
use Rattle.std.specs.Global.{Vec}
use Rattle.std.specs.declared.alloc.AllocError.{AllocError}
use Rattle.atomic_table.specs.Seated.{TableId}
use Rattle.chunk_seats.specs.declared.views.ClaimView.{ClaimView}
use Rattle.chunk_seats.specs.Claims.{claims}
use Rattle.chunk_seats.specs.Held.{Held}
use Rattle.chunk_seats.specs.Tallies.{times}
use Rattle.par_passes.specs.Crews.{Gave}

-- the chunk that a team has begun with, if there is one
abbrev pub as_list : Option ℕ → List ℕ
as_list None = []
as_list (Some c) = c ∷ []

-- the seat of this many workers who begin with that chunk
abbrev pub beginning : Option ℕ → ℕ → ClaimView
beginning begun workers = claims (as_list begun) [] workers workers

-- where memory sufficed, each chunk that was claimed has what was made of it, in the same order
abbrev pub AreMade : {B E : Type 0} → ℕ → (ℕ → Result B E → Type 0) → List ℕ → Result (Vec (ℕ × B)) E → Type 0
AreMade chunks post claimed made = IfOk made (λ v. (claimed ≡ map (λ p. p.0) v.items) × All (Gave chunks post) v.items)

-- the seat is spent, has all the weight of this many workers, and has claimed what was made, of which the chunk that they began with is one
pub record Works {B : Type 0} (chunks : ℕ) (post : ℕ → Result B AllocError → Type 0) (board : TableId) (begun : Option ℕ) (workers : ℕ) (seat : Held)
    (made : Result (Vec (ℕ × B)) AllocError) : Type 0 where
  pub board_is : seat.board ≡ board
  pub weight : seat.view.weight ≡ workers
  pub spent : seat.view.share ≡ 0
  pub undone : seat.view.done ≡ []
  pub begins : IfSome begun (λ c. 0 < times c seat.view.claimed)
  pub are_made : AreMade chunks post seat.view.claimed made
