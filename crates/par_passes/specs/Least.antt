-- The least key of a list, and what workers leave that look for it.
use Rattle.std.specs.Prelude.{◌≡◌, ℕ, List, map, fold, min}
use Rattle.atomic_table.specs.Seated.{TableId}
use Rattle.chunk_seats.specs.Chunks.{chunk_of}
use Rattle.par_passes.specs.declared.fewest.Team.{Team}

-- the least key, or 2 ^ 64 - 1 where there is none
abbrev pub least_key : List ℕ → ℕ
least_key keys = fold min 18446744073709551615 keys

-- the least key of each claimed chunk is offered
abbrev pub Offers : ℕ → List ℕ → List ℕ → List ℕ → Type 0
Offers size keys claimed offered = offered ≡ map (λ c. least_key (chunk_of size keys c)) claimed

-- the team's claim seat has all that weight and is spent, and what it has offered is of the chunks that it claimed
pub record IsDone (size : ℕ) (keys : List ℕ) (word claims : TableId) (workers : ℕ) (r : Team) : Type 0 where
  pub word_is : r.seat.board ≡ word
  pub claims_is : r.mine.board ≡ claims
  pub share : r.seat.view.share ≡ workers
  pub weight : r.mine.view.weight ≡ workers
  pub spent : r.mine.view.share ≡ 0
  pub offers : Offers size keys r.mine.view.claimed r.seat.view.offered
