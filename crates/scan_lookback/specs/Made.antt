-- What a team of workers leaves.
use Rattle.std.specs.Prelude.{◌≡◌, ℕ, All, List, map}
use Rattle.atomic_table.specs.Seated.{TableId}
use Rattle.word_monoid.specs.Monoid.{Ops}
use Rattle.word_monoid.specs.Folds.{prefix_of}
use Rattle.scan_lookback.specs.declared.boards.Made.{Made}

-- its claim seat has all that weight and is spent, and the answers are the chunks that it claimed, each with the join of the sums before it
pub record Makes {T : Type 0} (ops : Ops T) (sums : List T) (board claims : TableId) (workers : ℕ) (r : Made T) : Type 0 where
  pub board_is : r.team.seat.board ≡ board
  pub claims_is : r.team.mine.board ≡ claims
  pub weight : r.team.mine.view.weight ≡ workers
  pub spent : r.team.mine.view.share ≡ 0
  pub drawn : r.team.mine.view.claimed ≡ map (λ p. p.0) r.starts.items
  pub starts : All (λ p. p.1 ≡ prefix_of ops sums p.0) r.starts.items
