-- What a team of workers leaves.
use Rattle.std.specs.Prelude.{◌≡◌, ℕ, ◌<◌}
use Rattle.atomic_table.specs.Seated.{TableId}
use Rattle.scatter_rows.specs.declared.team.Team.{Team}
use Rattle.scatter_rows.specs.Worked.{Covers}

-- its claim seat is spent, and the pairs that its chunks have were put
pub record IsDone (has : ℕ → ℕ → Type 0) (cells claims : TableId) (team : Team) : Type 0 where
  pub cells_is : team.seat.board ≡ cells
  pub claims_is : team.mine.board ≡ claims
  pub words : 0 < cells.words
  pub spent : team.mine.view.share ≡ 0
  pub covers : Covers has team.mine.view.claimed team.seat.view.put
