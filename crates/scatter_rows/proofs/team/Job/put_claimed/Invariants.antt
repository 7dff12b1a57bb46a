use Rattle.std.proofs.Common.{◌≡◌, ◌<◌, ◌-◌, length}
use Rattle.scatter_rows.specs.Worked.{Covers}
use Rattle.scatter_rows.proofs.team.Job.put_claimed.Given as goal

abbrev pub invariant-loop-c : goal.invariant-loop-c
invariant-loop-c g l = record {
  seat_board : l.seat.board ≡ l.self.cells.now.board;
  mine_board : l.mine.board ≡ l.self.claims.now.board;
  weight : l.mine.view.weight ≡ 1;
  unspent : 0 < l.mine.view.share;
  covers : Covers (g.S.Chunks.has l.self.chunks.now) l.mine.view.claimed l.seat.view.put;
}

abbrev pub decreases-loop-c : goal.decreases-loop-c
decreases-loop-c g l = l.self.claims.now.chunks - length l.mine.view.claimed
