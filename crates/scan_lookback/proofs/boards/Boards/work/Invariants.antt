use Rattle.std.proofs.Common.{◌≡◌, ◌<◌, ◌-◌, ◌++◌, map, length}
use Rattle.std.specs.Prelude.{All}
use Rattle.scan_lookback.specs.LookBacks.{LooksBack}
use Rattle.scan_lookback.specs.Worked.{Even}
use Rattle.scan_lookback.proofs.Working.{StartsAt}
use Rattle.scan_lookback.proofs.boards.Boards.work.Given as goal

abbrev pub invariant-loop-c : goal.invariant-loop-c
invariant-loop-c g l = record {
  seat_board : l.team.seat.board ≡ l.initial.team.seat.board;
  mine_board : l.team.mine.board ≡ l.initial.team.mine.board;
  seat_share : l.team.seat.view.share ≡ l.initial.team.seat.view.share;
  weight : l.team.mine.view.weight ≡ l.initial.team.mine.view.weight;
  unspent : 0 < l.team.mine.view.share;
  even : Even l.team.mine.view l.team.seat.view;
  looked : LooksBack l.initial.team.seat.view l.team.seat.view;
  drawn : l.team.mine.view.claimed ≡ l.initial.team.mine.view.claimed ++ map (λ p. p.0) l.all.items;
  starts : All (StartsAt (g.M.WordMonoid.ops l.self.status.monoid) g.N.Chunks.sums) l.all.items;
}

abbrev pub decreases-loop-c : goal.decreases-loop-c
decreases-loop-c g l = l.self.claims.chunks - length l.team.mine.view.claimed
