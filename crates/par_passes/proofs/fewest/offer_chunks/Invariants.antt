use Rattle.std.proofs.Common.{◌≡◌, ◌<◌, ◌-◌, length, map}
use Rattle.std.specs.List.{range_with_len}
use Rattle.par_passes.specs.Least.{Offers}
use Rattle.par_passes.proofs.fewest.offer_chunks.Given as goal

abbrev pub invariant-loop-c : goal.invariant-loop-c
invariant-loop-c g l = record {
  seat_board : l.seat.board ≡ l.initial.seat.board;
  mine_board : l.mine.board ≡ l.initial.mine.board;
  share : l.seat.view.share ≡ l.initial.seat.view.share;
  weight : l.mine.view.weight ≡ l.initial.mine.view.weight;
  unspent : 0 < l.mine.view.share;
  offers : Offers l.offering.size (map g.K.Lifted.code_of (range_with_len 0 l.offering.len)) l.mine.view.claimed l.seat.view.offered;
}

abbrev pub decreases-loop-c : goal.decreases-loop-c
decreases-loop-c g l = l.offering.claims.now.chunks - length l.mine.view.claimed
