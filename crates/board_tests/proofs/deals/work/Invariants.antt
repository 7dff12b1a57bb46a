use Rattle.std.proofs.Common.{◌≡◌, ◌<◌, ◌-◌, length, IfSome}
use Rattle.board_tests.proofs.deals.work.Given as goal

abbrev pub invariant-loop-c : goal.invariant-loop-c
invariant-loop-c g l = (l.seat.board ≡ l.board.board) × (l.seat.view.weight ≡ l.fn.seat.view.weight) × (0 < l.seat.view.share) × IfSome l.seat.hand (λ h. g.N.Goods.good h.0 h.1)

abbrev pub decreases-loop-c : goal.decreases-loop-c
decreases-loop-c g l = l.board.count - length l.seat.view.claimed
