use Rattle.std.proofs.Common.{◌≡◌, ◌<◌, ◌-◌, length, IfSome}
use Rattle.kin_pass.proofs.dealt.work_drawn.Given as goal

abbrev pub invariant-loop-c : goal.invariant-loop-c
invariant-loop-c g l = record {
  board : l.mine.board ≡ l.initial.mine.board;
  weight : l.mine.view.weight ≡ l.initial.mine.view.weight;
  unspent : 0 < l.mine.view.share;
  good : IfSome l.mine.hand (λ h. g.N.Goods.good h.0 h.1);
}

abbrev pub decreases-loop-c : goal.decreases-loop-c
decreases-loop-c g l = l.board.count - length l.mine.view.claimed
