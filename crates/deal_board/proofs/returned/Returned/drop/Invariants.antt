use Rattle.std.proofs.Common.{◌-◌}
use Rattle.deal_board.proofs.returned.Returned.drop.Given as goal

abbrev pub decreases-loop-item : goal.decreases-loop-item
decreases-loop-item g l = l.self.count - l.self.taken
