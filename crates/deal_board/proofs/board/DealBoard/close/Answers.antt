use Rattle.std.proofs.Common.{rules}
use Rattle.deal_board.proofs.Serving.{left}
use Rattle.deal_board.proofs.board.DealBoard.close.Goals as goal

pub invariant_of-result : goal.invariant_of-result
invariant_of-result g c = left _ _ _ _ c.seat.inside.token.me _ _ _ _ c.close_with.ensures.values.2 (search rules) (search rules) (search rules) (search rules) (search rules) c.close_with.ensures.values.1
