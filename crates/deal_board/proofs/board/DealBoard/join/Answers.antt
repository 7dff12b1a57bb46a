use Rattle.std.proofs.Common.{rules}
use Rattle.deal_board.proofs.Serving.{meets}
use Rattle.deal_board.proofs.board.DealBoard.join.Goals as goal

pub join_seat-requires : goal.join_seat-requires
join_seat-requires g c = (search rules, search rules, search rules, search rules, meets _ _ _ _ _ _ _ (search rules) (search rules))
