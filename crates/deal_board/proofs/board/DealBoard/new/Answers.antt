use Rattle.std.proofs.Common.{rules}
use Rattle.deal_board.proofs.Serving.{opens}
use Rattle.deal_board.proofs.board.DealBoard.new.Goals as goal

pub new-requires : goal.new-requires
new-requires g c = opens _ _ _ _ c.requires.named (search rules) (search rules) (search rules)
