use Rattle.std.proofs.Common.{rules}
use Rattle.deal_board.proofs.Serving.{splits}
use Rattle.deal_board.proofs.board.DealBoard.cut.Goals as goal

pub split_seat-requires : goal.split_seat-requires
split_seat-requires g c = (search rules, search rules, splits _ _ _ _ _ c.args.n _ c.requires.told (search rules) (search rules))
