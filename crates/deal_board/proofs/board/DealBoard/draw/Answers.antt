use Rattle.std.proofs.Common.{rules, sym, ap, ◌∙◌}
use Rattle.deal_board.proofs.Serving.{draws_as}
use Rattle.deal_board.proofs.board.DealBoard.draw.Goals as goal

pub fetch_add-requires : goal.fetch_add-requires
fetch_add-requires g c = (search rules, search rules, draws_as _ _ _ _ _ _ _ (c.requires.count ∙ ap (λ b. b.count) (sym c.self.view_is)) (search rules) (search rules) (search rules))
