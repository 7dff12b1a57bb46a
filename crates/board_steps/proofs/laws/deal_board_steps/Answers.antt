use Rattle.board_steps.proofs.Tables.{draws_are_deals}
use Rattle.board_steps.proofs.Dealing as dealing
use Rattle.board_steps.proofs.laws.deal_board_steps.Goals as goal

pub returns : goal.returns
returns g c =
    let ops = g.M.WordMonoid.ops c.args.monoid.now in
    record { draws = draws_are_deals g.N.Goods.good; deals = dealing.deals ops _; splits = dealing.splits ops _; joins = dealing.joins ops _ }
