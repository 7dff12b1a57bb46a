use Rattle.board_steps.proofs.Claiming as claiming
use Rattle.board_steps.proofs.laws.claim_board_steps.Goals as goal

pub returns : goal.returns
returns g c =
    let ops = g.M.WordMonoid.ops c.args.monoid.now in
    record { claims = claiming.claims ops; done = claiming.finishes ops; splits = claiming.splits ops; joins = claiming.joins ops }
