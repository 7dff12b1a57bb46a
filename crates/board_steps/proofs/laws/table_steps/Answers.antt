use Rattle.board_steps.proofs.Tables.{draws_are_claims, finishes_are_done, stores_are_shown, stores_are_sealed, loads_are_looks}
use Rattle.board_steps.proofs.laws.table_steps.Goals as goal

pub returns : goal.returns
returns g c =
    let m = c.args.monoid.now in
    let ops = g.M.WordMonoid.ops m in
    let laws = g.met.M.WordMonoid.lawful m in
    record { draws = draws_are_claims; finishes = finishes_are_done; shows = stores_are_shown ops laws; seals = stores_are_sealed ops laws; loads = loads_are_looks ops laws }
