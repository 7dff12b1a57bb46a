use Rattle.board_steps.proofs.Running.{claim_leaves, done_leaves, show_leaves, seal_leaves, look_leaves}
use Rattle.board_steps.proofs.laws.parts_apart.Goals as goal

pub returns : goal.returns
returns g c =
    let ops = g.M.WordMonoid.ops c.args.monoid.now in
    record { claim = claim_leaves ops; done = done_leaves ops; show = show_leaves ops; seal = seal_leaves ops; look = look_leaves ops }
