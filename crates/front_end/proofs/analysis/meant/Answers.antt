use Rattle.std.proofs.Common.{arith}
use Rattle.front_end.specs.Laws.Counting.{tree_few}
use Rattle.front_end.proofs.analysis.meant.Goals as goal

pub named-requires-clause-few : goal.named-requires-clause-few
named-requires-clause-few g c =
    let t = c.requires.shaped.0 in
    let h = tree_few c.args.source.now c.args.rows t c.requires.lexed.fits c.requires.shaped.1 (c.rows_are_few.ensures t) in
    omega arith

pub typed-requires-clause-few : goal.typed-requires-clause-few
typed-requires-clause-few g c =
    let t = c.requires.shaped.0 in
    let h = tree_few c.args.source.now c.args.rows t c.requires.lexed.fits c.requires.shaped.1 (c.rows_are_few.ensures t) in
    omega arith
