use Rattle.std.proofs.Common.{arith}
use Rattle.par_passes.specs.Laws.Calling.{if_ok}
use Rattle.row_pieces.specs.Reduced.{reduced}
use Rattle.tree_passes.specs.Stretches.{pieces_of_stretch}
use Rattle.tree_passes.proofs.Ranges.{given_lists, given_many, in_range}
use Rattle.tree_passes.proofs.standings.reduce_all.Goals as goal

pub bundles-requires-clause-callable : goal.bundles-requires-clause-callable
bundles-requires-clause-callable g c κs within = λ k d lt. let l = in_range c.args.count k d lt in (c.requires.cut, c.requires.starts, (let f = c.requires.begun in omega arith), (let f = c.requires.count in omega arith))

pub returns-clause-many : goal.returns-clause-many
returns-clause-many g c = if_ok c.bundles.result c.bundles.ensures (λ v gives. given_many _ c.args.count v.items gives)

pub returns-clause-lists : goal.returns-clause-lists
returns-clause-lists g c = if_ok c.bundles.result c.bundles.ensures (λ v gives. given_lists _ c.args.count v.items gives (λ l. l.items) (λ n. reduced (pieces_of_stretch c.args.parse.numbers.now c.args.parse.ends.now n)) (λ k r h. h))
