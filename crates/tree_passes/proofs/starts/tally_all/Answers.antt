use Rattle.par_passes.specs.Laws.Calling.{if_ok}
use Rattle.std.proofs.Common.{arith}
use Rattle.tree_passes.specs.Stretches.{tally_of}
use Rattle.tree_passes.proofs.Ranges.{given_list, given_many, in_range}
use Rattle.tree_passes.proofs.starts.tally_all.Goals as goal

pub bundles-requires-clause-callable : goal.bundles-requires-clause-callable
bundles-requires-clause-callable g c κs within = λ k d lt. let l = in_range c.args.count k d lt in (c.requires.cut, (let f = c.requires.count in omega arith))

pub returns-clause-many : goal.returns-clause-many
returns-clause-many g c = if_ok c.bundles.result c.bundles.ensures (λ v gives. given_many _ c.args.count v.items gives)

pub returns-clause-tallies : goal.returns-clause-tallies
returns-clause-tallies g c = if_ok c.bundles.result c.bundles.ensures (λ v gives. given_list _ c.args.count v.items gives (tally_of c.args.parse.numbers.now c.args.parse.ends.now) (λ k r h. h))
