use Rattle.word_monoid.specs.Laws.Folds.{prefix_next}
use Rattle.word_monoid.proofs.laws.prefixes_by_steps.Goals as goal

pub returns-clause-next : goal.returns-clause-next
returns-clause-next g c = prefix_next (g.M.WordMonoid.ops c.args.monoid.now) c.args.items.now c.args.i
