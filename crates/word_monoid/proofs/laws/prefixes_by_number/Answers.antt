use Rattle.word_monoid.specs.Laws.Folds.{length-prefixes, prefixes_at}
use Rattle.word_monoid.proofs.laws.prefixes_by_number.Goals as goal

pub returns-clause-length : goal.returns-clause-length
returns-clause-length g c = length-prefixes (g.M.WordMonoid.ops c.args.monoid.now) c.args.items.now

pub returns-clause-each : goal.returns-clause-each
returns-clause-each g c = prefixes_at (g.M.WordMonoid.ops c.args.monoid.now) c.args.items.now c.args.i
