use Rattle.word_monoid.proofs.Sums.{greatest_bounds, greatest_met}
use Rattle.word_monoid.proofs.greatest.greatest_is_there.Goals as goal

pub returns-clause-bound : goal.returns-clause-bound
returns-clause-bound c = greatest_bounds c.args.numbers.now 0

pub returns-clause-met : goal.returns-clause-met
returns-clause-met c = greatest_met c.args.numbers.now 0
