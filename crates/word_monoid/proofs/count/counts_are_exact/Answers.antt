use Rattle.word_monoid.proofs.Sums.{counts_are_sums}
use Rattle.word_monoid.proofs.count.counts_are_exact.Goals as goal

pub returns : goal.returns
returns c = counts_are_sums c.args.counts.now c.requires
