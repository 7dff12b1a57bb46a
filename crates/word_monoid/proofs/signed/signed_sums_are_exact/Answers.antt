use Rattle.word_monoid.proofs.Sums.{signed_are_sums}
use Rattle.word_monoid.proofs.signed.signed_sums_are_exact.Goals as goal

pub returns : goal.returns
returns c = signed_are_sums c.args.numbers.now c.requires
