use Rattle.state_monoid.proofs.Counting.{too_many}
use Rattle.state_monoid.proofs.laws.few_or_too_many.Goals as goal

pub returns : goal.returns
returns c d functions all few more = too_many d functions all few more
