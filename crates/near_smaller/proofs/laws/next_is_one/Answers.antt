use Rattle.near_smaller.proofs.Answering.{next_le_given}
use Rattle.near_smaller.proofs.laws.next_is_one.Goals as goal

pub returns-clause-given : goal.returns-clause-given
returns-clause-given c = next_le_given
