use Rattle.near_smaller.proofs.Answering.{prev_le_given}
use Rattle.near_smaller.proofs.laws.previous_is_one.Goals as goal

pub returns-clause-given : goal.returns-clause-given
returns-clause-given c = prev_le_given
