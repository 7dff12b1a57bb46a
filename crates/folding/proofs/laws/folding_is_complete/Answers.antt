use Rattle.folding.proofs.Complete.{program_complete, program_stays, program_again}
use Rattle.folding.proofs.laws.folding_is_complete.Goals as goal

pub returns-clause-nothing_left : goal.returns-clause-nothing_left
returns-clause-nothing_left c = program_complete

pub returns-clause-nothing_else : goal.returns-clause-nothing_else
returns-clause-nothing_else c = program_stays

pub returns-clause-again : goal.returns-clause-again
returns-clause-again c = program_again
