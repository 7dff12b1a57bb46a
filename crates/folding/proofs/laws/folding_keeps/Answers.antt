use Rattle.folding.proofs.Kept.{meaning_keeps, ended_stays, more_stays, deep_front}
use Rattle.folding.proofs.laws.folding_keeps.Goals as goal

pub returns-clause-ends : goal.returns-clause-ends
returns-clause-ends c = ended_stays

pub returns-clause-goes_on : goal.returns-clause-goes_on
returns-clause-goes_on c = more_stays

pub returns-clause-deep : goal.returns-clause-deep
returns-clause-deep c = deep_front

pub returns-clause-keeps : goal.returns-clause-keeps
returns-clause-keeps c = meaning_keeps
