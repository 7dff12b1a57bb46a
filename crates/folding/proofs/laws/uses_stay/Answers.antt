use Rattle.folding.proofs.Uses.{uses_less, main_stays}
use Rattle.folding.proofs.laws.uses_stay.Goals as goal

pub returns-clause-uses : goal.returns-clause-uses
returns-clause-uses c = uses_less

pub returns-clause-main : goal.returns-clause-main
returns-clause-main c = main_stays
