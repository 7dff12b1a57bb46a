use Rattle.std.proofs.Common.{refl}
use Rattle.std.specs.Fmt.{digits}
use Rattle.pass_tables.proofs.worked.worked_states.Goals as goal

pub returns-clause-word : goal.returns-clause-word
unfolding digits
returns-clause-word c = refl

pub returns-clause-empty : goal.returns-clause-empty
unfolding digits
returns-clause-empty c = refl
