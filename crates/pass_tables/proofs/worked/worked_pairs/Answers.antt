use Rattle.std.proofs.Common.{refl}
use Rattle.std.specs.Fmt.{digits}
use Rattle.pass_tables.proofs.worked.worked_pairs.Goals as goal

pub returns-clause-sentence : goal.returns-clause-sentence
unfolding digits
returns-clause-sentence c = refl

pub returns-clause-no_entry : goal.returns-clause-no_entry
unfolding digits
returns-clause-no_entry c = refl
