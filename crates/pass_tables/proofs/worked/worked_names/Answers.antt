use Rattle.std.proofs.Common.{refl}
use Rattle.std.specs.Fmt.{digits}
use Rattle.pass_tables.proofs.worked.worked_names.Goals as goal

pub returns-clause-table : goal.returns-clause-table
unfolding digits
returns-clause-table c = refl
