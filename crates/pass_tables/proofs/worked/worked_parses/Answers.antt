use Rattle.std.proofs.Common.{refl}
use Rattle.std.specs.Fmt.{digits}
use Rattle.pass_tables.proofs.worked.worked_parses.Goals as goal

pub returns-clause-nothing : goal.returns-clause-nothing
unfolding digits
returns-clause-nothing c = refl

pub returns-clause-no_production : goal.returns-clause-no_production
unfolding digits
returns-clause-no_production c = refl
