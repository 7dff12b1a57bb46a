use Rattle.std.proofs.Common.{refl}
use Rattle.std.specs.Fmt.{digits}
use Rattle.pass_tables.proofs.worked.worked_pieces.Goals as goal

pub returns : goal.returns
unfolding digits
returns c = refl
