use Rattle.std.proofs.Common.{refl}
use Rattle.std.specs.Fmt.{digits}
use Rattle.pass_page.proofs.worked.worked_tree.Goals as goal

pub returns : goal.returns
unfolding digits
returns c = record { tree = refl; levels = refl }
