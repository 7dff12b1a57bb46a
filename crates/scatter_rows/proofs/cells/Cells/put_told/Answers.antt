use Rattle.std.proofs.Common.{rules}
use Rattle.scatter_rows.proofs.Putting.{puts_as}
use Rattle.scatter_rows.proofs.cells.Cells.put_told.Goals as goal

pub store-requires : goal.store-requires
store-requires g c = (search rules, search rules, puts_as _ _ _ _ _ _ _ _ c.args.i _ _ c.requires.told c.requires.pair c.requires.small)
