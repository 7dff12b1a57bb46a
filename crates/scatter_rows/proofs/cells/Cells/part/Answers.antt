use Rattle.std.proofs.Common.{rules}
use Rattle.scatter_rows.proofs.Putting.{parts}
use Rattle.scatter_rows.proofs.cells.Cells.part.Goals as goal

pub split_seat-requires : goal.split_seat-requires
split_seat-requires g c = (search rules, search rules, parts _ _ _ _ _ _ c.args.n _ c.requires.told (search rules) (search rules))
