use Rattle.std.proofs.Common.{rules}
use Rattle.scatter_rows.proofs.Putting.{unites}
use Rattle.scatter_rows.proofs.cells.Cells.join.Goals as goal

pub join_seat-requires : goal.join_seat-requires
join_seat-requires g c = (search rules, search rules, search rules, search rules, unites _ _ _ _ _ _ _ _)
